use Rattle.std.proofs.Common.{◌≡◌, ◌∙◌, length, slice_index_or, refl, subst, sym, ap, arith}
use Rattle.bs_log.proofs.Numbers.{mem_at}
use Rattle.bs_log.specs.Lists.{Mem}
use Rattle.bs_times.specs.Net.{row_of}
use Rattle.bs_path.proofs.linking.is_block_cause.Goals as goal

pub returns-then-cause-row : goal.returns-then-cause-row
returns-then-cause-row c =
    let xs = (row_of c.args.log.now c.args.number).after in
    let k = c.loop-cause.cause-index in
    let e : c.as_slice-cause-items.result.now ≡ xs = c.as_slice-cause-items.ensures ∙ ap (λ r. r.after) c.row_at.ensures in
    let is : slice_index_or xs k 0 ≡ c.args.row = sym (ap (λ ys. slice_index_or ys k 0) e) ∙ c.if-cause-row.true in
    (λ t. subst (λ x. Mem x xs) is (mem_at xs k 0 (omega (arith, c.loop-cause-test.true, ap length e))), λ h. refl)
