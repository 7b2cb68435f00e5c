use Rattle.std.proofs.Common.{◌≡◌, ◌∙◌, length, slice_index_or, ap, arith}
use Rattle.bs_rows.proofs.Numbered.{block_found}
use Rattle.bs_times.specs.Net.{row_of}
use Rattle.bs_path.proofs.causes.ended_cause.Goals as goal

pub end-requires-clause-some : goal.end-requires-clause-some
end-requires-clause-some c =
    let e : c.as_slice-cause-items.result.now ≡ (row_of c.args.log.now c.args.number).after = c.as_slice-cause-items.ensures ∙ ap (λ r. r.after) c.row_at.ensures in
    let there = block_found c.args.log.now c.args.number c.loop-cause.cause-index 0 c.requires.valid c.requires.some c.requires.most (omega (arith, c.loop-cause-test.true, ap length e)) in
    omega (arith, there.0, ap (λ xs. slice_index_or xs c.loop-cause.cause-index 0) e)

pub end-requires-clause-most : goal.end-requires-clause-most
end-requires-clause-most c =
    let e : c.as_slice-cause-items.result.now ≡ (row_of c.args.log.now c.args.number).after = c.as_slice-cause-items.ensures ∙ ap (λ r. r.after) c.row_at.ensures in
    let there = block_found c.args.log.now c.args.number c.loop-cause.cause-index 0 c.requires.valid c.requires.some c.requires.most (omega (arith, c.loop-cause-test.true, ap length e)) in
    omega (arith, there.1, ap (λ xs. slice_index_or xs c.loop-cause.cause-index 0) e)
