use Rattle.std.proofs.Common.{◌≡◌, ◌∙◌, length, slice_index_or, ap, arith}
use Rattle.bs_rows.proofs.Numbered.{block_found}
use Rattle.bs_settle.proofs.log_plan.push_blocks.Goals as goal
use Rattle.bs_times.specs.Net.{row_of}

pub block_cause-requires-clause-some : goal.block_cause-requires-clause-some
block_cause-requires-clause-some c =
    let e : c.as_slice-cause-items.result.now ≡ (row_of c.args.log.now c.args.number).after = c.as_slice-cause-items.ensures ∙ ap (λ r. r.after) c.row_at.ensures in
    let found = block_found c.args.log.now c.args.number c.loop-cause.cause-index 0 c.requires.valid c.requires.some c.requires.most (omega (arith, c.loop-cause-test.true, ap length e)) in
    omega (arith, found.0, ap (λ xs. slice_index_or xs c.loop-cause.cause-index 0) e)

pub block_cause-requires-clause-most : goal.block_cause-requires-clause-most
block_cause-requires-clause-most c =
    let e : c.as_slice-cause-items.result.now ≡ (row_of c.args.log.now c.args.number).after = c.as_slice-cause-items.ensures ∙ ap (λ r. r.after) c.row_at.ensures in
    let found = block_found c.args.log.now c.args.number c.loop-cause.cause-index 0 c.requires.valid c.requires.some c.requires.most (omega (arith, c.loop-cause-test.true, ap length e)) in
    omega (arith, found.1, ap (λ xs. slice_index_or xs c.loop-cause.cause-index 0) e)
