use Rattle.std.proofs.Common.{◌≡◌, Ok, Err, ap, sym, ◌∙◌}
use Rattle.bs_semantics.specs.Acts.{block_of}
use Rattle.bs_block.specs.Draft.{fresh}
use Rattle.bs_block.specs.Progress.{tally_of}
use Rattle.bs_block.proofs.Blocks.{block_left, block_refused}
use Rattle.bs_block.proofs.block.run_block.Goals as goal

pub returns-in-Ok-clause-block : goal.returns-in-Ok-clause-block
returns-in-Ok-clause-block c =
    let a = c.args in
    let begins : c.new-draft.result ≡ fresh a.env.now = c.new-draft.ensures ∙ ap fresh c.taken_out.ensures in
    let left = block_left a.accepted.now.program a.acts.now c.as_slice.result.now a.env.now c.new-draft.result c.new-progress.result begins c.as_slice.ensures c.new-progress.ensures (tally_of c.run_acts.new.draft.now c.run_acts.new.progress) (Ok tt) c.in-Ok.ensures.did in
    let kept : (Ok (tally_of c.run_acts.new.draft.now c.run_acts.new.progress)) ≡ Ok (tally_of c.keep.result c.run_acts.new.progress) = ap (λ e. Ok (tally_of e c.run_acts.new.progress)) (sym c.keep.ensures) in
    (c.run_acts.new.progress.steps, left ∙ kept)

pub returns-in-Err-clause-block : goal.returns-in-Err-clause-block
returns-in-Err-clause-block c =
    let a = c.args in
    let begins : c.new-draft.result ≡ fresh a.env.now = c.new-draft.ensures ∙ ap fresh c.taken_out.ensures in
    let now = tally_of c.run_acts.new.draft.now c.run_acts.new.progress in
    let left = block_left a.accepted.now.program a.acts.now c.as_slice.result.now a.env.now c.new-draft.result c.new-progress.result begins c.as_slice.ensures c.new-progress.ensures now (Err c.in-Err.fault) c.in-Err.ensures.did in
    let this = c.in-Err.ensures.this ∙ ap (λ d. d.now.this) begins in
    let cells = c.in-Err.ensures.before ∙ ap (λ d. d.before) begins in
    let same : c.give_back.result ≡ a.env.now = c.give_back.ensures ∙ λ i. record { this = this i; cells = cells i } in
    block_refused (block_of a.accepted.now.program a.env.now.this a.acts.now a.env.now.cells) a.env.now c.give_back.result now c.in-Err.fault same left
