use Rattle.std.proofs.Common.{◌≡◌, ◌∙◌, ap, ap₂, sym, subst, length, arith}
use Rattle.std.proofs.lemmas.Result.{err_from_is_err_and}
use Rattle.bs_log.specs.ClosedTest.{LooksClosed}
use Rattle.bs_log.specs.Collected.{log_of}
use Rattle.bs_rounds.proofs.Begun.{kept}
use Rattle.bs_emul.proofs.Ends.{long_stops, looks, logged}
use Rattle.bs_emul.proofs.emulation.log.Goals as goal

pub returns-in_err-histories-clause-stopped : goal.returns-in_err-histories-clause-stopped
returns-in_err-histories-clause-stopped c =
    let given = err_from_is_err_and c.from_residual.result c.from_residual.ensures.1 in
    rw (given.1, given.2) (long_stops c.args.accepted.now.program c.args.limit c.args.chares.now c.requires.done c.in_err-histories.field-0.0 c.in_err-histories.ensures.stopped)

pub overflow_cast-entries : goal.overflow_cast-entries
overflow_cast-entries c =
    let p = c.args.accepted.now.program in
    let is : length c.as_slice.result.now ≡ length p.entries = ap length (c.as_slice.ensures ∙ ap (λ p. p.entries) c.program.ensures.value) in
    let small = (kept p c.args.accepted.now.is_kept).entries in
    omega (arith, is, small)

pub collect-requires : goal.collect-requires
collect-requires c =
    let p = c.args.accepted.now.program in
    let told = c.in_ok-histories.ensures.told in
    let keeps = kept p c.args.accepted.now.is_kept in
    subst LooksClosed (sym (c.deref.ensures.value ∙ told.0)) (looks p c.args.limit c.args.chares.now c.requires.done told.1 c.requires.limit keeps.least keeps.most)

pub returns-clause-logged : goal.returns-clause-logged
returns-clause-logged c =
    let p = c.args.accepted.now.program in
    let told = c.in_ok-histories.ensures.told in
    let is : length c.as_slice.result.now ≡ length p.entries = ap length (c.as_slice.ensures ∙ ap (λ p. p.entries) c.program.ensures.value) in
    logged p c.args.limit c.args.chares.now c.requires.done told.1 c.in_ok-log.log (c.in_ok-log.ensures ∙ ap₂ log_of (c.deref.ensures.value ∙ told.0) is)
