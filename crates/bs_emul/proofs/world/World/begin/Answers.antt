use Rattle.std.proofs.Common.{◌≡◌, ◌<◌, ◌++◌, ◌∙◌, ap, subst, arith}
use Rattle.std.proofs.lemmas.Result.{err_from_is_err_and}
use Rattle.bs_rounds.proofs.Begun.{kept}
use Rattle.bs_emul.specs.Stop.{stop_of}
use Rattle.bs_emul.proofs.Chares.{AreBegun, one_begins}
use Rattle.bs_emul.proofs.Ends.{all_begun, all_left, begin_never, begins}
use Rattle.bs_emul.proofs.Steps.{stopped_if}
use Rattle.bs_emul.proofs.world.World.begin.Goals as goal

pub returns-in_err-sent-clause-stopped : goal.returns-in_err-sent-clause-stopped
returns-in_err-sent-clause-stopped c =
    let p = c.args.accepted.now.program in
    let k = c.loop-number.number in
    let x = c.new-chare.ensures in
    let fault = c.in_err-sent.field-0.0 in
    let lt : k < p.chares = omega (arith, c.loop-number-test.true, c.chares-number-end.ensures) in
    let given = err_from_is_err_and c.from_residual.result c.from_residual.ensures.1 in
    rw (given.1, given.2) (stopped_if p c.args.limit (stop_of fault) (λ e. begin_never p c.args.limit k c.new-chare.result (ap (λ a. a.program) x.accepted) x.limit x.number x.mail lt fault e c.in_err-sent.ensures.fault))

pub loop-number-preserved : goal.loop-number-preserved
loop-number-preserved c =
    let p = c.args.accepted.now.program in
    let k = c.loop-number.number in
    let x = c.new-chare.ensures in
    let y = c.begin.new.self in
    let did = c.in_ok-sent.ensures in
    let queue = c.loop-number.queue.items in
    let queue_is = c.in_ok-append.ensures ∙ ap (λ ms. queue ++ ms) did.sent in
    let served = begins p c.args.limit k c.new-chare.result (ap (λ a. a.program) x.accepted) x.limit x.number x.mail y did.same did.begun did.mail in
    rw (c.in_ok-push.ensures, queue_is) (one_begins p c.args.limit k c.loop-number.chares.items queue y c.loop-number.invariant served)

pub returns-clause-begun : goal.returns-clause-begun
returns-clause-begun c =
    let p = c.args.accepted.now.program in
    let xs = c.loop-number.chares.items in
    let queue = c.loop-number.queue.items in
    let all : c.loop-number.number ≡ p.chares = omega (arith, c.loop-number-test.false, c.loop-number.auto.number-end, c.chares-number-end.ensures) in
    let b = subst (λ k. AreBegun p c.args.limit k xs queue) all c.loop-number.invariant in
    let some = (kept p c.args.accepted.now.is_kept).least in
    record { chares = all_begun p c.args.limit xs queue b some; reached = all_left p c.args.limit xs queue b some }
