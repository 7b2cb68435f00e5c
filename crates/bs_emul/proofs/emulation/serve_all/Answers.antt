use Rattle.std.proofs.Common.{◌≡◌, ◌∷◌, true, false, arith}
use Rattle.std.proofs.lemmas.Result.{err_from_is_err_and}
use Rattle.bs_emul.proofs.Ends.{none_left, one_more}
use Rattle.bs_emul.proofs.Refusals.{few_served}
use Rattle.bs_emul.proofs.emulation.serve_all.Goals as goal

pub returns-in_err-served-clause-stopped : goal.returns-in_err-served-clause-stopped
returns-in_err-served-clause-stopped c =
    let inv = c.loop.invariant in
    let given = err_from_is_err_and c.from_residual-in_err-served.result c.from_residual-in_err-served.ensures.1 in
    rw (given.1, given.2) (c.in_err-served.ensures c.args.accepted.now.program inv.0 inv.1)

pub returns-then-not-served-clause-done : goal.returns-then-not-served-clause-done
returns-then-not-served-clause-done c =
    let inv = c.loop.invariant in
    let p = c.args.accepted.now.program in
    let t = c.in_ok-served.served in
    let no : t ≡ false = cc (c.if-not-served.true) in
    none_left p c.args.limit inv.0 c.serve.new.self t no (c.in_ok-served.ensures p inv.0 inv.1)

pub loop-preserved : goal.loop-preserved
loop-preserved c =
    let inv = c.loop.invariant in
    let p = c.args.accepted.now.program in
    let t = c.in_ok-served.served in
    let yes : t ≡ true = cc (c.if-not-served.false) in
    let more = one_more p c.args.limit inv.0 c.serve.new.self t yes (c.in_ok-served.ensures p inv.0 inv.1) in
    let count = inv.2 in
    (more.0 ∷ inv.0, more.1, omega (arith, count))

pub returns-clause-stopped : goal.returns-clause-stopped
returns-clause-stopped c =
    let inv = c.loop.invariant in
    let count = inv.2 in
    λ n h. let few = few_served c.args.accepted.now.program c.args.limit inv.0 c.loop.world.queue.items inv.1.reached n h in omega (arith, few, count, c.loop-test.false)
