use Rattle.std.proofs.Common.{◌≡◌, ◌≤◌, ◌<◌, arith}
use Rattle.bs_semantics.proofs.Verdicts.{not_all}
use Rattle.bs_rounds.proofs.rounds.verdict.Goals as goal

pub unreachable-requires : goal.unreachable-requires
unreachable-requires c =
    let l = c.loop in
    not_all c.args.accepted.now.program c.args.limit (λ m k. l.invariant.state.before m (omega (arith, k, l.invariant.rounds, c.loop-test.false)))
