use Rattle.std.proofs.Common.{subst}
use Rattle.bs_model.specs.Simulated.{IsDecided}
use Rattle.bs_top.proofs.Simulating.{passes}
use Rattle.bs_top.proofs.commands.model.outcome_of.Goals as goal

pub returns-in-Timed-clause-told : goal.returns-in-Timed-clause-told
returns-in-Timed-clause-told c =
    let clean = subst (IsDecided c.args.accepted.now.program c.args.limit) c.in-Timed.is c.in_ok-outcome.ensures.decided in
    passes c.args.accepted.now.program c.args.limit clean.0 clean.1
