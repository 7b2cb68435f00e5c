use Rattle.std.proofs.Common.{ℕ, subst}
use Rattle.bs_semantics.proofs.SomeSerial.{unclean_answer}
use Rattle.bs_semantics.specs.Rounds.{CleanAt}
use Rattle.bs_times.specs.Machine.{machine_of}
use Rattle.bs_model.specs.Stop.{Denies, HasCleanRound}
use Rattle.bs_model.proofs.model.simulate.Goals as goal

pub returns-in-Err-Unclean : goal.returns-in-Err-Unclean
returns-in-Err-Unclean c =
    let p = c.args.accepted.now.program in
    let limit = c.args.limit in
    let denied = subst (Denies (HasCleanRound p limit)) c.in-Err-Unclean.field-0-is c.in-Err-Unclean.ensures.stopped in
    let none : (n : ℕ) → CleanAt p limit n → ⊥ = λ n h. denied (n, h) in
    record { value = unclean_answer p limit (machine_of c.args.machine.now) none; decided = none }
