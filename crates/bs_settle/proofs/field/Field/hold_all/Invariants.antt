use Rattle.std.proofs.Common.{◌≡◌, drop}
use Rattle.bs_log.specs.declared.log.MailRef.{MailRef}
use Rattle.bs_times.specs.Times.{IsListed}
use Rattle.bs_settle.specs.Changes.{held_after}
use Rattle.bs_settle.specs.Field.{net_in, ticks_of}
use Rattle.bs_settle.specs.Holding.{IsHolding}
use Rattle.bs_settle.proofs.field.Field.hold_all.Given as goal

abbrev pub invariant-loop-correction : goal.invariant-loop-correction
invariant-loop-correction l =
    IsHolding l.fn.self l.self
    × ((m : MailRef) → IsListed (net_in l.fn.self) m → held_after (drop l.correction-index l.list) m (ticks_of l.self m) ≡ held_after l.list m (ticks_of l.fn.self m))
