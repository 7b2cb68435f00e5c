use Rattle.std.proofs.Common.{◌≡◌, List}
use Rattle.bs_log.specs.declared.log.MailRef.{MailRef}
use Rattle.bs_num.specs.declared.ticks.Tick.{Tick}
use Rattle.bs_machine.specs.Fitted.{processors_of}
use Rattle.bs_settle.specs.Field.{net_in}
use Rattle.bs_settle.specs.Making.{AreLinesTo}
use Rattle.bs_settle.specs.Shares.{AreWhole}
use Rattle.bs_settle.proofs.field.Field.add_all.Given as goal

abbrev pub invariant-loop-processor : goal.invariant-loop-processor
invariant-loop-processor l =
    (l.self.log ≡ l.fn.self.log)
    × (l.self.machine ≡ l.fn.self.machine)
    × ((mails : List MailRef) (ticks : List Tick) → AreWhole (net_in l.fn.self) (processors_of l.fn.self.machine.now) mails ticks l.shares → AreLinesTo (net_in l.fn.self) mails ticks l.processor l.self.places.items l.self.lines.items)
