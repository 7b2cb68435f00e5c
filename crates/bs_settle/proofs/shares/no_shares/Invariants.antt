use Rattle.std.proofs.Common.{List}
use Rattle.bs_log.specs.declared.log.MailRef.{MailRef}
use Rattle.bs_num.specs.declared.ticks.Tick.{Tick}
use Rattle.bs_times.specs.Net.{Net}
use Rattle.bs_settle.specs.Shares.{AreShares}
use Rattle.bs_settle.proofs.shares.no_shares.Given as goal

abbrev pub invariant-loop-processor : goal.invariant-loop-processor
invariant-loop-processor l = (net : Net) (mails : List MailRef) (ticks : List Tick) → AreShares net l._processor 0 0 mails ticks l.shares.items
