use Rattle.std.proofs.Common.{None}
use Rattle.bs_top.specs.Targets.{output}
use Rattle.bs_top.specs.declared.reply.Ending.TheVariants.{Run}
use Rattle.bs_top.proofs.reports.report_of.Goals as goal

pub returns : goal.returns
returns c = λ i. record { ending = Run (c.end.ensures i); note = None; target = output; text = c.in_ok-text.ensures i }
