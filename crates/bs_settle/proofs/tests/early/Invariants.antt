use Rattle.std.proofs.Common.{◌<◌, ◌^◌}
use Rattle.bs_log.specs.Lists.{Mem}
use Rattle.bs_num.specs.declared.ticks.Tick.{Tick}
use Rattle.bs_settle.proofs.tests.early.Given as goal

abbrev pub invariant-loop-tick : goal.invariant-loop-tick
invariant-loop-tick l = (t : Tick) → Mem t l.list → t.0 < 2 ^ 107
