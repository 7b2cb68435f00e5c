use Rattle.bs_settle.proofs.FirstStill.{IsCounting}
use Rattle.bs_settle.proofs.field.Field.count_waves.Given as goal

abbrev pub invariant-loop-done : goal.invariant-loop-done
invariant-loop-done l = IsCounting l.fn.self l.self l.done
