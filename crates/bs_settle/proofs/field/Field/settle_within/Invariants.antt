use Rattle.bs_settle.proofs.Within.{AreDone}
use Rattle.bs_settle.proofs.field.Field.settle_within.Given as goal

abbrev pub invariant-loop-wave : goal.invariant-loop-wave
invariant-loop-wave l = AreDone l.fn.self l.self l._wave l.last
