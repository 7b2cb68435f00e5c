use Rattle.bs_settle.specs.Field.{IsField}
use Rattle.bs_settle.proofs.tests.wave.Given as goal

abbrev pub invariant-loop-wave : goal.invariant-loop-wave
invariant-loop-wave l = IsField l.field
