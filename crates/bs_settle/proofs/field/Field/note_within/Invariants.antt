use Rattle.bs_settle.specs.Field.{net_in, ticks_of}
use Rattle.bs_settle.proofs.WaveLists.{AreSoFar}
use Rattle.bs_settle.proofs.Within.{AreDone}
use Rattle.bs_settle.proofs.field.Field.note_within.Given as goal

abbrev pub invariant-loop-wave : goal.invariant-loop-wave
invariant-loop-wave l = AreDone l.fn.self l.self l._wave l.last × AreSoFar (net_in l.fn.self) (ticks_of l.fn.self) l._wave l.waves
