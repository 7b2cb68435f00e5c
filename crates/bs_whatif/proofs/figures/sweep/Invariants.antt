use Rattle.bs_whatif.proofs.Series.{IsSweeping}
use Rattle.bs_whatif.proofs.figures.sweep.Given as goal

abbrev pub invariant-loop-machine : goal.invariant-loop-machine
invariant-loop-machine l = IsSweeping l.log l.machines l.machine-index l.before l.figures
