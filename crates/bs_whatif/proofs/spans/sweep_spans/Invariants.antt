use Rattle.bs_whatif.proofs.Series.{AreSweptTo}
use Rattle.bs_whatif.proofs.spans.sweep_spans.Given as goal

abbrev pub invariant-loop-machine : goal.invariant-loop-machine
invariant-loop-machine l = AreSweptTo l.log l.machines l.machine-index l.spans
