use Rattle.std.proofs.Common.{◌≡◌, ◌++◌, drop}
use Rattle.bs_whatif.specs.Texts.{spans_of}
use Rattle.bs_whatif.proofs.text.spans_of.Given as goal

abbrev pub invariant-loop-point : goal.invariant-loop-point
invariant-loop-point l = l.spans ++ spans_of (drop l.point-index l.figures) ≡ spans_of l.figures
