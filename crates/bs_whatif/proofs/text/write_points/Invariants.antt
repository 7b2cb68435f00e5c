use Rattle.std.proofs.Common.{◌≡◌, ◌+◌, ◌++◌, drop, string_bytes}
use Rattle.bs_whatif.specs.Texts.{point_lines}
use Rattle.bs_whatif.proofs.text.write_points.Given as goal

abbrev pub invariant-loop-index : goal.invariant-loop-index
invariant-loop-index l = string_bytes l.text ++ point_lines (l.index + 1) (drop l.index l.figures) ≡ string_bytes l.initial.text ++ point_lines 1 l.figures
