use Rattle.std.proofs.Common.{◌≡◌, ◌+◌, ◌++◌, drop, string_bytes}
use Rattle.bs_whatif.specs.Texts.{span_lines}
use Rattle.bs_whatif.proofs.text.write_spans.Given as goal

abbrev pub invariant-loop-index : goal.invariant-loop-index
invariant-loop-index l = string_bytes l.text ++ span_lines (l.index + 1) (drop l.index l.spans) ≡ string_bytes l.initial.text ++ span_lines 1 l.spans
