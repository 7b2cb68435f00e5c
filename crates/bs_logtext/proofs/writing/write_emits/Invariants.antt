use Rattle.std.proofs.Common.{◌≡◌, ◌++◌, drop, string_bytes}
use Rattle.std.specs.List.{flat_map}
use Rattle.bs_logtext.specs.Text.{emit_line}
use Rattle.bs_logtext.proofs.writing.write_emits.Given as goal

abbrev pub invariant-loop-value : goal.invariant-loop-value
invariant-loop-value l = string_bytes l.text ++ flat_map emit_line (drop l.value-index l.values) ≡ string_bytes l.initial.text ++ flat_map emit_line l.values
