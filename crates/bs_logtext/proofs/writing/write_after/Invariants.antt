use Rattle.std.proofs.Common.{◌≡◌, ◌++◌, drop, string_bytes}
use Rattle.std.specs.List.{flat_map}
use Rattle.bs_logtext.specs.Text.{after_line}
use Rattle.bs_logtext.proofs.writing.write_after.Given as goal

abbrev pub invariant-loop-row : goal.invariant-loop-row
invariant-loop-row l = string_bytes l.text ++ flat_map after_line (drop l.row-index l.after) ≡ string_bytes l.initial.text ++ flat_map after_line l.after
