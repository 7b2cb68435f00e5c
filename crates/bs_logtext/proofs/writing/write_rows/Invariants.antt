use Rattle.std.proofs.Common.{◌≡◌, ◌++◌, drop, string_bytes}
use Rattle.std.specs.List.{flat_map}
use Rattle.bs_logtext.specs.Text.{row_text}
use Rattle.bs_logtext.proofs.writing.write_rows.Given as goal

abbrev pub invariant-loop-row : goal.invariant-loop-row
invariant-loop-row l = string_bytes l.text ++ flat_map row_text (drop l.row-index l.rows) ≡ string_bytes l.initial.text ++ flat_map row_text l.rows
