use Rattle.std.proofs.Common.{◌≡◌, ◌++◌, drop, string_bytes}
use Rattle.std.specs.List.{flat_map}
use Rattle.bs_path.specs.Text.{chain_line}
use Rattle.bs_path.proofs.text.write_rows.Given as goal

abbrev pub invariant-loop-row : goal.invariant-loop-row
invariant-loop-row l = string_bytes l.text ++ flat_map (chain_line l.log) (drop l.row-index l.rows) ≡ string_bytes l.initial.text ++ flat_map (chain_line l.log) l.rows
