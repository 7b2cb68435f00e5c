use Rattle.std.proofs.Common.{◌≡◌, ◌+◌, ◌++◌, drop, string_bytes}
use Rattle.bs_report.specs.Report.{block_lines}
use Rattle.bs_report.proofs.text.write_blocks.Given as goal

abbrev pub invariant-loop-index : goal.invariant-loop-index
invariant-loop-index l =
    string_bytes l.text ++ block_lines (l.index + 1) (drop l.index l.rows) ≡ string_bytes l.initial.text ++ block_lines 1 l.rows
