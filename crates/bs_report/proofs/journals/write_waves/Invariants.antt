use Rattle.std.proofs.Common.{◌≡◌, ◌+◌, ◌++◌, drop, string_bytes}
use Rattle.bs_report.specs.Journal.{wave_lines}
use Rattle.bs_report.proofs.journals.write_waves.Given as goal

abbrev pub invariant-loop-index : goal.invariant-loop-index
invariant-loop-index l =
    string_bytes l.text ++ wave_lines (l.index + 1) (drop l.index l.waves) ≡ string_bytes l.initial.text ++ wave_lines 1 l.waves
