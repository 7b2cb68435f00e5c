use Rattle.std.proofs.Common.{◌≡◌, ◌++◌, drop, string_bytes}
use Rattle.std.specs.List.{flat_map}
use Rattle.bs_report.specs.Journal.{correction_line}
use Rattle.bs_report.proofs.journals.write_corrections.Given as goal

abbrev pub invariant-loop-correction : goal.invariant-loop-correction
invariant-loop-correction l =
    string_bytes l.text ++ flat_map correction_line (drop l.correction-index l.corrections) ≡ string_bytes l.initial.text ++ flat_map correction_line l.corrections
