use Rattle.std.proofs.Common.{◌≡◌, ◌++◌, None, map, string_bytes}
use Rattle.bs_report.specs.Headed.{headed}
use Rattle.bs_report.proofs.runs.write_runs.Given as goal

abbrev pub invariant-loop-entry : goal.invariant-loop-entry
invariant-loop-entry l =
    string_bytes l.text ++ headed l.last (map (λ entry. entry.1) l.entry-iterator) ≡ string_bytes l.initial.text ++ headed None (map (λ entry. entry.1) l.runs.entries)
