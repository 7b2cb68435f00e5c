-- The line of a trial (docs/output.md).
use Rattle.std.specs.Prelude.{ℕ, List, ◌++◌, length, codes}
use Rattle.std.specs.Fmt.{decimal}
use Rattle.bs_gen.specs.Words.{workload_word}
use Rattle.bs_gen.specs.declared.workload.Workload.{Workload}
use Rattle.bs_log.specs.declared.outcome.Outcome.{Outcome}
use Rattle.bs_report.specs.End.{end_of}
use Rattle.bs_report.specs.Report.{end_word, span_of}

-- what was generated: the word of its kind, the number of chares, and the seed
abbrev pub program_words : List ℕ → ℕ → ℕ → List ℕ
program_words kind chares seed = codes "trial " ++ kind ++ codes " " ++ decimal chares ++ codes " " ++ decimal seed

-- and its run: the word of its end, the number of blocks, and the span
abbrev pub run_words : List ℕ → ℕ → ℕ → List ℕ
run_words status blocks span = codes " status " ++ status ++ codes " blocks " ++ decimal blocks ++ codes " span " ++ decimal span ++ codes "\n"

-- the line of a trial
abbrev pub trial_text : Workload → ℕ → ℕ → Outcome → List ℕ
trial_text kind chares seed outcome =
    program_words (workload_word kind) chares seed ++ run_words (end_word (end_of outcome)) (length outcome.rows) (span_of outcome.rows)
