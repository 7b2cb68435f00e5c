-- Rows of one processor after another, as the lines of a trace are written.
use Rattle.std.specs.Prelude.{ℕ, ◌==◌, if◌then◌else◌, Option, Some, None, List, [], ◌∷◌, ◌++◌}
use Rattle.std.specs.List.{flat_map}
use Rattle.bs_report.specs.declared.traced.Traced.{Traced}
use Rattle.bs_report.specs.Trace.{processor_line, processors_in, run_line, runs_on}

-- the rows of each processor in their order, one processor after another
abbrev pub by_processor : List Traced → List Traced
by_processor rows = flat_map (runs_on rows) (processors_in rows)

-- a processor has a line where its first row stands
abbrev pub heading : Option ℕ → ℕ → List ℕ
heading None processor = processor_line processor
heading (Some last) processor = if last == processor then [] else processor_line processor

-- rows behind one of the last processor, or behind none, each with the line of its processor where that is another one
abbrev pub headed : Option ℕ → List Traced → List ℕ
headed last [] = []
headed last (row ∷ rows) = heading last row.processor ++ run_line row ++ headed (Some row.processor) rows
