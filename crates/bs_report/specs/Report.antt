-- The text of an outcome, line by line. Each line ends with a line feed, and every number is plain
-- decimal. docs/output.md shows the lines.
use Rattle.std.specs.Prelude.{ℕ, ℤ, ◌+◌, ◌-◌, ◌*◌, ◌/◌, ◌==◌, max, List, [], ◌∷◌, ◌++◌, length, codes}
use Rattle.std.specs.List.{filter, flat_map, fold, sum_by}
use Rattle.std.specs.Ordering.{match_ordering, nat_cmp}
use Rattle.std.specs.Fmt.{decimal, signed_decimal}
use Rattle.bs_log.specs.declared.history.TrapKind.{TrapKind}
use Rattle.bs_log.specs.declared.history.TrapKind.TheVariants.{Overflow, ZeroDivisor, Index, Target, WorkRange, BytesRange, CostRange, Steps}
use Rattle.bs_log.specs.declared.log.TrapRow.{TrapRow}
use Rattle.bs_log.specs.declared.log.WaitRow.{WaitRow}
use Rattle.bs_log.specs.declared.outcome.End.{End}
use Rattle.bs_log.specs.declared.outcome.End.TheVariants.{Settled, Deadlock, Trapped}
use Rattle.bs_log.specs.declared.outcome.OutRow.{OutRow}
use Rattle.bs_log.specs.declared.outcome.Outcome.{Outcome}
use Rattle.bs_report.specs.End.{end_of}

-- the word of an end
abbrev pub end_word : End → List ℕ
end_word Settled = codes "settled"
end_word Deadlock = codes "deadlock"
end_word Trapped = codes "trapped"

-- the first line says how the run ended
abbrev pub status_line : End → List ℕ
status_line end = codes "status " ++ end_word end ++ codes "\n"

-- a value that a block emitted
abbrev pub value_line : ℤ → List ℕ
value_line value = codes "value " ++ signed_decimal value ++ codes "\n"

-- a block with its number: its chare and statement, where it ran, and from which tick to which
abbrev pub block_line : ℕ → OutRow → List ℕ
block_line number row =
    codes "block " ++ decimal number ++ codes " chare " ++ decimal row.chare ++ codes " stmt " ++ decimal row.stmt
    ++ codes " proc " ++ decimal row.processor ++ codes " start " ++ decimal row.start ++ codes " end " ++ decimal row.end ++ codes "\n"

-- the blocks in their order, numbered upwards from `first`, each with its values behind it
abbrev pub block_lines : ℕ → List OutRow → List ℕ
block_lines first [] = []
block_lines first (row ∷ rows) = block_line first row ++ flat_map value_line row.values ++ block_lines (first + 1) rows

-- the word of a reason to stop
abbrev pub trap_word : TrapKind → List ℕ
trap_word Overflow = codes "overflow"
trap_word ZeroDivisor = codes "divisor"
trap_word Index = codes "index"
trap_word Target = codes "target"
trap_word WorkRange = codes "work"
trap_word BytesRange = codes "bytes"
trap_word CostRange = codes "cost"
trap_word Steps = codes "steps"

-- a statement that stopped, and why
abbrev pub trap_line : TrapRow → List ℕ
trap_line trap = codes "trap chare " ++ decimal trap.chare ++ codes " stmt " ++ decimal trap.stmt ++ codes " " ++ trap_word trap.kind ++ codes "\n"

-- a key that a statement waits for
abbrev pub wait_line : WaitRow → List ℕ
wait_line wait =
    codes "wait chare " ++ decimal wait.chare ++ codes " stmt " ++ decimal wait.stmt
    ++ codes " entry " ++ decimal wait.key.entry ++ codes " ref " ++ signed_decimal wait.key.reference ++ codes "\n"

-- the greatest end of a block, and 0 without blocks
abbrev pub span_of : List OutRow → ℕ
span_of rows = fold (λ latest row. max latest row.end) 0 rows

abbrev pub span_line : ℕ → List ℕ
span_line span = codes "span " ++ decimal span ++ codes "\n"

-- rising numbers, and one more at its place, where it isn't among them yet
abbrev pub with_number : ℕ → List ℕ → List ℕ
with_number n [] = n ∷ []
with_number n (m ∷ ms) = match_ordering (nat_cmp n m) (n ∷ m ∷ ms) (m ∷ ms) (m ∷ with_number n ms)

-- the processors that have a block, each once, in rising order
abbrev pub processors_of : List OutRow → List ℕ
processors_of [] = []
processors_of (row ∷ rows) = with_number row.processor (processors_of rows)

-- the blocks that ran on a processor
abbrev pub rows_on : ℕ → List OutRow → List OutRow
rows_on processor rows = filter (λ row. row.processor == processor) rows

-- how many ticks a block took
abbrev pub duration_of : OutRow → ℕ
duration_of row = row.end - row.start

-- how many ticks the blocks took together that ran on a processor
abbrev pub busy_of : ℕ → List OutRow → ℕ
busy_of processor rows = sum_by duration_of (rows_on processor rows)

-- what a processor did: how many blocks it ran, how many ticks they took together, and how many
-- hundredths of a percent of the span that is, rounded down
abbrev pub processor_line : List OutRow → ℕ → List ℕ
processor_line rows processor =
    codes "proc " ++ decimal processor ++ codes " blocks " ++ decimal (length (rows_on processor rows))
    ++ codes " busy " ++ decimal (busy_of processor rows)
    ++ codes " use " ++ decimal (10000 * busy_of processor rows / span_of rows) ++ codes "\n"

-- the whole report: the end, the blocks, the traps, the waits, the span, and the processors
unfoldable pub report_text : Outcome → List ℕ
report_text outcome =
    status_line (end_of outcome)
    ++ block_lines 1 outcome.rows
    ++ flat_map trap_line outcome.traps
    ++ flat_map wait_line outcome.waits
    ++ span_line (span_of outcome.rows)
    ++ flat_map (processor_line outcome.rows) (processors_of outcome.rows)
