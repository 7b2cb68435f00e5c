-- The text of a trace: what each processor ran, and when each message left and came. Each line ends with a
-- line feed, and every number is plain decimal. docs/output.md shows the lines.
use Rattle.std.specs.Prelude.{ℕ, zero, suc, ◌+◌, ◌-◌, ◌==◌, nat_lt, Bool, ◌&&◌, ◌||◌, if◌then◌else◌, List, [], ◌∷◌, ◌++◌, length, slice_index_or, codes}
use Rattle.std.specs.List.{filter, flat_map, fold}
use Rattle.std.specs.Fmt.{decimal}
use Rattle.bs_log.specs.declared.history.Sent.{Sent}
use Rattle.bs_log.specs.declared.log.Log.{Log}
use Rattle.bs_log.specs.declared.log.MailRef.{MailRef}
use Rattle.bs_log.specs.declared.log.Row.{Row}
use Rattle.bs_semantics.specs.Serial.{Machine}
use Rattle.bs_times.specs.Net.{Net, Starts, net_of, sent_of}
use Rattle.bs_times.specs.Times.{arrival, end_of, ready}
use Rattle.bs_report.specs.declared.traced.Traced.{Traced}
use Rattle.bs_report.specs.Report.{with_number}

-- the starts by number, from those of all rows in their order
abbrev pub start_in : List ℕ → Starts
start_in starts i = slice_index_or starts (i - 1) 0

-- what is told of the row of a number
abbrev pub traced : Net → Starts → ℕ → Traced
traced net s i = record { number = i; processor = net.home i; ready = ready net (arrival net s) s i; start = s i; end = end_of net s i }

-- what is told of the first rows, so many of them
abbrev pub traced_rows : Net → Starts → ℕ → List Traced
traced_rows net s zero = []
traced_rows net s (suc n) = traced_rows net s n ++ traced net s (suc n) ∷ []

-- the order in which a processor runs its rows: by start, and by number where starts are equal
abbrev pub runs_before : Traced → Traced → Bool
runs_before a b = nat_lt a.start b.start || ((a.start == b.start) && nat_lt a.number b.number)

-- rows in that order, and one more at its place
abbrev pub with_run : Traced → List Traced → List Traced
with_run row [] = row ∷ []
with_run row (first ∷ rest) = if runs_before row first then row ∷ first ∷ rest else first ∷ with_run row rest

-- rows, put into that order
abbrev pub in_order : List Traced → List Traced
in_order rows = fold (λ runs row. with_run row runs) [] rows

-- the rows that run on a processor, in their order
abbrev pub runs_on : List Traced → ℕ → List Traced
runs_on rows processor = in_order (filter (λ row. row.processor == processor) rows)

-- the processors that have a row, each once, in rising order
abbrev pub processors_in : List Traced → List ℕ
processors_in rows = fold (λ processors row. with_number row.processor processors) [] rows

abbrev pub processor_line : ℕ → List ℕ
processor_line processor = codes "proc " ++ decimal processor ++ codes "\n"

-- a row by its number: when it was ready, and from which tick to which it ran
abbrev pub run_line : Traced → List ℕ
run_line row =
    codes "run " ++ decimal row.number ++ codes " ready " ++ decimal row.ready
    ++ codes " start " ++ decimal row.start ++ codes " end " ++ decimal row.end ++ codes "\n"

-- a processor, and behind it the rows that it ran
abbrev pub processor_lines : List Traced → ℕ → List ℕ
processor_lines rows processor = processor_line processor ++ flat_map run_line (runs_on rows processor)

-- what each processor ran
abbrev pub run_lines : List Traced → List ℕ
run_lines rows = flat_map (processor_lines rows) (processors_in rows)

-- when a message leaves: at its sender's start, and the duration of its offset
abbrev pub leaving : Log → Machine → Starts → MailRef → ℕ
leaving log m s mail = s mail.row + m.duration (sent_of log mail).offset

-- a message by its row and send: when it left, and when it came
abbrev pub message_line : MailRef → (left came : ℕ) → List ℕ
message_line mail left came =
    codes "mail " ++ decimal mail.row ++ codes " " ++ decimal mail.index
    ++ codes " left " ++ decimal left ++ codes " came " ++ decimal came ++ codes "\n"

-- the line of a message where the rows start at these ticks
abbrev pub mail_line : Log → Machine → Starts → MailRef → List ℕ
mail_line log m s mail = message_line mail (leaving log m s mail) (arrival (net_of log m) s mail)

-- the sends of a row, numbered upwards from `first`
abbrev pub mails_from : (row first : ℕ) → List Sent → List MailRef
mails_from row first [] = []
mails_from row first (sent ∷ sends) = record { row = row; index = first } ∷ mails_from row (first + 1) sends

-- the sends of rows that are numbered upwards from `first`
abbrev pub mails_of : ℕ → List Row → List MailRef
mails_of first [] = []
mails_of first (row ∷ rows) = mails_from first 1 row.sends ++ mails_of (first + 1) rows

-- the whole trace of rows that start at these ticks: what each processor ran, and the messages
abbrev pub trace_from : Log → Machine → Starts → List ℕ
trace_from log m s = run_lines (traced_rows (net_of log m) s (length log.rows)) ++ flat_map (mail_line log m s) (mails_of 1 log.rows)

-- the same from the starts of all rows in their order
unfoldable pub trace_text : Log → Machine → List ℕ → List ℕ
trace_text log m starts = trace_from log m (start_in starts)
