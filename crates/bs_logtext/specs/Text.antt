-- The text of a log, line by line. Each line ends with a line feed, one space stands between two words, and every number is
-- plain decimal, with a minus sign where it is below 0. docs/log.md shows the lines.
use Rattle.std.specs.Prelude.{ℕ, ℤ, List, ◌++◌, length, codes}
use Rattle.std.specs.List.{flat_map}
use Rattle.std.specs.Fmt.{decimal, signed_decimal}
use Rattle.bs_log.specs.declared.history.TrapKind.{TrapKind}
use Rattle.bs_log.specs.declared.history.TrapKind.TheVariants.{Overflow, ZeroDivisor, Index, Target, WorkRange, BytesRange, CostRange, Steps}
use Rattle.bs_log.specs.declared.history.Sent.{Sent}
use Rattle.bs_log.specs.declared.log.MailRef.{MailRef}
use Rattle.bs_log.specs.declared.log.Row.{Row}
use Rattle.bs_log.specs.declared.log.TrapRow.{TrapRow}
use Rattle.bs_log.specs.declared.log.WaitRow.{WaitRow}
use Rattle.bs_log.specs.declared.log.Log.{Log}

-- the version
abbrev pub version_line : List ℕ
version_line = codes "bslog 1\n"

-- how many chares, entries and rows there are
abbrev pub numbers_line : ℕ → ℕ → ℕ → List ℕ
numbers_line chares entries rows = codes "chares " ++ decimal chares ++ codes " entries " ++ decimal entries ++ codes " rows " ++ decimal rows ++ codes "\n"

-- those of a log
abbrev pub counts_line : Log → List ℕ
counts_line log = numbers_line log.chares log.entries (length log.rows)

-- a row: its chare, its statement, its depth and its cost
abbrev pub row_line : Row → List ℕ
row_line row = codes "row " ++ decimal row.chare ++ codes " " ++ decimal row.stmt ++ codes " " ++ decimal row.depth ++ codes " " ++ decimal row.cost ++ codes "\n"

-- a block cause, by the number of its row
abbrev pub after_line : ℕ → List ℕ
after_line row = codes "after " ++ decimal row ++ codes "\n"

-- a message cause, by the number of its row and its place among the sends there
abbrev pub mail_line : MailRef → List ℕ
mail_line mail = codes "mail " ++ decimal mail.row ++ codes " " ++ decimal mail.index ++ codes "\n"

-- a value that a row emits
abbrev pub emit_line : ℤ → List ℕ
emit_line value = codes "emit " ++ signed_decimal value ++ codes "\n"

-- a send: its target, its key, its length in bytes and its offset
abbrev pub send_line : Sent → List ℕ
send_line sent =
    codes "send " ++ decimal sent.to ++ codes " " ++ decimal sent.key.entry ++ codes " " ++ signed_decimal sent.key.reference
    ++ codes " " ++ decimal sent.bytes ++ codes " " ++ decimal sent.offset ++ codes "\n"

-- a row with its causes, its values and its sends
abbrev pub row_text : Row → List ℕ
row_text row = row_line row ++ flat_map after_line row.after ++ flat_map mail_line row.mail ++ flat_map emit_line row.emits ++ flat_map send_line row.sends

-- the number of a reason to stop
abbrev pub kind_number : TrapKind → ℕ
kind_number Overflow = 1
kind_number ZeroDivisor = 2
kind_number Index = 3
kind_number Target = 4
kind_number WorkRange = 5
kind_number BytesRange = 6
kind_number CostRange = 7
kind_number Steps = 8

-- a statement that stopped, and why
abbrev pub trap_line : TrapRow → List ℕ
trap_line trap = codes "trap " ++ decimal trap.chare ++ codes " " ++ decimal trap.stmt ++ codes " " ++ decimal (kind_number trap.kind) ++ codes "\n"

-- a key that a statement waits for
abbrev pub wait_line : WaitRow → List ℕ
wait_line wait =
    codes "wait " ++ decimal wait.chare ++ codes " " ++ decimal wait.stmt
    ++ codes " " ++ decimal wait.key.entry ++ codes " " ++ signed_decimal wait.key.reference ++ codes "\n"

-- nothing follows
abbrev pub end_line : List ℕ
end_line = codes "end\n"

-- the whole text: the version, the counts, the rows, the traps, the waits, and the end
unfoldable pub log_text : Log → List ℕ
log_text log =
    version_line
    ++ counts_line log
    ++ flat_map row_text log.rows
    ++ flat_map trap_line log.traps
    ++ flat_map wait_line log.waits
    ++ end_line
