-- What a line of a log spells, and which numbers may stand in it.
use Rattle.std.specs.Prelude.{ℕ, ◌^◌, Bool, true, ◌&&◌, nat_le, nat_lt, List, []}
use Rattle.bs_log.specs.declared.log.Row.{Row}
use Rattle.bs_log.specs.ValidTest.{is_from, is_word}
use Rattle.bs_logtext.specs.Text.{version_line, numbers_line, row_line, after_line, mail_line, emit_line, send_line, trap_line, wait_line, end_line}
use Rattle.bs_logread.specs.declared.lines.Head.{Head}
use Rattle.bs_logread.specs.declared.lines.Line.{Line}
use Rattle.bs_logread.specs.declared.lines.Line.TheVariants as l

-- a row without causes, values and sends
abbrev pub bare : Head → Row
bare h = record { chare = h.chare; stmt = h.stmt; depth = h.depth; cost = h.cost; after = []; mail = []; emits = []; sends = [] }

-- the bytes of a line, its line feed with them
abbrev pub line_text : Line → List ℕ
line_text l.Version = version_line
line_text (l.Counts c) = numbers_line c.chares c.entries c.rows
line_text (l.Row h) = row_line (bare h)
line_text (l.After row) = after_line row
line_text (l.Mail mail) = mail_line mail
line_text (l.Emit value) = emit_line value
line_text (l.Send sent) = send_line sent
line_text (l.Trap trap) = trap_line trap
line_text (l.Wait wait) = wait_line wait
line_text l.End = end_line

-- a number that has no narrower range
abbrev pub is_small : ℕ → Bool
is_small n = nat_lt n (2 ^ 32)

abbrev pub is_stmt : ℕ → Bool
is_stmt n = is_from 1 10000 n

-- each number of a line is in its range
abbrev pub is_in_range : Line → Bool
is_in_range l.Version = true
is_in_range (l.Counts c) = is_small c.chares && (is_small c.entries && is_small c.rows)
is_in_range (l.Row h) = is_small h.chare && (is_stmt h.stmt && (is_from 1 262144 h.depth && is_from 1 (2 ^ 32) h.cost))
is_in_range (l.After row) = is_small row
is_in_range (l.Mail mail) = is_small mail.row && is_small mail.index
is_in_range (l.Emit value) = is_word value
is_in_range (l.Send s) = is_small s.to && (is_small s.key.entry && (is_word s.key.reference && (nat_le s.bytes (2 ^ 30) && is_from 1 (2 ^ 32) s.offset)))
is_in_range (l.Trap t) = is_small t.chare && is_stmt t.stmt
is_in_range (l.Wait w) = is_small w.chare && (is_stmt w.stmt && (is_small w.key.entry && is_word w.key.reference))
is_in_range l.End = true
