-- Where a line may stand in the text of a log, and how many lines there may be.
use Rattle.std.specs.Prelude.{◌≡◌, ℕ, ◌+◌, ◌==◌, Bool, true, ◌&&◌, nat_le, nat_lt, List, [], ◌∷◌, fold}
use Rattle.bs_log.specs.ValidTest.{is_from}
use Rattle.bs_logread.specs.declared.lines.Counts.{Counts}
use Rattle.bs_logread.specs.declared.lines.Line.{Line}
use Rattle.bs_logread.specs.declared.lines.Line.TheVariants as l
use Rattle.bs_logread.specs.declared.order.Progress.{Progress}
use Rattle.bs_logread.specs.Line.{is_in_range}

-- before the first line
abbrev pub start : Progress
start = record { last = 0; named = 0; rows = 0; counted = 0 }

-- behind a line of this kind, which is counted
abbrev pub with_line : ℕ → Progress → Progress
with_line kind p = record { last = kind; named = p.named; rows = p.rows; counted = p.counted + 1 }

-- behind one more line. The kinds of lines are numbered in the order in which they stand: 1 the version, 2 the counts, 3 `row`,
-- 4 `after`, 5 `mail`, 6 `emit`, 7 `send`, 8 `trap`, 9 `wait`, 10 `end`
abbrev pub after : Progress → Line → Progress
after p l.Version = record { last = 1; named = p.named; rows = p.rows; counted = p.counted }
after p (l.Counts c) = record { last = 2; named = c.rows; rows = p.rows; counted = p.counted }
after p (l.Row h) = record { last = 3; named = p.named; rows = p.rows + 1; counted = p.counted + 1 }
after p (l.After row) = with_line 4 p
after p (l.Mail m) = with_line 5 p
after p (l.Emit v) = with_line 6 p
after p (l.Send s) = with_line 7 p
after p (l.Trap t) = with_line 8 p
after p (l.Wait w) = with_line 9 p
after p l.End = record { last = 10; named = p.named; rows = p.rows; counted = p.counted }

-- which kinds of lines a line may stand behind: `row` behind the counts and every line of a row; `after`, `mail`, `emit` and
-- `send` behind a line of a row that isn't of a later kind; `trap`, `wait` and `end` behind the counts and all lines up to
-- their own kind
abbrev pub may_follow : ℕ → Line → Bool
may_follow last l.Version = last == 0
may_follow last (l.Counts c) = last == 1
may_follow last (l.Row h) = is_from 2 7 last
may_follow last (l.After row) = is_from 3 4 last
may_follow last (l.Mail m) = is_from 3 5 last
may_follow last (l.Emit v) = is_from 3 6 last
may_follow last (l.Send s) = is_from 3 7 last
may_follow last (l.Trap t) = is_from 2 8 last
may_follow last (l.Wait w) = is_from 2 9 last
may_follow last l.End = is_from 2 9 last

-- there are as many `row` lines as the second line names: no more, and behind the last one no less
abbrev pub rows_allow : Progress → Line → Bool
rows_allow p l.Version = true
rows_allow p (l.Counts c) = true
rows_allow p (l.Row h) = nat_lt p.rows p.named
rows_allow p (l.After row) = true
rows_allow p (l.Mail m) = true
rows_allow p (l.Emit v) = true
rows_allow p (l.Send s) = true
rows_allow p (l.Trap t) = p.rows == p.named
rows_allow p (l.Wait w) = p.rows == p.named
rows_allow p l.End = p.rows == p.named

unfoldable pub has_place : Progress → Line → Bool
has_place p x = may_follow p.last x && rows_allow p x

-- one of the lines that may stand here, each number in its range
abbrev pub may_stand : Progress → Line → Bool
may_stand p x = is_in_range x && has_place p x

abbrev pub has_room : Progress → Bool
has_room p = nat_lt p.counted 262144

abbrev pub are_within : Counts → Bool
are_within c = is_from 1 65536 c.chares && (nat_le c.entries 1000 && nat_le c.rows 262144)

-- the limits: the numbers of the second line, and how many lines are counted, which the first two and the last are not
unfoldable pub is_within : Progress → Line → Bool
is_within p l.Version = true
is_within p (l.Counts c) = are_within c
is_within p (l.Row h) = has_room p
is_within p (l.After row) = has_room p
is_within p (l.Mail m) = has_room p
is_within p (l.Emit v) = has_room p
is_within p (l.Send s) = has_room p
is_within p (l.Trap t) = has_room p
is_within p (l.Wait w) = has_room p
is_within p l.End = true

-- a line may stand here and is within the limits
abbrev pub fits : Progress → Line → Bool
fits p x = may_stand p x && is_within p x

-- each line stands where it may, within the limits
abbrev pub IsInOrder : Progress → List Line → Type 0
IsInOrder p [] = Unit {0}
IsInOrder p (x ∷ xs) = (fits p x ≡ true) × IsInOrder (after p x) xs

-- behind some lines
abbrev pub behind_all : Progress → List Line → Progress
behind_all p xs = fold after p xs
