-- Marks that are gone through in their order: the first at each place, and the least key that came twice.
use Rattle.std.specs.Prelude.{ℕ, true, false, if◌then◌else◌, List, [], ◌∷◌, Option, Some, None, option_map}
use Rattle.std.specs.Ordering.{nat_cmp, ordering_then}
use Rattle.std.specs.declared.cmp.Ordering.{Ordering}
use Rattle.std.specs.BTreeMap.{get, is_at}
use Rattle.bs_log.specs.declared.history.Message.{Message}
use Rattle.bs_log.specs.declared.history.Asked.{Asked}
use Rattle.bs_log.specs.Messages.{key_cmp}
use Rattle.bs_semantics.specs.Verdict as plain
use Rattle.bs_rounds.specs.declared.naming.Place.{Place}
use Rattle.bs_rounds.specs.declared.naming.Mark.{Mark}
use Rattle.bs_rounds.specs.declared.naming.Marks.{Marks}
use Rattle.bs_rounds.specs.Answer.{at_of, twice_of}

-- places are ordered by chare, and then by key
abbrev pub place_cmp : Place → Place → Ordering
place_cmp a b = ordering_then (nat_cmp a.chare b.chare) (key_cmp a.key b.key)

-- where a mark stands
abbrev pub place_of : plain.Mark → Place
place_of m = record { chare = m.chare; key = m.key }

-- a mark in the words of the verdict
abbrev pub mark_of : Mark → plain.Mark
mark_of m = record { asked = m.asked; chare = m.place.chare; key = m.place.key; at = at_of m.at }

-- what a message marks that is sent at a statement
abbrev pub sent_mark : plain.At → Message → plain.Mark
sent_mark at m = record { asked = false; chare = m.sent.to; key = m.sent.key; at = at }

-- what a chare marks by a key that it asks
abbrev pub asked_mark : ℕ → Asked → plain.Mark
asked_mark c a = record { asked = true; chare = c; key = a.key; at = record { chare = c; stmt = a.stmt } }

-- the key of the first mark, with the statements of both
abbrev pub pair : plain.Mark → plain.Mark → plain.Twice
pair a b = record { asked = a.asked; chare = a.chare; key = a.key; first = a.at; second = b.at }

-- what is kept of the marks so far: the first at each place, and the least key that came twice
pub record Seen : Type 0 where
  pub firsts : Place → Option plain.Mark
  pub least : Option plain.Twice

-- no mark so far
abbrev pub none_seen : Seen
none_seen = record { firsts = λ q. None; least = None }

-- a mark with the first at its place: where there is none it is the first, and else its key came twice
abbrev pub noted : Seen → plain.Mark → Option plain.Mark → Seen
noted s m None = record { firsts = λ q. if is_at (place_cmp (place_of m)) q then Some m else s.firsts q; least = s.least }
noted s m (Some a) = record { firsts = s.firsts; least = plain.least s.least (Some (pair a m)) }

-- one mark more
abbrev pub with_mark : Seen → plain.Mark → Seen
with_mark s m = noted s m (s.firsts (place_of m))

-- more marks, in their order
abbrev pub with_marks : Seen → List plain.Mark → Seen
with_marks s [] = s
with_marks s (m ∷ ms) = with_marks (with_mark s m) ms

-- what the code keeps of the marks so far
abbrev pub seen_of : Marks → Seen
seen_of marks = record { firsts = λ q. option_map mark_of (get place_cmp marks.firsts q); least = option_map twice_of marks.least }
