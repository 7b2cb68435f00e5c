-- Places that messages go to: a chare and a key there. A set of them is seen as a test of each place.
use Rattle.std.specs.Prelude.{Bool, true, false, if◌then◌else◌, List, [], ◌∷◌}
use Rattle.std.specs.Ordering.{nat_cmp, ordering_then}
use Rattle.std.specs.declared.cmp.Ordering.{Ordering}
use Rattle.std.specs.BTreeMap.{is_at}
use Rattle.std.specs.BTreeSet.{BTreeSet, contains}
use Rattle.bs_log.specs.declared.history.Sent.{Sent}
use Rattle.bs_log.specs.declared.log.WaitRow.{WaitRow}
use Rattle.bs_log.specs.Messages.{key_cmp}
use Rattle.bs_logcheck.specs.declared.place.Place.{Place}

-- places are ordered by chare, and then by key
abbrev pub place_cmp : Place → Place → Ordering
place_cmp a b = ordering_then (nat_cmp a.chare b.chare) (key_cmp a.key b.key)

-- where a message goes to, and where a wait waits for one
abbrev pub goal_of : Sent → Place
goal_of s = record { chare = s.to; key = s.key }

abbrev pub spot_of : WaitRow → Place
spot_of w = record { chare = w.chare; key = w.key }

-- the places of a set
abbrev pub has : BTreeSet Place → Place → Bool
has places = contains place_cmp places

-- no place
abbrev pub nowhere : Place → Bool
nowhere q = false

-- a place, and those before
abbrev pub with_place : (Place → Bool) → Place → Place → Bool
with_place seen p q = if is_at (place_cmp p) q then true else seen q

-- the places of all of a list, and those before
abbrev pub with_places : {A : Type 0} → (A → Place) → (Place → Bool) → List A → Place → Bool
with_places at seen [] = seen
with_places at seen (x ∷ xs) = with_places at (with_place seen (at x)) xs

-- the places of those of earlier lines, of which the last comes first
abbrev pub places : {A : Type 0} → (A → Place) → List A → Place → Bool
places at [] = nowhere
places at (x ∷ xs) = with_place (places at xs) (at x)
