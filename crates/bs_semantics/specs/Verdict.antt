-- The verdict on a program: the first round to which one of three cases applies decides (docs/model.md).
use Rattle.std.specs.Prelude.{◌≡◌, ◌≤◌, ◌<◌, ℕ, ◌+◌, ◌==◌, Bool, true, false, ◌&&◌, if◌then◌else◌, List, [], ◌∷◌, ◌++◌, Option, Some, None}
use Rattle.std.specs.Ordering.{nat_cmp, int_cmp, ordering_then}
use Rattle.std.specs.declared.cmp.Ordering.{Ordering}
use Rattle.std.specs.declared.cmp.Ordering.TheVariants.{Greater}
use Rattle.bs_tree.specs.declared.tree.Program.{Program}
use Rattle.bs_log.specs.declared.history.Key.{Key}
use Rattle.bs_log.specs.declared.history.Message.{Message}
use Rattle.bs_log.specs.declared.history.Block.{Block}
use Rattle.bs_log.specs.declared.history.Asked.{Asked}
use Rattle.bs_log.specs.declared.history.History.{History}
use Rattle.bs_log.specs.Size.{size_all}
use Rattle.bs_log.specs.Messages.{same_key}
use Rattle.bs_semantics.specs.Rounds.{round, Undecided, CleanAt}

-- a statement of a chare
pub record At : Type 0 where
  pub chare : ℕ
  pub stmt : ℕ

-- a key that a chare is sent twice or asks twice, and the first two that do so
pub record Twice : Type 0 where
  pub asked : Bool
  pub chare : ℕ
  pub key : Key
  pub first : At
  pub second : At

-- what is sent or asked at a place
pub record Mark : Type 0 where
  pub asked : Bool
  pub chare : ℕ
  pub key : Key
  pub at : At

abbrev pub marks_of_sends : At → List Message → List Mark
marks_of_sends at [] = []
marks_of_sends at (m ∷ ms) = record { asked = false; chare = m.sent.to; key = m.sent.key; at = at } ∷ marks_of_sends at ms

abbrev pub marks_of_blocks : ℕ → List Block → List Mark
marks_of_blocks c [] = []
marks_of_blocks c (b ∷ bs) = marks_of_sends (record { chare = c; stmt = b.stmt }) b.sends ++ marks_of_blocks c bs

abbrev pub marks_of_asked : ℕ → List Asked → List Mark
marks_of_asked c [] = []
marks_of_asked c (a ∷ as') = record { asked = true; chare = c; key = a.key; at = record { chare = c; stmt = a.stmt } } ∷ marks_of_asked c as'

-- all that chares from c on send, in the order of (chare, path, place)
abbrev pub sent_marks : ℕ → List History → List Mark
sent_marks c [] = []
sent_marks c (h ∷ hs) = marks_of_blocks c h.blocks ++ sent_marks (c + 1) hs

abbrev pub asked_marks : ℕ → List History → List Mark
asked_marks c [] = []
asked_marks c (h ∷ hs) = marks_of_asked c h.asked ++ asked_marks (c + 1) hs

abbrev pub alike : Mark → Mark → Bool
alike a b = (a.chare == b.chare) && same_key a.key b.key

-- the next one like it
abbrev pub second_of : Mark → List Mark → Option Twice
second_of a [] = None
second_of a (b ∷ bs) = if alike a b then Some (record { asked = a.asked; chare = a.chare; key = a.key; first = a.at; second = b.at }) else second_of a bs

-- the least by (chare, entry, reference), and sent before asked
abbrev pub twice_cmp : Twice → Twice → Ordering
twice_cmp a b = ordering_then (nat_cmp a.chare b.chare) (ordering_then (nat_cmp a.key.entry b.key.entry) (int_cmp a.key.reference b.key.reference))

abbrev pub lesser : Twice → Twice → Ordering → Twice
lesser a b Greater = b
lesser a b _ = a

abbrev pub least : Option Twice → Option Twice → Option Twice
least None b = b
least (Some a) None = Some a
least (Some a) (Some b) = Some (lesser a b (twice_cmp a b))

abbrev pub first_twice : List Mark → Option Twice
first_twice [] = None
first_twice (a ∷ as') = least (second_of a as') (first_twice as')

abbrev pub ambiguous : List History → Option Twice
ambiguous hs = least (first_twice (sent_marks 0 hs)) (first_twice (asked_marks 0 hs))

-- clean with the histories of the last round, ambiguous, or too long
pub data Verdict : Type 0 where
  clean : List History → Verdict
  twice : Twice → Verdict
  too_long : Verdict

-- the first round to which a case applies, and the cases in order
pub data IsVerdict (p : Program) (limit : ℕ) : Verdict → Type 0 where
  is_too_long : (n : ℕ) → ((m : ℕ) → m < n → Undecided p limit m) → limit < size_all (round p limit n) → IsVerdict p limit too_long
  is_twice : (n : ℕ) → ((m : ℕ) → m < n → Undecided p limit m) → size_all (round p limit n) ≤ limit → (t : Twice) → ambiguous (round p limit n) ≡ Some t → IsVerdict p limit (twice t)
  is_clean : (n : ℕ) → CleanAt p limit n → IsVerdict p limit (clean (round p limit n))
