-- What histories send, and the tests of paths, keys and messages that can be computed (docs/model.md).
use Rattle.std.specs.Prelude.{◌<◌, ℕ, ◌==◌, Bool, ◌&&◌, List, [], ◌∷◌, ◌++◌, sum_by, count_by}
use Rattle.std.specs.Ordering.{nat_cmp, int_cmp, int_eq, is_lt, ordering_then}
use Rattle.std.specs.Cmp.Lexicographic.{slice_cmp}
use Rattle.std.specs.Str.{bytes_eq}
use Rattle.std.specs.declared.cmp.Ordering.{Ordering}
use Rattle.bs_tree.specs.declared.tree.Path.{Path}
use Rattle.bs_log.specs.declared.history.Key.{Key}
use Rattle.bs_log.specs.declared.history.Origin.{Origin}
use Rattle.bs_log.specs.declared.history.Message.{Message}
use Rattle.bs_log.specs.declared.history.Block.{Block}
use Rattle.bs_log.specs.declared.history.Asked.{Asked}
use Rattle.bs_log.specs.declared.history.History.{History}
use Rattle.bs_log.specs.Lists.{Mem}

-- what blocks send, in their order
abbrev pub sends_of : List Block → List Message
sends_of [] = []
sends_of (b ∷ bs) = b.sends ++ sends_of bs

-- all that histories send, in the order of (chare, path, place)
abbrev pub sent : List History → List Message
sent [] = []
sent (h ∷ hs) = sends_of h.blocks ++ sent hs

-- keys are ordered by entry, and then by reference number
abbrev pub key_cmp : Key → Key → Ordering
key_cmp a b = ordering_then (nat_cmp a.entry b.entry) (int_cmp a.reference b.reference)

abbrev pub same_key : Key → Key → Bool
same_key a b = (a.entry == b.entry) && int_eq a.reference b.reference

-- a message of this key to this chare
abbrev pub is_for : ℕ → Key → Message → Bool
is_for c k m = (m.sent.to == c) && same_key m.sent.key k

-- the two messages go to one chare with one key
abbrev pub one_key : Message → Message → Bool
one_key a b = is_for b.sent.to b.sent.key a

-- both ask for one key
abbrev pub one_asked : Asked → Asked → Bool
one_asked a b = same_key a.key b.key

-- each message goes to one of so many chares
abbrev pub AreFor : ℕ → List Message → Type 0
AreFor count ms = (m : Message) → Mem m ms → m.sent.to < count

abbrev pub same_path : Path → Path → Bool
same_path p q = bytes_eq p.0 q.0

-- paths are ordered as lists of numbers
abbrev pub is_below : Path → Path → Bool
is_below p q = is_lt (slice_cmp nat_cmp p.0 q.0)

abbrev pub same_origin : Origin → Origin → Bool
same_origin a b = (a.chare == b.chare) && (same_path a.path b.path && ((a.index == b.index) && (a.depth == b.depth)))

-- how many messages of a key a block, blocks, and histories send to a chare
abbrev pub times_by : ℕ → Key → Block → ℕ
times_by c k b = count_by (is_for c k) b.sends

abbrev pub times_in : ℕ → Key → List Block → ℕ
times_in c k bs = sum_by (times_by c k) bs

abbrev pub times_of : ℕ → Key → History → ℕ
times_of c k h = times_in c k h.blocks

unfoldable pub times_sent : List History → ℕ → Key → ℕ
times_sent hs c k = sum_by (times_of c k) hs
