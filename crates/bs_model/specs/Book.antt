-- The blocks that were started, as a list in the order of their keys.
use Rattle.std.specs.Prelude.{ℕ, List, ◌∷◌, map, Option}
use Rattle.std.specs.Ordering.{nat_cmp}
use Rattle.std.specs.Cmp.Lexicographic.{slice_cmp}
use Rattle.std.specs.Map as entry
use Rattle.std.specs.BTreeMap.{is_at, insert_entry}
use Rattle.bs_model.specs.declared.book.Begun.{Begun}
use Rattle.bs_model.specs.declared.book.Book.{Book}

-- each block with its key: its chare, and then the places of its path
abbrev pub keyed : Book → List (List ℕ × Begun)
keyed book = map (λ e. (e.0.items, e.1)) book.blocks.entries

-- the block of a key
abbrev pub at_key : List (List ℕ × Begun) → List ℕ → Option Begun
at_key es key = entry.lookup (is_at (slice_cmp nat_cmp key)) es

-- the block of a chare at a path
abbrev pub found : Book → ℕ → List ℕ → Option Begun
found book chare path = at_key (keyed book) (chare ∷ path)

-- a block put at a key, in place of one that is there
abbrev pub put_key : List ℕ → Begun → List (List ℕ × Begun) → List (List ℕ × Begun)
put_key key begun es = insert_entry (slice_cmp nat_cmp) es key begun
