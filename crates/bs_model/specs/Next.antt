-- The best block of a chare, and the next one of all.
use Rattle.std.specs.Prelude.{◌≡◌, ◌≤◌, ◌<◌, ◌⊎◌, ℕ, max, if◌then◌else◌, nat_le, List, Option, Some, None, slice_get, get_or, length}
use Rattle.bs_log.specs.declared.history.Block.{Block}
use Rattle.bs_log.specs.declared.history.History.{History}
use Rattle.bs_machine.specs.declared.fitted.Fitted.{Fitted}
use Rattle.bs_machine.specs.Fitted.{home_of}
use Rattle.bs_model.specs.declared.book.Book.{Book}
use Rattle.bs_model.specs.declared.candidates.Best.{Best}
use Rattle.bs_model.specs.declared.agenda.Next.{Next}
use Rattle.bs_model.specs.Ready.{candidate_in}

-- the earlier one of the best so far and a later block, which is ready at this tick if it can start
abbrev pub better_of : Option Best → ℕ → Option ℕ → Option Best
better_of best at None = best
better_of None at (Some ready) = Some (record { at = at; ready = ready })
better_of (Some b) at (Some ready) = if nat_le b.ready ready then Some b else Some (record { at = at; ready = ready })

-- a block that can start at this tick at the earliest, as no block of its chare before it can and none at an earlier tick
pub record IsBestAt (f : Block → Option ℕ) (xs : List Block) (b : Best) : Type 0 where
  pub block : Block
  pub is : slice_get xs b.at ≡ Some block
  pub ready : f block ≡ Some b.ready
  pub least : (i : ℕ) (y : Block) (tick : ℕ) → slice_get xs i ≡ Some y → f y ≡ Some tick → (b.ready < tick) ⊎ ((b.ready ≡ tick) × (b.at ≤ i))

-- of blocks, some of which can start at a tick, the first one of the least tick, if any can
abbrev pub IsBest : (Block → Option ℕ) → List Block → Option Best → Type 0
IsBest f xs None = (i : ℕ) (y : Block) → slice_get xs i ≡ Some y → f y ≡ None
IsBest f xs (Some b) = IsBestAt f xs b

-- the best block of a chare among those of its history, if the chare has one
abbrev pub best_among : Fitted → Book → ℕ → Option History → Option (Option Best) → Type 0
best_among m book c (Some h) (Some best) = IsBest (candidate_in m book c) h.blocks best
best_among m book c _ _ = ⊥

abbrev pub best_at : Fitted → Book → List History → List (Option Best) → ℕ → Type 0
best_at m book hs bests c = best_among m book c (slice_get hs c) (slice_get bests c)

pub record AreBest (m : Fitted) (book : Book) (hs : List History) (bests : List (Option Best)) : Type 0 where
  pub count : length bests ≡ length hs
  pub each : (c : ℕ) → c < length hs → best_at m book hs bests c

-- the best block of a chare, started after the last end of its processor
abbrev pub next_of : Fitted → List ℕ → ℕ → Best → Next
next_of m ends c b = record { chare = c; processor = home_of m c; best = b; start = max b.ready (get_or ends (home_of m c) 0) }

-- the order of (start, processor, ready tick, chare)
abbrev pub IsUpTo : Next → Next → Type 0
IsUpTo a b = (a.start < b.start) ⊎ ((a.start ≡ b.start) × ((a.processor < b.processor) ⊎ ((a.processor ≡ b.processor) × ((a.best.ready < b.best.ready) ⊎ ((a.best.ready ≡ b.best.ready) × (a.chare ≤ b.chare))))))

-- one of the chares' best blocks, and none is before it
pub record IsLeastAt (m : Fitted) (ends : List ℕ) (bests : List (Option Best)) (n : Next) : Type 0 where
  pub is : slice_get bests n.chare ≡ Some (Some n.best)
  pub next : n ≡ next_of m ends n.chare n.best
  pub least : (d : ℕ) (e : Best) → slice_get bests d ≡ Some (Some e) → IsUpTo n (next_of m ends d e)

-- of the chares' best blocks the least one by (start, processor, ready tick, chare), if there is one
abbrev pub IsLeast : Fitted → List ℕ → List (Option Best) → Option Next → Type 0
IsLeast m ends bests None = (d : ℕ) (e : Best) → slice_get bests d ≡ Some (Some e) → ⊥
IsLeast m ends bests (Some n) = IsLeastAt m ends bests n
