-- The lists of what the waves from estimates change, up to a budget (docs/model.md).
use Rattle.std.specs.Prelude.{◌≡◌, ◌≢◌, ◌≤◌, ◌++◌, ℕ, suc, Bool, true, false, List, [], ◌∷◌, Some, length, slice_get}
use Rattle.bs_log.specs.Lists.{Mem}
use Rattle.bs_times.specs.Net.{Net, Ticks}
use Rattle.bs_line.specs.declared.corrections.Correction.{Correction}
use Rattle.bs_settle.specs.Changes.{AreChanges, ChangesRise}
use Rattle.bs_settle.specs.Settled.{OfWaves}

-- the list of a wave: a correction for each message whose tick it changed, in the order of their messages
pub record IsListOf (net : Net) (old new : Ticks) (list : List Correction) : Type 0 where
  pub changes : AreChanges net old new list
  pub rises : ChangesRise list

-- the lists of the waves from these estimates, the first wave first
abbrev pub AreListsOf : Net → Ticks → List (List Correction) → Type 0
AreListsOf net estimates lists = OfWaves net estimates (λ ticks. (k : ℕ) (list : List Correction) → slice_get lists k ≡ Some list → IsListOf net (ticks k) (ticks (suc k)) list)

-- The lists of the waves that a budget allows. All but the last change a tick. The last changes none where the waves
-- settle; otherwise it is the last of the budget, and still changes one.
pub record AreNoted (net : Net) (estimates : Ticks) (most : ℕ) (lists : List (List Correction)) (settled : Bool) : Type 0 where
  pub few : length lists ≤ most
  pub are : AreListsOf net estimates lists
  pub begin : List (List Correction)  -- all but the last
  pub last : List Correction
  pub whole : lists ≡ begin ++ last ∷ []
  pub early : (list : List Correction) → Mem list begin → list ≢ []
  pub ends : settled ≡ true → last ≡ []
  pub spent : settled ≡ false → (length lists ≡ most) × (last ≢ [])
