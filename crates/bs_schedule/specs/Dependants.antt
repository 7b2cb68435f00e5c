-- The rows of which each row is a cause.
use Rattle.std.specs.Prelude.{◌≡◌, ◌≤◌, ◌<◌, ◌⊎◌, ◌↔◌, ℕ, List, [], slice_index_or}
use Rattle.bs_log.specs.Lists.{Mem}
use Rattle.bs_schedule.specs.declared.plan.Cause.{Cause}
use Rattle.bs_schedule.specs.Plan.{causing}

-- at each place those rows below n of which its row is a cause
abbrev pub DependantsAre : List (List Cause) → ℕ → List (List ℕ) → Type 0
DependantsAre causes n lists = (i j : ℕ) → Mem j (slice_index_or lists i []) ↔ ((1 ≤ j) × (j < n) × Mem i (causing (slice_index_or causes j [])))

-- row k is added to the dependants of the rows xs, and nothing else is
abbrev pub Adds : ℕ → List ℕ → List (List ℕ) → List (List ℕ) → Type 0
Adds k xs old new = (i j : ℕ) → Mem j (slice_index_or new i []) ↔ (Mem j (slice_index_or old i []) ⊎ ((j ≡ k) × Mem i xs))
