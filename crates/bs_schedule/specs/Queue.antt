-- Rows that can start, in the order of (ready tick, number).
use Rattle.std.specs.Prelude.{◌≡◌, ◌≤◌, ◌<◌, ◌⊎◌, ℕ, List, length, Bool, false, IsTrue, slice_index_or}
use Rattle.std.specs.declared.cmp.Ordering.{Ordering}
use Rattle.std.specs.Ordering.{nat_cmp, ordering_then}
use Rattle.std.specs.BTreeSet.{insert_key}
use Rattle.bs_log.specs.Lists.{Mem}
use Rattle.bs_schedule.specs.declared.plan.Cause.{Cause}
use Rattle.bs_schedule.specs.declared.plan.Plan.{Plan}
use Rattle.bs_schedule.specs.Plan.{at, causes_of, due_of}

-- the causes from a place to before another have begun
abbrev pub AllBegun : List Cause → ℕ → ℕ → List Bool → Type 0
AllBegun causes low high begun = (k : ℕ) (d : Cause) → low ≤ k → k < high → IsTrue (slice_index_or begun (slice_index_or causes k d).row false)

-- the causes of each row before its place have begun
abbrev pub NextFit : Plan → List Bool → List ℕ → Type 0
NextFit plan begun next = (k : ℕ) → k < length plan.causes → (at next k ≤ length (causes_of plan k)) × AllBegun (causes_of plan k) 0 (at next k) begun

-- all causes of a row have begun
abbrev pub CanStart : Plan → List Bool → ℕ → Type 0
CanStart plan begun k = AllBegun (causes_of plan k) 0 (length (causes_of plan k)) begun

abbrev pub key_cmp : ℕ × ℕ → ℕ × ℕ → Ordering
key_cmp x y = ordering_then (nat_cmp x.0 y.0) (nat_cmp x.1 y.1)

-- a row that can start comes into the queue at its ready tick
abbrev pub Considers : Plan → List ℕ → List ℕ → List Bool → ℕ → List (ℕ × ℕ) → List (ℕ × ℕ) → Type 0
Considers plan base starts begun k old new = (CanStart plan begun k × (new ≡ insert_key key_cmp old (due_of plan base (at starts) k, k))) ⊎ ((CanStart plan begun k → ⊥) × (new ≡ old))

-- of the rows ks, those that can start come into the queue at their ready ticks, and nothing else changes
pub record Queues (plan : Plan) (base : List ℕ) (starts : List ℕ) (begun : List Bool) (ks : List ℕ) (old new : List (ℕ × ℕ)) : Type 0 where
  pub kept : (d : ℕ × ℕ) → Mem d old → Mem d new
  pub added : (d : ℕ × ℕ) → Mem d new → Mem d old ⊎ (Mem d.1 ks × CanStart plan begun d.1 × (d.0 ≡ due_of plan base (at starts) d.1))
  pub all : (k : ℕ) → Mem k ks → CanStart plan begun k → Mem (due_of plan base (at starts) k, k) new
