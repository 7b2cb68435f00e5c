-- Plans: rows with their processors, durations and causes, and when they start. Rows are numbered from 1, and place 0 of
-- each list isn't used.
use Rattle.std.specs.Prelude.{◌≡◌, ◌≤◌, ◌<◌, ◌+◌, ◌^◌, ◌↔◌, ℕ, max, List, [], map, length, slice_index_or}
use Rattle.bs_log.specs.Lists.{Mem}
use Rattle.bs_times.specs.Net.{Starts}
use Rattle.bs_times.specs.Times.{greatest, Runs}
use Rattle.bs_schedule.specs.declared.plan.Cause.{Cause}
use Rattle.bs_schedule.specs.declared.plan.Plan.{Plan}

-- the number at a place, and 0 behind the last
abbrev pub at : List ℕ → ℕ → ℕ
at xs i = slice_index_or xs i 0

abbrev pub causes_of : Plan → ℕ → List Cause
causes_of plan i = slice_index_or plan.causes i []

abbrev pub dependants_of : Plan → ℕ → List ℕ
dependants_of plan i = slice_index_or plan.dependants i []

-- the rows of causes
abbrev pub causing : List Cause → List ℕ
causing causes = map (λ c. c.row) causes

-- the tick from which a cause lets its row start
abbrev pub comes_at : Starts → Cause → ℕ
comes_at s c = s c.row + c.delay

-- the ready tick of a row: the greatest of its base tick and what its causes give
abbrev pub due_of : Plan → List ℕ → Starts → ℕ → ℕ
due_of plan base s i = max (at base i) (greatest (map (comes_at s) (causes_of plan i)))

abbrev pub ends_of : Plan → Starts → ℕ → ℕ
ends_of plan s i = s i + at plan.times i

-- causes whose rows are below n
abbrev pub CausesFit : List Cause → ℕ → Type 0
CausesFit causes n = (k : ℕ) (d : Cause) → k < length causes → (slice_index_or causes k d).row < n

-- what a plan is made of: rows on processors that are there, whose causes are less deep
pub record AreRows (processors : ℕ) (homes times : List ℕ) (causes : List (List Cause)) : Type 0 where
  pub depth : ℕ → ℕ
  pub some : 1 ≤ length times
  pub few : length times ≤ 2 ^ 20
  pub as_many_homes : length homes ≡ length times
  pub as_many_causes : length causes ≡ length times
  pub home : (i : ℕ) → 1 ≤ i → i < length times → at homes i < processors
  pub short : (i : ℕ) → at times i ≤ 2 ^ 64
  pub cause : (i : ℕ) (c : Cause) → i < length times → Mem c (slice_index_or causes i []) → (1 ≤ c.row) × (c.row < length times) × (1 ≤ c.delay) × (c.delay ≤ 2 ^ 64) × (depth c.row < depth i)

-- such rows, with the rows of which each is a cause
pub record IsPlan (plan : Plan) : Type 0 where
  pub rows : AreRows plan.processors plan.homes plan.times plan.causes
  pub as_many : length plan.dependants ≡ length plan.times
  pub sound : (i k : ℕ) → Mem k (dependants_of plan i) → (1 ≤ k) × (k < length plan.times) × Mem i (causing (causes_of plan k))
  pub whole : (i k : ℕ) → 1 ≤ k → k < length plan.times → Mem i (causing (causes_of plan k)) → Mem k (dependants_of plan i)

abbrev pub IsRow : Plan → ℕ → Type 0
IsRow plan i = (1 ≤ i) × (i < length plan.times)

-- on each processor the rows stand in the order of (ready tick, number), and each starts at the greater of its ready tick
-- and the end of the row before it
pub record IsSchedule (plan : Plan) (base : List ℕ) (s : Starts) : Type 0 where
  pub order : ℕ → List ℕ
  pub all : (p i : ℕ) → (IsRow plan i × (at plan.homes i ≡ p)) ↔ Mem i (order p)
  pub runs : (p : ℕ) → Runs (due_of plan base s) (ends_of plan s) s 0 (order p)
