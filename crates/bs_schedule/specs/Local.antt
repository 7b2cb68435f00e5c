-- The plan of the rows of one processor, which have numbers of their own there.
use Rattle.std.specs.Prelude.{◌≡◌, ◌≤◌, ◌<◌, ℕ, List, map, length}
use Rattle.bs_log.specs.Lists.{Mem}
use Rattle.bs_times.specs.Net.{Net, Ticks}
use Rattle.bs_times.specs.Times.{IsOn, greatest}
use Rattle.bs_schedule.specs.declared.plan.Cause.{Cause}
use Rattle.bs_schedule.specs.declared.plan.Plan.{Plan}
use Rattle.bs_schedule.specs.Plan.{IsRow, at, causes_of, causing}

-- row k of the plan is row g k of the net: these are the rows of processor p, in their order, with their block causes
pub record IsLocalPlan (net : Net) (p : ℕ) (plan : Plan) (g : ℕ → ℕ) : Type 0 where
  pub on : (k : ℕ) → IsRow plan k → IsOn net p (g k)
  pub all : (i : ℕ) → IsOn net p i → (k : ℕ) × IsRow plan k × (g k ≡ i)
  pub rising : (j k : ℕ) → IsRow plan j → IsRow plan k → j < k → g j < g k
  pub homes : (k : ℕ) → IsRow plan k → at plan.homes k ≡ 0
  pub times : (k : ℕ) → IsRow plan k → at plan.times k ≡ net.duration (g k)
  pub causes : (k : ℕ) → IsRow plan k → map g (causing (causes_of plan k)) ≡ net.after (g k)
  pub delays : (k : ℕ) (c : Cause) → IsRow plan k → Mem c (causes_of plan k) → IsRow plan c.row × (c.delay ≡ net.duration (g c.row))

-- the base tick of each row is what its messages give, at the ticks that are held
abbrev pub IsHeld : Net → Ticks → Plan → List ℕ → (ℕ → ℕ) → Type 0
IsHeld net held plan base g = (k : ℕ) → IsRow plan k → at base k ≡ greatest (map held (net.mail (g k)))
