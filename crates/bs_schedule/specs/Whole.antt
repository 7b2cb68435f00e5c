-- The plan of all rows of a log.
use Rattle.std.specs.Prelude.{◌≡◌, ◌+◌, ◌++◌, ℕ, List, map, length}
use Rattle.bs_log.specs.declared.log.MailRef.{MailRef}
use Rattle.bs_times.specs.Net.{Net, HasRow}
use Rattle.bs_schedule.specs.declared.plan.Cause.{Cause}
use Rattle.bs_schedule.specs.declared.plan.Plan.{Plan}
use Rattle.bs_schedule.specs.Plan.{at, causes_of}

-- a row that is waited for until it ends
abbrev pub block_cause : Net → ℕ → Cause
block_cause net x = record { row = x; delay = net.duration x }

-- a message that is waited for until it arrives
abbrev pub mail_cause : Net → MailRef → Cause
mail_cause net m = record { row = m.row; delay = net.travel m }

-- the causes of a row of the net: its block causes, and then its message causes
abbrev pub causes_in : Net → ℕ → List Cause
causes_in net i = map (block_cause net) (net.after i) ++ map (mail_cause net) (net.mail i)

-- each row of the net is in the plan, with its processor, its duration and its causes
pub record IsWholePlan (net : Net) (plan : Plan) : Type 0 where
  pub rows : length plan.times ≡ net.rows + 1
  pub homes : (i : ℕ) → HasRow net i → at plan.homes i ≡ net.home i
  pub times : (i : ℕ) → HasRow net i → at plan.times i ≡ net.duration i
  pub causes : (i : ℕ) → HasRow net i → causes_of plan i ≡ causes_in net i
