-- The waves of a log on a machine (docs/model.md).
use Rattle.std.specs.Prelude.{◌≡◌, ℕ, Bool, List, Option, Some, None, Ok, Err}
use Rattle.bs_line.specs.declared.corrections.Correction.{Correction}
use Rattle.bs_log.specs.declared.log.Log.{Log}
use Rattle.bs_machine.specs.Machine.{MachineOf, machine_view}
use Rattle.bs_machine.specs.declared.fitted.Fitted.{Fitted}
use Rattle.bs_report.specs.declared.faults.Fault.TheVariants as fault
use Rattle.bs_settle.specs.Noted.{AreNoted}
use Rattle.bs_settle.specs.Settled.{IsSpent, StillAt}
use Rattle.bs_settle.specs.declared.settling.BudgetSpent.{BudgetSpent}
use Rattle.bs_times.specs.Machine.{machine_of}
pub use Rattle.bs_times.specs.Budget.{budget_of}
use Rattle.bs_times.specs.Net.{Net, Ticks, net_of}
use Rattle.bs_top.specs.Step.{Step}
use Rattle.bs_top.specs.declared.stopped.Stopped.TheVariants.{Refused}

-- all messages are thought to arrive at tick 0
abbrev pub no_ticks : Ticks
no_ticks m = 0

-- the net of a log on a machine that was fitted to the log's chares
pub record IsNetOn (kept : Log) (m : MachineOf) (net : Net) : Type 0 where
  pub fitted : Fitted
  pub is_machine : machine_view fitted.machine ≡ m
  pub is_fitted : fitted.chares ≡ kept.chares
  pub is_net : net ≡ net_of kept (machine_of fitted)

-- so many waves settle the log on the machine: the last of them changes no tick
abbrev pub IsEnough : Log → MachineOf → ℕ → Type 0
IsEnough kept m most = (net : Net) × IsNetOn kept m net × StillAt net no_ticks most

-- or the last of them still changes one
abbrev pub IsTooFew : Log → MachineOf → ℕ → BudgetSpent → Type 0
IsTooFew kept m most spent = (net : Net) × IsNetOn kept m net × IsSpent net no_ticks most spent

-- a number of waves that is given is enough, or is spent
unfoldable pub within : Option ℕ → Log → MachineOf → Step (Unit {0})
within None kept m result = Ok tt ≡ result
within (Some most) kept m (Ok _) = IsEnough kept m most
within (Some most) kept m (Err stop) = (spent : BudgetSpent) × IsTooFew kept m most spent × (stop ≡ Refused (fault.BudgetSpent spent))

-- the greatest number of waves: the given one, or one that is enough
abbrev pub most_waves : Option ℕ → Log → ℕ
most_waves None kept = budget_of kept
most_waves (Some most) kept = most

-- what each wave of a log on a machine changes, where they settle (true), or where the last one still changes a tick (false)
abbrev pub AreWavesOn : Option ℕ → Log → MachineOf → List (List Correction) → Bool → Type 0
AreWavesOn waves kept m lists settled = (net : Net) × IsNetOn kept m net × AreNoted net no_ticks (most_waves waves kept) lists settled
