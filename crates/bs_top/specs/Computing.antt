-- What the steps between reading and writing come to.
use Rattle.std.specs.Prelude.{◌≡◌, ℕ, Result, Ok, Err}
use Rattle.bs_log.specs.declared.log.Log.{Log}
use Rattle.bs_log.specs.declared.outcome.Outcome.{Outcome}
use Rattle.bs_report.specs.declared.faults.Fault.{Fault}
use Rattle.bs_report.specs.declared.faults.Fault.TheVariants as fault
use Rattle.bs_top.specs.declared.stopped.Stopped.{Stopped}
use Rattle.bs_top.specs.declared.stopped.Stopped.TheVariants.{Refused, NoFile, ReadFault, Memory}
use Rattle.bs_top.specs.Verdicts.{judged}
use Rattle.bs_semantics.specs.Serial.{Machine}
use Rattle.bs_times.specs.Net.{Starts, net_of}
use Rattle.bs_times.specs.Times.{IsConsistent}
use Rattle.bs_times.specs.Outcomes.{outcome_of}
use Rattle.bs_tree.specs.declared.tree.Program.{Program}

abbrev pub IsComputed : Fault → Type 0
IsComputed fault.BadWords = ⊥
IsComputed (fault.TooBig limit) = ⊥
IsComputed _ = Unit {0}

-- why a program isn't run whose verdict isn't Clean, unless memory was wanting
abbrev pub IsUnclean : Program → ℕ → Stopped → Type 0
IsUnclean p limit Memory = Unit {0}
IsUnclean p limit stop = judged p limit (Err stop)

-- the outcome of a log on a machine at its consistent table
abbrev pub IsOutcomeOf : Log → Machine → Outcome → Type 0
IsOutcomeOf log m o = (s : Starts) × IsConsistent (net_of log m) s × (o ≡ outcome_of log m s)

-- neither words nor files are at fault
abbrev pub IsComputedStop : Stopped → Type 0
IsComputedStop (Refused fault) = IsComputed fault
IsComputedStop NoFile = ⊥
IsComputedStop ReadFault = ⊥
IsComputedStop Memory = Unit {0}

abbrev pub Computes : {A : Type 0} → Result A Stopped → Type 0
Computes (Ok a) = Unit {0}
Computes (Err stop) = IsComputedStop stop
