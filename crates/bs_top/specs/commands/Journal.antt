-- The journal of the waves of a prediction (docs/output.md).
use Rattle.std.specs.Prelude.{◌≡◌, ◌⊎◌, ℕ, Bool, true, false, List, Option, Some, Ok, Err}
use Rattle.bs_line.specs.declared.corrections.Correction.{Correction}
use Rattle.bs_log.specs.declared.log.Log.{Log}
use Rattle.bs_machine.specs.Machine.{MachineOf}
use Rattle.bs_report.specs.Fault.{fault_text}
use Rattle.bs_report.specs.Journal.{journal_text}
use Rattle.bs_report.specs.declared.faults.Fault.TheVariants as fault
use Rattle.bs_settle.specs.declared.settling.BudgetSpent.{BudgetSpent}
use Rattle.bs_top.specs.Inputs.{fits}
use Rattle.bs_top.specs.Reports.{IsPrediction}
use Rattle.bs_top.specs.Step.{Step, Said, ◌>>=◌}
use Rattle.bs_top.specs.Targets.{Note, errors}
use Rattle.bs_top.specs.Waves.{IsTooFew, most_waves, AreWavesOn}
use Rattle.bs_top.specs.declared.reply.Ending.TheVariants.{Spent}

-- the journal of waves for the file of that name
abbrev pub journal_in : List ℕ → List (List Correction) → Bool → Note
journal_in name lists settled = record { name = name; text = journal_text lists settled }

-- the journal, and then the report
pub record IsJournal (waves : Option ℕ) (into : List ℕ) (kept : Log) (m : MachineOf) (said : Said) : Type 0 where
  pub lists : List (List Correction)
  pub are_waves : AreWavesOn waves kept m lists true
  pub report : Said
  pub is_report : IsPrediction kept m report
  pub is_said : said ≡ record report { note = Some (journal_in into lists true) }

-- the journal of a spent budget, and then the line of the refusal
pub record IsSpentJournal (waves : Option ℕ) (into : List ℕ) (kept : Log) (m : MachineOf) (said : Said) : Type 0 where
  pub lists : List (List Correction)
  pub are_waves : AreWavesOn waves kept m lists false
  pub spent : BudgetSpent
  pub is_spent : IsTooFew kept m (most_waves waves kept) spent
  pub is_said : said ≡ record { ending = Spent; note = Some (journal_in into lists false); target = errors; text = fault_text (fault.BudgetSpent spent) }

abbrev pub journaled_on : Option ℕ → List ℕ → Log → MachineOf → Step Said
journaled_on waves into kept m (Ok said) = IsJournal waves into kept m said ⊎ IsSpentJournal waves into kept m said
journaled_on waves into kept m (Err stop) = ⊥

-- what comes of a log on a machine with a journal
unfoldable pub journaled : Option ℕ → List ℕ → Log → MachineOf → Step Said
journaled waves into kept machine = do
  _ ← fits kept.chares machine
  journaled_on waves into kept machine
