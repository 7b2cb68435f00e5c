-- What a log says of its times is what the serial machine model gives.
use Rattle.std.proofs.Common.{◌≡◌, ℕ, List, length, refl, sym, ap, ◌∙◌, subst, Option, None, Ok}
use Rattle.bs_log.specs.Collected.{log_of}
use Rattle.bs_log.specs.declared.history.History.{History}
use Rattle.bs_log.specs.declared.outcome.Outcome.{Outcome}
use Rattle.bs_machine.specs.Machine.{MachineOf}
use Rattle.bs_semantics.specs.Serial.{IsSerial, Machine, timed}
use Rattle.bs_semantics.specs.Verdict.{IsVerdict, clean}
use Rattle.bs_times.specs.Machine.{IsTimely, machine_of}
use Rattle.bs_times.specs.Net.{Starts, net_of}
use Rattle.bs_times.specs.Outcomes.{outcome_of}
use Rattle.bs_times.specs.Times.{IsConsistent}
use Rattle.bs_tree.specs.declared.tree.Program.{Program}
use Rattle.bs_top.specs.Answer.{Answer, answer_of}
use Rattle.bs_top.specs.Reports.{IsPrediction, IsReport, reported}
use Rattle.bs_top.specs.Complete.{IsJournaled, IsPredicted, IsReported}
use Rattle.bs_top.specs.Step.{Said}
use Rattle.bs_top.specs.Known.{Known, LogLaws, OneSerial}
use Rattle.bs_top.proofs.AsModel.{verdict_count}
use Rattle.bs_top.proofs.OneAnswer.{one_run}
use Rattle.bs_top.proofs.OneMachine.{one_machine}

outcome_is : (o q : Outcome) → timed o ≡ timed q → o ≡ q
outcome_is o q e = cc

module _ (serial : OneSerial) (p : Program) (limit : ℕ) (hs : List History) (verdict : IsVerdict p limit (clean hs))
    (told : (m : Machine) (s : Starts) → IsTimely m → IsConsistent (net_of (log_of hs (length p.entries)) m) s → IsSerial p limit m (timed (outcome_of (log_of hs (length p.entries)) m s)))
    (logs : LogLaws) (m : MachineOf) where
  count : (log_of hs (length p.entries)).chares ≡ p.chares
  unfolding log_of
  count = verdict_count p limit (clean hs) verdict hs refl

  one_said : (a b : Said) → IsReport p m limit a → IsPrediction (log_of hs (length p.entries)) m b → b ≡ a
  one_said a b h k =
      let machine = one_machine k.fitted h.fitted (k.is_machine ∙ sym h.is_machine) (k.is_fitted ∙ (count ∙ sym h.is_fitted)) in
      let given = told (machine_of k.fitted) k.starts (logs.timely k.fitted) k.is_consistent in
      let o = outcome_of (log_of hs (length p.entries)) (machine_of k.fitted) k.starts in
      let same = outcome_is o h.outcome (serial p limit (machine_of h.fitted) (timed o) (timed h.outcome) (subst (λ m. IsSerial p limit m (timed o)) machine given) h.is_outcome) in
      k.is_said ∙ ap reported same ∙ sym h.is_said

  pub as_serial : (a b : Answer) → IsReported p m limit a → IsPredicted (log_of hs (length p.entries)) m b → b ≡ a
  as_serial a b h k = k.2 ∙ ap (λ s. answer_of (Ok s)) (one_said h.0 k.0 h.1 k.1) ∙ sym h.2

  -- behind a journal the answer is that of the same report
  pub behind_journal : (waves : Option ℕ) (into : List ℕ) (a b : Answer) → IsReported p m limit a → IsJournaled waves into (log_of hs (length p.entries)) m b → record b { note = None } ≡ a
  behind_journal waves into a b h k =
      let j = k.1 in
      let no_note = ap (λ (s : Said). s.note) j.is_report.is_said in
      ap (λ (x : Answer). record x { note = None }) (k.2 ∙ ap (λ s. answer_of (Ok s)) j.is_said)
      ∙ (λ i. record (answer_of (Ok j.report)) { note = (sym no_note) i })
      ∙ as_serial a (answer_of (Ok j.report)) h (j.report, j.is_report, refl)

-- two reports of what the serial machine model gives are one answer
module _ (known : Known) where
  pub as_reported : (p : Program) (m : MachineOf) (limit : ℕ) (a b : Answer) → IsReported p m limit a → IsReported p m limit b → b ≡ a
  as_reported p m limit a b h k = k.2 ∙ ap answer_of (one_run known p m limit (Ok k.0) (Ok h.0) k.1 h.1) ∙ sym h.2
