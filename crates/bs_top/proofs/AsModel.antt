-- A run from the log is asked for as the model is, and answered alike.
use Rattle.std.proofs.Common.{◌≡◌, ℕ, List, length, refl, sym, ap, subst, ◌∙◌, inl, inr, None, Some, Result, Ok, Err, IfOk}
use Rattle.bs_desk.specs.Outside.{Files}
use Rattle.bs_log.specs.Collected.{log_of}
use Rattle.bs_log.specs.declared.history.History.{History}
use Rattle.bs_log.specs.declared.log.Log.{Log}
use Rattle.bs_log.specs.declared.outcome.Outcome.{Outcome}
use Rattle.bs_rounds.proofs.Begun.{round_count}
use Rattle.bs_semantics.specs.Rounds.{round}
use Rattle.bs_semantics.specs.Serial.{IsSerial, Machine, timed}
use Rattle.bs_semantics.specs.Verdict as rounds
use Rattle.bs_times.specs.Net.{Starts, net_of}
use Rattle.bs_times.specs.Times.{IsConsistent}
use Rattle.bs_times.specs.Outcomes.{outcome_of}
use Rattle.bs_tree.specs.declared.tree.Program.{Program}
use Rattle.bs_machine.specs.Machine.{MachineOf}
use Rattle.bs_top.specs.Answer.{Answer, IsAnswer, reply_to}
use Rattle.bs_top.specs.Inputs.{accepted, fits, machine_named}
use Rattle.bs_top.specs.Verdicts.{judged, logged}
use Rattle.bs_top.specs.commands.Run.{ran}
use Rattle.bs_top.specs.Reports.{serial_run}
use Rattle.bs_top.specs.commands.Model.{simulated}
use Rattle.bs_top.specs.Waves.{within}
use Rattle.bs_top.specs.Computing.{IsOutcomeOf}
use Rattle.bs_top.specs.Step.{Said, Step, and_then}
use Rattle.bs_words.specs.Machine.{MachineWord}
use Rattle.bs_top.specs.Words.{model, run}
use Rattle.bs_top.specs.declared.stopped.Stopped.{Stopped}
use Rattle.bs_top.proofs.Simulating.{histories_of, judged_by_log, log_by_judged, no_log, not_judged}

abbrev pub nothing : Result (Unit {0}) Stopped
nothing = Ok tt

abbrev pub stopped_at : Stopped → Result (Unit {0}) Stopped
stopped_at stop = Err stop

-- one step after the other, where the other gives what a third gives
after : {A B : Type 0} (first : Step A) (next other : A → Step B) → ((a : A) (r : Result B Stopped) → next a r → other a r) → (r : Result B Stopped) → and_then first next r → and_then first other r
after first next other f (Ok b) h = (h.0, h.1, f h.0 (Ok b) h.2)
after first next other f (Err stop) (inl h) = inl h
after first next other f (Err stop) (inr h) = inr (h.0, h.1, f h.0 (Err stop) h.2)

module _ (p : Program) (m : MachineOf) (limit : ℕ) where
  abbrev by_log : Step Said
  by_log = and_then (logged p limit) (λ kept. and_then (within None kept m) (λ _. serial_run p m limit))

  abbrev by_model : Step Said
  by_model = and_then (judged p limit) (λ _. serial_run p m limit)

  ends_as_model : (r : Result Said Stopped) → by_log r → by_model r
  unfolding within
  ends_as_model (Ok said) h = (tt, judged_by_log p limit h.0 h.1, h.2.2)
  ends_as_model (Err stop) (inl h) = inl (not_judged p limit stop h)
  ends_as_model (Err stop) (inr (kept, is, inl e)) = absurd (no_stop stop e)
    where
      no_stop : (stop : Stopped) → nothing ≡ stopped_at stop → ⊥
      no_stop stop e = cc
  ends_as_model (Err stop) (inr (kept, is, inr h)) = absurd h.2

  ends_as_run : (r : Result Said Stopped) → by_model r → by_log r
  unfolding within
  ends_as_run (Ok said) h = let is = log_by_judged p limit h.1 in (is.0, is.1, (tt, refl, h.2))
  ends_as_run (Err stop) (inl h) = inl (no_log p limit stop h)
  ends_as_run (Err stop) (inr h) = absurd h.2

  run_as_model : (r : Result Said Stopped) → ran None p m limit r → simulated p m limit r
  unfolding ran simulated
  run_as_model r h = after (fits p.chares m) (λ _. by_log) (λ _. by_model) (λ _ r. ends_as_model r) r h

  model_as_run : (r : Result Said Stopped) → simulated p m limit r → ran None p m limit r
  unfolding ran simulated
  model_as_run r h = after (fits p.chares m) (λ _. by_model) (λ _. by_log) (λ _ r. ends_as_run r) r h

module _ (files : Files) (name : List ℕ) (word : MachineWord) (limit : ℕ) where
  replies_as_model : (r : Result Said Stopped) → reply_to files (Some (run name word limit None)) r → reply_to files (Some (model name word limit)) r
  unfolding reply_to
  replies_as_model r h = after (accepted files name) (λ p. and_then (machine_named files word) (λ m. ran None p m limit)) (λ p. and_then (machine_named files word) (λ m. simulated p m limit))
      (λ p. after (machine_named files word) (λ m. ran None p m limit) (λ m. simulated p m limit) (λ m. run_as_model p m limit)) r h

  replies_as_run : (r : Result Said Stopped) → reply_to files (Some (model name word limit)) r → reply_to files (Some (run name word limit None)) r
  unfolding reply_to
  replies_as_run r h = after (accepted files name) (λ p. and_then (machine_named files word) (λ m. simulated p m limit)) (λ p. and_then (machine_named files word) (λ m. ran None p m limit))
      (λ p. after (machine_named files word) (λ m. simulated p m limit) (λ m. ran None p m limit) (λ m. model_as_run p m limit)) r h

  pub answers_as_model : (a : Answer) → IsAnswer files (Some (run name word limit None)) a → IsAnswer files (Some (model name word limit)) a
  answers_as_model a h = record { reply = h.reply; is_reply = replies_as_model h.reply h.is_reply; is_answer = h.is_answer }

  pub answers_as_run : (a : Answer) → IsAnswer files (Some (model name word limit)) a → IsAnswer files (Some (run name word limit None)) a
  answers_as_run a h = record { reply = h.reply; is_reply = replies_as_run h.reply h.is_reply; is_answer = h.is_answer }

module _ (p : Program) (limit : ℕ) where
  pub verdict_count : (v : rounds.Verdict) → rounds.IsVerdict p limit v → (hs : List History) → v ≡ rounds.clean hs → length hs ≡ p.chares
  verdict_count _ (rounds.is_too_long n before long) hs e = absurd (cc)
  verdict_count _ (rounds.is_twice n before size t two) hs e = absurd (cc)
  verdict_count _ (rounds.is_clean n clean) hs e = ap length (sym (same (round p limit n) hs e)) ∙ round_count p limit n
    where
      same : (a b : List History) → rounds.clean a ≡ rounds.clean b → a ≡ b
      same a b e = cc

  -- the log of a program is of its chares
  pub chares_logged : (log : Log) → logged p limit (Ok log) → log.chares ≡ p.chares
  unfolding log_of
  chares_logged log h =
      let is = histories_of p limit log h in
      ap (λ (l : Log). l.chares) is.2 ∙ verdict_count (rounds.clean is.0) is.1 is.0 refl

  -- what a log says at its consistent table is what the serial machine model gives
  pub is_serial : (m : Machine) (log : Log)
      → ((hs : List History) (s : Starts) → rounds.IsVerdict p limit (rounds.clean hs) → IsConsistent (net_of (log_of hs (length p.entries)) m) s → IsSerial p limit m (timed (outcome_of (log_of hs (length p.entries)) m s)))
      → logged p limit (Ok log) → (o : Outcome) → IsOutcomeOf log m o → IsSerial p limit m (timed o)
  is_serial m log told h o f =
      let is = histories_of p limit log h in
      let table = subst (λ (l : Log). IsConsistent (net_of l m) f.0) is.2 f.1 in
      subst (λ (z : Outcome). IsSerial p limit m (timed z)) (sym (f.2 ∙ ap (λ (l : Log). outcome_of l m f.0) is.2)) (told is.0 f.0 is.1 table)

pub if_ok : {A E : Type 0} (r : Result A E) (P Q : A → Type 0) → ((a : A) → P a → Q a) → IfOk r P → IfOk r Q
if_ok (Ok a) P Q f h = f a h
if_ok (Err e) P Q f h = tt
