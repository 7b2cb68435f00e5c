-- A text is that of one log at most, or has one first fault, and a log has one prediction on a machine, one journal, one
-- trace, one chain and one text of its points.
use Rattle.std.proofs.Common.{◌≡◌, ◌≤◌, ◌<◌, ◌+◌, ℕ, Bool, true, false, List, [], ◌∷◌, length, refl, sym, ap, ap₂, ◌∙◌, subst, inl, inr, Option, None, Some, Ok, Err, arith}
use Rattle.bs_desk.specs.Outside.{Files}
use Rattle.bs_line.specs.declared.corrections.Correction.{Correction}
use Rattle.bs_log.specs.End as log
use Rattle.bs_log.specs.declared.log.Log.{Log}
use Rattle.bs_log.specs.declared.log.Row.{Row}
use Rattle.bs_log.specs.Valid.{IsValid}
use Rattle.bs_logread.specs.Fault.{IsFault}
use Rattle.bs_logread.specs.declared.fault.LogFault.{LogFault}
use Rattle.bs_logread.specs.declared.fault.LogFault.TheVariants as read
use Rattle.bs_logtext.specs.Text.{log_text}
use Rattle.bs_machine.specs.Machine.{MachineOf, machine_view}
use Rattle.bs_machine.specs.declared.fitted.Fitted.{Fitted}
use Rattle.bs_report.specs.declared.faults.Fault.TheVariants as fault
use Rattle.bs_report.specs.Fault.{fault_text}
use Rattle.bs_report.specs.Trace.{trace_text}
use Rattle.bs_settle.specs.Noted.{AreNoted}
use Rattle.bs_settle.specs.Settled.{IsSpent, StillAt}
use Rattle.bs_settle.specs.Timed.{starts_from}
use Rattle.bs_settle.specs.declared.settling.BudgetSpent.{BudgetSpent}
use Rattle.bs_semantics.specs.Serial.{Machine}
use Rattle.bs_times.specs.Machine.{IsTimely, machine_of}
use Rattle.bs_times.specs.Net.{Causal, Net, Starts, net_of}
use Rattle.bs_times.specs.Outcomes.{outcome_of}
use Rattle.bs_times.specs.Times.{IsConsistent}
use Rattle.bs_top.specs.declared.reply.Ending.TheVariants.{Run, Spent}
use Rattle.bs_top.specs.declared.stopped.Stopped.TheVariants.{Refused}
use Rattle.bs_top.specs.Waves.{AreWavesOn, IsEnough, IsNetOn, IsTooFew, most_waves, no_ticks, within}
use Rattle.bs_top.specs.Inputs.{IsLogFault, contents, fits, log_in, log_limit, log_named}
use Rattle.bs_top.specs.Reports.{IsPrediction, reported, timed_on}
use Rattle.bs_top.specs.commands.Predict.{predicted_with, predicted}
use Rattle.bs_top.specs.commands.Journal.{journal_in, journaled, journaled_on}
use Rattle.bs_path.specs.Chain.{IsCritical}
use Rattle.bs_top.specs.commands.Chain.{chain_on, chain_said, chained}
use Rattle.bs_top.specs.commands.Points.{IsTextOf, points_said}
use Rattle.bs_top.specs.commands.Sweep.{sweep_on, views}
use Rattle.bs_top.specs.commands.Trace.{trace_on, traced}
use Rattle.bs_top.specs.commands.Tune.{tune_on, tuned as tuning_on}
use Rattle.bs_whatif.specs.Figures.{AreFitted, swept, tuned}
use Rattle.bs_whatif.specs.Rescaled.{IsFraction, rescaled}
use Rattle.bs_words.specs.declared.tuning.Tuning.{Tuning}
use Rattle.bs_top.specs.Targets.{errors, output}
use Rattle.bs_top.specs.Step.{Said, and_then}
use Rattle.bs_top.specs.Known.{LogLaws}
use Rattle.bs_top.proofs.OneMachine.{one_machine}
use Rattle.bs_top.proofs.OneStep.{IsOne, one_after}

true_or_false : {A : Type 0} → true ≡ false → A
true_or_false e = absurd (cc)

-- a spent budget and a trace, as they are told
abbrev spent_said : List ℕ → List (List Correction) → BudgetSpent → Said
spent_said into lists spent = record { ending = Spent; note = Some (journal_in into lists false); target = errors; text = fault_text (fault.BudgetSpent spent) }

abbrev traced_said : Log → Machine → List ℕ → Said
traced_said kept machine starts = record { ending = Run (log.end_of kept); note = None; target = output; text = trace_text kept machine starts }

-- tables that agree at each row start them alike
starts_same : (s z : Starts) (k : ℕ) (rows : List Row) → ((i : ℕ) → k ≤ i → i < k + length rows → s i ≡ z i) → starts_from s k rows ≡ starts_from z k rows
starts_same s z k [] same = refl
starts_same s z k (r ∷ rs) same = ap₂ (λ x xs. x ∷ xs) (same k (omega arith) (omega arith)) (starts_same s z (k + 1) rs (λ i low high. same i (omega (arith, low)) (omega (arith, high))))

first_same : {x y : MachineOf} {xs ys : List MachineOf} → x ∷ xs ≡ y ∷ ys → x ≡ y
first_same e = cc

rest_same : {x y : MachineOf} {xs ys : List MachineOf} → x ∷ xs ≡ y ∷ ys → xs ≡ ys
rest_same e = cc

module _ (laws : LogLaws) where
  -- a text that has a fault is no valid log's
  no_fault : (text : List ℕ) (kept : Log) (why : LogFault) → IsValid kept → log_text kept ≡ text → IsLogFault text why → ⊥
  no_fault text kept (read.Refused line rule) valid is h = laws.none kept line rule valid (subst (λ t. IsFault t line rule) (sym is) h)
  no_fault text kept read.Memory valid is h = h

  fault_is : (text : List ℕ) (a b : LogFault) → IsLogFault text a → IsLogFault text b → a ≡ b
  fault_is text (read.Refused m r) (read.Refused n s) h k = let e = laws.fault text m n r s h k in λ i. read.Refused (e.0 i) (e.1 i)
  fault_is text (read.Refused m r) read.Memory h k = absurd k
  fault_is text read.Memory b h k = absurd h

  one_text : (text : List ℕ) → IsOne (log_in text)
  unfolding log_in
  one_text text (Ok a) (Ok b) h k = ap (λ l. Ok l) (laws.text a b h.0 k.0 (h.1 ∙ sym k.1))
  one_text text (Ok a) (Err s) h k = absurd (no_fault text a k.0 h.0 h.1 k.1)
  one_text text (Err r) (Ok b) h k = absurd (no_fault text b h.0 k.0 k.1 h.1)
  one_text text (Err r) (Err s) h k = ap (λ t. Err t) (h.2 ∙ ap (λ f. Refused (fault.BadLog f)) (fault_is text h.0 k.0 h.1 k.1) ∙ sym k.2)

  pub one_log : (files : Files) (name : List ℕ) → IsOne (contents log_limit files name) → IsOne (log_named files name)
  unfolding log_named
  one_log files name one = one_after (contents log_limit files name) (λ text. log_in text) one one_text

  -- Waves: of a log whose causes come before what they cause.
  module _ (kept : Log) (causal : (machine : Machine) → IsTimely machine → Causal (net_of kept machine)) (m : MachineOf) where
    one_net : (a b : Net) → IsNetOn kept m a → IsNetOn kept m b → a ≡ b
    one_net a b h k = h.is_net ∙ ap (λ m. net_of kept m) (one_machine h.fitted k.fitted (h.is_machine ∙ sym k.is_machine) (h.is_fitted ∙ sym k.is_fitted)) ∙ sym k.is_net

    causal_on : (net : Net) → IsNetOn kept m net → Causal net
    causal_on net h = subst Causal (sym h.is_net) (causal (machine_of h.fitted) (laws.timely h.fitted))

    pub same_spent : (most : ℕ) (s z : BudgetSpent) → IsTooFew kept m most s → IsTooFew kept m most z → s ≡ z
    same_spent most s z h k = laws.spent h.0 (causal_on h.0 h.1) no_ticks most s z h.2 (subst (λ net. IsSpent net no_ticks most z) (one_net k.0 h.0 k.1 h.1) k.2)

    not_enough : (most : ℕ) (s : BudgetSpent) → IsTooFew kept m most s → IsEnough kept m most → ⊥
    not_enough most s h k = laws.either h.0 (causal_on h.0 h.1) no_ticks most s h.2 (subst (λ net. StillAt net no_ticks most) (one_net k.0 h.0 k.1 h.1) k.2)

    pub one_within : (waves : Option ℕ) → IsOne (within waves kept m)
    unfolding within
    one_within None r s h k = sym h ∙ k
    one_within (Some most) (Ok a) (Ok b) h k = refl
    one_within (Some most) (Ok a) (Err s) h k = absurd (not_enough most k.0 k.1 h)
    one_within (Some most) (Err r) (Ok b) h k = absurd (not_enough most h.0 h.1 k)
    one_within (Some most) (Err r) (Err s) h k = ap (λ t. Err t) (h.2 ∙ ap (λ f. Refused (fault.BudgetSpent f)) (same_spent most h.0 k.0 h.1 k.1) ∙ sym k.2)

    pub same_waves : (waves : Option ℕ) (a b : List (List Correction)) (p q : Bool) → AreWavesOn waves kept m a p → AreWavesOn waves kept m b q → (a ≡ b) × (p ≡ q)
    same_waves waves a b p q h k = laws.noting h.0 (causal_on h.0 h.1) no_ticks (most_waves waves kept) a b p q h.2 (subst (λ net. AreNoted net no_ticks (most_waves waves kept) b q) (one_net k.0 h.0 k.1 h.1) k.2)

  module _ (kept : Log) (valid : IsValid kept) (m : MachineOf) where
    comes_before : (machine : Machine) → IsTimely machine → Causal (net_of kept machine)
    comes_before machine timely = laws.causal kept machine valid timely

    same_prediction : (a b : Said) (h : IsPrediction kept m a) (k : IsPrediction kept m b) → outcome_of kept (machine_of h.fitted) h.starts ≡ outcome_of kept (machine_of k.fitted) k.starts
    same_prediction a b h k =
        let machine = one_machine k.fitted h.fitted (k.is_machine ∙ sym h.is_machine) (k.is_fitted ∙ sym h.is_fitted) in
        let table = subst (λ m. IsConsistent (net_of kept m) k.starts) machine k.is_consistent in
        laws.outcome kept (machine_of h.fitted) valid (laws.timely h.fitted) h.starts k.starts h.is_consistent table ∙ ap (λ m. outcome_of kept m k.starts) (sym machine)

    pub same_said : (a b : Said) → IsPrediction kept m a → IsPrediction kept m b → a ≡ b
    same_said a b h k = h.is_said ∙ ap reported (same_prediction a b h k) ∙ sym k.is_said

    one_timed : IsOne (timed_on kept m)
    one_timed (Ok a) (Ok b) h k = ap (λ s. Ok s) (same_said a b h k)
    one_timed (Ok a) (Err s) h k = absurd k
    one_timed (Err r) s h k = absurd h

    one_journal : (waves : Option ℕ) (into : List ℕ) (a b : Said) → journaled_on waves into kept m (Ok a) → journaled_on waves into kept m (Ok b) → a ≡ b
    one_journal waves into a b (inl h) (inl k) =
        let lists = (same_waves kept comes_before m waves h.lists k.lists true true h.are_waves k.are_waves).0 in
        let report = same_said h.report k.report h.is_report k.is_report in
        h.is_said ∙ (λ i. record (report i) { note = Some (journal_in into (lists i) true) }) ∙ sym k.is_said
    one_journal waves into a b (inl h) (inr k) = true_or_false (same_waves kept comes_before m waves h.lists k.lists true false h.are_waves k.are_waves).1
    one_journal waves into a b (inr h) (inl k) = true_or_false (sym (same_waves kept comes_before m waves h.lists k.lists false true h.are_waves k.are_waves).1)
    one_journal waves into a b (inr h) (inr k) =
        let lists = (same_waves kept comes_before m waves h.lists k.lists false false h.are_waves k.are_waves).0 in
        let spent = same_spent kept comes_before m (most_waves waves kept) h.spent k.spent h.is_spent k.is_spent in
        h.is_said ∙ (λ i. spent_said into (lists i) (spent i)) ∙ sym k.is_said

    one_journaled : (waves : Option ℕ) (into : List ℕ) → IsOne (journaled_on waves into kept m)
    one_journaled waves into (Ok a) (Ok b) h k = ap (λ s. Ok s) (one_journal waves into a b h k)
    one_journaled waves into (Ok a) (Err s) h k = absurd k
    one_journaled waves into (Err r) s h k = absurd h

    same_starts : (machine : Machine) → IsTimely machine → (s z : Starts) → IsConsistent (net_of kept machine) s → IsConsistent (net_of kept machine) z → starts_from s 1 kept.rows ≡ starts_from z 1 kept.rows
    same_starts machine timely s z h k = starts_same s z 1 kept.rows (λ i low high. laws.table (net_of kept machine) (comes_before machine timely) s z h k i (low, omega (arith, high)))

    one_trace : IsOne (trace_on kept m)
    one_trace (Ok a) (Ok b) h k =
        let machine = one_machine k.fitted h.fitted (k.is_machine ∙ sym h.is_machine) (k.is_fitted ∙ sym h.is_fitted) in
        let table = subst (λ m. IsConsistent (net_of kept m) k.starts) machine k.is_consistent in
        let starts = same_starts (machine_of h.fitted) (laws.timely h.fitted) h.starts k.starts h.is_consistent table in
        ap (λ s. Ok s) (h.is_said ∙ (λ i. traced_said kept ((sym machine) i) (starts i)) ∙ sym k.is_said)
    one_trace (Ok a) (Err s) h k = absurd k
    one_trace (Err r) s h k = absurd h

    one_chain : IsOne (chain_on kept m)
    one_chain (Ok a) (Ok b) h k =
        let machine = one_machine k.fitted h.fitted (k.is_machine ∙ sym h.is_machine) (k.is_fitted ∙ sym h.is_fitted) in
        let table = subst (λ m. IsConsistent (net_of kept m) k.starts) machine k.is_consistent in
        let critical = subst (λ m. IsCritical (net_of kept m) k.starts k.chain) machine k.is_critical in
        let net = net_of kept (machine_of h.fitted) in
        let same = laws.chain net (comes_before (machine_of h.fitted) (laws.timely h.fitted)) h.starts k.starts h.is_consistent table h.chain k.chain h.is_critical critical in
        ap (λ s. Ok s) (h.is_said ∙ ap (chain_said kept) same ∙ sym k.is_said)
    one_chain (Ok a) (Err s) h k = absurd k
    one_chain (Err r) s h k = absurd h

    one_tuned_text : (spans : Bool) (f : Fitted) (t : Tuning) → IsFraction t.num t.den → (a b : List ℕ) → IsTextOf spans (tuned kept f t.stmt t.num t.den) a → IsTextOf spans (tuned kept f t.stmt t.num t.den) b → a ≡ b
    one_tuned_text true f t fraction a b h k = laws.tuned_spans kept f t.stmt t.num t.den valid fraction a b h k
    one_tuned_text false f t fraction a b h k = laws.tuned_points kept f t.stmt t.num t.den valid fraction a b h k

    one_tune : (t : Tuning) (spans : Bool) → IsOne (tune_on t spans kept m)
    one_tune t spans (Ok a) (Ok b) h k =
        let machine = one_machine k.fitted h.fitted (k.is_machine ∙ sym h.is_machine) (k.is_fitted ∙ sym h.is_fitted) in
        let nets : tuned kept k.fitted t.stmt t.num t.den ≡ tuned kept h.fitted t.stmt t.num t.den = ap (λ m. net_of kept m ∷ net_of (rescaled kept t.stmt t.num t.den) m ∷ []) machine in
        let text = one_tuned_text spans h.fitted t h.is_fraction h.text k.text h.is_text (subst (λ nets. IsTextOf spans nets k.text) nets k.is_text) in
        ap (λ s. Ok s) (h.is_said ∙ ap (points_said kept) text ∙ sym k.is_said)
    one_tune t spans (Ok a) (Err s) h k = absurd k
    one_tune t spans (Err r) s h k = absurd h

    module _ (one : IsOne (fits kept.chares m)) where
      one_predicted : (waves : Option ℕ) → IsOne (predicted waves kept m)
      unfolding predicted
      one_predicted waves = one_after (fits kept.chares m) (λ _. and_then (within waves kept m) (λ _. timed_on kept m)) one
          (λ _. one_after (within waves kept m) (λ _. timed_on kept m) (one_within kept comes_before m waves) (λ _. one_timed))

      one_with_journal : (waves : Option ℕ) (into : List ℕ) → IsOne (journaled waves into kept m)
      unfolding journaled
      one_with_journal waves into = one_after (fits kept.chares m) (λ _. journaled_on waves into kept m) one (λ _. one_journaled waves into)

      pub one_foretold : (waves : Option ℕ) (journal : Option (List ℕ)) → IsOne (predicted_with waves journal kept m)
      one_foretold waves None = one_predicted waves
      one_foretold waves (Some into) = one_with_journal waves into

      pub one_traced : IsOne (traced kept m)
      unfolding traced
      one_traced = one_after (fits kept.chares m) (λ _. trace_on kept m) one (λ _. one_trace)

      pub one_chained : IsOne (chained kept m)
      unfolding chained
      one_chained = one_after (fits kept.chares m) (λ _. chain_on kept m) one (λ _. one_chain)

      pub one_tuned : (t : Tuning) (spans : Bool) → IsOne (tuning_on t spans kept m)
      unfolding tuning_on
      one_tuned t spans = one_after (fits kept.chares m) (λ _. tune_on t spans kept m) one (λ _. one_tune t spans)

  module _ (kept : Log) (valid : IsValid kept) where
    same_nets : (fs gs : List Fitted) → views fs ≡ views gs → AreFitted kept fs → AreFitted kept gs → swept kept fs ≡ swept kept gs
    same_nets [] [] e h k = refl
    same_nets [] (g ∷ gs) e h k = absurd (cc)
    same_nets (f ∷ fs) [] e h k = absurd (cc)
    same_nets (f ∷ fs) (g ∷ gs) e h k =
        let machine = one_machine f g (first_same e) (h f (inl refl) ∙ sym (k g (inl refl))) in
        ap₂ (λ net nets. net ∷ nets) (ap (net_of kept) machine) (same_nets fs gs (rest_same e) (λ x m. h x (inr m)) (λ x m. k x (inr m)))

    one_swept_text : (spans : Bool) (fs : List Fitted) (a b : List ℕ) → IsTextOf spans (swept kept fs) a → IsTextOf spans (swept kept fs) b → a ≡ b
    one_swept_text true fs a b h k = laws.spans kept fs valid a b h k
    one_swept_text false fs a b h k = laws.points kept fs valid a b h k

    pub one_sweep : (spans : Bool) (machines : List MachineOf) → IsOne (sweep_on spans kept machines)
    one_sweep spans machines (Ok a) (Ok b) h k =
        let nets = same_nets k.fitted h.fitted (k.are_machines ∙ sym h.are_machines) k.are_fitted h.are_fitted in
        let text = one_swept_text spans h.fitted h.text k.text h.is_text (subst (λ nets. IsTextOf spans nets k.text) nets k.is_text) in
        ap (λ s. Ok s) (h.is_said ∙ ap (points_said kept) text ∙ sym k.is_said)
    one_sweep spans machines (Ok a) (Err s) h k = absurd k
    one_sweep spans machines (Err r) s h k = absurd h

-- the log of a file is valid
pub valid_log : (files : Files) (name : List ℕ) (kept : Log) → log_named files name (Ok kept) → IsValid kept
unfolding log_named log_in
valid_log files name kept h = h.2.0
