-- A command has one answer: each of its steps gives one thing at most.
use Rattle.std.proofs.Common.{◌≡◌, ℕ, List, [], ◌∷◌, ◌++◌, length, refl, sym, ap, ◌∙◌, subst, Option, Some, None, Ok, Err}
use Rattle.std.specs.FinMap as map
use Rattle.bs_desk.specs.Outside.{Files}
use Rattle.bs_check.specs.Refusal.{Broken, IsRefused, refusal}
use Rattle.bs_check.specs.declared.fault.CheckFault.{CheckFault}
use Rattle.bs_check.specs.declared.fault.CheckFault.TheVariants as check
use Rattle.bs_log.specs.declared.log.Log.{Log}
use Rattle.bs_log.specs.declared.outcome.Outcome.{Outcome}
use Rattle.bs_machine.specs.File.{machine_in}
use Rattle.bs_machine.specs.Machine.{MachineOf, flat_in}
use Rattle.bs_times.specs.Machine.{IsTimely, machine_of}
use Rattle.bs_times.specs.Net.{Causal, net_of}
use Rattle.bs_report.specs.declared.faults.Fault.TheVariants as fault
use Rattle.bs_semantics.specs.Serial.{IsSerial, Machine, timed}
use Rattle.bs_tree.specs.declared.tree.Program.{Program}
use Rattle.bs_top.specs.declared.stopped.Stopped.TheVariants.{Refused}
use Rattle.bs_top.specs.Answer.{Answer, IsAnswer, answer_of, reply_to}
use Rattle.bs_top.specs.Reports.{IsOutcomeOn, IsReport, outcome_on, reported, serial_run}
use Rattle.bs_top.specs.Inputs.{accepted, checked, contents, file_limit, fits, fitting_machine, log_limit, log_named, machine_named, machines_behind, or_bad_machine, program_in, whole}
use Rattle.bs_top.specs.commands.Predict.{predicted_with}
use Rattle.bs_top.specs.Verdicts.{if_clean, judged, log_if_clean, logged}
use Rattle.bs_top.specs.commands.Emulate.{kept_in}
use Rattle.bs_top.specs.commands.Gen.{generated}
use Rattle.bs_top.specs.commands.Check.{printed}
use Rattle.bs_top.specs.commands.Run.{by_log, ran}
use Rattle.bs_top.specs.commands.Model.{simulated}
use Rattle.bs_top.specs.commands.Chain.{chained}
use Rattle.bs_top.specs.commands.Sweep.{sweep_on}
use Rattle.bs_top.specs.commands.Trace.{traced}
use Rattle.bs_top.specs.commands.Trial.{trial_limit, tried, tried_as}
use Rattle.bs_top.specs.commands.Tune.{tuned}
use Rattle.bs_top.specs.Waves.{within}
use Rattle.bs_top.specs.Step.{Said, Step, and_then, gives}
use Rattle.bs_top.specs.Words.{Asked, check as check_asked, model, emulate, run, predict, trace, chain, sweep, tune, gen, trial}
use Rattle.bs_gen.specs.Programs.{workload_text}
use Rattle.bs_words.specs.Machine.{MachineWord, flat, file}
use Rattle.bs_words.specs.declared.generated.Generated.{Generated}
use Rattle.bs_top.specs.Known.{Known}
use Rattle.bs_top.proofs.OneMachine.{one_machine}
use Rattle.bs_top.proofs.OneLog.{one_chained, one_foretold, one_log, one_sweep, one_traced, one_tuned, one_within, valid_log}
use Rattle.bs_top.proofs.Simulating.{histories_of}
use Rattle.bs_top.proofs.OneStep.{IsOne, one_after, one_given, one_where}

pub one_contents : (most : ℕ) (files : Files) (name : List ℕ) → IsOne (contents most files name)
unfolding contents
one_contents most files name = one_given (whole most (map.get files name))

pub one_named : (files : Files) (word : MachineWord) → IsOne (machine_named files word)
unfolding machine_named
one_named files (flat processors latency) = one_given (or_bad_machine (flat_in processors latency))
one_named files (file name) = one_after (contents file_limit files name) (λ bytes. gives (or_bad_machine (machine_in bytes))) (one_contents file_limit files name) (λ bytes. one_given (or_bad_machine (machine_in bytes)))

pub one_fit : (chares : ℕ) (m : MachineOf) → IsOne (fits chares m)
unfolding fits
one_fit chares m r s a b = sym a ∙ b

one_fitting : (files : Files) (chares : ℕ) (word : MachineWord) → IsOne (fitting_machine files chares word)
unfolding fitting_machine
one_fitting files chares word =
    one_after (machine_named files word) (λ m. and_then (fits chares m) (λ _. gives (Ok m))) (one_named files word)
    (λ m. one_after (fits chares m) (λ _. gives (Ok m)) (one_fit chares m) (λ _. one_given (Ok m)))

pub one_machines : (files : Files) (chares : ℕ) (words : List MachineWord) (before : List MachineOf) → IsOne (machines_behind before files chares words)
unfolding machines_behind
one_machines files chares [] before = one_given (Ok before)
one_machines files chares (word ∷ words) before =
    one_after (fitting_machine files chares word) (λ m. machines_behind (before ++ m ∷ []) files chares words) (one_fitting files chares word)
    (λ m. one_machines files chares words (before ++ m ∷ []))

outcome_is : (o q : Outcome) → timed o ≡ timed q → o ≡ q
outcome_is o q e = cc

same_broken : (o : Option Broken) (a b : Broken) → o ≡ Some a → o ≡ Some b → a ≡ b
same_broken o a b h k = cc

no_refusal : {B : Type 0} (o : Option Broken) {a : Broken} → o ≡ None → o ≡ Some a → B
no_refusal o h k = absurd (cc)

broken_is : (p : Program) (a b : CheckFault) → IsRefused p a → IsRefused p b → a ≡ b
broken_is p (check.Refused s r) (check.Refused t q) h k = ap (λ (w : Broken). check.Refused w.stmt w.rule) (same_broken (refusal p) (record { stmt = s; rule = r }) (record { stmt = t; rule = q }) h k)
broken_is p (check.Refused s r) check.Memory h k = absurd k
broken_is p check.Memory b h k = absurd h

not_refused : (p : Program) (why : CheckFault) → refusal p ≡ None → IsRefused p why → ⊥
not_refused p (check.Refused s r) h k = no_refusal (refusal p) h k
not_refused p check.Memory h k = k

pub one_checked : (p : Program) → IsOne (checked p)
unfolding checked
one_checked p (Ok a) (Ok b) h k = refl
one_checked p (Ok a) (Err s) h k = absurd (not_refused p k.0 h k.1)
one_checked p (Err r) (Ok b) h k = absurd (not_refused p h.0 k h.1)
one_checked p (Err r) (Err s) h k = ap (λ t. Err t) (h.2 ∙ ap (λ f. Refused (fault.CheckFailed f)) (broken_is p h.0 k.0 h.1 k.1) ∙ sym k.2)

-- a trial from its machine on
abbrev pub line : Generated → Program → MachineOf → Step Said
line g p m = and_then (by_log None p m trial_limit (outcome_on p m trial_limit)) (λ o. gives (Ok (tried_as g o)))

module _ (known : Known) where
  pub one_program : (text : List ℕ) → IsOne (program_in text)
  unfolding program_in
  one_program text (Ok p) (Ok q) h k = ap (λ r. Ok r) (known.program text p q h k)
  one_program text (Ok p) (Err s) h k = absurd (known.not_both text p k.0 h k.1)
  one_program text (Err r) (Ok q) h k = absurd (known.not_both text q h.0 k h.1)
  one_program text (Err r) (Err s) h k = ap (λ t. Err t) (h.2 ∙ ap (λ f. Refused (fault.BadProgram f)) (known.fault_is text h.0 k.0 h.1 k.1) ∙ sym k.2)

  pub one_judged : (p : Program) (limit : ℕ) → IsOne (judged p limit)
  unfolding judged
  one_judged p limit r s h k = sym h.2 ∙ ap (if_clean limit) (known.verdict p limit h.0 k.0 h.1 k.1) ∙ k.2

  pub one_logged : (p : Program) (limit : ℕ) → IsOne (logged p limit)
  unfolding logged
  one_logged p limit r s h k = sym h.2 ∙ ap (log_if_clean limit (length p.entries)) (known.verdict p limit h.0 k.0 h.1 k.1) ∙ k.2

  same_outcome : (p : Program) (m : MachineOf) (limit : ℕ) (a b : Said) (h : IsReport p m limit a) (k : IsReport p m limit b) → h.outcome ≡ k.outcome
  same_outcome p m limit a b h k =
      let machine = one_machine k.fitted h.fitted (k.is_machine ∙ sym h.is_machine) (k.is_fitted ∙ sym h.is_fitted) in
      outcome_is h.outcome k.outcome (known.serial p limit (machine_of h.fitted) (timed h.outcome) (timed k.outcome) h.is_outcome (subst (λ m. IsSerial p limit m (timed k.outcome)) machine k.is_outcome))

  pub one_run : (p : Program) (m : MachineOf) (limit : ℕ) → IsOne (serial_run p m limit)
  one_run p m limit (Ok a) (Ok b) h k =
      ap (λ s. Ok s) (h.is_said ∙ ap reported (same_outcome p m limit a b h k) ∙ sym k.is_said)
  one_run p m limit (Ok a) (Err s) h k = absurd k
  one_run p m limit (Err r) s h k = absurd h

  one_simulated : (p : Program) (m : MachineOf) (limit : ℕ) → IsOne (simulated p m limit)
  unfolding simulated
  one_simulated p m limit = one_after (fits p.chares m) (λ _. and_then (judged p limit) (λ _. serial_run p m limit)) (one_fit p.chares m)
      (λ _. one_after (judged p limit) (λ _. serial_run p m limit) (one_judged p limit) (λ _. one_run p m limit))

  log_causal : (p : Program) (limit : ℕ) (kept : Log) → logged p limit (Ok kept) → (machine : Machine) → IsTimely machine → Causal (net_of kept machine)
  log_causal p limit kept is machine timely = let of = histories_of p limit kept is in subst (λ k. Causal (net_of k machine)) (sym of.2) (known.logs.run_causal p limit machine of.0 timely of.1)

  pub one_by_log : {A : Type 0} (waves : Option ℕ) (p : Program) (m : MachineOf) (limit : ℕ) (last : Step A) → IsOne last → IsOne (by_log waves p m limit last)
  unfolding by_log
  one_by_log waves p m limit last one = one_after (fits p.chares m) (λ _. and_then (logged p limit) (λ kept. and_then (within waves kept m) (λ _. last))) (one_fit p.chares m)
      (λ _. one_where (logged p limit) (λ kept. and_then (within waves kept m) (λ _. last)) (one_logged p limit)
      (λ kept is. one_after (within waves kept m) (λ _. last) (one_within known.logs kept (log_causal p limit kept is) m waves) (λ _. one)))

  pub one_ran : (waves : Option ℕ) (p : Program) (m : MachineOf) (limit : ℕ) → IsOne (ran waves p m limit)
  unfolding ran by_log
  one_ran waves p m limit = one_by_log waves p m limit (serial_run p m limit) (one_run p m limit)

  pub one_outcome : (p : Program) (m : MachineOf) (limit : ℕ) → IsOne (outcome_on p m limit)
  one_outcome p m limit (Ok a) (Ok b) h k = ap (λ o. Ok o) (same a b h k)
    where
      same : (a b : Outcome) (h : IsOutcomeOn p m limit a) (k : IsOutcomeOn p m limit b) → a ≡ b
      same a b h k =
          let machine = one_machine k.fitted h.fitted (k.is_machine ∙ sym h.is_machine) (k.is_fitted ∙ sym h.is_fitted) in
          outcome_is a b (known.serial p limit (machine_of h.fitted) (timed a) (timed b) h.is_outcome (subst (λ m. IsSerial p limit m (timed b)) machine k.is_outcome))
  one_outcome p m limit (Ok a) (Err s) h k = absurd k
  one_outcome p m limit (Err r) s h k = absurd h

  one_tried : (g : Generated) → IsOne (tried g)
  unfolding tried
  one_tried g =
      one_after (program_in (workload_text g.kind g.chares g.seed)) (λ p. and_then (checked p) (λ _. and_then (gives (or_bad_machine (flat_in 64 10))) (λ m. line g p m))) (one_program (workload_text g.kind g.chares g.seed))
      (λ p. one_after (checked p) (λ _. and_then (gives (or_bad_machine (flat_in 64 10))) (λ m. line g p m)) (one_checked p)
      (λ _. one_after (gives (or_bad_machine (flat_in 64 10))) (λ m. line g p m) (one_given (or_bad_machine (flat_in 64 10)))
      (λ m. one_after (by_log None p m trial_limit (outcome_on p m trial_limit)) (λ o. gives (Ok (tried_as g o))) (one_by_log None p m trial_limit (outcome_on p m trial_limit) (one_outcome p m trial_limit)) (λ o. one_given (Ok (tried_as g o))))))

  pub one_accepted : (files : Files) (name : List ℕ) → IsOne (accepted files name)
  unfolding accepted
  one_accepted files name =
      one_after (contents file_limit files name) (λ text. and_then (program_in text) (λ p. and_then (checked p) (λ _. gives (Ok p)))) (one_contents file_limit files name)
      (λ text. one_after (program_in text) (λ p. and_then (checked p) (λ _. gives (Ok p))) (one_program text)
      (λ p. one_after (checked p) (λ _. gives (Ok p)) (one_checked p) (λ _. one_given (Ok p))))

  pub one_reply : (files : Files) (asked : Option Asked) → IsOne (reply_to files asked)
  unfolding reply_to
  one_reply files None = one_given (Err (Refused fault.BadWords))
  one_reply files (Some (check_asked name)) =
      one_after (accepted files name) (λ p. gives (Ok (printed p))) (one_accepted files name)
      (λ p. one_given (Ok (printed p)))
  one_reply files (Some (model name word limit)) =
      one_after (accepted files name) (λ p. and_then (machine_named files word) (λ m. simulated p m limit)) (one_accepted files name)
      (λ p. one_after (machine_named files word) (λ m. simulated p m limit) (one_named files word) (λ m. one_simulated p m limit))
  one_reply files (Some (emulate name into limit)) =
      one_after (accepted files name) (λ p. and_then (logged p limit) (λ kept. gives (Ok (kept_in into kept)))) (one_accepted files name)
      (λ p. one_after (logged p limit) (λ kept. gives (Ok (kept_in into kept))) (one_logged p limit) (λ kept. one_given (Ok (kept_in into kept))))
  one_reply files (Some (run name word limit waves)) =
      one_after (accepted files name) (λ p. and_then (machine_named files word) (λ m. ran waves p m limit)) (one_accepted files name)
      (λ p. one_after (machine_named files word) (λ m. ran waves p m limit) (one_named files word) (λ m. one_ran waves p m limit))
  one_reply files (Some (predict name word waves journal)) =
      one_where (log_named files name) (λ kept. and_then (machine_named files word) (λ m. predicted_with waves journal kept m)) (one_log known.logs files name (one_contents log_limit files name))
      (λ kept is. one_after (machine_named files word) (λ m. predicted_with waves journal kept m) (one_named files word) (λ m. one_foretold known.logs kept (valid_log files name kept is) m (one_fit kept.chares m) waves journal))
  one_reply files (Some (trace name word)) =
      one_where (log_named files name) (λ kept. and_then (machine_named files word) (λ m. traced kept m)) (one_log known.logs files name (one_contents log_limit files name))
      (λ kept is. one_after (machine_named files word) (λ m. traced kept m) (one_named files word) (λ m. one_traced known.logs kept (valid_log files name kept is) m (one_fit kept.chares m)))
  one_reply files (Some (chain name word)) =
      one_where (log_named files name) (λ kept. and_then (machine_named files word) (λ m. chained kept m)) (one_log known.logs files name (one_contents log_limit files name))
      (λ kept is. one_after (machine_named files word) (λ m. chained kept m) (one_named files word) (λ m. one_chained known.logs kept (valid_log files name kept is) m (one_fit kept.chares m)))
  one_reply files (Some (sweep name words spans)) =
      one_where (log_named files name) (λ kept. and_then (machines_behind [] files kept.chares words) (λ ms. sweep_on spans kept ms)) (one_log known.logs files name (one_contents log_limit files name))
      (λ kept is. one_after (machines_behind [] files kept.chares words) (λ ms. sweep_on spans kept ms) (one_machines files kept.chares words []) (λ ms. one_sweep known.logs kept (valid_log files name kept is) spans ms))
  one_reply files (Some (tune name word tuning spans)) =
      one_where (log_named files name) (λ kept. and_then (machine_named files word) (λ m. tuned tuning spans kept m)) (one_log known.logs files name (one_contents log_limit files name))
      (λ kept is. one_after (machine_named files word) (λ m. tuned tuning spans kept m) (one_named files word) (λ m. one_tuned known.logs kept (valid_log files name kept is) m (one_fit kept.chares m) tuning spans))
  one_reply files (Some (gen program)) = one_given (Ok (generated program))
  one_reply files (Some (trial program)) = one_tried program

  pub one : (files : Files) (asked : Option Asked) (a b : Answer) → IsAnswer files asked a → IsAnswer files asked b → a ≡ b
  one files asked a b h k = h.is_answer ∙ ap answer_of (one_reply files asked h.reply k.reply h.is_reply k.is_reply) ∙ sym k.is_answer
