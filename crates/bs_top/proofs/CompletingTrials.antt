-- Commands that read no file, and what they come to.
use Rattle.std.proofs.Common.{◌≡◌, ℕ, List, length, refl, sym, ap, ◌∙◌, inl, inr, true, None, Some, Result, Ok, Err}
use Rattle.bs_desk.specs.Outside.{Files}
use Rattle.bs_gen.specs.Programs.{workload_text}
use Rattle.bs_log.specs.Collected.{log_of}
use Rattle.bs_log.specs.declared.history.History.{History}
use Rattle.bs_log.specs.declared.log.Log.{Log}
use Rattle.bs_log.specs.declared.outcome.Outcome.{Outcome}
use Rattle.bs_machine.specs.Machine.{MachineOf, flat_in}
use Rattle.bs_net.specs.Home.{has_length}
use Rattle.bs_semantics.specs.Verdict.{IsVerdict, clean}
use Rattle.bs_tree.specs.declared.tree.Program.{Program}
use Rattle.bs_words.specs.declared.generated.Generated.{Generated}
use Rattle.bs_top.specs.Answer.{Answer, IsAnswer, answer_of, reply_to}
use Rattle.bs_top.specs.Complete.{CanTry, IsTried}
use Rattle.bs_top.specs.Inputs.{checked, fits, or_bad_machine, program_in}
use Rattle.bs_top.specs.Known.{Known}
use Rattle.bs_top.specs.Reports.{IsOutcomeOn, outcome_on}
use Rattle.bs_top.specs.Step.{Said, Step, and_then, gives}
use Rattle.bs_top.specs.Verdicts.{logged}
use Rattle.bs_top.specs.Waves.{within}
use Rattle.bs_top.specs.Words.{gen, trial}
use Rattle.bs_top.specs.commands.Gen.{generated}
use Rattle.bs_top.specs.commands.Run.{by_log}
use Rattle.bs_top.specs.commands.Trial.{trial_limit, tried, tried_as}
use Rattle.bs_top.specs.declared.stopped.Stopped.{Stopped}
use Rattle.bs_top.proofs.Completing.{fitting, logs}
use Rattle.bs_top.proofs.OneAnswer.{line, one_by_log, one_checked, one_fit, one_logged, one_outcome, one_program, one_reply}
use Rattle.bs_top.proofs.OneStep.{one_given, past}
use Rattle.bs_top.proofs.Simulating.{is_accepted}

not_err : (said : Said) (stop : Stopped) → ◌≡◌ {A = Result Said Stopped} (Ok said) (Err stop) → ⊥
not_err said stop e = absurd (cc)

spelled : (g : Generated) (p : Program) (m : MachineOf) → CanTry g p m → program_in (workload_text g.kind g.chares g.seed) (Ok p)
unfolding program_in
spelled g p m can = can.is_spelled

module _ (files : Files) (known : Known) where
  generates : (g : Generated) → reply_to files (Some (gen g)) (Ok (generated g))
  unfolding reply_to
  generates g = refl

  pub gens : (g : Generated) (a : Answer) → IsAnswer files (Some (gen g)) a → a ≡ answer_of (Ok (generated g))
  gens g a is = is.is_answer ∙ ap answer_of (one_reply known files (Some (gen g)) is.reply (Ok (generated g)) is.is_reply (generates g))

  -- past the log
  outcome_by : (p : Program) (m : MachineOf) (r : Result Outcome Stopped) → has_length m.place p.chares ≡ true → (histories : List History) → IsVerdict p trial_limit (clean histories)
      → by_log None p m trial_limit (outcome_on p m trial_limit) r → outcome_on p m trial_limit r
  unfolding by_log within
  outcome_by p m r fit histories is h =
      let kept = log_of histories (length p.entries) in
      past (within None kept m) (λ _. outcome_on p m trial_limit) (one_given (Ok tt)) tt refl r
      (past (logged p trial_limit) (λ kept. and_then (within None kept m) (λ _. outcome_on p m trial_limit)) (one_logged known p trial_limit) kept (logs files known p trial_limit histories is) r
      (past (fits p.chares m) (λ _. and_then (logged p trial_limit) (λ kept. and_then (within None kept m) (λ _. outcome_on p m trial_limit))) (one_fit p.chares m) tt (fitting files p.chares m fit) r h))

  from_outcome : (g : Generated) (p : Program) (m : MachineOf) (r : Result Said Stopped) (a : Answer) → CanTry g p m → line g p m r → a ≡ answer_of r → IsTried g p m a
  from_outcome g p m (Ok said) a can h is = (h.0, outcome_by p m (Ok h.0) can.is_fitting can.is_clean.0 can.is_clean.1 h.1, is ∙ ap answer_of (sym h.2))
  from_outcome g p m (Err stop) a can (inl h) is = absurd (outcome_by p m (Err stop) can.is_fitting can.is_clean.0 can.is_clean.1 h)
  from_outcome g p m (Err stop) a can (inr h) is = absurd (not_err (tried_as g h.0) stop h.2)

  line_of : (g : Generated) (p : Program) (m : MachineOf) (r : Result Said Stopped) → CanTry g p m → tried g r → line g p m r
  unfolding tried
  line_of g p m r can h =
      past (gives (or_bad_machine (flat_in 64 10))) (λ m. line g p m) (one_given (or_bad_machine (flat_in 64 10))) m (ap or_bad_machine can.machine) r
      (past (checked p) (λ _. and_then (gives (or_bad_machine (flat_in 64 10))) (λ m. line g p m)) (one_checked p) tt (is_accepted p can.is_kept) r
      (past (program_in (workload_text g.kind g.chares g.seed)) (λ p. and_then (checked p) (λ _. and_then (gives (or_bad_machine (flat_in 64 10))) (λ m. line g p m))) (one_program known (workload_text g.kind g.chares g.seed)) p (spelled g p m can) r h))

  trial_reply : (g : Generated) (r : Result Said Stopped) → reply_to files (Some (trial g)) r → tried g r
  unfolding reply_to
  trial_reply g r h = h

  pub tries : (g : Generated) (p : Program) (m : MachineOf) (a : Answer) → CanTry g p m → IsAnswer files (Some (trial g)) a → IsTried g p m a
  tries g p m a can is = from_outcome g p m is.reply a can (line_of g p m is.reply can (trial_reply g is.reply is.is_reply)) is.is_answer
