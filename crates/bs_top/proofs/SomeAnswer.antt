-- A command has an answer: each of its steps gives something.
use Rattle.std.proofs.Common.{◌≡◌, ◌≤◌, ◌+◌, ◌*◌, ◌^◌, ◌⊎◌, ℕ, Bool, true, false, if◌then◌else◌, List, [], ◌∷◌, ◌++◌, length, map, Option, Some, None, Result, Ok, Err, inl, inr, refl, sym, ap, subst, ◌∙◌, arith}
use Rattle.std.specs.Prelude.{IsTrue, option_and_then, option_map}
use Rattle.std.specs.FinMap as files_map
use Rattle.bs_check.specs.Refusal.{Broken, refusal}
use Rattle.bs_check.specs.declared.fault.CheckFault.TheVariants as check
use Rattle.bs_desk.specs.Outside.{Files}
use Rattle.bs_line.specs.declared.corrections.Correction.{Correction}
use Rattle.bs_log.specs.Valid.{IsValid}
use Rattle.bs_log.specs.declared.history.History.{History}
use Rattle.bs_log.specs.declared.log.Log.{Log}
use Rattle.bs_logcheck.specs.declared.rule.LogRule.{LogRule}
use Rattle.bs_logread.specs.Fault.{IsFault as IsFaultAt}
use Rattle.bs_logread.specs.declared.fault.LogFault.TheVariants as read
use Rattle.bs_log.specs.Collected as collected
use Rattle.bs_logtext.specs.Text.{log_text}
use Rattle.bs_machine.specs.Answer.{Answer as Read}
use Rattle.bs_machine.specs.File.{machine_in}
use Rattle.bs_machine.specs.Machine.{MachineOf, flat_in, machine_view}
use Rattle.bs_machine.specs.declared.fitted.Fitted.{Fitted}
use Rattle.bs_net.specs.Home.{has_length, homes_in}
use Rattle.bs_parse.specs.Text.{IsFault, Spells}
use Rattle.bs_parse.specs.declared.text.ParseFault.{ParseFault}
use Rattle.bs_range.proofs.Rounds.{kept}
use Rattle.bs_report.specs.declared.faults.Fault.TheVariants as fault
use Rattle.bs_semantics.specs.Serial.{IsSerial, Simulated, timed, unclean}
use Rattle.bs_semantics.specs.Verdict.{IsVerdict, clean}
use Rattle.bs_settle.specs.Noted.{AreNoted}
use Rattle.bs_settle.specs.Settled.{IsSpent, StillAt}
use Rattle.bs_settle.specs.declared.settling.BudgetSpent.{BudgetSpent}
use Rattle.bs_times.specs.Machine.{machine_of}
use Rattle.bs_times.specs.Net.{Causal, Net, net_of}
use Rattle.bs_times.specs.Outcomes.{outcome_of}
use Rattle.bs_tree.specs.declared.tree.Program.{Program}
use Rattle.bs_gen.specs.Programs.{workload_text}
use Rattle.bs_words.specs.Generated.{asked_program}
use Rattle.bs_words.specs.Machine.{MachineWord, file, flat, machine_word}
use Rattle.bs_words.specs.Tuning.{IsTuning, asked_tuning}
use Rattle.bs_words.specs.Parts.{command_in}
use Rattle.bs_words.specs.declared.command.Command.{Command}
use Rattle.bs_words.specs.declared.generated.Generated.{Generated}
use Rattle.bs_words.specs.declared.tuning.Tuning.{Tuning}
use Rattle.bs_words.specs.declared.verb.Verb.{Verb}
use Rattle.bs_words.specs.declared.verb.Verb.TheVariants.{Chain, Check, Emulate, Gen, Model, Predict, Run, Sweep, Trace, Trial, Tune}
use Rattle.bs_top.specs.Answer.{Answer, IsAnswer, answer_of, reply_to}
use Rattle.bs_top.specs.Inputs.{accepted, checked, contents, file_limit, fits, fitting_machine, log_in, log_limit, log_named, machine_named, machines_behind, or_bad_machine, program_in, whole}
use Rattle.bs_top.specs.Known.{Known, SomeLaws}
use Rattle.bs_top.specs.Reports.{IsPrediction, outcome_on, reported, serial_run, timed_on}
use Rattle.bs_top.specs.Step.{Said, Step, and_then, gives}
use Rattle.bs_top.specs.Verdicts.{if_clean, judged, log_if_clean, logged}
use Rattle.bs_top.specs.Waves.{IsNetOn, most_waves, no_ticks, within}
use Rattle.bs_top.specs.Words.{AreWaves, Asked, asked_by, asked_with, built, chain, check as check_asked, emulate, gen, model, predict, run, sweep, trace, trial, tune, words_of}
use Rattle.bs_top.specs.commands.Check.{printed}
use Rattle.bs_top.specs.commands.Emulate.{kept_in}
use Rattle.bs_top.specs.commands.Journal.{journaled, journaled_on}
use Rattle.bs_top.specs.commands.Model.{simulated}
use Rattle.bs_top.specs.commands.Predict.{predicted, predicted_with}
use Rattle.bs_top.specs.commands.Gen.{generated}
use Rattle.bs_top.specs.commands.Run.{by_log, ran}
use Rattle.bs_top.specs.commands.Chain.{chain_on, chained}
use Rattle.bs_top.specs.commands.Points.{IsTextOf, points_said}
use Rattle.bs_top.specs.commands.Sweep.{sweep_on, views}
use Rattle.bs_top.specs.commands.Trace.{trace_on, traced}
use Rattle.bs_top.specs.commands.Tune.{tune_on, tuned as tuning_on}
use Rattle.bs_top.specs.Seen.{AreFittedTo}
use Rattle.bs_whatif.specs.Figures.{swept, tuned}
use Rattle.bs_whatif.specs.Rescaled.{IsFraction}
use Rattle.bs_top.specs.commands.Trial.{trial_limit, tried, tried_as}
use Rattle.bs_top.specs.declared.stopped.Stopped.{Stopped}
use Rattle.bs_top.specs.declared.stopped.Stopped.TheVariants.{Refused}
use Rattle.bs_top.proofs.AsModel.{verdict_count}
use Rattle.bs_top.proofs.Limits.{tuning_is, waves_of}
use Rattle.bs_top.proofs.OneLog.{valid_log}
use Rattle.bs_top.proofs.Pointed.{IsFraction-of_tuning}
use Rattle.bs_top.proofs.Simulating.{histories_of, log_by_judged}
use Rattle.bs_top.proofs.Sweeping.{Fits, all_fitted}

-- the step gives something
abbrev Gives : {A : Type 0} → Step A → Type 0
Gives {A} step = (r : Result A Stopped) × step r

some_given : {A : Type 0} (wanted : Result A Stopped) → Gives (gives wanted)
some_given wanted = (wanted, refl)

-- one step, and then another with what the first one gave
some_after : {A B : Type 0} (first : Step A) (next : A → Step B) → Gives first → ((a : A) → first (Ok a) → Gives (next a)) → Gives (and_then first next)
some_after {A} {B} first next given on = by given.0 given.1
  where
    behind : (a : A) → first (Ok a) → (r : Result B Stopped) → next a r → Gives (and_then first next)
    behind a is (Ok b) h = (Ok b, (a, is, h))
    behind a is (Err stop) h = (Err stop, inr (a, is, h))

    by : (r : Result A Stopped) → first r → Gives (and_then first next)
    by (Ok a) is = let more = on a is in behind a is more.0 more.1
    by (Err stop) is = (Err stop, inl is)

some_contents : (most : ℕ) (files : Files) (name : List ℕ) → Gives (contents most files name)
unfolding contents
some_contents most files name = some_given (whole most (files_map.get files name))

some_named : (files : Files) (word : MachineWord) → Gives (machine_named files word)
unfolding machine_named
some_named files (flat processors latency) = some_given (or_bad_machine (flat_in processors latency))
some_named files (file name) = some_after (contents file_limit files name) (λ bytes. gives (or_bad_machine (machine_in bytes))) (some_contents file_limit files name) (λ bytes is. some_given (or_bad_machine (machine_in bytes)))

some_fit : (chares : ℕ) (m : MachineOf) → Gives (fits chares m)
unfolding fits
some_fit chares m = some_given (if has_length m.place chares then Ok tt else Err (Refused (fault.BadPlace (record { given = homes_in m.place; needed = chares }))))

some_fitting : (files : Files) (chares : ℕ) (word : MachineWord) → Gives (fitting_machine files chares word)
unfolding fitting_machine
some_fitting files chares word =
    some_after (machine_named files word) (λ m. and_then (fits chares m) (λ _. gives (Ok m))) (some_named files word)
    (λ m is. some_after (fits chares m) (λ _. gives (Ok m)) (some_fit chares m) (λ _ is. some_given (Ok m)))

some_machines : (files : Files) (chares : ℕ) (words : List MachineWord) (before : List MachineOf) → Gives (machines_behind before files chares words)
unfolding machines_behind
some_machines files chares [] before = some_given (Ok before)
some_machines files chares (word ∷ words) before =
    some_after (fitting_machine files chares word) (λ m. machines_behind (before ++ m ∷ []) files chares words) (some_fitting files chares word)
    (λ m is. some_machines files chares words (before ++ m ∷ []))

checked_by : (p : Program) (o : Option Broken) → refusal p ≡ o → Gives (checked p)
unfolding checked
checked_by p None is = (Ok tt, is)
checked_by p (Some b) is = (Err (Refused (fault.CheckFailed (check.Refused b.stmt b.rule))), (check.Refused b.stmt b.rule, is, refl))

some_checked : (p : Program) → Gives (checked p)
some_checked p = checked_by p (refusal p) refl

program_by : (text : List ℕ) → ((p : Program) × Spells text p) ⊎ ((why : ParseFault) × IsFault text why) → Gives (program_in text)
unfolding program_in
program_by text (inl h) = (Ok h.0, h.1)
program_by text (inr h) = (Err (Refused (fault.BadProgram h.0)), (h.0, h.1, refl))

log_by : (text : List ℕ) → ((log : Log) × IsValid log × (log_text log ≡ text)) ⊎ ((line : ℕ) × (rule : LogRule) × IsFaultAt text line rule) → Gives (log_in text)
unfolding log_in
log_by text (inl h) = (Ok h.0, (h.1, h.2))
log_by text (inr h) = (Err (Refused (fault.BadLog (read.Refused h.0 h.1))), (read.Refused h.0 h.1, h.2, refl))

-- ---- what is known of what a step gave

ok_is : {A : Type 0} (a b : A) → ◌≡◌ {A = Result A Stopped} (Ok a) (Ok b) → a ≡ b
ok_is a b e = cc

read_is : (a : Read MachineOf) (m : MachineOf) → or_bad_machine a ≡ Ok m → a ≡ Ok m
read_is (Ok x) m e = ap (λ y. Ok y) (ok_is x m e)
read_is (Err why) m e = absurd (cc)

if_ok : (t : Bool) (stop : Stopped) → ◌≡◌ {A = Result (Unit {0}) Stopped} (if t then Ok tt else Err stop) (Ok tt) → t ≡ true
if_ok true stop e = refl
if_ok false stop e = absurd (cc)

is_fitting : (chares : ℕ) (m : MachineOf) → fits chares m (Ok tt) → IsTrue (has_length m.place chares)
unfolding fits
is_fitting chares m h = if_ok (has_length m.place chares) _ h

accepted_kept : (files : Files) (name : List ℕ) (p : Program) → accepted files name (Ok p) → refusal p ≡ None
unfolding accepted checked
accepted_kept files name p h = subst (λ q. refusal q ≡ None) (ok_is h.2.0 p h.2.2.2) h.2.2.1

abbrev FittedTo : MachineOf → ℕ → Type 0
FittedTo m chares = (f : Fitted) × (machine_view f.machine ≡ m) × (f.chares ≡ chares)

-- a machine that fits the chares of an accepted program or of a valid log
abbrev CanFit : MachineOf → ℕ → Type 0
CanFit m chares = fits chares m (Ok tt) → FittedTo m chares

-- the number of waves, or the numbers of a tuning, that is asked for
abbrev HasWaves : Option Asked → Type 0
HasWaves None = Unit {0}
HasWaves (Some (check_asked name)) = Unit {0}
HasWaves (Some (model name word limit)) = Unit {0}
HasWaves (Some (emulate name into limit)) = Unit {0}
HasWaves (Some (run name word limit waves)) = AreWaves waves
HasWaves (Some (predict name word waves journal)) = AreWaves waves
HasWaves (Some (trace name word)) = Unit {0}
HasWaves (Some (chain name word)) = Unit {0}
HasWaves (Some (sweep name words spans)) = Unit {0}
HasWaves (Some (tune name word tuning spans)) = IsTuning tuning
HasWaves (Some (gen program)) = Unit {0}
HasWaves (Some (trial program)) = Unit {0}

mapped : {A : Type 0} (f : A → Asked) (o : Option A) → ((a : A) → HasWaves (Some (f a))) → HasWaves (option_map f o)
mapped f None h = tt
mapped f (Some m) h = h m

-- the same where it is known what the thing came of
mapped_with : {A : Type 0} (f : A → Asked) (o : Option A) → ((a : A) → o ≡ Some a → HasWaves (Some (f a))) → HasWaves (option_map f o)
mapped_with f None h = tt
mapped_with f (Some a) h = h a refl

then_with : {A : Type 0} (f : A → Option Asked) (o : Option A) → ((a : A) → HasWaves (f a)) → HasWaves (option_and_then f o)
then_with f None h = tt
then_with f (Some a) h = h a

with_waves : (limit : ℕ) (waves : Option ℕ) (journal : Option (List ℕ)) (spans : Bool) (verb : Verb) (names : List (List ℕ)) → AreWaves waves → HasWaves (asked_with limit waves journal spans verb names)
with_waves limit waves journal spans Check [] w = tt
with_waves limit waves journal spans Check (a ∷ []) w = tt
with_waves limit waves journal spans Check (a ∷ b ∷ cs) w = tt
with_waves limit waves journal spans Model [] w = tt
with_waves limit waves journal spans Model (a ∷ []) w = tt
with_waves limit waves journal spans Model (a ∷ b ∷ []) w = mapped (λ m. model a m limit) (machine_word b) (λ m. tt)
with_waves limit waves journal spans Model (a ∷ b ∷ c ∷ ds) w = tt
with_waves limit waves journal spans Emulate [] w = tt
with_waves limit waves journal spans Emulate (a ∷ []) w = tt
with_waves limit waves journal spans Emulate (a ∷ b ∷ []) w = tt
with_waves limit waves journal spans Emulate (a ∷ b ∷ c ∷ ds) w = tt
with_waves limit waves journal spans Run [] w = tt
with_waves limit waves journal spans Run (a ∷ []) w = tt
with_waves limit waves journal spans Run (a ∷ b ∷ []) w = mapped (λ m. run a m limit waves) (machine_word b) (λ m. w)
with_waves limit waves journal spans Run (a ∷ b ∷ c ∷ ds) w = tt
with_waves limit waves journal spans Predict [] w = tt
with_waves limit waves journal spans Predict (a ∷ []) w = tt
with_waves limit waves journal spans Predict (a ∷ b ∷ []) w = mapped (λ m. predict a m waves journal) (machine_word b) (λ m. w)
with_waves limit waves journal spans Predict (a ∷ b ∷ c ∷ ds) w = tt
with_waves limit waves journal spans Trace [] w = tt
with_waves limit waves journal spans Trace (a ∷ []) w = tt
with_waves limit waves journal spans Trace (a ∷ b ∷ []) w = mapped (trace a) (machine_word b) (λ m. tt)
with_waves limit waves journal spans Trace (a ∷ b ∷ c ∷ ds) w = tt
with_waves limit waves journal spans Chain [] w = tt
with_waves limit waves journal spans Chain (a ∷ []) w = tt
with_waves limit waves journal spans Chain (a ∷ b ∷ []) w = mapped (chain a) (machine_word b) (λ m. tt)
with_waves limit waves journal spans Chain (a ∷ b ∷ c ∷ ds) w = tt
with_waves limit waves journal spans Sweep [] w = tt
with_waves limit waves journal spans Sweep (a ∷ []) w = tt
with_waves limit waves journal spans Sweep (a ∷ b ∷ cs) w = mapped (λ m. sweep a (m ∷ words_of cs) spans) (machine_word b) (λ m. tt)
with_waves limit waves journal spans Tune [] w = tt
with_waves limit waves journal spans Tune (a ∷ []) w = tt
with_waves limit waves journal spans Tune (a ∷ b ∷ []) w = tt
with_waves limit waves journal spans Tune (a ∷ b ∷ c ∷ []) w = tt
with_waves limit waves journal spans Tune (a ∷ b ∷ c ∷ d ∷ []) w = tt
with_waves limit waves journal spans Tune (a ∷ b ∷ c ∷ d ∷ e ∷ []) w =
    then_with (λ m. option_map (λ tuning. tune a m tuning spans) (asked_tuning c d e)) (machine_word b)
    (λ m. mapped_with (λ tuning. tune a m tuning spans) (asked_tuning c d e) (λ tuning is. tuning_is c d e tuning is))
with_waves limit waves journal spans Tune (a ∷ b ∷ c ∷ d ∷ e ∷ f ∷ gs) w = tt
with_waves limit waves journal spans Gen [] w = tt
with_waves limit waves journal spans Gen (a ∷ []) w = tt
with_waves limit waves journal spans Gen (a ∷ b ∷ []) w = tt
with_waves limit waves journal spans Gen (a ∷ b ∷ c ∷ []) w = mapped gen (asked_program a b c) (λ g. tt)
with_waves limit waves journal spans Gen (a ∷ b ∷ c ∷ d ∷ es) w = tt
with_waves limit waves journal spans Trial [] w = tt
with_waves limit waves journal spans Trial (a ∷ []) w = tt
with_waves limit waves journal spans Trial (a ∷ b ∷ []) w = tt
with_waves limit waves journal spans Trial (a ∷ b ∷ c ∷ []) w = mapped trial (asked_program a b c) (λ g. tt)
with_waves limit waves journal spans Trial (a ∷ b ∷ c ∷ d ∷ es) w = tt

asked_waves : (words : List (List ℕ)) → HasWaves (asked_by words)
asked_waves words = by (command_in words) refl
  where
    by : (o : Option Command) → command_in words ≡ o → HasWaves (option_and_then built o)
    by None is = tt
    by (Some command) is = with_waves command.limit command.waves command.journal command.spans command.verb command.names (waves_of words command is)

some_waves : (waves : Option ℕ) (log : Log) → AreWaves waves → 1 ≤ most_waves waves log
some_waves None log w = omega arith
some_waves (Some most) log w = w.0

-- the text of a trial, and a trial from its machine on
abbrev text_of : Generated → List ℕ
text_of g = workload_text g.kind g.chares g.seed

abbrev line : Generated → Program → MachineOf → Step Said
line g p m = and_then (by_log None p m trial_limit (outcome_on p m trial_limit)) (λ o. gives (Ok (tried_as g o)))

module _ (known : Known) (some : SomeLaws) where
  some_accepted : (files : Files) (name : List ℕ) → Gives (accepted files name)
  unfolding accepted
  some_accepted files name =
      some_after (contents file_limit files name) (λ text. and_then (program_in text) (λ p. and_then (checked p) (λ _. gives (Ok p)))) (some_contents file_limit files name)
      (λ text is. some_after (program_in text) (λ p. and_then (checked p) (λ _. gives (Ok p))) (program_by text (some.text text))
      (λ p is. some_after (checked p) (λ _. gives (Ok p)) (some_checked p) (λ _ is. some_given (Ok p))))

  some_judged : (p : Program) (limit : ℕ) → Gives (judged p limit)
  unfolding judged
  some_judged p limit = let v = some.verdict p limit in (if_clean limit v.0, (v.0, v.1, refl))

  some_logged : (p : Program) (limit : ℕ) → Gives (logged p limit)
  unfolding logged
  some_logged p limit = let v = some.verdict p limit in (log_if_clean limit (length p.entries) v.0, (v.0, v.1, refl))

  some_log : (files : Files) (name : List ℕ) → Gives (log_named files name)
  unfolding log_named
  some_log files name = some_after (contents log_limit files name) (λ text. log_in text) (some_contents log_limit files name) (λ text is. log_by text (some.log text))

  can_fit : (files : Files) (word : MachineWord) (m : MachineOf) → machine_named files word (Ok m) → (chares : ℕ) → 1 ≤ chares → chares ≤ 65536 → CanFit m chares
  unfolding machine_named
  can_fit files (flat processors latency) m is chares least most h = some.flat processors latency m chares (read_is (flat_in processors latency) m is) least most (is_fitting chares m h)
  can_fit files (file name) m is chares least most h = some.file is.0 m chares (read_is (machine_in is.0) m is.2) least most (is_fitting chares m h)

  -- ---- programs on machines

  some_run : (p : Program) (m : MachineOf) (limit : ℕ) (hs : List History) → IsVerdict p limit (clean hs) → FittedTo m p.chares → Gives (serial_run p m limit)
  some_run p m limit hs verdict f = by (some.serial p limit (machine_of f.0)).0 (some.serial p limit (machine_of f.0)).1
    where
      by : (r : Simulated) → IsSerial p limit (machine_of f.0) r → Gives (serial_run p m limit)
      by (timed o) is = (Ok (reported o), record { fitted = f.0; outcome = o; is_machine = f.1; is_fitted = f.2; is_outcome = is; is_said = refl })
      by unclean is = absurd (some.clean_run p limit (machine_of f.0) (clean hs) verdict is hs refl)

  some_simulated : (p : Program) (m : MachineOf) (limit : ℕ) → CanFit m p.chares → Gives (simulated p m limit)
  unfolding simulated
  some_simulated p m limit fit =
      some_after (fits p.chares m) (λ _. and_then (judged p limit) (λ _. serial_run p m limit)) (some_fit p.chares m)
      (λ _ fitting. some_after (judged p limit) (λ _. serial_run p m limit) (some_judged p limit)
      (λ _ is. let log = log_by_judged p limit is in let of = histories_of p limit log.0 log.1 in some_run p m limit of.0 of.1 (fit fitting)))

  -- ---- waves

  module _ (log : Log) (m : MachineOf) (f : FittedTo m log.chares) (causal : Causal (net_of log (machine_of f.0))) where
    abbrev net : Net
    net = net_of log (machine_of f.0)

    on_it : IsNetOn log m net
    on_it = record { fitted = f.0; is_machine = f.1; is_fitted = f.2; is_net = refl }

    within_by : (most : ℕ) → StillAt net no_ticks most ⊎ ((s : BudgetSpent) × IsSpent net no_ticks most s) → Gives (within (Some most) log m)
    unfolding within
    within_by most (inl still) = (Ok tt, (net, on_it, still))
    within_by most (inr spent) = (Err (Refused (fault.BudgetSpent spent.0)), (spent.0, (net, on_it, spent.1), refl))

    some_within : (waves : Option ℕ) → AreWaves waves → Gives (within waves log m)
    unfolding within
    some_within None w = (Ok tt, refl)
    some_within (Some most) w = within_by most (some.settling net causal no_ticks most w.0)

  log_causal : (p : Program) (limit : ℕ) (log : Log) → logged p limit (Ok log) → (f : Fitted) → Causal (net_of log (machine_of f))
  log_causal p limit log is f =
      let of = histories_of p limit log is in
      subst (λ k. Causal (net_of k (machine_of f))) (sym of.2) (known.logs.run_causal p limit (machine_of f) of.0 (known.logs.timely f) of.1)

  -- a log has the chares of its program
  log_chares : (p : Program) (limit : ℕ) (log : Log) → logged p limit (Ok log) → log.chares ≡ p.chares
  unfolding collected.log_of
  log_chares p limit log is = let of = histories_of p limit log is in ap (λ (l : Log). l.chares) of.2 ∙ verdict_count p limit (clean of.0) of.1 of.0 refl

  some_by_log : {A : Type 0} (waves : Option ℕ) (p : Program) (m : MachineOf) (limit : ℕ) (last : Step A) → AreWaves waves → CanFit m p.chares
      → ((hs : List History) → IsVerdict p limit (clean hs) → FittedTo m p.chares → Gives last) → Gives (by_log waves p m limit last)
  unfolding by_log
  some_by_log waves p m limit last w fit on_last =
      some_after (fits p.chares m) (λ _. and_then (logged p limit) (λ log. and_then (within waves log m) (λ _. last))) (some_fit p.chares m)
      (λ _ fitting. some_after (logged p limit) (λ log. and_then (within waves log m) (λ _. last)) (some_logged p limit)
      (λ log is.
      let f = fit fitting in
      let of = histories_of p limit log is in
      let on : FittedTo m log.chares = (f.0, f.1, f.2 ∙ sym (log_chares p limit log is)) in
      some_after (within waves log m) (λ _. last) (some_within log m on (log_causal p limit log is f.0) waves w) (λ _ enough. on_last of.0 of.1 f)))

  some_ran : (waves : Option ℕ) (p : Program) (m : MachineOf) (limit : ℕ) → AreWaves waves → CanFit m p.chares → Gives (ran waves p m limit)
  unfolding ran by_log
  some_ran waves p m limit w fit = some_by_log waves p m limit (serial_run p m limit) w fit (some_run p m limit)

  some_outcome : (p : Program) (m : MachineOf) (limit : ℕ) (hs : List History) → IsVerdict p limit (clean hs) → FittedTo m p.chares → Gives (outcome_on p m limit)
  some_outcome p m limit hs verdict f = by (some.serial p limit (machine_of f.0)).0 (some.serial p limit (machine_of f.0)).1
    where
      by : (r : Simulated) → IsSerial p limit (machine_of f.0) r → Gives (outcome_on p m limit)
      by (timed o) is = (Ok o, record { fitted = f.0; is_machine = f.1; is_fitted = f.2; is_outcome = is })
      by unclean is = absurd (some.clean_run p limit (machine_of f.0) (clean hs) verdict is hs refl)

  some_tried : (g : Generated) → Gives (tried g)
  unfolding tried checked
  some_tried g =
      some_after (program_in (text_of g)) (λ p. and_then (checked p) (λ _. and_then (gives (or_bad_machine (flat_in 64 10))) (λ m. line g p m))) (program_by (text_of g) (some.text (text_of g)))
      (λ p is. some_after (checked p) (λ _. and_then (gives (or_bad_machine (flat_in 64 10))) (λ m. line g p m)) (some_checked p)
      (λ _ fine. some_after (gives (or_bad_machine (flat_in 64 10))) (λ m. line g p m) (some_given (or_bad_machine (flat_in 64 10)))
      (λ m made. some_after (by_log None p m trial_limit (outcome_on p m trial_limit)) (λ o. gives (Ok (tried_as g o)))
      (some_by_log None p m trial_limit (outcome_on p m trial_limit) tt (fitting p fine m made) (some_outcome p m trial_limit)) (λ o done. some_given (Ok (tried_as g o))))))
    where
      fitting : (p : Program) → checked p (Ok tt) → (m : MachineOf) → or_bad_machine (flat_in 64 10) ≡ Ok m → CanFit m p.chares
      fitting p fine m made h = let kept_by = kept p fine in some.flat 64 10 m p.chares (read_is (flat_in 64 10) m made) kept_by.least kept_by.most (is_fitting p.chares m h)

  -- ---- logs on machines

  module _ (log : Log) (valid : IsValid log) (m : MachineOf) (fit : CanFit m log.chares) where
    causal : (f : Fitted) → Causal (net_of log (machine_of f))
    causal f = known.logs.causal log (machine_of f) valid (known.logs.timely f)

    prediction : (f : FittedTo m log.chares) → (said : Said) × IsPrediction log m said
    prediction f =
        let table = some.table log (machine_of f.0) valid (known.logs.timely f.0) in
        (reported (outcome_of log (machine_of f.0) table.0), record { fitted = f.0; starts = table.0; is_machine = f.1; is_fitted = f.2; is_consistent = table.1; is_said = refl })

    some_timed : FittedTo m log.chares → Gives (timed_on log m)
    some_timed f = let p = prediction f in (Ok p.0, p.1)

    some_predicted : (waves : Option ℕ) → AreWaves waves → Gives (predicted waves log m)
    unfolding predicted
    some_predicted waves w =
        some_after (fits log.chares m) (λ _. and_then (within waves log m) (λ _. timed_on log m)) (some_fit log.chares m)
        (λ _ fitting. some_after (within waves log m) (λ _. timed_on log m) (some_within log m (fit fitting) (causal (fit fitting).0) waves w) (λ _ enough. some_timed (fit fitting)))

    some_journal : (waves : Option ℕ) (into : List ℕ) → AreWaves waves → FittedTo m log.chares → Gives (journaled_on waves into log m)
    some_journal waves into w f = by noted.0 noted.1 noted.2
      where
        noted : (lists : List (List Correction)) × (settled : Bool) × AreNoted (net_of log (machine_of f.0)) no_ticks (most_waves waves log) lists settled
        noted = some.noting (net_of log (machine_of f.0)) (causal f.0) no_ticks (most_waves waves log) (some_waves waves log w)

        on : IsNetOn log m (net_of log (machine_of f.0))
        on = on_it log m f (causal f.0)

        spent : (lists : List (List Correction)) → AreNoted (net_of log (machine_of f.0)) no_ticks (most_waves waves log) lists false
            → StillAt (net_of log (machine_of f.0)) no_ticks (most_waves waves log) ⊎ ((s : BudgetSpent) × IsSpent (net_of log (machine_of f.0)) no_ticks (most_waves waves log) s) → Gives (journaled_on waves into log m)
        spent lists are (inl still) = absurd (some.moving (net_of log (machine_of f.0)) (causal f.0) no_ticks (most_waves waves log) lists are still)
        spent lists are (inr s) = (Ok _, inr (record { lists = lists; are_waves = (net_of log (machine_of f.0), on, are); spent = s.0; is_spent = (net_of log (machine_of f.0), on, s.1); is_said = refl }))

        by : (lists : List (List Correction)) (settled : Bool) → AreNoted (net_of log (machine_of f.0)) no_ticks (most_waves waves log) lists settled → Gives (journaled_on waves into log m)
        by lists true are = let p = prediction f in (Ok _, inl (record { lists = lists; are_waves = (net_of log (machine_of f.0), on, are); report = p.0; is_report = p.1; is_said = refl }))
        by lists false are = spent lists are (some.settling (net_of log (machine_of f.0)) (causal f.0) no_ticks (most_waves waves log) (some_waves waves log w))

    some_journaled : (waves : Option ℕ) (into : List ℕ) → AreWaves waves → Gives (journaled waves into log m)
    unfolding journaled
    some_journaled waves into w = some_after (fits log.chares m) (λ _. journaled_on waves into log m) (some_fit log.chares m) (λ _ fitting. some_journal waves into w (fit fitting))

    some_predicted_with : (waves : Option ℕ) (journal : Option (List ℕ)) → AreWaves waves → Gives (predicted_with waves journal log m)
    some_predicted_with waves None w = some_predicted waves w
    some_predicted_with waves (Some into) w = some_journaled waves into w

    some_trace : FittedTo m log.chares → Gives (trace_on log m)
    some_trace f =
        let table = some.table log (machine_of f.0) valid (known.logs.timely f.0) in
        (Ok _, record { fitted = f.0; starts = table.0; is_machine = f.1; is_fitted = f.2; is_consistent = table.1; is_said = refl })

    some_traced : Gives (traced log m)
    unfolding traced
    some_traced = some_after (fits log.chares m) (λ _. trace_on log m) (some_fit log.chares m) (λ _ fitting. some_trace (fit fitting))

    some_chain : FittedTo m log.chares → Gives (chain_on log m)
    some_chain f =
        let table = some.table log (machine_of f.0) valid (known.logs.timely f.0) in
        let chain = some.chain log (machine_of f.0) valid (known.logs.timely f.0) table.0 table.1 in
        (Ok _, record { fitted = f.0; starts = table.0; chain = chain.0; is_machine = f.1; is_fitted = f.2; is_consistent = table.1; is_critical = chain.1; is_said = refl })

    some_chained : Gives (chained log m)
    unfolding chained
    some_chained = some_after (fits log.chares m) (λ _. chain_on log m) (some_fit log.chares m) (λ _ fitting. some_chain (fit fitting))

    some_tuned_text : (spans : Bool) (f : Fitted) (t : Tuning) → IsFraction t.num t.den → (text : List ℕ) × IsTextOf spans (tuned log f t.stmt t.num t.den) text
    some_tuned_text true f t fraction = some.tuned_spans log f t.stmt t.num t.den valid fraction
    some_tuned_text false f t fraction = some.tuned_points log f t.stmt t.num t.den valid fraction

    some_tune : (t : Tuning) (spans : Bool) → IsTuning t → FittedTo m log.chares → Gives (tune_on t spans log m)
    some_tune t spans is f =
        let fraction = IsFraction-of_tuning t is in
        let text = some_tuned_text spans f.0 t fraction in
        (Ok (points_said log text.0), record { fitted = f.0; text = text.0; is_machine = f.1; is_fitted = f.2; is_fraction = fraction; is_text = text.1; is_said = refl })

    some_tuned : (t : Tuning) (spans : Bool) → IsTuning t → Gives (tuning_on t spans log m)
    unfolding tuning_on
    some_tuned t spans is = some_after (fits log.chares m) (λ _. tune_on t spans log m) (some_fit log.chares m) (λ _ fitting. some_tune t spans is (fit fitting))

  some_swept_text : (log : Log) → IsValid log → (spans : Bool) (fs : List Fitted) → (text : List ℕ) × IsTextOf spans (swept log fs) text
  some_swept_text log valid true fs = some.spans log fs valid
  some_swept_text log valid false fs = some.points log fs valid

  some_sweep : (log : Log) → IsValid log → (spans : Bool) (ms : List MachineOf) → Fits log.chares ms → Gives (sweep_on spans log ms)
  some_sweep log valid spans ms fit =
      let text = some_swept_text log valid spans fit.0 in
      (Ok (points_said log text.0), record { fitted = fit.0; text = text.0; are_machines = fit.1; are_fitted = fit.2; is_text = text.1; is_said = refl })

  -- ---- commands

  program_fits : (files : Files) (name : List ℕ) (p : Program) → accepted files name (Ok p) → (word : MachineWord) (m : MachineOf) → machine_named files word (Ok m) → CanFit m p.chares
  program_fits files name p is word m named = let fine = kept p (accepted_kept files name p is) in can_fit files word m named p.chares fine.least fine.most

  log_fits : (files : Files) (name : List ℕ) (log : Log) → log_named files name (Ok log) → (word : MachineWord) (m : MachineOf) → machine_named files word (Ok m) → CanFit m log.chares
  log_fits files name log is word m named = let chares = (valid_log files name log is).chares in can_fit files word m named log.chares chares.least_is chares.most_is

  some_reply : (files : Files) (asked : Option Asked) → HasWaves asked → Gives (reply_to files asked)
  unfolding reply_to
  some_reply files None w = some_given (Err (Refused fault.BadWords))
  some_reply files (Some (check_asked name)) w =
      some_after (accepted files name) (λ p. gives (Ok (printed p))) (some_accepted files name) (λ p is. some_given (Ok (printed p)))
  some_reply files (Some (model name word limit)) w =
      some_after (accepted files name) (λ p. and_then (machine_named files word) (λ m. simulated p m limit)) (some_accepted files name)
      (λ p is. some_after (machine_named files word) (λ m. simulated p m limit) (some_named files word) (λ m named. some_simulated p m limit (program_fits files name p is word m named)))
  some_reply files (Some (emulate name into limit)) w =
      some_after (accepted files name) (λ p. and_then (logged p limit) (λ log. gives (Ok (kept_in into log)))) (some_accepted files name)
      (λ p is. some_after (logged p limit) (λ log. gives (Ok (kept_in into log))) (some_logged p limit) (λ log is. some_given (Ok (kept_in into log))))
  some_reply files (Some (run name word limit waves)) w =
      some_after (accepted files name) (λ p. and_then (machine_named files word) (λ m. ran waves p m limit)) (some_accepted files name)
      (λ p is. some_after (machine_named files word) (λ m. ran waves p m limit) (some_named files word) (λ m named. some_ran waves p m limit w (program_fits files name p is word m named)))
  some_reply files (Some (predict name word waves journal)) w =
      some_after (log_named files name) (λ log. and_then (machine_named files word) (λ m. predicted_with waves journal log m)) (some_log files name)
      (λ log is. some_after (machine_named files word) (λ m. predicted_with waves journal log m) (some_named files word)
      (λ m named. some_predicted_with log (valid_log files name log is) m (log_fits files name log is word m named) waves journal w))
  some_reply files (Some (trace name word)) w =
      some_after (log_named files name) (λ log. and_then (machine_named files word) (λ m. traced log m)) (some_log files name)
      (λ log is. some_after (machine_named files word) (λ m. traced log m) (some_named files word) (λ m named. some_traced log (valid_log files name log is) m (log_fits files name log is word m named)))
  some_reply files (Some (chain name word)) w =
      some_after (log_named files name) (λ log. and_then (machine_named files word) (λ m. chained log m)) (some_log files name)
      (λ log is. some_after (machine_named files word) (λ m. chained log m) (some_named files word) (λ m named. some_chained log (valid_log files name log is) m (log_fits files name log is word m named)))
  some_reply files (Some (sweep name words spans)) w =
      some_after (log_named files name) (λ log. and_then (machines_behind [] files log.chares words) (λ ms. sweep_on spans log ms)) (some_log files name)
      (λ log is. some_after (machines_behind [] files log.chares words) (λ ms. sweep_on spans log ms) (some_machines files log.chares words [])
      (λ ms read. some_sweep log (valid_log files name log is) spans ms (all_fitted files log.chares (λ word m named. log_fits files name log is word m named) words [] ms read ([], refl, λ f m. absurd m))))
  some_reply files (Some (tune name word tuning spans)) w =
      some_after (log_named files name) (λ log. and_then (machine_named files word) (λ m. tuning_on tuning spans log m)) (some_log files name)
      (λ log is. some_after (machine_named files word) (λ m. tuning_on tuning spans log m) (some_named files word)
      (λ m named. some_tuned log (valid_log files name log is) m (log_fits files name log is word m named) tuning spans w))
  some_reply files (Some (gen program)) w = some_given (Ok (generated program))
  some_reply files (Some (trial program)) w = some_tried program

  pub answered : (files : Files) (words : List (List ℕ)) → (a : Answer) × IsAnswer files (asked_by words) a
  answered files words =
      let reply = some_reply files (asked_by words) (asked_waves words) in
      (answer_of reply.0, record { reply = reply.0; is_reply = reply.1; is_answer = refl })

pub some : Known → SomeLaws → (files : Files) (words : List (List ℕ)) → (a : Answer) × IsAnswer files (asked_by words) a
some known laws = answered known laws
