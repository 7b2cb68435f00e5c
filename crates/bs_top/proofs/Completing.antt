-- What comes of files that hold all that a command needs.
use Rattle.std.proofs.Common.{◌≡◌, sym, ◌++◌, ◌∷◌, [], Bool, ◌≤◌, ◌<◌, ℕ, List, length, true, refl, ap, subst, ◌∙◌, inl, inr, Option, None, Some, Result, Ok, Err, arith}
use Rattle.std.proofs.lemmas.List.{append-nil, append_assoc}
use Rattle.bs_desk.specs.Outside.{Outside, Files}
use Rattle.bs_log.specs.Collected.{log_of}
use Rattle.bs_log.specs.declared.history.History.{History}
use Rattle.bs_log.specs.declared.log.Log.{Log}
use Rattle.bs_logtext.specs.Text.{log_text}
use Rattle.bs_machine.specs.Machine.{MachineOf}
use Rattle.bs_net.specs.Home.{has_length}
use Rattle.bs_semantics.specs.Verdict.{IsVerdict, clean}
use Rattle.bs_tree.specs.declared.tree.Program.{Program}
use Rattle.bs_top.specs.declared.status.Status.{Status}
use Rattle.bs_top.specs.declared.status.Status.TheVariants as status
use Rattle.bs_top.specs.declared.stopped.Stopped.{Stopped}
use Rattle.bs_settle.specs.declared.settling.BudgetSpent.{BudgetSpent}
use Rattle.bs_times.specs.Times.{budget}
use Rattle.bs_top.specs.commands.Predict.{predicted_with as asked_of_log, predicted}
use Rattle.bs_top.specs.Answer.{Answer, IsAnswer, answer_of, reply_to}
use Rattle.bs_top.specs.Waves.{IsTooFew, budget_of, within}
use Rattle.bs_top.specs.Inputs.{accepted, contents, file_limit, fits, fitting_machine, log_in, log_limit, log_named, machine_named, machines_behind, or_bad_machine, program_in}
use Rattle.bs_top.specs.commands.Journal.{journaled, journaled_on}
use Rattle.bs_top.specs.Verdicts.{judged, logged}
use Rattle.bs_top.specs.commands.Emulate.{kept_in}
use Rattle.bs_top.specs.commands.Check.{printed}
use Rattle.bs_top.specs.commands.Run.{ran}
use Rattle.bs_top.specs.Reports.{serial_run, timed_on}
use Rattle.bs_top.specs.commands.Model.{simulated}
use Rattle.bs_top.specs.commands.Chain.{chain_on, chained}
use Rattle.bs_top.specs.commands.Sweep.{sweep_on}
use Rattle.bs_top.specs.commands.Trace.{trace_on, traced}
use Rattle.bs_top.specs.commands.Tune.{tune_on, tuned}
use Rattle.bs_top.specs.Complete.{CanEmulate, CanPredict, CanRun, CanSweep, Ends, HasFile, HasLog, HasMachine, HasProgram, HaveMachines, IsAmple, IsAmpleFor, IsChained, IsJournaled, IsPredicted, IsReported, IsSwept, IsTraced, IsTuned, logged_in}
use Rattle.bs_top.specs.Performs.{Answers, WritesAnswer}
use Rattle.bs_top.specs.Step.{Said, Step, and_then}
use Rattle.bs_top.specs.Words.{Asked, check, model, emulate, run, predict, trace, chain, sweep, tune}
use Rattle.bs_words.specs.Machine.{MachineWord, flat, file}
use Rattle.bs_words.specs.declared.tuning.Tuning.{Tuning}
use Rattle.bs_top.specs.Known.{Known}
use Rattle.bs_top.proofs.OneAnswer.{one_accepted, one_contents, one_fit, one_judged, one_logged, one_machines, one_named, one_reply}
use Rattle.bs_top.proofs.OneLog.{one_log}
use Rattle.bs_top.proofs.OneStep.{past}
use Rattle.bs_top.proofs.Reading.{read_whole}
use Rattle.bs_top.proofs.AsModel.{nothing, stopped_at}
use Rattle.bs_top.proofs.Simulating.{is_accepted}

-- a number of waves that is enough isn't spent
not_spent : (kept : Log) (m : MachineOf) (most : ℕ) (spent : BudgetSpent) → budget_of kept ≤ most → IsTooFew kept m most spent → ⊥
not_spent kept m most spent ample h =
    let few = subst (λ net. most < budget net) h.1.is_net h.2.few in
    omega (arith, few, ample)

no_stop : {A : Type 0} (stop : Stopped) → nothing ≡ stopped_at stop → A
no_stop stop e = absurd (cc)

past_waves : (next : Step Said) (waves : Option ℕ) (kept : Log) (m : MachineOf) → IsAmple waves kept → (r : Result Said Stopped) → and_then (within waves kept m) (λ _. next) r → next r
unfolding within
past_waves next None kept m ample (Ok said) h = h.2
past_waves next None kept m ample (Err stop) (inl e) = no_stop stop e
past_waves next None kept m ample (Err stop) (inr h) = h.2
past_waves next (Some most) kept m ample (Ok said) h = h.2
past_waves next (Some most) kept m ample (Err stop) (inl h) = absurd (not_spent kept m most h.0 ample h.1)
past_waves next (Some most) kept m ample (Err stop) (inr h) = h.2

is_journal : (waves : Option ℕ) (into : List ℕ) (kept : Log) (m : MachineOf) → IsAmple waves kept → (r : Result Said Stopped) (a : Answer) → journaled_on waves into kept m r → a ≡ answer_of r → IsJournaled waves into kept m a
is_journal waves into kept m ample (Ok said) a (inl h) is = (said, h, is)
is_journal None into kept m ample (Ok said) a (inr h) is = absurd (not_spent kept m (budget_of kept) h.spent (omega arith) h.is_spent)
is_journal (Some most) into kept m ample (Ok said) a (inr h) is = absurd (not_spent kept m most h.spent ample h.is_spent)
is_journal waves into kept m ample (Err stop) a h is = absurd h

is_trace : (kept : Log) (m : MachineOf) (r : Result Said Stopped) (a : Answer) → trace_on kept m r → a ≡ answer_of r → IsTraced kept m a
is_trace kept m (Ok said) a h is = (said, h, is)
is_trace kept m (Err stop) a h is = absurd h

is_chain : (kept : Log) (m : MachineOf) (r : Result Said Stopped) (a : Answer) → chain_on kept m r → a ≡ answer_of r → IsChained kept m a
is_chain kept m (Ok said) a h is = (said, h, is)
is_chain kept m (Err stop) a h is = absurd h

is_sweep : (spans : Bool) (kept : Log) (ms : List MachineOf) (r : Result Said Stopped) (a : Answer) → sweep_on spans kept ms r → a ≡ answer_of r → IsSwept spans kept ms a
is_sweep spans kept ms (Ok said) a h is = (said, h, is)
is_sweep spans kept ms (Err stop) a h is = absurd h

is_tune : (tuning : Tuning) (spans : Bool) (kept : Log) (m : MachineOf) (r : Result Said Stopped) (a : Answer) → tune_on tuning spans kept m r → a ≡ answer_of r → IsTuned tuning spans kept m a
is_tune tuning spans kept m (Ok said) a h is = (said, h, is)
is_tune tuning spans kept m (Err stop) a h is = absurd h

module _ (files : Files) where
  reads : (name bytes : List ℕ) → HasFile files name bytes → contents file_limit files name (Ok bytes)
  reads name bytes h = read_whole file_limit files name bytes h.is_there h.is_small

  spells : (name : List ℕ) (p : Program) (h : HasProgram files name p) → program_in h.text (Ok p)
  unfolding program_in
  spells name p h = h.is_spelled

  accepts : (name : List ℕ) (p : Program) → HasProgram files name p → accepted files name (Ok p)
  unfolding accepted
  accepts name p h = (h.text, reads name h.text h.is_read, (p, spells name p h, (tt, is_accepted p h.is_kept, refl)))

  names : (word : MachineWord) (m : MachineOf) → HasMachine files word m → machine_named files word (Ok m)
  unfolding machine_named
  names (flat processors latency) m h = ap or_bad_machine h
  names (file name) m h = (h.0, reads name h.0 h.1, ap or_bad_machine h.2)

  pub fitting : (chares : ℕ) (m : MachineOf) → has_length m.place chares ≡ true → fits chares m (Ok tt)
  unfolding fits
  fitting chares m h = rw h refl

  prints : (name : List ℕ) (p : Program) → HasProgram files name p → reply_to files (Some (check name)) (Ok (printed p))
  unfolding reply_to
  prints name p h = (p, accepts name p h, refl)

  is_judged : (p : Program) (limit : ℕ) → (histories : List History) × IsVerdict p limit (clean histories) → judged p limit (Ok tt)
  unfolding judged
  is_judged p limit h = (clean h.0, h.1, refl)

  reported : (p : Program) (m : MachineOf) (limit : ℕ) (r : Result Said Stopped) (a : Answer) → serial_run p m limit r → a ≡ answer_of r → IsReported p m limit a
  reported p m limit (Ok said) a h is = (said, h, is)
  reported p m limit (Err stop) a h is = absurd h

  module _ (known : Known) where
    pub checks : (name : List ℕ) (p : Program) (a : Answer) → HasProgram files name p → IsAnswer files (Some (check name)) a → a ≡ answer_of (Ok (printed p))
    checks name p a has is = is.is_answer ∙ ap answer_of (one_reply known files (Some (check name)) is.reply (Ok (printed p)) is.is_reply (prints name p has))

    by_model : (p : Program) (m : MachineOf) (limit : ℕ) (r : Result Said Stopped) → has_length m.place p.chares ≡ true → judged p limit (Ok tt) → simulated p m limit r → serial_run p m limit r
    unfolding simulated
    by_model p m limit r fit is h =
        past (judged p limit) (λ _. serial_run p m limit) (one_judged known p limit) tt is r
        (past (fits p.chares m) (λ _. and_then (judged p limit) (λ _. serial_run p m limit)) (one_fit p.chares m) tt (fitting p.chares m fit) r h)

    runs : (name : List ℕ) (word : MachineWord) (limit : ℕ) (p : Program) (m : MachineOf) (r : Result Said Stopped)
        → CanRun files name word limit p m → reply_to files (Some (model name word limit)) r → serial_run p m limit r
    unfolding reply_to
    runs name word limit p m r can h =
        let one = one_accepted known files name in
        by_model p m limit r can.is_fitting (is_judged p limit can.is_clean)
        (past (machine_named files word) (λ m. simulated p m limit) (one_named files word) m (names word m can.machine) r
        (past (accepted files name) (λ p. and_then (machine_named files word) (λ m. simulated p m limit)) one p (accepts name p can.program) r h))

    pub reports : (name : List ℕ) (word : MachineWord) (limit : ℕ) (p : Program) (m : MachineOf) (a : Answer)
        → CanRun files name word limit p m → IsAnswer files (Some (model name word limit)) a → IsReported p m limit a
    reports name word limit p m a can is = reported p m limit is.reply a (runs name word limit p m is.reply can is.is_reply) is.is_answer

    pub logs : (p : Program) (limit : ℕ) (histories : List History) → IsVerdict p limit (clean histories) → logged p limit (Ok (log_of histories (length p.entries)))
    unfolding logged
    logs p limit histories h = (clean histories, h, refl)

    ran_on : (waves : Option ℕ) (p : Program) (m : MachineOf) (limit : ℕ) (r : Result Said Stopped) → has_length m.place p.chares ≡ true → (histories : List History) → IsVerdict p limit (clean histories)
        → IsAmple waves (log_of histories (length p.entries)) → ran waves p m limit r → serial_run p m limit r
    unfolding ran
    ran_on waves p m limit r fit histories is ample h =
        let kept = log_of histories (length p.entries) in
        past_waves (serial_run p m limit) waves kept m ample r
        (past (logged p limit) (λ kept. and_then (within waves kept m) (λ _. serial_run p m limit)) (one_logged known p limit) kept (logs p limit histories is) r
        (past (fits p.chares m) (λ _. and_then (logged p limit) (λ kept. and_then (within waves kept m) (λ _. serial_run p m limit))) (one_fit p.chares m) tt (fitting p.chares m fit) r h))

    runs_on : (name : List ℕ) (word : MachineWord) (limit : ℕ) (waves : Option ℕ) (p : Program) (m : MachineOf) (r : Result Said Stopped)
        → CanRun files name word limit p m → IsAmpleFor waves p limit → reply_to files (Some (run name word limit waves)) r → serial_run p m limit r
    unfolding reply_to
    runs_on name word limit waves p m r can ample h =
        let one = one_accepted known files name in
        ran_on waves p m limit r can.is_fitting can.is_clean.0 can.is_clean.1 (ample can.is_clean.0 can.is_clean.1)
        (past (machine_named files word) (λ m. ran waves p m limit) (one_named files word) m (names word m can.machine) r
        (past (accepted files name) (λ p. and_then (machine_named files word) (λ m. ran waves p m limit)) one p (accepts name p can.program) r h))

    pub reports_run : (name : List ℕ) (word : MachineWord) (limit : ℕ) (waves : Option ℕ) (p : Program) (m : MachineOf) (a : Answer)
        → CanRun files name word limit p m → IsAmpleFor waves p limit → IsAnswer files (Some (run name word limit waves)) a → IsReported p m limit a
    reports_run name word limit waves p m a can ample is = reported p m limit is.reply a (runs_on name word limit waves p m is.reply can ample is.is_reply) is.is_answer

    keeps : (name into : List ℕ) (limit : ℕ) (p : Program) (histories : List History) → CanEmulate files name limit p histories
        → reply_to files (Some (emulate name into limit)) (Ok (kept_in into (log_of histories (length p.entries))))
    unfolding reply_to
    keeps name into limit p histories can = (p, accepts name p can.program, (log_of histories (length p.entries), logs p limit histories can.is_clean, refl))

    pub emulates : (name into : List ℕ) (limit : ℕ) (p : Program) (histories : List History) (a : Answer)
        → CanEmulate files name limit p histories → IsAnswer files (Some (emulate name into limit)) a → a ≡ logged_in into p histories
    emulates name into limit p histories a can is = is.is_answer ∙ ap answer_of (one_reply known files (Some (emulate name into limit)) is.reply
        (Ok (kept_in into (log_of histories (length p.entries)))) is.is_reply (keeps name into limit p histories can))

    names_log : (name : List ℕ) (kept : Log) → HasLog files name kept → log_named files name (Ok kept)
    unfolding log_named log_in
    names_log name kept h = (log_text kept, read_whole log_limit files name (log_text kept) h.is_there (omega (arith, known.logs.small kept h.is_valid)), (h.is_valid, refl))

    foretold : (kept : Log) (m : MachineOf) (r : Result Said Stopped) (a : Answer) → timed_on kept m r → a ≡ answer_of r → IsPredicted kept m a
    foretold kept m (Ok said) a h is = (said, h, is)
    foretold kept m (Err stop) a h is = absurd h

    on_machine : (waves : Option ℕ) (kept : Log) (m : MachineOf) (r : Result Said Stopped) → has_length m.place kept.chares ≡ true → IsAmple waves kept → predicted waves kept m r → timed_on kept m r
    unfolding predicted
    on_machine waves kept m r fit ample h = past_waves (timed_on kept m) waves kept m ample r
        (past (fits kept.chares m) (λ _. and_then (within waves kept m) (λ _. timed_on kept m)) (one_fit kept.chares m) tt (fitting kept.chares m fit) r h)

    with_journal : (waves : Option ℕ) (into : List ℕ) (kept : Log) (m : MachineOf) (r : Result Said Stopped) → has_length m.place kept.chares ≡ true → journaled waves into kept m r → journaled_on waves into kept m r
    unfolding journaled
    with_journal waves into kept m r fit h = past (fits kept.chares m) (λ _. journaled_on waves into kept m) (one_fit kept.chares m) tt (fitting kept.chares m fit) r h

    with_trace : (kept : Log) (m : MachineOf) (r : Result Said Stopped) → has_length m.place kept.chares ≡ true → traced kept m r → trace_on kept m r
    unfolding traced
    with_trace kept m r fit h = past (fits kept.chares m) (λ _. trace_on kept m) (one_fit kept.chares m) tt (fitting kept.chares m fit) r h

    with_chain : (kept : Log) (m : MachineOf) (r : Result Said Stopped) → has_length m.place kept.chares ≡ true → chained kept m r → chain_on kept m r
    unfolding chained
    with_chain kept m r fit h = past (fits kept.chares m) (λ _. chain_on kept m) (one_fit kept.chares m) tt (fitting kept.chares m fit) r h

    with_tune : (tuning : Tuning) (spans : Bool) (kept : Log) (m : MachineOf) (r : Result Said Stopped) → has_length m.place kept.chares ≡ true → tuned tuning spans kept m r → tune_on tuning spans kept m r
    unfolding tuned
    with_tune tuning spans kept m r fit h = past (fits kept.chares m) (λ _. tune_on tuning spans kept m) (one_fit kept.chares m) tt (fitting kept.chares m fit) r h

    -- past the log and the machine
    on_both : (name : List ℕ) (word : MachineWord) (next : Log → MachineOf → Step Said) (kept : Log) (m : MachineOf) (r : Result Said Stopped)
        → CanPredict files name word kept m → and_then (log_named files name) (λ kept. and_then (machine_named files word) (λ m. next kept m)) r → next kept m r
    on_both name word next kept m r can h =
        let one = one_log known.logs files name (one_contents log_limit files name) in
        past (machine_named files word) (λ m. next kept m) (one_named files word) m (names word m can.machine) r
        (past (log_named files name) (λ kept. and_then (machine_named files word) (λ m. next kept m)) one kept (names_log name kept can.log) r h)

    foretells : (name : List ℕ) (word : MachineWord) (waves : Option ℕ) (journal : Option (List ℕ)) (kept : Log) (m : MachineOf) (r : Result Said Stopped)
        → CanPredict files name word kept m → reply_to files (Some (predict name word waves journal)) r → asked_of_log waves journal kept m r
    unfolding reply_to
    foretells name word waves journal kept m r can h = on_both name word (asked_of_log waves journal) kept m r can h

    traces_on : (name : List ℕ) (word : MachineWord) (kept : Log) (m : MachineOf) (r : Result Said Stopped) → CanPredict files name word kept m → reply_to files (Some (trace name word)) r → traced kept m r
    unfolding reply_to
    traces_on name word kept m r can h = on_both name word traced kept m r can h

    pub predicts : (name : List ℕ) (word : MachineWord) (waves : Option ℕ) (kept : Log) (m : MachineOf) (a : Answer)
        → CanPredict files name word kept m → IsAmple waves kept → IsAnswer files (Some (predict name word waves None)) a → IsPredicted kept m a
    predicts name word waves kept m a can ample is =
        foretold kept m is.reply a (on_machine waves kept m is.reply can.is_fitting ample (foretells name word waves None kept m is.reply can is.is_reply)) is.is_answer

    pub journals : (name into : List ℕ) (word : MachineWord) (waves : Option ℕ) (kept : Log) (m : MachineOf) (a : Answer)
        → CanPredict files name word kept m → IsAmple waves kept → IsAnswer files (Some (predict name word waves (Some into))) a → IsJournaled waves into kept m a
    journals name into word waves kept m a can ample is =
        is_journal waves into kept m ample is.reply a (with_journal waves into kept m is.reply can.is_fitting (foretells name word waves (Some into) kept m is.reply can is.is_reply)) is.is_answer

    pub traces : (name : List ℕ) (word : MachineWord) (kept : Log) (m : MachineOf) (a : Answer) → CanPredict files name word kept m → IsAnswer files (Some (trace name word)) a → IsTraced kept m a
    traces name word kept m a can is = is_trace kept m is.reply a (with_trace kept m is.reply can.is_fitting (traces_on name word kept m is.reply can is.is_reply)) is.is_answer

    chains_on : (name : List ℕ) (word : MachineWord) (kept : Log) (m : MachineOf) (r : Result Said Stopped) → CanPredict files name word kept m → reply_to files (Some (chain name word)) r → chained kept m r
    unfolding reply_to
    chains_on name word kept m r can h = on_both name word chained kept m r can h

    pub chains : (name : List ℕ) (word : MachineWord) (kept : Log) (m : MachineOf) (a : Answer) → CanPredict files name word kept m → IsAnswer files (Some (chain name word)) a → IsChained kept m a
    chains name word kept m a can is = is_chain kept m is.reply a (with_chain kept m is.reply can.is_fitting (chains_on name word kept m is.reply can is.is_reply)) is.is_answer

    tunes_on : (name : List ℕ) (word : MachineWord) (tuning : Tuning) (spans : Bool) (kept : Log) (m : MachineOf) (r : Result Said Stopped) → CanPredict files name word kept m → reply_to files (Some (tune name word tuning spans)) r → tuned tuning spans kept m r
    unfolding reply_to
    tunes_on name word tuning spans kept m r can h = on_both name word (tuned tuning spans) kept m r can h

    pub tunes : (name : List ℕ) (word : MachineWord) (tuning : Tuning) (spans : Bool) (kept : Log) (m : MachineOf) (a : Answer)
        → CanPredict files name word kept m → IsAnswer files (Some (tune name word tuning spans)) a → IsTuned tuning spans kept m a
    tunes name word tuning spans kept m a can is =
        is_tune tuning spans kept m is.reply a (with_tune tuning spans kept m is.reply can.is_fitting (tunes_on name word tuning spans kept m is.reply can is.is_reply)) is.is_answer

    -- each machine of a sweep is read and fits
    reads_machines : (chares : ℕ) (words : List MachineWord) (ms before : List MachineOf) → HaveMachines files chares words ms → machines_behind before files chares words (Ok (before ++ ms))
    unfolding machines_behind fitting_machine
    reads_machines chares [] [] before h = ap (λ ms. Ok ms) (sym (append-nil before))
    reads_machines chares [] (m ∷ ms) before h = absurd h
    reads_machines chares (word ∷ words) [] before h = absurd h
    reads_machines chares (word ∷ words) (m ∷ ms) before h =
        let rest = reads_machines chares words ms (before ++ m ∷ []) h.2 in
        (m, (m, names word m h.0, (tt, fitting chares m h.1, refl)), subst (λ all. machines_behind (before ++ m ∷ []) files chares words (Ok all)) (append_assoc before (m ∷ []) ms) rest)

    sweeps_on : (name : List ℕ) (words : List MachineWord) (spans : Bool) (kept : Log) (ms : List MachineOf) (r : Result Said Stopped)
        → CanSweep files name words kept ms → reply_to files (Some (sweep name words spans)) r → sweep_on spans kept ms r
    unfolding reply_to
    sweeps_on name words spans kept ms r can h =
        let one = one_log known.logs files name (one_contents log_limit files name) in
        past (machines_behind [] files kept.chares words) (λ ms. sweep_on spans kept ms) (one_machines files kept.chares words []) ms (reads_machines kept.chares words ms [] can.are_fitting) r
        (past (log_named files name) (λ kept. and_then (machines_behind [] files kept.chares words) (λ ms. sweep_on spans kept ms)) one kept (names_log name kept can.log) r h)

    pub sweeps : (name : List ℕ) (words : List MachineWord) (spans : Bool) (kept : Log) (ms : List MachineOf) (a : Answer)
        → CanSweep files name words kept ms → IsAnswer files (Some (sweep name words spans)) a → IsSwept spans kept ms a
    sweeps name words spans kept ms a can is = is_sweep spans kept ms is.reply a (sweeps_on name words spans kept ms is.reply can is.is_reply) is.is_answer

-- what holds of each answer holds of the one that was written
module _ (files : Files) (asked : Option Asked) (P : Answer → Type 0) (each : (a : Answer) → IsAnswer files asked a → P a) (old new : Outside) where
  whole : (s : Status) → (a : Answer) × IsAnswer files asked a × WritesAnswer a s old new → Ends P old new s
  whole s h = inr (h.0, each h.0 h.1, h.2)

  pub ends : (s : Status) → Answers files asked old new s → Ends P old new s
  ends status.Settled h = whole status.Settled h
  ends status.Deadlock h = whole status.Deadlock h
  ends status.Trapped h = whole status.Trapped h
  ends status.BadWords h = whole status.BadWords h
  ends status.BadProgram h = whole status.BadProgram h
  ends status.CheckFailed h = whole status.CheckFailed h
  ends status.BadMachine h = whole status.BadMachine h
  ends status.BadLog h = whole status.BadLog h
  ends status.AmbiguousMatch h = whole status.AmbiguousMatch h
  ends status.TooLong h = whole status.TooLong h
  ends status.BudgetSpent h = whole status.BudgetSpent h
  ends status.TooBig h = whole status.TooBig h
  ends status.ReadFault h = inl tt
  ends status.WriteFault h = inl tt
  ends status.NoFile h = whole status.NoFile h
  ends status.Memory h = inl tt
