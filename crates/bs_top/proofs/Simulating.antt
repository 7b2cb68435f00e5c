-- What comes of a program on a machine, from its steps.
use Rattle.std.proofs.Common.{◌≡◌, ◌≢◌, ℕ, List, length, refl, sym, ap, Result, Ok, Err, None}
use Rattle.bs_machine.specs.Machine.{MachineOf}
use Rattle.bs_machine.specs.declared.fitted.Fitted.{Fitted}
use Rattle.bs_check.specs.Refusal.{IsRefused, refusal}
use Rattle.bs_check.specs.declared.accepted.Accepted.{Accepted}
use Rattle.bs_check.specs.declared.fault.CheckFault.{CheckFault}
use Rattle.bs_check.specs.declared.fault.CheckFault.TheVariants as check
use Rattle.bs_emul.specs.Emulated.{IsCleanLog}
use Rattle.bs_parse.specs.Text.{IsFault}
use Rattle.bs_parse.specs.declared.text.ParseFault.{ParseFault}
use Rattle.bs_parse.specs.declared.text.ParseFault.TheVariants as parse
use Rattle.bs_rounds.specs.Answer.{IsAnswer, twice_of}
use Rattle.bs_rounds.specs.declared.answer.Twice.{Twice}
use Rattle.bs_rounds.specs.declared.answer.Verdict.TheVariants.{Clean, Ambiguous, TooLong}
use Rattle.bs_log.specs.Collected.{log_of}
use Rattle.bs_log.specs.declared.history.History.{History}
use Rattle.bs_log.specs.declared.log.Log.{Log}
use Rattle.bs_semantics.specs.Rounds.{CleanAt, round}
use Rattle.bs_semantics.specs.Verdict as rounds
use Rattle.bs_report.specs.declared.faults.Fault.TheVariants as fault
use Rattle.bs_tree.specs.declared.tree.Program.{Program}
use Rattle.bs_top.specs.declared.stopped.Stopped.{Stopped}
use Rattle.bs_top.specs.declared.stopped.Stopped.TheVariants.{Refused, NoFile, ReadFault, Memory}
use Rattle.bs_top.specs.Reports.{IsReport, serial_run}
use Rattle.bs_top.specs.Inputs.{checked, fits, program_in}
use Rattle.bs_top.specs.Verdicts.{if_clean, judged, log_if_clean, logged, twice_told}
use Rattle.bs_top.specs.commands.Model.{simulated}
use Rattle.bs_top.specs.Computing.{IsUnclean}
use Rattle.bs_top.specs.Seen.{said_of}
use Rattle.bs_top.specs.Step.{Said, Told, and_then}
use Rattle.bs_top.specs.Stopped.{stopped_for_check, stopped_for_program}
use Rattle.bs_top.proofs.Stages.{stops, goes_on}

abbrev pub itself : Program → Program
itself p = p

abbrev result_of : Log → Result Log Stopped
result_of log = Ok log

abbrev stopped : Stopped → Result (Unit {0}) Stopped
stopped stop = Err stop

abbrev no_log_for : Stopped → Result Log Stopped
no_log_for stop = Err stop

abbrev pub this_log : Log → Log
this_log log = log

pub bad_program : (text : List ℕ) (why : ParseFault) → (why ≢ parse.Memory → IsFault text why) → Told itself (program_in text) (Err (stopped_for_program why))
unfolding program_in
bad_program text (parse.Lex why) h = (parse.Lex why, h (λ e. absurd (cc)), refl)
bad_program text (parse.Unexpected byte kind) h = (parse.Unexpected byte kind, h (λ e. absurd (cc)), refl)
bad_program text (parse.TooDeep byte) h = (parse.TooDeep byte, h (λ e. absurd (cc)), refl)
bad_program text (parse.TooManyStatements byte) h = (parse.TooManyStatements byte, h (λ e. absurd (cc)), refl)
bad_program text parse.Memory h = tt

pub is_refused : (p : Program) (why : CheckFault) → (why ≢ check.Memory → IsRefused p why) → Told (λ (a : Accepted). tt) (checked p) (Err (stopped_for_check why))
unfolding checked
is_refused p (check.Refused stmt rule) h = (check.Refused stmt rule, h (λ e. absurd (cc)), refl)
is_refused p check.Memory h = tt

pub is_accepted : (p : Program) → refusal p ≡ None → checked p (Ok tt)
unfolding checked
is_accepted p h = h

module _ (p : Program) (limit : ℕ) where
  is_clean : (log : Log) → IsAnswer p limit (Clean log) → judged p limit (Ok tt)
  unfolding judged
  is_clean log h = (rounds.clean h.0, h.1, refl)

  is_ambiguous : (t : Twice) → IsAnswer p limit (Ambiguous t) → judged p limit (Err (Refused (fault.Ambiguous t)))
  unfolding judged
  is_ambiguous t h = (rounds.twice (twice_of t), h, refl)

  is_too_long : IsAnswer p limit TooLong → judged p limit (Err (Refused (fault.TooLong limit)))
  unfolding judged
  is_too_long h = (rounds.too_long, h, refl)

  -- a program whose verdict is Clean is run
  pub passes : (n : ℕ) → CleanAt p limit n → judged p limit (Ok tt)
  unfolding judged
  passes n clean = (rounds.clean (round p limit n), rounds.is_clean n clean, refl)

  -- why a program isn't run, by its verdict
  pub named_twice : (t : Twice) → IsAnswer p limit (Ambiguous t) → IsUnclean p limit (Refused (fault.Ambiguous t))
  named_twice t h = is_ambiguous t h

  pub named_too_long : IsAnswer p limit TooLong → IsUnclean p limit (Refused (fault.TooLong limit))
  named_too_long h = is_too_long h

  -- the round that is Clean
  clean_round : (v : rounds.Verdict) → rounds.IsVerdict p limit v → if_clean limit v ≡ Ok tt → (n : ℕ) × CleanAt p limit n
  clean_round _ (rounds.is_too_long n before long) is = absurd (cc)
  clean_round _ (rounds.is_twice n before size t two) is = absurd (cc)
  clean_round _ (rounds.is_clean n clean) is = (n, clean)

  -- no log is that of a program without a Clean round
  pub never_clean : ((n : ℕ) → CleanAt p limit n → ⊥) → (log : Log) → IsAnswer p limit (Clean log) → ⊥
  never_clean never log h = let clean = clean_round (rounds.clean h.0) h.1 refl in never clean.0 clean.1

  -- what names the cause of a verdict, as it comes to the step
  pub unclean_told : {A : Type 0} (view : A → Unit {0}) (stop : Stopped) → IsUnclean p limit stop → Told view (judged p limit) (Err stop)
  unclean_told view (Refused why) h = h
  unclean_told view NoFile h = h
  unclean_told view ReadFault h = tt
  unclean_told view Memory h = tt

  -- a log that was emulated
  pub is_logged : (log : Log) → IsCleanLog p limit log → logged p limit (Ok log)
  unfolding logged
  is_logged log h = (rounds.clean h.0, h.1, ap (λ l. Ok l) (sym h.2))

  pub is_judged : (log : Log) → IsCleanLog p limit log → judged p limit (Ok tt)
  unfolding judged
  is_judged log h = (rounds.clean h.0, h.1, refl)

  -- no round is Clean where no verdict is
  pub never_clean_at : ((hs : List History) → rounds.IsVerdict p limit (rounds.clean hs) → ⊥) → (n : ℕ) → CleanAt p limit n → ⊥
  never_clean_at never n clean = never (round p limit n) (rounds.is_clean n clean)

  -- where a program isn't run, it has no log
  pub no_log : (stop : Stopped) → judged p limit (Err stop) → logged p limit (Err stop)
  unfolding judged logged
  no_log stop h = by h.0 h.1 h.2
    where
      same : (s : Stopped) → stopped s ≡ stopped stop → no_log_for s ≡ no_log_for stop
      same s e = cc

      by : (v : rounds.Verdict) → rounds.IsVerdict p limit v → if_clean limit v ≡ Err stop
          → (w : rounds.Verdict) × rounds.IsVerdict p limit w × (log_if_clean limit (length p.entries) w ≡ Err stop)
      by (rounds.clean hs) is e = absurd (cc)
      by (rounds.twice t) is e = (rounds.twice t, is, same (Refused (fault.Ambiguous (twice_told t))) e)
      by rounds.too_long is e = (rounds.too_long, is, same (Refused (fault.TooLong limit)) e)

  pub no_log_told : (stop : Stopped) → IsUnclean p limit stop → Told this_log (logged p limit) (Err stop)
  no_log_told (Refused why) h = no_log (Refused why) h
  no_log_told NoFile h = no_log NoFile h
  no_log_told ReadFault h = tt
  no_log_told Memory h = tt

  -- the histories of a log
  pub histories_of : (log : Log) → logged p limit (Ok log) → (hs : List History) × rounds.IsVerdict p limit (rounds.clean hs) × (log ≡ log_of hs (length p.entries))
  unfolding logged
  histories_of log h = by h.0 h.1 h.2
    where
      same_log : (a b : Log) → result_of a ≡ result_of b → b ≡ a
      same_log a b e = cc

      by : (v : rounds.Verdict) → rounds.IsVerdict p limit v → log_if_clean limit (length p.entries) v ≡ Ok log
          → (hs : List History) × rounds.IsVerdict p limit (rounds.clean hs) × (log ≡ log_of hs (length p.entries))
      by (rounds.clean hs) is e = (hs, is, same_log (log_of hs (length p.entries)) log e)
      by (rounds.twice t) is e = absurd (cc)
      by rounds.too_long is e = absurd (cc)

  -- a program that has a log is run
  pub judged_by_log : (log : Log) → logged p limit (Ok log) → judged p limit (Ok tt)
  unfolding judged
  judged_by_log log h = let is = histories_of log h in (rounds.clean is.0, is.1, refl)

  -- and one that is run has a log
  pub log_by_judged : judged p limit (Ok tt) → (log : Log) × logged p limit (Ok log)
  unfolding judged logged
  log_by_judged h = by h.0 h.1 h.2
    where
      by : (v : rounds.Verdict) → rounds.IsVerdict p limit v → if_clean limit v ≡ Ok tt
          → (log : Log) × ((w : rounds.Verdict) × rounds.IsVerdict p limit w × (log_if_clean limit (length p.entries) w ≡ Ok log))
      by (rounds.clean hs) is e = (log_of hs (length p.entries), (rounds.clean hs, is, refl))
      by (rounds.twice t) is e = absurd (cc)
      by rounds.too_long is e = absurd (cc)

  -- one that has no log isn't run
  pub not_judged : (stop : Stopped) → logged p limit (Err stop) → judged p limit (Err stop)
  unfolding judged logged
  not_judged stop h = by h.0 h.1 h.2
    where
      same : (s : Stopped) → no_log_for s ≡ no_log_for stop → stopped s ≡ stopped stop
      same s e = cc

      by : (v : rounds.Verdict) → rounds.IsVerdict p limit v → log_if_clean limit (length p.entries) v ≡ Err stop
          → (w : rounds.Verdict) × rounds.IsVerdict p limit w × (if_clean limit w ≡ Err stop)
      by (rounds.clean hs) is e = absurd (cc)
      by (rounds.twice t) is e = (rounds.twice t, is, same (Refused (fault.Ambiguous (twice_told t))) e)
      by rounds.too_long is e = (rounds.too_long, is, same (Refused (fault.TooLong limit)) e)

module _ (p : Program) (m : MachineOf) (limit : ℕ) where
  pub unfit : (stop : Stopped) → Told (λ (f : Fitted). tt) (fits p.chares m) (Err stop) → Told said_of (simulated p m limit) (Err stop)
  unfolding simulated
  unfit stop h = stops (λ (f : Fitted). tt) said_of (fits p.chares m) (λ _. and_then (judged p limit) (λ _. serial_run p m limit)) stop h

  module _ (fit : fits p.chares m (Ok tt)) where
    pub not_clean : {A : Type 0} (view : A → Unit {0}) (stop : Stopped) → Told view (judged p limit) (Err stop) → Told said_of (simulated p m limit) (Err stop)
    unfolding simulated
    not_clean view stop h = goes_on said_of (fits p.chares m) (λ _. and_then (judged p limit) (λ _. serial_run p m limit)) tt (Err stop) fit
        (stops view said_of (judged p limit) (λ _. serial_run p m limit) stop h)

    pub ran : judged p limit (Ok tt) → (said : Said) → IsReport p m limit said → simulated p m limit (Ok said)
    unfolding simulated
    ran clean said report = (tt, fit, (tt, clean, report))
