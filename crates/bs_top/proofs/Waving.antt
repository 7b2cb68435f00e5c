-- What comes of a program by its log on a machine, from its steps.
use Rattle.std.proofs.Common.{◌≡◌, ℕ, Option, Result, Ok, Err, inl, inr}
use Rattle.bs_log.specs.declared.log.Log.{Log}
use Rattle.bs_log.specs.declared.outcome.Outcome.{Outcome}
use Rattle.bs_machine.specs.Machine.{MachineOf}
use Rattle.bs_machine.specs.declared.fitted.Fitted.{Fitted}
use Rattle.bs_settle.specs.declared.times.Times.{Times}
use Rattle.bs_tree.specs.declared.tree.Program.{Program}
use Rattle.bs_top.specs.declared.stopped.Stopped.{Stopped}
use Rattle.bs_top.specs.declared.stopped.Stopped.TheVariants.{Refused, NoFile, ReadFault, Memory}
use Rattle.bs_top.specs.Reports.{IsOutcomeOn, outcome_on, reported, this_outcome}
use Rattle.bs_top.specs.Inputs.{fits}
use Rattle.bs_top.specs.Verdicts.{logged}
use Rattle.bs_top.specs.commands.Run.{by_log, ran}
use Rattle.bs_top.specs.Waves.{within}
use Rattle.bs_top.specs.Seen.{said_of}
use Rattle.bs_top.specs.Step.{Said, Step, Told, and_then}
use Rattle.bs_top.proofs.Simulating.{this_log}
use Rattle.bs_top.proofs.Stages.{stops, goes_on}

-- the steps of a program by its log, and what comes of each
module _ {A B : Type 0} (view : B → A) (waves : Option ℕ) (p : Program) (m : MachineOf) (limit : ℕ) (last : Step A) where
  -- from the log on
  abbrev by_waves : Log → Step A
  by_waves kept = and_then (within waves kept m) (λ _. last)

  abbrev from_log : Step A
  from_log = and_then (logged p limit) by_waves

  pub unfit_run : (stop : Stopped) → Told (λ (f : Fitted). tt) (fits p.chares m) (Err stop) → Told view (by_log waves p m limit last) (Err stop)
  unfolding by_log
  unfit_run stop h = stops (λ (f : Fitted). tt) view (fits p.chares m) (λ _. from_log) stop h

  module _ (fit : fits p.chares m (Ok tt)) where
    fitted : (r : Result B Stopped) → Told view from_log r → Told view (by_log waves p m limit last) r
    unfolding by_log
    fitted r h = goes_on view (fits p.chares m) (λ _. from_log) tt r fit h

    pub no_log_run : (stop : Stopped) → Told this_log (logged p limit) (Err stop) → Told view (by_log waves p m limit last) (Err stop)
    no_log_run stop h = fitted (Err stop) (stops this_log view (logged p limit) by_waves stop h)

    module _ (kept : Log) (log : logged p limit (Ok kept)) where
      pub spent_run : (stop : Stopped) → Told (λ (t : Times). tt) (within waves kept m) (Err stop) → Told view (by_log waves p m limit last) (Err stop)
      spent_run stop h = fitted (Err stop) (goes_on view (logged p limit) by_waves kept (Err stop) log (stops (λ (t : Times). tt) view (within waves kept m) (λ _. last) stop h))

      pub runs : within waves kept m (Ok tt) → (a : A) → last (Ok a) → by_log waves p m limit last (Ok a)
      unfolding by_log
      runs enough a is = (tt, fit, (kept, log, (tt, enough, is)))

-- from the outcome to its report
module _ (waves : Option ℕ) (p : Program) (m : MachineOf) (limit : ℕ) where
  pub reports : (outcome : Outcome) → by_log waves p m limit (outcome_on p m limit) (Ok outcome) → (said : Said) → said ≡ reported outcome → ran waves p m limit (Ok said)
  unfolding ran by_log
  reports outcome h said same =
      let is : IsOutcomeOn p m limit outcome = h.2.2.2 in (
        tt,
        h.1,
        (
          h.2.0,
          h.2.1,
          (
            tt,
            h.2.2.1,
            record {
              fitted = is.fitted;
              outcome = outcome;
              is_machine = is.is_machine;
              is_fitted = is.is_fitted;
              is_outcome = is.is_outcome;
              is_said = same;
            },
          ),
        ),
      )

  stopped_run : (stop : Stopped) → by_log waves p m limit (outcome_on p m limit) (Err stop) → ran waves p m limit (Err stop)
  unfolding ran by_log
  stopped_run stop (inl h) = inl h
  stopped_run stop (inr (_, fit, inl h)) = inr (tt, fit, inl h)
  stopped_run stop (inr (_, fit, inr (kept, log, inl h))) = inr (tt, fit, inr (kept, log, inl h))
  stopped_run stop (inr (_, fit, inr (kept, log, inr (_, enough, h)))) = absurd h

  pub stops_run : (stop : Stopped) → Told this_outcome (by_log waves p m limit (outcome_on p m limit)) (Err stop) → Told said_of (ran waves p m limit) (Err stop)
  stops_run (Refused why) h = stopped_run (Refused why) h
  stops_run NoFile h = stopped_run NoFile h
  stops_run ReadFault h = tt
  stops_run Memory h = tt
