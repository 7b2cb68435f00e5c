-- What comes of the text of a log on a machine, from its steps.
use Rattle.std.proofs.Common.{◌≡◌, ℕ, Bool, List, refl, Option, None, Some, Result, Ok, Err}
use Rattle.bs_desk.specs.Outside.{Files}
use Rattle.bs_log.specs.declared.log.Log.{Log}
use Rattle.bs_logread.specs.Fault.{IsRefusal}
use Rattle.bs_logread.specs.declared.fault.LogFault.{LogFault}
use Rattle.bs_logread.specs.declared.fault.LogFault.TheVariants as read
use Rattle.bs_machine.specs.Machine.{MachineOf, machine_view}
use Rattle.bs_machine.specs.declared.fitted.Fitted.{Fitted}
use Rattle.bs_top.specs.declared.reply.Reply.{Reply}
use Rattle.bs_top.specs.declared.stopped.Stopped.{Stopped}
use Rattle.bs_top.specs.declared.stopped.Stopped.TheVariants.{Refused, NoFile, ReadFault, Memory}
use Rattle.bs_settle.specs.declared.times.Times.{Times}
use Rattle.bs_top.specs.Reports.{IsPrediction, timed_on}
use Rattle.bs_top.specs.Inputs.{contents, fits, log_in, log_limit, log_named, machine_named}
use Rattle.bs_top.specs.commands.Predict.{predicted_with, predicted}
use Rattle.bs_top.specs.commands.Journal.{journaled, journaled_on}
use Rattle.bs_top.specs.Answer.{reply_to}
use Rattle.bs_top.specs.commands.Chain.{chain_on, chained}
use Rattle.bs_top.specs.commands.Trace.{trace_on, traced}
use Rattle.bs_top.specs.commands.Tune.{tune_on, tuned}
use Rattle.bs_top.specs.Waves.{within}
use Rattle.bs_top.specs.Seen.{said_of}
use Rattle.bs_top.specs.Step.{Said, Step, Told, and_then}
use Rattle.bs_top.specs.Stopped.{stopped_for_log}
use Rattle.bs_words.specs.Machine.{MachineWord}
use Rattle.bs_words.specs.declared.tuning.Tuning.{Tuning}
use Rattle.bs_top.specs.Words.{chain, predict, trace, tune}
use Rattle.bs_top.proofs.Machines.{items}
use Rattle.bs_top.proofs.Simulating.{this_log}
use Rattle.bs_top.proofs.AsModel.{nothing, stopped_at}
use Rattle.bs_top.proofs.Stages.{stops, goes_on}

pub bad_log : (text : List ℕ) (why : LogFault) → IsRefusal text why → Told this_log (log_in text) (Err (stopped_for_log why))
unfolding log_in
bad_log text (read.Refused line rule) h = (read.Refused line rule, h, refl)
bad_log text read.Memory h = tt

no_refusal : {A : Type 0} (stop : Stopped) → nothing ≡ stopped_at stop → A
no_refusal stop e = absurd (cc)

module _ (kept : Log) (m : MachineOf) where
  pub unfit_for : (waves : Option ℕ) (stop : Stopped) → Told (λ (f : Fitted). tt) (fits kept.chares m) (Err stop) → Told said_of (predicted waves kept m) (Err stop)
  unfolding predicted
  unfit_for waves stop h = stops (λ (f : Fitted). tt) said_of (fits kept.chares m) (λ _. and_then (within waves kept m) (λ _. timed_on kept m)) stop h

  pub unfit_journal : (waves : Option ℕ) (into : List ℕ) (stop : Stopped) → Told (λ (f : Fitted). tt) (fits kept.chares m) (Err stop) → Told said_of (journaled waves into kept m) (Err stop)
  unfolding journaled
  unfit_journal waves into stop h = stops (λ (f : Fitted). tt) said_of (fits kept.chares m) (λ _. journaled_on waves into kept m) stop h

  pub unfit_chain : (stop : Stopped) → Told (λ (f : Fitted). tt) (fits kept.chares m) (Err stop) → Told said_of (chained kept m) (Err stop)
  unfolding chained
  unfit_chain stop h = stops (λ (f : Fitted). tt) said_of (fits kept.chares m) (λ _. chain_on kept m) stop h

  pub unfit_tune : (tuning : Tuning) (spans : Bool) (stop : Stopped) → Told (λ (f : Fitted). tt) (fits kept.chares m) (Err stop) → Told said_of (tuned tuning spans kept m) (Err stop)
  unfolding tuned
  unfit_tune tuning spans stop h = stops (λ (f : Fitted). tt) said_of (fits kept.chares m) (λ _. tune_on tuning spans kept m) stop h

  pub unfit_trace : (stop : Stopped) → Told (λ (f : Fitted). tt) (fits kept.chares m) (Err stop) → Told said_of (traced kept m) (Err stop)
  unfolding traced
  unfit_trace stop h = stops (λ (f : Fitted). tt) said_of (fits kept.chares m) (λ _. trace_on kept m) stop h

  -- without a number of waves only memory can be wanting
  pub unbound_trace : (stop : Stopped) → Told (λ (t : Times). tt) (within None kept m) (Err stop) → Told said_of (traced kept m) (Err stop)
  unfolding within
  unbound_trace (Refused why) e = no_refusal (Refused why) e
  unbound_trace NoFile e = no_refusal NoFile e
  unbound_trace ReadFault e = tt
  unbound_trace Memory e = tt

  pub unbound_chain : (stop : Stopped) → Told (λ (t : Times). tt) (within None kept m) (Err stop) → Told said_of (chained kept m) (Err stop)
  unfolding within
  unbound_chain (Refused why) e = no_refusal (Refused why) e
  unbound_chain NoFile e = no_refusal NoFile e
  unbound_chain ReadFault e = tt
  unbound_chain Memory e = tt

  module _ (fit : fits kept.chares m (Ok tt)) where
    pub spends : (waves : Option ℕ) (stop : Stopped) → Told (λ (t : Times). tt) (within waves kept m) (Err stop) → Told said_of (predicted waves kept m) (Err stop)
    unfolding predicted
    spends waves stop h = goes_on said_of (fits kept.chares m) (λ _. and_then (within waves kept m) (λ _. timed_on kept m)) tt (Err stop) fit
        (stops (λ (t : Times). tt) said_of (within waves kept m) (λ _. timed_on kept m) stop h)

    pub foretells : (waves : Option ℕ) → within waves kept m (Ok tt) → (said : Said) → IsPrediction kept m said → predicted waves kept m (Ok said)
    unfolding predicted
    foretells waves enough said is = (tt, fit, (tt, enough, is))

    pub journals : (waves : Option ℕ) (into : List ℕ) (said : Said) → journaled_on waves into kept m (Ok said) → journaled waves into kept m (Ok said)
    unfolding journaled
    journals waves into said is = (tt, fit, is)

    pub traces : (said : Said) → trace_on kept m (Ok said) → traced kept m (Ok said)
    unfolding traced
    traces said is = (tt, fit, is)

    pub chains : (said : Said) → chain_on kept m (Ok said) → chained kept m (Ok said)
    unfolding chained
    chains said is = (tt, fit, is)

    pub tunes : (tuning : Tuning) (spans : Bool) (said : Said) → tune_on tuning spans kept m (Ok said) → tuned tuning spans kept m (Ok said)
    unfolding tuned
    tunes tuning spans said is = (tt, fit, is)

-- the log of a file and the machine of a word, and what comes of both
abbrev pub on_log_and : Files → List ℕ → MachineWord → (Log → MachineOf → Step Said) → Step Said
on_log_and files name word next = and_then (log_named files name) (λ kept. and_then (machine_named files word) (λ m. next kept m))

module _ (files : Files) (name : List ℕ) where
  pub no_text : (stop : Stopped) → Told items (contents log_limit files name) (Err stop) → Told this_log (log_named files name) (Err stop)
  unfolding log_named
  no_text stop h = stops items this_log (contents log_limit files name) (λ text. log_in text) stop h

  pub of_text : (text : List ℕ) (r : Result Log Stopped) → contents log_limit files name (Ok text) → Told this_log (log_in text) r → Told this_log (log_named files name) r
  unfolding log_named
  of_text text r h k = goes_on this_log (contents log_limit files name) (λ text. log_in text) text r h k

  module _ (word : MachineWord) (next : Log → MachineOf → Step Said) where
    pub no_log : (stop : Stopped) → Told this_log (log_named files name) (Err stop) → Told said_of (on_log_and files name word next) (Err stop)
    no_log stop h = stops this_log said_of (log_named files name) (λ kept. and_then (machine_named files word) (λ m. next kept m)) stop h

    module _ (kept : Log) (is_log : log_named files name (Ok kept)) where
      on_log : (r : Result Reply Stopped) → Told said_of (and_then (machine_named files word) (λ m. next kept m)) r → Told said_of (on_log_and files name word next) r
      on_log r h = goes_on said_of (log_named files name) (λ kept. and_then (machine_named files word) (λ m. next kept m)) kept r is_log h

      pub no_machine : (stop : Stopped) → Told machine_view (machine_named files word) (Err stop) → Told said_of (on_log_and files name word next) (Err stop)
      no_machine stop h = on_log (Err stop) (stops machine_view said_of (machine_named files word) (λ m. next kept m) stop h)

      pub on_machine : (m : MachineOf) (r : Result Reply Stopped) → machine_named files word (Ok m) → Told said_of (next kept m) r → Told said_of (on_log_and files name word next) r
      on_machine m r h k = on_log r (goes_on said_of (machine_named files word) (λ m. next kept m) m r h k)

  pub told_predict : (word : MachineWord) (waves : Option ℕ) (journal : Option (List ℕ)) (r : Result Reply Stopped) → Told said_of (on_log_and files name word (predicted_with waves journal)) r
      → Told said_of (reply_to files (Some (predict name word waves journal))) r
  unfolding reply_to
  told_predict word waves journal r h = h

  pub told_chain : (word : MachineWord) (r : Result Reply Stopped) → Told said_of (on_log_and files name word chained) r → Told said_of (reply_to files (Some (chain name word))) r
  unfolding reply_to
  told_chain word r h = h

  pub told_tune : (word : MachineWord) (tuning : Tuning) (spans : Bool) (r : Result Reply Stopped) → Told said_of (on_log_and files name word (tuned tuning spans)) r → Told said_of (reply_to files (Some (tune name word tuning spans))) r
  unfolding reply_to
  told_tune word tuning spans r h = h

  pub told_trace : (word : MachineWord) (r : Result Reply Stopped) → Told said_of (on_log_and files name word traced) r → Told said_of (reply_to files (Some (trace name word))) r
  unfolding reply_to
  told_trace word r h = h
