-- What comes of a command, from its steps.
use Rattle.std.proofs.Common.{◌≡◌, ◌≢◌, ℕ, List, refl, sym, ap, ◌∙◌, subst, inl, Option, Some, None, Result, Ok, Err}
use Rattle.bs_desk.specs.Outside.{Files}
use Rattle.std.specs.Prelude.{IfOk}
use Rattle.bs_check.specs.declared.accepted.Accepted.{Accepted}
use Rattle.bs_log.specs.declared.log.Log.{Log}
use Rattle.bs_machine.specs.Machine.{MachineOf, machine_view}
use Rattle.bs_words.specs.declared.command.Command.{Command}
use Rattle.bs_words.specs.declared.fault.WordsFault.{WordsFault}
use Rattle.bs_words.specs.declared.fault.WordsFault.TheVariants as words
use Rattle.bs_report.specs.declared.faults.Fault.TheVariants as fault
use Rattle.std.specs.Option.{option_and_then, option_map}
use Rattle.bs_top.specs.declared.reply.Reply.{Reply}
use Rattle.bs_top.specs.declared.stopped.Stopped.{Stopped}
use Rattle.bs_top.specs.declared.stopped.Stopped.TheVariants.{Refused, NoFile, ReadFault, Memory}
use Rattle.bs_top.specs.Inputs.{accepted, checked, contents, file_limit, machine_named, program_in}
use Rattle.bs_top.specs.commands.Emulate.{kept_in}
use Rattle.bs_top.specs.Verdicts.{logged}
use Rattle.bs_top.specs.commands.Check.{printed}
use Rattle.bs_top.specs.commands.Run.{ran}
use Rattle.bs_top.specs.Answer.{reply_to}
use Rattle.bs_top.specs.commands.Gen.{generated}
use Rattle.bs_top.specs.commands.Model.{simulated}
use Rattle.bs_top.specs.commands.Trial.{tried}
use Rattle.bs_top.specs.declared.asked.Asked.{Asked as AskedFor}
use Rattle.bs_top.specs.Seen.{asked_of, said_of}
use Rattle.bs_top.specs.Step.{Said, Step, Told, and_then, gives}
use Rattle.bs_top.specs.Stopped.{stopped_for_words}
use Rattle.bs_top.specs.Words.{Asked, check, model, emulate, run, predict, trace, chain, sweep, tune, gen, trial, built}
use Rattle.bs_words.specs.Machine.{MachineWord}
use Rattle.bs_words.specs.declared.generated.Generated.{Generated}
use Rattle.bs_tree.specs.declared.tree.Program.{Program}
use Rattle.bs_top.proofs.Machines.{items}
use Rattle.bs_top.proofs.Simulating.{itself, this_log}
use Rattle.bs_top.proofs.Stages.{stops, goes_on}

abbrev pub program_of : Accepted → Program
program_of a = a.program

abbrev pub nothing : Accepted → Unit {0}
nothing a = tt

-- the name of the program's file, where the command has one
abbrev pub AsksFor : List ℕ → Asked → Type 0
AsksFor name (check n) = name ≡ n
AsksFor name (model n word limit) = name ≡ n
AsksFor name (emulate n into limit) = name ≡ n
AsksFor name (run n word limit waves) = name ≡ n
AsksFor name (predict n word waves journal) = ⊥
AsksFor name (trace n word) = ⊥
AsksFor name (chain n word) = ⊥
AsksFor name (sweep n words spans) = ⊥
AsksFor name (tune n word tuning spans) = ⊥
AsksFor name (gen program) = ⊥
AsksFor name (trial program) = ⊥

-- the program of a file and the machine of a word, and what comes of both
abbrev pub on_both : Files → List ℕ → MachineWord → (Program → MachineOf → Step Said) → Step Said
on_both files name word next = and_then (accepted files name) (λ p. and_then (machine_named files word) (λ m. next p m))

module _ (files : Files) (name : List ℕ) where
  pub no_text : (stop : Stopped) → Told items (contents file_limit files name) (Err stop) → Told program_of (accepted files name) (Err stop)
  unfolding accepted
  no_text stop h = stops items program_of (contents file_limit files name) (λ text. and_then (program_in text) (λ p. and_then (checked p) (λ _. gives (Ok p)))) stop h

  module _ (text : List ℕ) (is_text : contents file_limit files name (Ok text)) where
    pub no_program : (stop : Stopped) → Told itself (program_in text) (Err stop) → Told program_of (accepted files name) (Err stop)
    unfolding accepted
    no_program stop h = goes_on program_of (contents file_limit files name) (λ text. and_then (program_in text) (λ p. and_then (checked p) (λ _. gives (Ok p)))) text (Err stop) is_text
        (stops itself program_of (program_in text) (λ p. and_then (checked p) (λ _. gives (Ok p))) stop h)

    module _ (p : Program) (is_program : program_in text (Ok p)) where
      ends : (r : Result Accepted Stopped) → IfOk r (λ a. a.program ≡ p) → Told nothing (checked p) r → Told program_of (and_then (checked p) (λ _. gives (Ok p))) r
      ends (Ok a) same h = (tt, h, ap (λ q. Ok q) (sym same))
      ends (Err (Refused why)) same h = inl h
      ends (Err NoFile) same h = inl h
      ends (Err ReadFault) same h = tt
      ends (Err Memory) same h = tt

      pub accepts : (r : Result Accepted Stopped) → IfOk r (λ a. a.program ≡ p) → Told nothing (checked p) r → Told program_of (accepted files name) r
      unfolding accepted
      accepts r same h = goes_on program_of (contents file_limit files name) (λ text. and_then (program_in text) (λ p. and_then (checked p) (λ _. gives (Ok p)))) text r is_text
          (goes_on program_of (program_in text) (λ p. and_then (checked p) (λ _. gives (Ok p))) p r is_program (ends r same h))

  pub not_accepted : (q : Asked) (stop : Stopped) → AsksFor name q → Told program_of (accepted files name) (Err stop) → Told said_of (reply_to files (Some q)) (Err stop)
  unfolding reply_to
  not_accepted (check n) stop is h = subst (λ k. Told said_of (reply_to files (Some (check k))) (Err stop)) is
      (stops program_of said_of (accepted files name) (λ p. gives (Ok (printed p))) stop h)
  not_accepted (model n word limit) stop is h = subst (λ k. Told said_of (reply_to files (Some (model k word limit))) (Err stop)) is
      (stops program_of said_of (accepted files name) (λ p. and_then (machine_named files word) (λ m. simulated p m limit)) stop h)
  not_accepted (emulate n into limit) stop is h = subst (λ k. Told said_of (reply_to files (Some (emulate k into limit))) (Err stop)) is
      (stops program_of said_of (accepted files name) (λ p. and_then (logged p limit) (λ kept. gives (Ok (kept_in into kept)))) stop h)
  not_accepted (run n word limit waves) stop is h = subst (λ k. Told said_of (reply_to files (Some (run k word limit waves))) (Err stop)) is
      (stops program_of said_of (accepted files name) (λ p. and_then (machine_named files word) (λ m. ran waves p m limit)) stop h)
  not_accepted (predict n word waves journal) stop is h = absurd is
  not_accepted (trace n word) stop is h = absurd is
  not_accepted (chain n word) stop is h = absurd is
  not_accepted (sweep n words spans) stop is h = absurd is
  not_accepted (tune n word tuning spans) stop is h = absurd is
  not_accepted (gen program) stop is h = absurd is
  not_accepted (trial program) stop is h = absurd is

  module _ (p : Program) (is_program : accepted files name (Ok p)) where
    pub prints : (said : Said) → said ≡ printed p → reply_to files (Some (check name)) (Ok said)
    unfolding reply_to
    prints said is = (p, is_program, ap (λ s. Ok s) (sym is))

    module _ (into : List ℕ) (limit : ℕ) where
      on_log : (r : Result Reply Stopped) → Told said_of (and_then (logged p limit) (λ kept. gives (Ok (kept_in into kept)))) r → Told said_of (reply_to files (Some (emulate name into limit))) r
      unfolding reply_to
      on_log r h = goes_on said_of (accepted files name) (λ p. and_then (logged p limit) (λ kept. gives (Ok (kept_in into kept)))) p r is_program h

      pub no_log : (stop : Stopped) → Told this_log (logged p limit) (Err stop) → Told said_of (reply_to files (Some (emulate name into limit))) (Err stop)
      no_log stop h = on_log (Err stop) (stops this_log said_of (logged p limit) (λ kept. gives (Ok (kept_in into kept))) stop h)

      pub keeps_log : (kept : Log) (reply : Reply) → logged p limit (Ok kept) → said_of reply ≡ kept_in into kept → Told said_of (reply_to files (Some (emulate name into limit))) (Ok reply)
      keeps_log kept reply h is = on_log (Ok reply) (kept, h, ap (λ s. Ok s) (sym is))

    -- a program and a machine, and then what comes of them
    module _ (word : MachineWord) (next : Program → MachineOf → Step Said) where
      on_program : (r : Result Reply Stopped) → Told said_of (and_then (machine_named files word) (λ m. next p m)) r → Told said_of (on_both files name word next) r
      on_program r h = goes_on said_of (accepted files name) (λ p. and_then (machine_named files word) (λ m. next p m)) p r is_program h

      pub no_machine : (stop : Stopped) → Told machine_view (machine_named files word) (Err stop) → Told said_of (on_both files name word next) (Err stop)
      no_machine stop h = on_program (Err stop) (stops machine_view said_of (machine_named files word) (λ m. next p m) stop h)

      pub on_machine : (m : MachineOf) (r : Result Reply Stopped) → machine_named files word (Ok m) → Told said_of (next p m) r → Told said_of (on_both files name word next) r
      on_machine m r h k = on_program r (goes_on said_of (machine_named files word) (λ m. next p m) m r h k)

  pub told_model : (word : MachineWord) (limit : ℕ) (r : Result Reply Stopped) → Told said_of (on_both files name word (λ p m. simulated p m limit)) r → Told said_of (reply_to files (Some (model name word limit))) r
  unfolding reply_to
  told_model word limit r h = h

  pub told_run : (word : MachineWord) (limit : ℕ) (waves : Option ℕ) (r : Result Reply Stopped) → Told said_of (on_both files name word (λ p m. ran waves p m limit)) r → Told said_of (reply_to files (Some (run name word limit waves))) r
  unfolding reply_to
  told_run word limit waves r h = h

-- commands that read no file
pub generates : (files : Files) (program : Generated) (reply : Reply) → said_of reply ≡ generated program → Told said_of (reply_to files (Some (gen program))) (Ok reply)
unfolding reply_to
generates files program reply is = ap (λ s. Ok s) (sym is)

pub told_trial : (files : Files) (program : Generated) (r : Result Reply Stopped) → Told said_of (tried program) r → Told said_of (reply_to files (Some (trial program))) r
unfolding reply_to
told_trial files program r h = h

pub no_words : (files : Files) → Told said_of (reply_to files None) (Err (Refused fault.BadWords))
unfolding reply_to
no_words files = refl

-- words that are no command
pub bad_words : (files : Files) (command : Option Command) (why : WordsFault) → (why ≢ words.Memory → command ≡ None) → Told said_of (reply_to files (option_and_then built command)) (Err (stopped_for_words why))
bad_words files command words.BadWords h = subst (λ c. Told said_of (reply_to files (option_and_then built c)) (Err (Refused fault.BadWords))) (sym (h (λ e. absurd (cc)))) (no_words files)
bad_words files command words.Memory h = tt

pub asked_is : (o : Option Command) (command : Command) (b : Option AskedFor) (a : AskedFor) → o ≡ Some command → option_map asked_of b ≡ built command → b ≡ Some a → option_and_then built o ≡ Some (asked_of a)
asked_is o command b a is seen got = ap (option_and_then built) is ∙ sym seen ∙ ap (option_map asked_of) got

pub not_asked : (o : Option Command) (command : Command) (b : Option AskedFor) → o ≡ Some command → option_map asked_of b ≡ built command → b ≡ None → option_and_then built o ≡ None
not_asked o command b is seen got = ap (option_and_then built) is ∙ sym seen ∙ ap (option_map asked_of) got
