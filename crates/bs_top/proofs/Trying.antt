-- What comes of a trial, from its steps.
use Rattle.std.proofs.Common.{◌≡◌, ℕ, List, ap, sym, refl, None, Result, Ok, Err}
use Rattle.bs_gen.specs.Programs.{workload_text}
use Rattle.bs_log.specs.declared.outcome.Outcome.{Outcome}
use Rattle.bs_machine.specs.Machine.{MachineOf, flat_in, machine_view}
use Rattle.bs_check.specs.declared.accepted.Accepted.{Accepted}
use Rattle.bs_tree.specs.declared.tree.Program.{Program}
use Rattle.bs_words.specs.declared.generated.Generated.{Generated}
use Rattle.bs_top.specs.declared.reply.Reply.{Reply}
use Rattle.bs_top.specs.declared.stopped.Stopped.{Stopped}
use Rattle.bs_top.specs.Inputs.{checked, or_bad_machine, program_in}
use Rattle.bs_top.specs.Reports.{outcome_on, this_outcome}
use Rattle.bs_top.specs.Seen.{said_of}
use Rattle.bs_top.specs.Step.{Said, Step, Told, and_then, gives}
use Rattle.bs_top.specs.commands.Run.{by_log}
use Rattle.bs_top.specs.commands.Trial.{trial_limit, tried, tried_as}
use Rattle.bs_top.proofs.Simulating.{itself}
use Rattle.bs_top.proofs.Stages.{goes_on, stops}

module _ (g : Generated) where
  abbrev with_outcome : Program → MachineOf → Step Said
  with_outcome p m = and_then (by_log None p m trial_limit (outcome_on p m trial_limit)) (λ o. gives (Ok (tried_as g o)))

  abbrev with_machine : Program → Step Said
  with_machine p = and_then (gives (or_bad_machine (flat_in 64 10))) (λ m. with_outcome p m)

  abbrev with_program : Program → Step Said
  with_program p = and_then (checked p) (λ _. with_machine p)

  abbrev text : List ℕ
  text = workload_text g.kind g.chares g.seed

  pub no_program : (stop : Stopped) → Told itself (program_in text) (Err stop) → Told said_of (tried g) (Err stop)
  unfolding tried
  no_program stop h = stops itself said_of (program_in text) with_program stop h

  module _ (p : Program) (is_program : program_in text (Ok p)) where
    on_program : (r : Result Reply Stopped) → Told said_of (with_program p) r → Told said_of (tried g) r
    unfolding tried
    on_program r h = goes_on said_of (program_in text) with_program p r is_program h

    pub not_kept : (stop : Stopped) → Told (λ (a : Accepted). tt) (checked p) (Err stop) → Told said_of (tried g) (Err stop)
    not_kept stop h = on_program (Err stop) (stops (λ (a : Accepted). tt) said_of (checked p) (λ _. with_machine p) stop h)

    module _ (is_kept : checked p (Ok tt)) where
      on_kept : (r : Result Reply Stopped) → Told said_of (with_machine p) r → Told said_of (tried g) r
      on_kept r h = on_program r (goes_on said_of (checked p) (λ _. with_machine p) tt r is_kept h)

      pub no_machine : (stop : Stopped) → Told machine_view (gives (or_bad_machine (flat_in 64 10))) (Err stop) → Told said_of (tried g) (Err stop)
      no_machine stop h = on_kept (Err stop) (stops machine_view said_of (gives (or_bad_machine (flat_in 64 10))) (λ m. with_outcome p m) stop h)

      module _ (m : MachineOf) (is_machine : gives (or_bad_machine (flat_in 64 10)) (Ok m)) where
        on_machine : (r : Result Reply Stopped) → Told said_of (with_outcome p m) r → Told said_of (tried g) r
        on_machine r h = on_kept r (goes_on said_of (gives (or_bad_machine (flat_in 64 10))) (λ m. with_outcome p m) m r is_machine h)

        pub no_outcome : (stop : Stopped) → Told this_outcome (by_log None p m trial_limit (outcome_on p m trial_limit)) (Err stop) → Told said_of (tried g) (Err stop)
        no_outcome stop h = on_machine (Err stop) (stops this_outcome said_of (by_log None p m trial_limit (outcome_on p m trial_limit)) (λ o. gives (Ok (tried_as g o))) stop h)

        pub tries : (outcome : Outcome) → by_log None p m trial_limit (outcome_on p m trial_limit) (Ok outcome) → (reply : Reply) → said_of reply ≡ tried_as g outcome → Told said_of (tried g) (Ok reply)
        tries outcome h reply is = on_machine (Ok reply) (outcome, h, ap (λ s. Ok s) (sym is))
