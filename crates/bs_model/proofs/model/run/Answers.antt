use Rattle.std.proofs.Common.{◌≡◌, ◌≤◌, [], ◌∷◌, map, length, refl, subst, arith}
use Rattle.bs_log.specs.Collected.{traps_from, waits_from}
use Rattle.bs_log.specs.Reportable.{IsReportable}
use Rattle.bs_log.specs.declared.outcome.Outcome.{Outcome}
use Rattle.bs_semantics.specs.Serial.{IsSerial, timed}
use Rattle.bs_model.specs.Book.{keyed}
use Rattle.bs_times.specs.Machine.{machine_of}
use Rattle.bs_model.specs.Next.{IsLeast}
use Rattle.bs_model.proofs.Choosing.{chares_here}
use Rattle.bs_model.specs.Asking.{AskOnce}
use Rattle.bs_model.specs.Stop.{HasCleanRound}
use Rattle.bs_model.proofs.Closing.{asks_once, has_clean_round}
use Rattle.bs_model.proofs.Counts.{few}
use Rattle.bs_model.proofs.Ending.{none_enabled, is_serial, is_reportable, if_given, if_denied, on_given}
use Rattle.bs_model.proofs.Running.{reached}
use Rattle.bs_model.proofs.model.run.Goals as goal

pub loop-turn-init : goal.loop-turn-init
loop-turn-init c = ([], c.in_ok-state.ensures.begun, refl)

pub loop-turn-preserved : goal.loop-turn-preserved
loop-turn-preserved c =
    let inv = c.loop-turn.invariant in
    let count = inv.2 in
    let few : length inv.0 ≤ c.args.limit = omega (arith, count, c.loop-turn-test.true) in
    let b = c.in_ok-state-in-Some.ensures.follows inv.0 inv.1 few in
    (b.0 ∷ inv.0, b.1, omega (arith, count))

pub next-requires : goal.next-requires
next-requires c = (c.args.machine.now, c.loop-turn.invariant.1.agenda)

pub outcome-requires : goal.outcome-requires
outcome-requires c =
    let inv = c.loop-turn.invariant in
    let count = chares_here c.args.accepted.now.program c.args.limit c.args.machine.now inv.0 c.loop-turn.state inv.1 in
    let bests = inv.1.bests.count in
    omega (arith, count, bests, c.requires.chares, c.args.machine.now.chares_in_range.1)

pub returns-in-None-clause-serial : goal.returns-in-None-clause-serial
returns-in-None-clause-serial c =
    let p = c.args.accepted.now.program in
    let limit = c.args.limit in
    let m = c.args.machine.now in
    let s = c.loop-turn.state in
    let inv = c.loop-turn.invariant in
    let none = subst (IsLeast m s.agenda.ends.items s.agenda.bests.items) c.in-None.is (c.next.ensures m inv.1.agenda) in
    let clean = has_clean_round p limit m inv.0 s inv.1 (none_enabled p limit m inv.0 s inv.1 none) in
    if_given (λ (o : Outcome). o.rows ≡ map (λ e. e.1.row) (keyed s.book)) (λ (o : Outcome). o.traps ≡ traps_from 0 s.histories.items) (λ (o : Outcome). o.waits ≡ waits_from 0 s.histories.items)
    (λ (o : Outcome). IsSerial p limit (machine_of m) (timed o)) (AskOnce s.histories.items) (λ o rows traps waits are. is_serial p limit m (clean are).0 (clean are).1 c.requires.limit.1 inv.0 s inv.1 o rows traps waits none)
    c.outcome.result c.outcome.ensures.rows c.outcome.ensures.traps c.outcome.ensures.waits c.outcome.ensures.once

pub returns-in-None-clause-reportable : goal.returns-in-None-clause-reportable
returns-in-None-clause-reportable c =
    let p = c.args.accepted.now.program in
    let limit = c.args.limit in
    let m = c.args.machine.now in
    let s = c.loop-turn.state in
    let inv = c.loop-turn.invariant in
    let none = subst (IsLeast m s.agenda.ends.items s.agenda.bests.items) c.in-None.is (c.next.ensures m inv.1.agenda) in
    let clean = has_clean_round p limit m inv.0 s inv.1 (none_enabled p limit m inv.0 s inv.1 none) in
    if_given (λ (o : Outcome). o.rows ≡ map (λ e. e.1.row) (keyed s.book)) (λ (o : Outcome). o.traps ≡ traps_from 0 s.histories.items) (λ (o : Outcome). o.waits ≡ waits_from 0 s.histories.items)
    IsReportable (AskOnce s.histories.items) (λ o rows traps waits are. is_reportable p limit m (clean are).0 (clean are).1 c.requires.limit.1 inv.0 s inv.1 o rows traps waits)
    c.outcome.result c.outcome.ensures.rows c.outcome.ensures.traps c.outcome.ensures.waits c.outcome.ensures.once

pub returns-in-None-clause-clean : goal.returns-in-None-clause-clean
returns-in-None-clause-clean c =
    let p = c.args.accepted.now.program in
    let limit = c.args.limit in
    let m = c.args.machine.now in
    let s = c.loop-turn.state in
    let inv = c.loop-turn.invariant in
    let none = subst (IsLeast m s.agenda.ends.items s.agenda.bests.items) c.in-None.is (c.next.ensures m inv.1.agenda) in
    on_given (AskOnce s.histories.items) (HasCleanRound p limit) (has_clean_round p limit m inv.0 s inv.1 (none_enabled p limit m inv.0 s inv.1 none)) c.outcome.result c.outcome.ensures.once

pub returns-in-None-clause-stopped : goal.returns-in-None-clause-stopped
returns-in-None-clause-stopped c =
    let p = c.args.accepted.now.program in
    let limit = c.args.limit in
    let m = c.args.machine.now in
    let s = c.loop-turn.state in
    let inv = c.loop-turn.invariant in
    if_denied (AskOnce s.histories.items) (HasCleanRound p limit) (asks_once p limit m inv.0 s inv.1) c.outcome.result c.outcome.ensures.stopped

pub returns-clause-stopped : goal.returns-clause-stopped
returns-clause-stopped c h =
    let p = c.args.accepted.now.program in
    let limit = c.args.limit in
    let m = machine_of c.args.machine.now in
    let inv = c.loop-turn.invariant in
    let low = few p limit m h.0 h.1 inv.0 (reached p limit m h.0 h.1 inv.0 inv.1.started) in
    let count = inv.2 in
    omega (arith, low, count, c.loop-turn-test.false)
