use Rattle.std.proofs.Common.{sym, ◌∙◌}
use Rattle.bs_semantics.specs.Serial.{IsSerial, timed}
use Rattle.bs_times.specs.Machine.{machine_of}
use Rattle.bs_top.specs.Computing.{IsOutcomeOf}
use Rattle.bs_top.proofs.AsModel.{chares_logged, if_ok, is_serial}
use Rattle.bs_top.proofs.commands.run.serial_outcome.Goals as goal

pub outcome_at-requires-clause-chares : goal.outcome_at-requires-clause-chares
outcome_at-requires-clause-chares c = c.requires.chares ∙ sym (chares_logged c.args.accepted.now.program c.args._limit c.args.log.now c.requires.log)

pub returns-clause-serial : goal.returns-clause-serial
returns-clause-serial c =
    let p = c.args.accepted.now.program in
    let m = machine_of c.args.fitted.now in
    if_ok c.outcome_at.result (IsOutcomeOf c.args.log.now m) (λ o. IsSerial p c.args._limit m (timed o))
    (is_serial p c.args._limit m c.args.log.now (λ hs s verdict table. c.verdict_times.ensures.told p c.args._limit m hs s (c.timely_machines.ensures c.args.fitted.now) verdict table) c.requires.log)
    c.outcome_at.ensures.value

pub returns-clause-reportable : goal.returns-clause-reportable
returns-clause-reportable c = c.outcome_at.ensures.reportable
