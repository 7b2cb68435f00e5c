use Rattle.std.proofs.Common.{length}
use Rattle.bs_log.specs.Collected.{log_of}
use Rattle.bs_top.proofs.AsModel.{answers_as_model, answers_as_run}
use Rattle.bs_top.proofs.Completing.{journals, predicts, reports, reports_run}
use Rattle.bs_top.proofs.Foretold.{as_reported, as_serial, behind_journal}
use Rattle.bs_top.proofs.laws.headline.Goals as goal

pub returns-clause-run : goal.returns-clause-run
returns-clause-run c files name word limit a = (answers_as_model files name word limit a, answers_as_run files name word limit a)

pub returns-clause-within : goal.returns-clause-within
returns-clause-within c files name word limit waves p m a b can ample is_model is_run =
    let reported = reports files c.known.ensures name word limit p m a can is_model in
    let ran = reports_run files c.known.ensures name word limit waves p m b can ample is_run in
    as_reported c.known.ensures p m limit a b reported ran

pub returns-clause-valid : goal.returns-clause-valid
returns-clause-valid c files later name into word other limit waves p histories m a b can verdict has ample is_model is_predicted =
    let reported = reports files c.known.ensures name word limit p m a can is_model in
    let predicted = predicts later c.known.ensures into other waves (log_of histories (length p.entries)) m b has ample is_predicted in
    as_serial c.known.ensures.serial p limit histories verdict (λ machine s timely table. c.verdict_times.ensures.told p limit machine histories s timely verdict table) c.known.ensures.logs m a b reported predicted

pub returns-clause-predict : goal.returns-clause-predict
returns-clause-predict c files later name into word other limit waves p histories m a b limits can verdict has ample is_model is_predicted =
    let program = can.program in
    let valid = c.clean_logs_are_valid.ensures.verdict program.text p limit histories limits.1 program.is_spelled program.is_kept verdict in
    returns-clause-valid c files later name into word other limit waves p histories m a b can verdict
    (record { log = record { is_there = has.is_there; is_valid = valid }; machine = has.machine; is_fitting = has.is_fitting }) ample is_model is_predicted

pub returns-clause-journal : goal.returns-clause-journal
returns-clause-journal c files later name into beside word other limit waves p histories m a b limits can verdict has ample is_model is_predicted =
    let program = can.program in
    let valid = c.clean_logs_are_valid.ensures.verdict program.text p limit histories limits.1 program.is_spelled program.is_kept verdict in
    let reported = reports files c.known.ensures name word limit p m a can is_model in
    let journal = journals later c.known.ensures into beside other waves (log_of histories (length p.entries)) m b
    (record { log = record { is_there = has.is_there; is_valid = valid }; machine = has.machine; is_fitting = has.is_fitting }) ample is_predicted in
    behind_journal c.known.ensures.serial p limit histories verdict (λ machine s timely table. c.verdict_times.ensures.told p limit machine histories s timely verdict table) c.known.ensures.logs m waves beside a b reported journal
