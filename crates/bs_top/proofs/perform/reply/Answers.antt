use Rattle.std.proofs.Common.{map, string_bytes, sym, subst, ap, ◌∙◌, Some, Ok, Err}
use Rattle.bs_report.specs.declared.faults.Fault.TheVariants as fault
use Rattle.bs_top.specs.declared.stopped.Stopped.TheVariants.{Refused}
use Rattle.std.specs.Prelude.{IfSome}
use Rattle.bs_words.specs.Parts.{command_in}
use Rattle.bs_top.specs.Answer.{reply_to}
use Rattle.bs_top.specs.Causes.{ReplyCause}
use Rattle.bs_top.specs.Seen.{asked_of, said_of}
use Rattle.bs_top.specs.Step.{Told}
use Rattle.bs_top.specs.Stopped.{stopped_for_words}
use Rattle.bs_top.specs.Words.{asked_by}
use Rattle.bs_top.proofs.Causing.{ReadsLogs, ReadsPrograms, log_cause, program_cause}
use Rattle.bs_top.proofs.Limits.{limit_of, waves_of}
use Rattle.bs_top.proofs.Replying.{asked_is, bad_words, generates, no_words, not_asked, told_trial}
use Rattle.bs_top.proofs.Stages.{always, at_stop}
use Rattle.bs_top.proofs.perform.reply.Goals as goal

pub built-requires-clause-limit : goal.built-requires-clause-limit
built-requires-clause-limit g c = limit_of (map string_bytes c.args.words.now) c.in_ok-command.command c.in_ok-command.ensures.ok

pub built-requires-clause-waves : goal.built-requires-clause-waves
built-requires-clause-waves g c = waves_of (map string_bytes c.args.words.now) c.in_ok-command.command c.in_ok-command.ensures.ok

pub returns-in_err-command-clause-told : goal.returns-in_err-command-clause-told
returns-in_err-command-clause-told g c =
    let words = map string_bytes c.args.words.now in
    always (g.D.Desk.world c.args.desk.now).files (λ files.
    at_stop (Told said_of (reply_to files (asked_by words))) (stopped_for_words c.in_err-command.field-0.0) c.from_residual.result c.from_residual.ensures.1
    (bad_words files (command_in words) c.in_err-command.field-0.0 c.in_err-command.ensures.err))

pub returns-in-Some-Check-clause-told : goal.returns-in-Some-Check-clause-told
returns-in-Some-Check-clause-told g c =
    let words = map string_bytes c.args.words.now in
    let is = asked_is (command_in words) c.in_ok-command.command c.built.result c.in-Some-Check.field-0 c.in_ok-command.ensures.ok c.built.ensures.value c.in-Some-Check.is in
    subst (λ q. IfSome (g.D.Desk.world c.args.desk.now).files (λ files. Told said_of (reply_to files q) c.check_text.result))
    (sym (is ∙ ap (λ a. Some (asked_of a)) c.in-Some-Check.field-0-is)) c.check_text.ensures.told

pub returns-in-Some-Model-clause-told : goal.returns-in-Some-Model-clause-told
returns-in-Some-Model-clause-told g c =
    let words = map string_bytes c.args.words.now in
    let is = asked_is (command_in words) c.in_ok-command.command c.built.result c.in-Some-Model.field-0 c.in_ok-command.ensures.ok c.built.ensures.value c.in-Some-Model.is in
    subst (λ q. IfSome (g.D.Desk.world c.args.desk.now).files (λ files. Told said_of (reply_to files q) c.model.result))
    (sym (is ∙ ap (λ a. Some (asked_of a)) c.in-Some-Model.field-0-is)) c.model.ensures.told

pub returns-in-Some-Emulate-clause-told : goal.returns-in-Some-Emulate-clause-told
returns-in-Some-Emulate-clause-told g c =
    let words = map string_bytes c.args.words.now in
    let is = asked_is (command_in words) c.in_ok-command.command c.built.result c.in-Some-Emulate.field-0 c.in_ok-command.ensures.ok c.built.ensures.value c.in-Some-Emulate.is in
    subst (λ q. IfSome (g.D.Desk.world c.args.desk.now).files (λ files. Told said_of (reply_to files q) c.emulate.result))
    (sym (is ∙ ap (λ a. Some (asked_of a)) c.in-Some-Emulate.field-0-is)) c.emulate.ensures.told

pub returns-in-Some-Run-clause-told : goal.returns-in-Some-Run-clause-told
returns-in-Some-Run-clause-told g c =
    let words = map string_bytes c.args.words.now in
    let is = asked_is (command_in words) c.in_ok-command.command c.built.result c.in-Some-Run.field-0 c.in_ok-command.ensures.ok c.built.ensures.value c.in-Some-Run.is in
    subst (λ q. IfSome (g.D.Desk.world c.args.desk.now).files (λ files. Told said_of (reply_to files q) c.run.result))
    (sym (is ∙ ap (λ a. Some (asked_of a)) c.in-Some-Run.field-0-is)) c.run.ensures.told

pub returns-in-Some-Predict-clause-told : goal.returns-in-Some-Predict-clause-told
returns-in-Some-Predict-clause-told g c =
    let words = map string_bytes c.args.words.now in
    let is = asked_is (command_in words) c.in_ok-command.command c.built.result c.in-Some-Predict.field-0 c.in_ok-command.ensures.ok c.built.ensures.value c.in-Some-Predict.is in
    subst (λ q. IfSome (g.D.Desk.world c.args.desk.now).files (λ files. Told said_of (reply_to files q) c.predict.result))
    (sym (is ∙ ap (λ a. Some (asked_of a)) c.in-Some-Predict.field-0-is)) c.predict.ensures.told

pub returns-in-Some-Trace-clause-told : goal.returns-in-Some-Trace-clause-told
returns-in-Some-Trace-clause-told g c =
    let words = map string_bytes c.args.words.now in
    let is = asked_is (command_in words) c.in_ok-command.command c.built.result c.in-Some-Trace.field-0 c.in_ok-command.ensures.ok c.built.ensures.value c.in-Some-Trace.is in
    subst (λ q. IfSome (g.D.Desk.world c.args.desk.now).files (λ files. Told said_of (reply_to files q) c.trace.result))
    (sym (is ∙ ap (λ a. Some (asked_of a)) c.in-Some-Trace.field-0-is)) c.trace.ensures.told

pub returns-in-Some-Chain-clause-told : goal.returns-in-Some-Chain-clause-told
returns-in-Some-Chain-clause-told g c =
    let words = map string_bytes c.args.words.now in
    let is = asked_is (command_in words) c.in_ok-command.command c.built.result c.in-Some-Chain.field-0 c.in_ok-command.ensures.ok c.built.ensures.value c.in-Some-Chain.is in
    subst (λ q. IfSome (g.D.Desk.world c.args.desk.now).files (λ files. Told said_of (reply_to files q) c.chain.result))
    (sym (is ∙ ap (λ a. Some (asked_of a)) c.in-Some-Chain.field-0-is)) c.chain.ensures.told

pub returns-in-Some-Sweep-clause-told : goal.returns-in-Some-Sweep-clause-told
returns-in-Some-Sweep-clause-told g c =
    let words = map string_bytes c.args.words.now in
    let is = asked_is (command_in words) c.in_ok-command.command c.built.result c.in-Some-Sweep.field-0 c.in_ok-command.ensures.ok c.built.ensures.value c.in-Some-Sweep.is in
    subst (λ q. IfSome (g.D.Desk.world c.args.desk.now).files (λ files. Told said_of (reply_to files q) c.sweep.result))
    (sym (is ∙ ap (λ a. Some (asked_of a)) c.in-Some-Sweep.field-0-is)) c.sweep.ensures.told

pub returns-in-Some-Tune-clause-told : goal.returns-in-Some-Tune-clause-told
returns-in-Some-Tune-clause-told g c =
    let words = map string_bytes c.args.words.now in
    let is = asked_is (command_in words) c.in_ok-command.command c.built.result c.in-Some-Tune.field-0 c.in_ok-command.ensures.ok c.built.ensures.value c.in-Some-Tune.is in
    subst (λ q. IfSome (g.D.Desk.world c.args.desk.now).files (λ files. Told said_of (reply_to files q) c.tune.result))
    (sym (is ∙ ap (λ a. Some (asked_of a)) c.in-Some-Tune.field-0-is)) c.tune.ensures.told

pub returns-in-Some-Check-clause-cause : goal.returns-in-Some-Check-clause-cause
returns-in-Some-Check-clause-cause g c =
    let words = map string_bytes c.args.words.now in
    let is = asked_is (command_in words) c.in_ok-command.command c.built.result c.in-Some-Check.field-0 c.in_ok-command.ensures.ok c.built.ensures.value c.in-Some-Check.is in
    let old = g.D.Desk.world c.args.desk.now in
    let new = g.D.Desk.world c.check_text.new.desk in
    let kind = subst (λ a. ReadsPrograms (asked_of a)) (sym c.in-Some-Check.field-0-is) (tt {0}) in
    subst (λ q. ReplyCause q old new c.check_text.result) (sym is) (program_cause old new (asked_of c.in-Some-Check.field-0) kind c.check_text.result c.check_text.ensures.cause)

pub returns-in-Some-Model-clause-cause : goal.returns-in-Some-Model-clause-cause
returns-in-Some-Model-clause-cause g c =
    let words = map string_bytes c.args.words.now in
    let is = asked_is (command_in words) c.in_ok-command.command c.built.result c.in-Some-Model.field-0 c.in_ok-command.ensures.ok c.built.ensures.value c.in-Some-Model.is in
    let old = g.D.Desk.world c.args.desk.now in
    let new = g.D.Desk.world c.model.new.desk in
    let kind = subst (λ a. ReadsPrograms (asked_of a)) (sym c.in-Some-Model.field-0-is) (tt {0}) in
    subst (λ q. ReplyCause q old new c.model.result) (sym is) (program_cause old new (asked_of c.in-Some-Model.field-0) kind c.model.result c.model.ensures.cause)

pub returns-in-Some-Emulate-clause-cause : goal.returns-in-Some-Emulate-clause-cause
returns-in-Some-Emulate-clause-cause g c =
    let words = map string_bytes c.args.words.now in
    let is = asked_is (command_in words) c.in_ok-command.command c.built.result c.in-Some-Emulate.field-0 c.in_ok-command.ensures.ok c.built.ensures.value c.in-Some-Emulate.is in
    let old = g.D.Desk.world c.args.desk.now in
    let new = g.D.Desk.world c.emulate.new.desk in
    let kind = subst (λ a. ReadsPrograms (asked_of a)) (sym c.in-Some-Emulate.field-0-is) (tt {0}) in
    subst (λ q. ReplyCause q old new c.emulate.result) (sym is) (program_cause old new (asked_of c.in-Some-Emulate.field-0) kind c.emulate.result c.emulate.ensures.cause)

pub returns-in-Some-Run-clause-cause : goal.returns-in-Some-Run-clause-cause
returns-in-Some-Run-clause-cause g c =
    let words = map string_bytes c.args.words.now in
    let is = asked_is (command_in words) c.in_ok-command.command c.built.result c.in-Some-Run.field-0 c.in_ok-command.ensures.ok c.built.ensures.value c.in-Some-Run.is in
    let old = g.D.Desk.world c.args.desk.now in
    let new = g.D.Desk.world c.run.new.desk in
    let kind = subst (λ a. ReadsPrograms (asked_of a)) (sym c.in-Some-Run.field-0-is) (tt {0}) in
    subst (λ q. ReplyCause q old new c.run.result) (sym is) (program_cause old new (asked_of c.in-Some-Run.field-0) kind c.run.result c.run.ensures.cause)

pub returns-in-Some-Predict-clause-cause : goal.returns-in-Some-Predict-clause-cause
returns-in-Some-Predict-clause-cause g c =
    let words = map string_bytes c.args.words.now in
    let is = asked_is (command_in words) c.in_ok-command.command c.built.result c.in-Some-Predict.field-0 c.in_ok-command.ensures.ok c.built.ensures.value c.in-Some-Predict.is in
    let old = g.D.Desk.world c.args.desk.now in
    let new = g.D.Desk.world c.predict.new.desk in
    let kind = subst (λ a. ReadsLogs (asked_of a)) (sym c.in-Some-Predict.field-0-is) (tt {0}) in
    subst (λ q. ReplyCause q old new c.predict.result) (sym is) (log_cause old new (asked_of c.in-Some-Predict.field-0) kind c.predict.result c.predict.ensures.cause)

pub returns-in-Some-Trace-clause-cause : goal.returns-in-Some-Trace-clause-cause
returns-in-Some-Trace-clause-cause g c =
    let words = map string_bytes c.args.words.now in
    let is = asked_is (command_in words) c.in_ok-command.command c.built.result c.in-Some-Trace.field-0 c.in_ok-command.ensures.ok c.built.ensures.value c.in-Some-Trace.is in
    let old = g.D.Desk.world c.args.desk.now in
    let new = g.D.Desk.world c.trace.new.desk in
    let kind = subst (λ a. ReadsLogs (asked_of a)) (sym c.in-Some-Trace.field-0-is) (tt {0}) in
    subst (λ q. ReplyCause q old new c.trace.result) (sym is) (log_cause old new (asked_of c.in-Some-Trace.field-0) kind c.trace.result c.trace.ensures.cause)

pub returns-in-Some-Chain-clause-cause : goal.returns-in-Some-Chain-clause-cause
returns-in-Some-Chain-clause-cause g c =
    let words = map string_bytes c.args.words.now in
    let is = asked_is (command_in words) c.in_ok-command.command c.built.result c.in-Some-Chain.field-0 c.in_ok-command.ensures.ok c.built.ensures.value c.in-Some-Chain.is in
    let old = g.D.Desk.world c.args.desk.now in
    let new = g.D.Desk.world c.chain.new.desk in
    let kind = subst (λ a. ReadsLogs (asked_of a)) (sym c.in-Some-Chain.field-0-is) (tt {0}) in
    subst (λ q. ReplyCause q old new c.chain.result) (sym is) (log_cause old new (asked_of c.in-Some-Chain.field-0) kind c.chain.result c.chain.ensures.cause)

pub returns-in-Some-Sweep-clause-cause : goal.returns-in-Some-Sweep-clause-cause
returns-in-Some-Sweep-clause-cause g c =
    let words = map string_bytes c.args.words.now in
    let is = asked_is (command_in words) c.in_ok-command.command c.built.result c.in-Some-Sweep.field-0 c.in_ok-command.ensures.ok c.built.ensures.value c.in-Some-Sweep.is in
    let old = g.D.Desk.world c.args.desk.now in
    let new = g.D.Desk.world c.sweep.new.desk in
    let kind = subst (λ a. ReadsLogs (asked_of a)) (sym c.in-Some-Sweep.field-0-is) (tt {0}) in
    subst (λ q. ReplyCause q old new c.sweep.result) (sym is) (log_cause old new (asked_of c.in-Some-Sweep.field-0) kind c.sweep.result c.sweep.ensures.cause)

pub returns-in-Some-Tune-clause-cause : goal.returns-in-Some-Tune-clause-cause
returns-in-Some-Tune-clause-cause g c =
    let words = map string_bytes c.args.words.now in
    let is = asked_is (command_in words) c.in_ok-command.command c.built.result c.in-Some-Tune.field-0 c.in_ok-command.ensures.ok c.built.ensures.value c.in-Some-Tune.is in
    let old = g.D.Desk.world c.args.desk.now in
    let new = g.D.Desk.world c.tune.new.desk in
    let kind = subst (λ a. ReadsLogs (asked_of a)) (sym c.in-Some-Tune.field-0-is) (tt {0}) in
    subst (λ q. ReplyCause q old new c.tune.result) (sym is) (log_cause old new (asked_of c.in-Some-Tune.field-0) kind c.tune.result c.tune.ensures.cause)

pub returns-in-Some-Gen-clause-told : goal.returns-in-Some-Gen-clause-told
returns-in-Some-Gen-clause-told g c =
    let words = map string_bytes c.args.words.now in
    let is = asked_is (command_in words) c.in_ok-command.command c.built.result c.in-Some-Gen.field-0 c.in_ok-command.ensures.ok c.built.ensures.value c.in-Some-Gen.is in
    subst (λ q. IfSome (g.D.Desk.world c.args.desk.now).files (λ files. Told said_of (reply_to files q) (Ok c.in_ok-generated_text-in-Some-Gen.field-0)))
    (sym (is ∙ ap (λ a. Some (asked_of a)) c.in-Some-Gen.field-0-is)) (always (g.D.Desk.world c.args.desk.now).files (λ files. generates files c.in-Some-Gen.program c.in_ok-generated_text-in-Some-Gen.field-0 c.in_ok-generated_text-in-Some-Gen.ensures))

pub returns-in-Some-Trial-clause-told : goal.returns-in-Some-Trial-clause-told
returns-in-Some-Trial-clause-told g c =
    let words = map string_bytes c.args.words.now in
    let is = asked_is (command_in words) c.in_ok-command.command c.built.result c.in-Some-Trial.field-0 c.in_ok-command.ensures.ok c.built.ensures.value c.in-Some-Trial.is in
    subst (λ q. IfSome (g.D.Desk.world c.args.desk.now).files (λ files. Told said_of (reply_to files q) c.trial.result))
    (sym (is ∙ ap (λ a. Some (asked_of a)) c.in-Some-Trial.field-0-is)) (always (g.D.Desk.world c.args.desk.now).files (λ files. told_trial files c.in-Some-Trial.program c.trial.result c.trial.ensures.told))

pub returns-clause-told : goal.returns-clause-told
returns-clause-told g c =
    let words = map string_bytes c.args.words.now in
    subst (λ q. IfSome (g.D.Desk.world c.args.desk.now).files (λ files. Told said_of (reply_to files q) (Err (Refused fault.BadWords))))
    (sym (not_asked (command_in words) c.in_ok-command.command c.built.result c.in_ok-command.ensures.ok c.built.ensures.value c.in-None.is)) (always (g.D.Desk.world c.args.desk.now).files no_words)
