use Rattle.std.proofs.Common.{◌≡◌, None, Ok, Some}
use Rattle.bs_top.specs.Answer.{answer_of}
use Rattle.bs_top.specs.commands.Check.{printed}
use Rattle.bs_top.specs.commands.Gen.{generated}
use Rattle.bs_top.specs.Complete.{IsJournaled, IsPredicted, IsChained, IsReported, IsSwept, IsTraced, IsTried, IsTuned, logged_in}
use Rattle.bs_top.specs.Words.{check, model, emulate, run, predict, trace, chain, sweep, tune, gen, trial}
use Rattle.bs_top.proofs.Completing.{chains, checks, emulates, ends, journals, predicts, reports, reports_run, sweeps, traces, tunes}
use Rattle.bs_top.proofs.CompletingTrials.{gens, tries}
use Rattle.bs_top.proofs.laws.complete.Goals as goal

pub returns-clause-check : goal.returns-clause-check
returns-clause-check c files name p a = checks files c.known.ensures name p a

pub returns-clause-model : goal.returns-clause-model
returns-clause-model c files name word limit p m a = reports files c.known.ensures name word limit p m a

pub returns-clause-run : goal.returns-clause-run
returns-clause-run c files name word limit waves p m a = reports_run files c.known.ensures name word limit waves p m a

pub returns-clause-emulate : goal.returns-clause-emulate
returns-clause-emulate c files name into limit p histories a = emulates files c.known.ensures name into limit p histories a

pub returns-clause-predict : goal.returns-clause-predict
returns-clause-predict c files name word waves kept m a = predicts files c.known.ensures name word waves kept m a

pub returns-clause-journal : goal.returns-clause-journal
returns-clause-journal c files name into word waves kept m a = journals files c.known.ensures name into word waves kept m a

pub returns-clause-trace : goal.returns-clause-trace
returns-clause-trace c files name word kept m a = traces files c.known.ensures name word kept m a

pub returns-clause-checks : goal.returns-clause-checks
returns-clause-checks c files name p old new s has =
    ends files (Some (check name)) (λ a. a ≡ answer_of (Ok (printed p))) (λ a is. returns-clause-check c files name p a has is) old new s

pub returns-clause-models : goal.returns-clause-models
returns-clause-models c files name word limit p m old new s can =
    ends files (Some (model name word limit)) (IsReported p m limit) (λ a is. returns-clause-model c files name word limit p m a can is) old new s

pub returns-clause-runs : goal.returns-clause-runs
returns-clause-runs c files name word limit waves p m old new s can ample =
    ends files (Some (run name word limit waves)) (IsReported p m limit) (λ a is. returns-clause-run c files name word limit waves p m a can ample is) old new s

pub returns-clause-emulates : goal.returns-clause-emulates
returns-clause-emulates c files name into limit p histories old new s can =
    ends files (Some (emulate name into limit)) (λ a. a ≡ logged_in into p histories) (λ a is. returns-clause-emulate c files name into limit p histories a can is) old new s

pub returns-clause-predicts : goal.returns-clause-predicts
returns-clause-predicts c files name word waves kept m old new s can ample =
    ends files (Some (predict name word waves None)) (IsPredicted kept m) (λ a is. returns-clause-predict c files name word waves kept m a can ample is) old new s

pub returns-clause-journals : goal.returns-clause-journals
returns-clause-journals c files name into word waves kept m old new s can ample =
    ends files (Some (predict name word waves (Some into))) (IsJournaled waves into kept m) (λ a is. returns-clause-journal c files name into word waves kept m a can ample is) old new s

pub returns-clause-traces : goal.returns-clause-traces
returns-clause-traces c files name word kept m old new s can =
    ends files (Some (trace name word)) (IsTraced kept m) (λ a is. returns-clause-trace c files name word kept m a can is) old new s

pub returns-clause-chain : goal.returns-clause-chain
returns-clause-chain c files name word kept m a = chains files c.known.ensures name word kept m a

pub returns-clause-chains : goal.returns-clause-chains
returns-clause-chains c files name word kept m old new s can =
    ends files (Some (chain name word)) (IsChained kept m) (λ a is. returns-clause-chain c files name word kept m a can is) old new s

pub returns-clause-sweep : goal.returns-clause-sweep
returns-clause-sweep c files name words spans kept ms a = sweeps files c.known.ensures name words spans kept ms a

pub returns-clause-sweeps : goal.returns-clause-sweeps
returns-clause-sweeps c files name words spans kept ms old new s can =
    ends files (Some (sweep name words spans)) (IsSwept spans kept ms) (λ a is. returns-clause-sweep c files name words spans kept ms a can is) old new s

pub returns-clause-tune : goal.returns-clause-tune
returns-clause-tune c files name word tuning spans kept m a = tunes files c.known.ensures name word tuning spans kept m a

pub returns-clause-tunes : goal.returns-clause-tunes
returns-clause-tunes c files name word tuning spans kept m old new s can =
    ends files (Some (tune name word tuning spans)) (IsTuned tuning spans kept m) (λ a is. returns-clause-tune c files name word tuning spans kept m a can is) old new s

pub returns-clause-generate : goal.returns-clause-generate
returns-clause-generate c files program a = gens files c.known.ensures program a

pub returns-clause-trial : goal.returns-clause-trial
returns-clause-trial c files program p m a = tries files c.known.ensures program p m a

pub returns-clause-generates : goal.returns-clause-generates
returns-clause-generates c files program old new s =
    ends files (Some (gen program)) (λ a. a ≡ answer_of (Ok (generated program))) (λ a is. returns-clause-generate c files program a is) old new s

pub returns-clause-trials : goal.returns-clause-trials
returns-clause-trials c files program p m old new s can =
    ends files (Some (trial program)) (IsTried program p m) (λ a is. returns-clause-trial c files program p m a can is) old new s
