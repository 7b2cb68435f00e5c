use Rattle.std.proofs.Common.{◌≡◌, [], replicate}
use Rattle.bs_log.specs.Histories.{no_history}
use Rattle.bs_rounds.proofs.state.no_histories.Given as goal

abbrev pub invariant-loop : goal.invariant-loop
invariant-loop l = l.histories.items ≡ replicate l.counter no_history
