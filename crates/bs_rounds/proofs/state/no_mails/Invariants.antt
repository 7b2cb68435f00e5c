use Rattle.std.proofs.Common.{◌≡◌, [], replicate}
use Rattle.bs_log.specs.Histories.{no_history}
use Rattle.bs_rounds.proofs.state.no_mails.Given as goal

abbrev pub invariant-loop : goal.invariant-loop
invariant-loop l = l.mails.items ≡ replicate l.counter []
