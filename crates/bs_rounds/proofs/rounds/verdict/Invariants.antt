use Rattle.std.proofs.Common.{◌≡◌}
use Rattle.bs_log.specs.Size.{size_all}
use Rattle.bs_rounds.specs.State.{IsAtRound}
use Rattle.bs_rounds.proofs.rounds.verdict.Given as goal

abbrev pub invariant-loop : goal.invariant-loop
invariant-loop l = record {
  rounds : l.chares.rounds ≡ l.counter;
  state : IsAtRound l.accepted.program l.limit l.chares.rounds l.chares.mails.items l.chares.fresh.items l.chares.histories.items;
  size : l.chares.size ≡ size_all l.chares.histories.items;
}
