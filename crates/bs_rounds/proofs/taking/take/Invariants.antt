use Rattle.std.proofs.Common.{◌≡◌, ◌≤◌, ◌+◌, ◌*◌, length}
use Rattle.bs_log.specs.Size.{size_all}
use Rattle.bs_semantics.specs.Run.{history}
use Rattle.bs_rounds.specs.Posting.{held}
use Rattle.bs_rounds.proofs.Taken.{SoFar, IsRight}
use Rattle.bs_rounds.proofs.taking.take.Given as goal

abbrev pub invariant-loop-chare : goal.invariant-loop-chare
invariant-loop-chare l = record {
  together : l.together ≡ size_all l.histories.items;
  bound : l.together ≤ 262144 + 262144 * l.chare;
  count : length l.histories.items ≡ l.accepted.program.chares;
  taken : SoFar (IsRight (λ c. history l.accepted.program l.limit c (held l.mails c)) l.histories.items) l.accepted.program.chares l.fresh l.chare;
}
