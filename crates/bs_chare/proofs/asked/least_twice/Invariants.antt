use Rattle.std.proofs.Common.{◌≡◌, ◌≤◌, ◌++◌, ℕ, ◌+◌, length, take, drop}
use Rattle.bs_chare.specs.Asked.{times, IsLeastTwice}
use Rattle.bs_chare.proofs.Askers.{has, IsListed}
use Rattle.bs_chare.proofs.asked.least_twice.Given as goal

abbrev pub invariant-loop-one : goal.invariant-loop-one
invariant-loop-one l = record {
  listed : IsListed (has l.keys) (times (take l.one-index l.asked));
  least : IsLeastTwice (times (take l.one-index l.asked)) l.least;
}
