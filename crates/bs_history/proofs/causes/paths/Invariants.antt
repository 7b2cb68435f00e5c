use Rattle.std.proofs.Common.{◌≡◌, ◌++◌, map, reverse}
use Rattle.bs_history.specs.Causes.{cause_of}
use Rattle.bs_history.proofs.Paths.{path_of}
use Rattle.bs_history.proofs.causes.paths.Given as goal

abbrev pub invariant-loop-cause : goal.invariant-loop-cause
invariant-loop-cause l = record {
  so_far : l.paths ++ map path_of (map cause_of l.cause-iterator.rest.items) ≡ map path_of (map cause_of (reverse l.fn.causes.items));
}
