use Rattle.std.proofs.Common.{◌≡◌, ◌||◌, drop, vec_len}
use Rattle.bs_check.specs.Declarations.{has_twice}
use Rattle.bs_check.proofs.Twice.{hits}
use Rattle.bs_check.proofs.declarations.repeats.Given as goal

abbrev pub invariant-loop-name : goal.invariant-loop-name
invariant-loop-name l = record {
  size : vec_len l.seen ≡ l.count;
  so_far : (hits l.seen.items (drop l.name-index l.names) || has_twice (drop l.name-index l.names)) ≡ has_twice l.names;
}
