use Rattle.std.proofs.Common.{◌≡◌, ◌++◌, map}
use Rattle.bs_settle.proofs.gathering.values.Given as goal

abbrev pub invariant-loop-entry : goal.invariant-loop-entry
invariant-loop-entry l = l.list ++ map (λ e. e.1) l.entry-iterator ≡ map (λ e. e.1) l.sorted.entries
