use Rattle.std.proofs.Common.{◌≡◌, ◌++◌, map, drop}
use Rattle.bs_words.proofs.command.arguments.Given as goal

abbrev pub invariant-loop-name : goal.invariant-loop-name
invariant-loop-name l = l.arguments ++ map (λ n. n.now) (drop l.name-index l.names) ≡ map (λ n. n.now) l.names
