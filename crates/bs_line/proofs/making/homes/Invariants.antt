use Rattle.std.proofs.Common.{◌≡◌, ◌++◌, ◌∷◌, drop, map}
use Rattle.bs_line.proofs.making.homes.Given as goal

abbrev pub invariant-loop-row : goal.invariant-loop-row
invariant-loop-row l = l.homes ++ map (λ i. 0) (drop l._row-index l.rows) ≡ 0 ∷ map (λ i. 0) l.rows
