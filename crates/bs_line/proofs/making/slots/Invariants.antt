use Rattle.std.proofs.Common.{◌≡◌, ◌++◌, [], ◌∷◌, drop, map}
use Rattle.bs_line.specs.Making.{places_of}
use Rattle.bs_line.proofs.making.slots.Given as goal

abbrev pub invariant-loop-row : goal.invariant-loop-row
invariant-loop-row l = l.slots ++ map (places_of l.log l.mails) (drop l.row-index l.rows) ≡ [] ∷ map (places_of l.log l.mails) l.rows
