use Rattle.std.proofs.Common.{◌≡◌, map}
use Rattle.bs_floor.specs.History.{fresh_cell}
use Rattle.bs_floor.proofs.turn_table.laid.Given as goal

abbrev pub invariant-loop-station : goal.invariant-loop-station
invariant-loop-station g l = l.cells.items ≡ map (fresh_cell g.S.Station) l.yielded
