use Rattle.std.proofs.Common.{◌≤◌, ◌+◌, ◌-◌, length}
use Rattle.bs_desk.proofs.Parts.{IsPart}
use Rattle.bs_desk.proofs.whole.read_all.Given as goal

abbrev pub invariant-loop-room : goal.invariant-loop-room
invariant-loop-room g l =
    let world = g.D.Desk.world in
    record {
      short : length l.all.items ≤ l.limit + 1;
      part : IsPart l.name (world l.fn.desk) (world l.desk) l.all.items;
    }

abbrev pub decreases-loop-room : goal.decreases-loop-room
decreases-loop-room g l = l.limit + 1 - length l.all.items
