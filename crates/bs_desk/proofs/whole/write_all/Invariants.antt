use Rattle.std.proofs.Common.{◌≡◌, ◌≤◌, ◌-◌, length, take}
use Rattle.bs_desk.specs.Outside.{MayWrite, written}
use Rattle.bs_desk.proofs.whole.write_all.Given as goal

abbrev pub invariant-loop-at : goal.invariant-loop-at
invariant-loop-at g l =
    let world = g.D.Desk.world in
    record {
      within : l.at ≤ length l.bytes;
      may : MayWrite l.port (world l.desk);
      so_far : world l.desk ≡ written l.port (take l.at l.bytes) (world l.fn.desk);
    }

abbrev pub decreases-loop-at : goal.decreases-loop-at
decreases-loop-at g l = length l.bytes - l.at
