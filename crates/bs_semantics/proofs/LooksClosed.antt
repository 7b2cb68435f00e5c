-- Closed histories pass the test of histories by themselves, whose limits are fixed.
use Rattle.std.proofs.Common.{◌≤◌, ℕ, List, arith}
use Rattle.bs_tree.specs.declared.tree.Program.{Program}
use Rattle.bs_log.specs.declared.history.History.{History}
use Rattle.bs_log.specs.ClosedTest.{LooksClosed}
use Rattle.bs_semantics.specs.Rounds.{Closed}
use Rattle.bs_semantics.proofs.ClosedSets.{passes}

pub looks_closed : (p : Program) (limit : ℕ) (hs : List History) → limit ≤ 262144 → 1 ≤ p.chares → p.chares ≤ 65536 → Closed p limit hs → LooksClosed hs
looks_closed p limit hs l some few h =
    let is = passes p limit hs h in
    let count = is.count in
    let size = is.size in
    record {
      some = omega (arith, count, some);
      count = omega (arith, count, few);
      sound = is.sound;
      once = is.once;
      size = omega (arith, size, l);
    }
