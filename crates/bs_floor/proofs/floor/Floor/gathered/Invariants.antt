use Rattle.std.proofs.Common.{◌≡◌, ◌++◌, [], None, Some, map}
use Rattle.std.specs.Prelude.{All}
use Rattle.std.specs.Vec.Iter.{into_iter_items}
use Rattle.bs_floor.specs.Seats.{IsSeatOf, posts_of, serves_of, number_of}
use Rattle.bs_floor.specs.Closing.{joined_lists}
use Rattle.bs_floor.proofs.floor.Floor.gathered.Given as goal

abbrev pub invariant-loop-other : goal.invariant-loop-other
invariant-loop-other g l =
    (l.base.table_id ≡ l.self.0) × (l.base.me.0.setup ≡ Some l.self.1) × (l.base.me.0.held ≡ None) × (l.base.me.1 ≡ [])
    × (l.base.me.0.posts ≡ l.initial.base.me.0.posts ++ joined_lists (map posts_of l.yielded)) × (l.base.me.0.serves ≡ l.initial.base.me.0.serves ++ joined_lists (map serves_of l.yielded))
    × (l.base.me.0.numbers ≡ l.initial.base.me.0.numbers ++ map number_of l.yielded)
    × All (IsSeatOf l.self) (into_iter_items l.other-iterator)
