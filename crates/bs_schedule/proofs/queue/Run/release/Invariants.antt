use Rattle.std.proofs.Common.{◌≡◌, length, take}
use Rattle.bs_schedule.specs.Queue.{NextFit, Queues}
use Rattle.bs_schedule.proofs.queue.Run.release.Given as goal

abbrev pub invariant-loop-dependant : goal.invariant-loop-dependant
invariant-loop-dependant l =
    (l.self.starts.items ≡ l.fn.self.starts.items)
    × (l.self.begun.items ≡ l.fn.self.begun.items)
    × (l.self.free.items ≡ l.fn.self.free.items)
    × (length l.self.next.items ≡ length l.fn.self.next.items)
    × NextFit l.plan l.fn.self.begun.items l.self.next.items
    × Queues l.plan l.base l.fn.self.starts.items l.fn.self.begun.items (take l.dependant-index l.dependant-items) l.fn.self.queue.keys l.self.queue.keys
