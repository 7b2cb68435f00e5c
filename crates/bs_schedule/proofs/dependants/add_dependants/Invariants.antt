use Rattle.std.proofs.Common.{◌≡◌, length, take}
use Rattle.bs_schedule.specs.Plan.{causing}
use Rattle.bs_schedule.specs.Dependants.{Adds}
use Rattle.bs_schedule.proofs.dependants.add_dependants.Given as goal

abbrev pub invariant-loop-cause : goal.invariant-loop-cause
invariant-loop-cause l = (length l.lists.items ≡ length l.fn.lists.items) × Adds l.row (causing (take l.cause-index l.causes)) l.fn.lists.items l.lists.items
