use Rattle.std.proofs.Common.{◌≡◌, length}
use Rattle.bs_schedule.specs.Dependants.{DependantsAre}
use Rattle.bs_schedule.proofs.dependants.all_dependants.Given as goal

abbrev pub invariant-loop-row : goal.invariant-loop-row
invariant-loop-row l = (length l.lists.items ≡ length l.causes) × DependantsAre l.causes l.row l.lists.items
