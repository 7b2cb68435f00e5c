use Rattle.std.proofs.Common.{rules}
use Rattle.bs_schedule.proofs.Depending.{push_nothing}
use Rattle.bs_schedule.proofs.dependants.empty_lists.Goals as goal

pub loop-place-preserved : goal.loop-place-preserved
loop-place-preserved c = (search rules, λ i. push_nothing c.loop-place.lists.items c.push.new.self.items (search rules) c.loop-place.invariant.1 i)
