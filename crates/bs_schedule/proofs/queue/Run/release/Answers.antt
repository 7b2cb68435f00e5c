use Rattle.std.proofs.Common.{rules, ◌∙◌}
use Rattle.bs_schedule.proofs.Considered.{queues_more}
use Rattle.bs_schedule.proofs.queue.Run.release.Goals as goal

pub loop-dependant-preserved : goal.loop-dependant-preserved
loop-dependant-preserved c =
    let i = c.loop-dependant.invariant in
    let e = c.in_ok-consider.ensures in (
      c.consider.ensures.starts ∙ i.0,
      c.consider.ensures.begun ∙ i.1,
      c.consider.ensures.free ∙ i.2,
      c.consider.ensures.next_length ∙ i.3,
      rw i.1 at c.consider.ensures.next,
      queues_more c.args.plan.now c.args.base.now c.args.self.now.starts.items c.args.self.now.begun.items c.dependants_at-dependant-items.result.now c.loop-dependant.dependant-index _ _ _ _ (search rules) (search rules) i.5 (rw (i.0, i.1) at e.queue),
    )
