use Rattle.std.proofs.Common.{rules, inl, inr, refl, ◌∙◌}
use Rattle.std.proofs.lemmas.List.{get_or_default}
use Rattle.bs_schedule.proofs.Considered.{stuck, can_start}
use Rattle.bs_schedule.proofs.queue.Run.consider.Goals as goal

pub returns-then-place-causes-clause-queue : goal.returns-then-place-causes-clause-queue
returns-then-place-causes-clause-queue c = inr (stuck c.args.plan.now c.args.self.now.begun.items c.args.k c.advance-place.result c.causes_at-causes.result.now c.deref.result.now (search rules) (search rules) (search rules) (search rules), refl)

pub returns-clause-queue : goal.returns-clause-queue
returns-clause-queue c = inl (can_start c.args.plan.now c.args.self.now.begun.items c.args.self.now.next.items c.args.k c.index.result.now c.advance-place.result c.causes_at-causes.result.now c.deref.result.now (search rules) (search rules) (c.index.ensures ∙ get_or_default _ _ _ _ c.requires.has_next) c.requires.next c.requires.has_row c.advance-place.ensures.passed (search rules), search rules)
