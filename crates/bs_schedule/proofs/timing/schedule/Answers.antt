use Rattle.std.proofs.Common.{rules, ◌≡◌, ◌∙◌, ◌^◌, length, [], inl, inr, sym, ap, arith}
use Rattle.std.proofs.lemmas.Bool.{false≢true}
use Rattle.bs_schedule.specs.Plan.{dependants_of}
use Rattle.bs_schedule.proofs.Course.{causes_fit, starts_small, starts_early, free_small, first_due, after_start, row_considered, all_considered, released, empty, first_course, last_course}
use Rattle.bs_schedule.proofs.Places.{place_mem}
use Rattle.bs_schedule.proofs.Considered.{no_queues, more}
use Rattle.bs_schedule.proofs.timing.schedule.Goals as goal

pub loop-row-init : goal.loop-row-init
loop-row-init c ok most early = rw (c.in_ok-vec.ensures.items_if_clones_equal (search rules), c.in_ok-vec-2.ensures.items_if_clones_equal (search rules), c.in_ok-vec-3.ensures.items_if_clones_equal (search rules), c.in_ok-vec-4.ensures.items_if_clones_equal (search rules), c.new.ensures.empty, c.as_slice-rows.ensures) (first_course c.args.plan.now c.args.base.now ok most early)

pub consider-requires-clause-has_next : goal.consider-requires-clause-has_next
consider-requires-clause-has_next c = let k = c.loop-row.invariant c.requires.is_plan (2 ^ 110) c.requires.early in let l : length c.as_slice-rows.result.now ≡ length c.args.plan.now.times = search rules in omega (arith, k.next_length, c.loop-row-test.true, l)

pub consider-requires-clause-starts : goal.consider-requires-clause-starts
consider-requires-clause-starts c = let k = c.loop-row.invariant c.requires.is_plan (2 ^ 110) c.requires.early in causes_fit c.args.plan.now c.requires.is_plan c.loop-row.row _ (search rules) k.starts_length

pub consider-requires-clause-begun : goal.consider-requires-clause-begun
consider-requires-clause-begun c = let k = c.loop-row.invariant c.requires.is_plan (2 ^ 110) c.requires.early in causes_fit c.args.plan.now c.requires.is_plan c.loop-row.row _ (search rules) k.begun_length

pub consider-requires-clause-bound : goal.consider-requires-clause-bound
consider-requires-clause-bound c = starts_small (omega arith) (c.loop-row.invariant c.requires.is_plan (2 ^ 110) c.requires.early)

pub consider-requires-clause-next : goal.consider-requires-clause-next
consider-requires-clause-next c = (c.loop-row.invariant c.requires.is_plan (2 ^ 110) c.requires.early).next_fit

pub loop-row-preserved : goal.loop-row-preserved
loop-row-preserved c ok most early =
    rw (c.consider.ensures.starts, c.consider.ensures.begun, c.consider.ensures.free)
    (row_considered (c.loop-row.invariant ok most early) (search rules) (search rules)
    (more c.args.plan.now c.args.base.now _ _ [] c.loop-row.row _ _ _ (no_queues _ _ _ _ _) c.in_ok-consider.ensures.queue)
    c.consider.ensures.next
    (c.consider.ensures.next_length ∙ (c.loop-row.invariant ok most early).next_length))

pub loop-turn-init : goal.loop-turn-init
loop-turn-init c ok most early = all_considered (c.loop-row.invariant ok most early) (search rules)

pub returns-in_default : goal.returns-in_default
returns-in_default c = record { length = (c.loop-turn.invariant c.requires.is_plan (2 ^ 110) c.requires.early).starts_length; bound = λ most early i. starts_early (c.loop-turn.invariant c.requires.is_plan most early) i; scheduled = last_course c.args.plan.now c.args.base.now c.requires.is_plan (2 ^ 110) _ _ _ _ _ _ (c.loop-turn.invariant c.requires.is_plan (2 ^ 110) c.requires.early) (inl (empty _ (λ h. false≢true (c.in_default.ensures.variant.1 h)))) }

pub start-requires-clause-has_row : goal.start-requires-clause-has_row
start-requires-clause-has_row c = let f = first_due (omega arith) (c.loop-turn.invariant c.requires.is_plan (2 ^ 110) c.requires.early) c.in-Some.ensures.removal in omega (arith, f.1, c.requires.is_plan.rows.as_many_homes)

pub start-requires-clause-has_time : goal.start-requires-clause-has_time
start-requires-clause-has_time c = (first_due (omega arith) (c.loop-turn.invariant c.requires.is_plan (2 ^ 110) c.requires.early) c.in-Some.ensures.removal).1

pub start-requires-clause-has_start : goal.start-requires-clause-has_start
start-requires-clause-has_start c = let k = c.loop-turn.invariant c.requires.is_plan (2 ^ 110) c.requires.early in let f = first_due (omega arith) k c.in-Some.ensures.removal in omega (arith, f.1, k.starts_length)

pub start-requires-clause-has_begun : goal.start-requires-clause-has_begun
start-requires-clause-has_begun c = let k = c.loop-turn.invariant c.requires.is_plan (2 ^ 110) c.requires.early in let f = first_due (omega arith) k c.in-Some.ensures.removal in omega (arith, f.1, k.begun_length)

pub start-requires-clause-has_home : goal.start-requires-clause-has_home
start-requires-clause-has_home c = let k = c.loop-turn.invariant c.requires.is_plan (2 ^ 110) c.requires.early in let f = first_due (omega arith) k c.in-Some.ensures.removal in omega (arith, c.requires.is_plan.rows.home c.in-Some.row f.0 f.1, k.free_length)

pub start-requires-clause-early : goal.start-requires-clause-early
start-requires-clause-early c = (first_due (omega arith) (c.loop-turn.invariant c.requires.is_plan (2 ^ 110) c.requires.early) c.in-Some.ensures.removal).2

pub start-requires-clause-bound : goal.start-requires-clause-bound
start-requires-clause-bound c = free_small (omega arith) (c.loop-turn.invariant c.requires.is_plan (2 ^ 110) c.requires.early)

pub release-requires-clause-has_row : goal.release-requires-clause-has_row
release-requires-clause-has_row c = let f = first_due (omega arith) (c.loop-turn.invariant c.requires.is_plan (2 ^ 110) c.requires.early) c.in-Some.ensures.removal in omega (arith, f.1, c.requires.is_plan.as_many)

pub release-requires-clause-rows : goal.release-requires-clause-rows
release-requires-clause-rows c j d h = let f = first_due (omega arith) (c.loop-turn.invariant c.requires.is_plan (2 ^ 110) c.requires.early) c.in-Some.ensures.removal in
    let s = c.requires.is_plan.sound c.in-Some.row _ (place_mem (dependants_of c.args.plan.now c.in-Some.row) j d h) in omega (arith, s.1, c.requires.is_plan.rows.as_many_causes)

pub release-requires-clause-nexts : goal.release-requires-clause-nexts
release-requires-clause-nexts c = ap length c.start.ensures.next ∙ (c.loop-turn.invariant c.requires.is_plan (2 ^ 110) c.requires.early).next_length ∙ sym c.requires.is_plan.rows.as_many_causes

pub release-requires-clause-starts : goal.release-requires-clause-starts
release-requires-clause-starts c k h = let m = after_start (c.loop-turn.invariant c.requires.is_plan (2 ^ 110) c.requires.early) c.in-Some.ensures.removal c.in-Some.ensures.all_above c.start.ensures.starts c.start.ensures.begun c.start.ensures.free c.start.ensures.next (ap (λ q. q.keys) c.start.ensures.queue) in
    causes_fit c.args.plan.now c.requires.is_plan k _ (omega (arith, h, c.requires.is_plan.rows.as_many_causes)) m.starts_length

pub release-requires-clause-begun : goal.release-requires-clause-begun
release-requires-clause-begun c k h = let m = after_start (c.loop-turn.invariant c.requires.is_plan (2 ^ 110) c.requires.early) c.in-Some.ensures.removal c.in-Some.ensures.all_above c.start.ensures.starts c.start.ensures.begun c.start.ensures.free c.start.ensures.next (ap (λ q. q.keys) c.start.ensures.queue) in
    causes_fit c.args.plan.now c.requires.is_plan k _ (omega (arith, h, c.requires.is_plan.rows.as_many_causes)) m.begun_length

pub release-requires-clause-bound : goal.release-requires-clause-bound
release-requires-clause-bound c = starts_small (omega arith) (after_start (c.loop-turn.invariant c.requires.is_plan (2 ^ 110) c.requires.early) c.in-Some.ensures.removal c.in-Some.ensures.all_above c.start.ensures.starts c.start.ensures.begun c.start.ensures.free c.start.ensures.next (ap (λ q. q.keys) c.start.ensures.queue))

pub release-requires-clause-next : goal.release-requires-clause-next
release-requires-clause-next c = (after_start (c.loop-turn.invariant c.requires.is_plan (2 ^ 110) c.requires.early) c.in-Some.ensures.removal c.in-Some.ensures.all_above c.start.ensures.starts c.start.ensures.begun c.start.ensures.free c.start.ensures.next (ap (λ q. q.keys) c.start.ensures.queue)).next_fit

pub loop-turn-preserved : goal.loop-turn-preserved
loop-turn-preserved c ok most early =
    let m = after_start (c.loop-turn.invariant ok most early) c.in-Some.ensures.removal c.in-Some.ensures.all_above c.start.ensures.starts c.start.ensures.begun c.start.ensures.free c.start.ensures.next (ap (λ q. q.keys) c.start.ensures.queue) in
    rw (c.release.ensures.starts, c.release.ensures.begun, c.release.ensures.free)
    (released c.args.plan.now c.args.base.now ok most _ _ _ _ _ _ _ _ c.in-Some.row (first_due {most = 2 ^ 110} (omega arith) (c.loop-turn.invariant ok (2 ^ 110) c.requires.early) c.in-Some.ensures.removal).1 m c.in_ok-release.ensures.queues c.in_ok-release.ensures.next (c.release.ensures.next_length ∙ m.next_length))

pub returns : goal.returns
returns c = record { length = (c.loop-turn.invariant c.requires.is_plan (2 ^ 110) c.requires.early).starts_length; bound = λ most early i. starts_early (c.loop-turn.invariant c.requires.is_plan most early) i; scheduled = last_course c.args.plan.now c.args.base.now c.requires.is_plan (2 ^ 110) _ _ _ _ _ _ (c.loop-turn.invariant c.requires.is_plan (2 ^ 110) c.requires.early) (inr (search rules)) }
