use Rattle.std.proofs.Common.{◌≡◌, ◌+◌, ◌-◌, rules, arith, ap, ◌∙◌}
use Rattle.bs_history.specs.declared.ground.Ground.{Ground}
use Rattle.bs_history.specs.declared.trail.Trail.{Trail}
use Rattle.bs_history.proofs.Courses.{lists_of, course_ready, went_on, too_long}
use Rattle.bs_history.proofs.course.Course.go_on.Goals as goal

pub returns-in_err-frames : goal.returns-in_err-frames
returns-in_err-frames c = λ k a h w done.
    let few = c.requires.limit.0 in
    let sizes : c.args.done + (c.args.limit - c.args.done) ≡ c.args.limit = omega (arith, few) in
    let g : Ground = record { alloc = c.args.alloc; accepted = c.args.accepted; mail = c.args.mail; more = c.args.more; this = c.args.chare; limit = c.args.limit; done = c.args.done; room = c.args.limit - c.args.done; small = c.requires.limit.1; sizes = sizes; shallow = c.requires.shallow; shallow_more = c.requires.shallow_more } in
    let t = c.new-trail.ensures in
    let r = too_long g k a c.args.self c.new-trail.result h w done t.blocks t.asked t.traps t.waits c.in_err-frames.field-0.0 c.resume.new.trail c.resume.new.state c.in_err-frames.ensures in
    search rules

pub returns : goal.returns
returns c = λ k a h w done.
    let t = c.new-trail.ensures in
    let l = c.into_lists-written.ensures ∙ ap (λ (t : Trail). lists_of t) c.take_shown-shown.ensures.left in
    went_on _ k a c.args.self c.new-trail.result h w done t.blocks t.asked t.traps t.waits c.resume.new.trail c.resume.new.state c.in_ok-frames.frames c.in_ok-frames.ensures
    c.into_lists-written.result c.take_shown-shown.result c.is_done-ended.result l c.is_done-ended.ensures c.take_shown-shown.ensures.none c.take_shown-shown.ensures.shown
