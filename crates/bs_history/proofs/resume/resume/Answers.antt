use Rattle.std.proofs.Common.{rules, subst, refl}
use Rattle.bs_history.specs.Frames.{left_of}
use Rattle.bs_history.proofs.Resumes.{Going, went, went_err, gone}
use Rattle.bs_history.proofs.resume.resume.Goals as goal

pub returns-in_err-left : goal.returns-in_err-left
returns-in_err-left c =
    let g = c.args.ground.now in
    let whole = left_of g c.args.frames c.args.state.now in
    let old = c.args.trail.now in
    let l = c.loop-frame in
    let h = subst (Going g whole old l.trail l.state l.left) c.in-Some.ensures.steps.0 l.invariant in
    let r = went_err g whole old l.trail c.go_past.new.trail l.state c.go_past.new.state l.left c.in-Some.frame c.next.new.self.rest.items h c.in_err-left.field-0.0 c.in_err-left.ensures c.go_past.new.trail c.go_past.new.state in
    search rules

pub loop-frame-preserved : goal.loop-frame-preserved
loop-frame-preserved c =
    let g = c.args.ground.now in
    let whole = left_of g c.args.frames c.args.state.now in
    let old = c.args.trail.now in
    let l = c.loop-frame in
    let h = subst (Going g whole old l.trail l.state l.left) c.in-Some.ensures.steps.0 l.invariant in
    went g whole old l.trail c.go_past.new.trail l.state c.go_past.new.state l.left c.in-Some.frame c.next.new.self.rest.items h c.in_ok-left.left c.in_ok-left.ensures
