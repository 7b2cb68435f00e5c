use Rattle.std.proofs.Common.{sym, subst, ◌∙◌}
use Rattle.bs_semantics.specs.Run.{then_do}
use Rattle.bs_history.specs.Frames.{Resuming, left_of, frame_does}
use Rattle.bs_history.proofs.Resumes.{past_done, past_left}
use Rattle.bs_history.proofs.resume.go_past.Goals as goal

pub returns-then-is_done : goal.returns-then-is_done
returns-then-is_done c = past_done c.args.ground.now c.args.left (sym c.is_done.ensures ∙ c.if-is_done.true) c.args.frame c.args.trail.now c.run_frame.new.trail c.args.state.now c.run_frame.new.state c.run_frame.result c.run_frame.ensures

pub returns : goal.returns
returns c =
    let g = c.args.ground.now in
    let t = c.args.trail.now in
    let s = c.args.state.now in
    subst (Resuming g (λ b. then_do (left_of g c.args.left s b) (frame_does g c.args.frame b)) t t s) (sym c.in_ok-put_behind.ensures)
    (past_left g c.args.left (sym c.is_done.ensures ∙ c.if-is_done.false) c.args.frame t s c.requires.ready c.requires.left c.requires.fit c.requires.shows)
