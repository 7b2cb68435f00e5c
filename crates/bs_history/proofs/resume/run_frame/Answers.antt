use Rattle.std.proofs.Common.{[], ap, sym}
use Rattle.bs_semantics.specs.Run.{Lookup, halts}
use Rattle.bs_history.specs.Ground.{state_of}
use Rattle.bs_history.specs.Frames.{frame_does}
use Rattle.bs_history.proofs.Aheads.{ahead_itself}
use Rattle.bs_history.proofs.Resumes.{from_path, resumes_as}
use Rattle.bs_history.proofs.resume.run_frame.Goals as goal

pub returns-in-Stuck : goal.returns-in-Stuck
returns-in-Stuck c =
    let g = c.args.ground.now in
    let old = c.args.trail.now in
    let s = c.args.state.now in
    let whole = λ (b : Lookup). halts [] in
    let new = c.end_or_stop.new.trail in
    resumes_as g whole _ old new s c.end_or_stop.result (λ b. ap (λ f. frame_does g f b (state_of s)) (sym c.in-Stuck.is))
    (from_path g whole old new old.path s c.end_or_stop.result (c.end_or_stop.ensures g whole old s (ahead_itself g whole old s c.requires.ready)))
