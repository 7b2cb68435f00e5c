use Rattle.bs_history.specs.Frames.{left_of}
use Rattle.bs_history.proofs.Resumes.{Going}
use Rattle.bs_history.proofs.resume.resume.Given as goal

abbrev pub invariant-loop-frame : goal.invariant-loop-frame
invariant-loop-frame l = Going l.ground (left_of l.ground l.fn.frames l.fn.state) l.fn.trail l.trail l.state l.left l.frame-iterator.rest.items
