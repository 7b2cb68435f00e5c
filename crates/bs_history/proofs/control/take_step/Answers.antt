use Rattle.std.proofs.Common.{subst, sym}
use Rattle.bs_history.specs.Control.{step_of}
use Rattle.bs_history.specs.Ground.{Steps, state_of}
use Rattle.bs_history.proofs.control.take_step.Goals as goal

pub returns-in-Some : goal.returns-in-Some
returns-in-Some c =
    subst (λ step. Steps c.args.ground.now (λ next. step_of c.args.ground.now step c.args.number c.args.trail.now.path.items next (state_of c.args.state.now)) c.args.trail.now c.assign.new.trail c.assign.new.state c.assign.result) (sym c.in-Some.is) c.assign.ensures
