use Rattle.bs_history.proofs.Trails.{value_trapped}
use Rattle.bs_history.proofs.control.value.Goals as goal

pub returns-in_ok-trap-in-Err : goal.returns-in_ok-trap-in-Err
returns-in_ok-trap-in-Err c =
    value_trapped c.args.ground.now c.args.number c.args.trail.now c.args.state.now c.args.expr.now c.requires.ready c.in-Err.kind c.in-Err.ensures c.trap.new.self c.in_ok-trap-in-Err.ensures
