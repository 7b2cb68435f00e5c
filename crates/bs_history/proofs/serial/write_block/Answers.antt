use Rattle.std.proofs.Common.{arith, length, ap}
use Rattle.bs_history.proofs.Trails.{many_sends}
use Rattle.bs_history.proofs.serial.write_block.Goals as goal

pub overflow_add-depth : goal.overflow_add-depth
overflow_add-depth c =
    let a = c.requires.within.most in
    let b = c.requires.shallow in
    let d = c.args.ground.now.small in
    let s = c.args.ground.now.sizes in
    let e = c.depth-depth.ensures in
    omega (arith, a, b, d, s, e)

pub returns-then-len-ground-clause-wrote : goal.returns-then-len-ground-clause-wrote
returns-then-len-ground-clause-wrote c =
    let a = c.len.ensures in
    let b = ap length c.into_vec-sends.ensures in
    let o = c.into_vec-sends.result.ok.0 in
    let l = c.if-len-ground.true in
    many_sends c.args.ground.now.room c.args.ground.now.this c.args.number c.args.trail.now c.args.causes.now c.args.done (omega (arith, a, b, o, l))
