use Rattle.std.proofs.Common.{Ok, Err, subst, refl}
use Rattle.bs_semantics.specs.Acts.{block_of}
use Rattle.bs_block.specs.Block.{IsBlock}
use Rattle.bs_block.specs.declared.done.BlockFault.TheVariants.{Trap}
use Rattle.bs_history.specs.Ground.{program_of}
use Rattle.bs_history.proofs.Trails.{block_done, block_trapped}
use Rattle.bs_history.proofs.serial.run_serial.Goals as goal

pub returns-in_ok-write_block-in-Ok : goal.returns-in_ok-write_block-in-Ok
returns-in_ok-write_block-in-Ok c =
    let g = c.args.ground.now in
    let s = c.args.state.now in
    let p = program_of g in
    let b = subst (λ n. IsBlock (block_of p n c.args.acts.now s.env.cells) s.env c.run_block.new.env (Ok c.in-Ok.done)) c.requires.ready.this c.in-Ok.ensures.block in
    block_done g c.args.number c.args.trail.now c.write_block.new.trail s (record { env = c.run_block.new.env; causes = c.write_block.new.causes }) c.requires.ready (block_of p g.this c.args.acts.now s.env.cells)
    c.in-Ok.done b c.run_block.ensures.made c.run_block.ensures.this c.in_ok-write_block-in-Ok.ensures.wrote c.in_ok-write_block-in-Ok.ensures.causes

pub returns-in_ok-trap-in-Err-Trap : goal.returns-in_ok-trap-in-Err-Trap
returns-in_ok-trap-in-Err-Trap c =
    let g = c.args.ground.now in
    let s = c.args.state.now in
    let p = program_of g in
    let e = subst (λ f. IsBlock (block_of p s.env.this c.args.acts.now s.env.cells) s.env c.run_block.new.env (Err f)) c.in-Err-Trap.field-0-is c.in-Err-Trap.ensures.block in
    let b = subst (λ n. IsBlock (block_of p n c.args.acts.now s.env.cells) s.env c.run_block.new.env (Err (Trap c.in-Err-Trap.kind))) c.requires.ready.this e in
    block_trapped g c.args.number c.args.trail.now c.trap.new.self s (record { env = c.run_block.new.env; causes = s.causes }) c.requires.ready (block_of p g.this c.args.acts.now s.env.cells)
    c.in-Err-Trap.kind b refl c.in_ok-trap-in-Err-Trap.ensures
