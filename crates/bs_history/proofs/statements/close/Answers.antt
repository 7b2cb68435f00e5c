use Rattle.std.proofs.Common.{◌≡◌, ◌≤◌, ◌+◌, true, false, sym, ◌∙◌, arith}
use Rattle.bs_history.proofs.Overlaps.{settled, ended_run, shown_fits}
use Rattle.bs_history.proofs.statements.close.Goals as goal

pub settle-requires : goal.settle-requires
settle-requires c =
    let g = c.args.ground.now in
    let w = c.requires in
    let d = sym c.is_done.ensures ∙ c.if-is_done.false in
    let fits = shown_fits g w.0 w.1 c.args.trail.now c.args.trail.now w.2 c.args.frames d w.3 in
    let sizes = g.sizes in
    let small = g.small in
    omega (arith, fits, sizes, small)

pub returns-then-is_done : goal.returns-then-is_done
returns-then-is_done c = λ r old s h. ended_run c.args.ground.now r old c.args.trail.now c.args.trail.now s c.args.frames (sym c.is_done.ensures ∙ c.if-is_done.true) h

pub returns : goal.returns
returns c = λ r old s h. settled c.args.ground.now r old c.args.trail.now c.settle.new.self s c.args.frames (sym c.is_done.ensures ∙ c.if-is_done.false) h c.in_ok-settle.ensures
