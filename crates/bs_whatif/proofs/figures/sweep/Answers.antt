use Rattle.std.proofs.Common.{◌+◌, arith, subst, sym}
use Rattle.bs_log.specs.Lists.{Mem}
use Rattle.bs_schedule.proofs.Places.{place_mem}
use Rattle.bs_whatif.proofs.Series.{IsSweeping, next_item, sweep_begins, sweep_ends, sweep_goes_on}
use Rattle.bs_whatif.proofs.figures.sweep.Goals as goal

pub loop-machine-init : goal.loop-machine-init
loop-machine-init c = subst (IsSweeping c.args.log.now c.args.machines.now 0 c.in_ok-before.before) (sym c.new-figures.ensures) (sweep_begins c.args.log.now c.args.machines.now c.in_ok-before.before c.in_ok-before.ensures.zero c.in_ok-before.ensures.early)

pub resettle-requires-clause-fitted : goal.resettle-requires-clause-fitted
resettle-requires-clause-fitted c =
    let x = c.machine-item.result in
    c.requires.fitted x (subst (λ m. Mem m c.args.machines.now) (sym c.machine-item.is) (place_mem c.args.machines.now c.loop-machine.machine-index x c.loop-machine-test.true))

pub resettle-requires-clause-before : goal.resettle-requires-clause-before
resettle-requires-clause-before c = c.loop-machine.invariant.early c.machine-item.result

pub loop-machine-preserved : goal.loop-machine-preserved
loop-machine-preserved c =
    let log = c.args.log.now in
    let machines = c.args.machines.now in
    let x = c.machine-item.result in
    let k = c.loop-machine.machine-index in
    let here = next_item machines k x c.loop-machine-test.true c.machine-item.is in
    let p = c.in_ok-point in
    subst (IsSweeping log machines (k + 1) p.point.ticks) (sym c.in_ok-push.ensures.ok)
    (sweep_goes_on log machines k x c.loop-machine.before c.loop-machine.figures c.loop-machine.invariant here p.point c.figures_of.result p.ensures.point p.ensures.early c.figures_of.ensures.waves c.figures_of.ensures.span)

pub returns : goal.returns
returns c = sweep_ends c.args.log.now c.args.machines.now c.loop-machine.machine-index c.loop-machine.before c.loop-machine.figures c.loop-machine.invariant (omega (arith, c.loop-machine-test.false))
