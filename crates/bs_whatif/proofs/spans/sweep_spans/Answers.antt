use Rattle.std.proofs.Common.{◌+◌, arith, subst, sym}
use Rattle.bs_log.specs.Lists.{Mem}
use Rattle.bs_schedule.proofs.Places.{place_mem}
use Rattle.bs_whatif.proofs.Series.{AreSweptTo, next_item, spans_end, spans_go_on}
use Rattle.bs_whatif.proofs.spans.sweep_spans.Goals as goal

pub loop-machine-init : goal.loop-machine-init
loop-machine-init c = subst (AreSweptTo c.args.log.now c.args.machines.now 0) (sym c.new-spans.ensures) (λ rest h. h)

pub span_on-requires-clause-fitted : goal.span_on-requires-clause-fitted
span_on-requires-clause-fitted c =
    let x = c.machine-item.result in
    c.requires.fitted x (subst (λ m. Mem m c.args.machines.now) (sym c.machine-item.is) (place_mem c.args.machines.now c.loop-machine.machine-index x c.loop-machine-test.true))

pub loop-machine-preserved : goal.loop-machine-preserved
loop-machine-preserved c =
    let log = c.args.log.now in
    let machines = c.args.machines.now in
    let x = c.machine-item.result in
    let k = c.loop-machine.machine-index in
    let here = next_item machines k x c.loop-machine-test.true c.machine-item.is in
    subst (AreSweptTo log machines (k + 1)) (sym c.in_ok-push.ensures.ok) (spans_go_on log machines k x c.loop-machine.spans c.in_ok-span_on.field-0 c.loop-machine.invariant here c.in_ok-span_on.ensures)

pub returns : goal.returns
returns c = spans_end c.args.log.now c.args.machines.now c.loop-machine.machine-index c.loop-machine.spans c.loop-machine.invariant (omega (arith, c.loop-machine-test.false))
