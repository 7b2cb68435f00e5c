use Rattle.std.proofs.Common.{◌<◌, ◌+◌, arith, length, subst, sym}
use Rattle.bs_num.specs.declared.ticks.Tick.{Tick}
use Rattle.bs_settle.specs.Timed.{numbers}
use Rattle.bs_whatif.proofs.Leasts.{IsFirstTo, tick_moves, tick_stays}
use Rattle.bs_whatif.proofs.choosing.first_least.Goals as goal
use Rattle.bs_whatif.proofs.choosing.first_least.Goals.{then-spans-place, else-spans-place}

pub loop-place-preserved : goal.loop-place-preserved
loop-place-preserved c =
    let spans = c.args.spans.now in
    let place = c.loop-place.place in
    let d : Tick = record { 0 = 0 } in
    let within : place < length spans = omega (arith, c.loop-place-test.true, c.loop-place.auto.place-end) in
    elim c.if-spans-place.branch [
      | then-spans-place w ↦ subst (IsFirstTo (numbers spans) (place + 1)) (sym w.least-is) (tick_moves spans d place c.loop-place.least within c.loop-place.invariant w.if-spans-place.true)
      | else-spans-place w ↦ subst (IsFirstTo (numbers spans) (place + 1)) (sym w.least-is) (tick_stays spans d place c.loop-place.least within c.loop-place.invariant w.if-spans-place.false)
    ]
