use Rattle.std.proofs.Common.{◌≡◌, subst}
use Rattle.bs_log.specs.declared.log.Log.{Log}
use Rattle.bs_machine.specs.declared.fitted.Fitted.{Fitted}
use Rattle.bs_rows.specs.Rows.{net_on}
use Rattle.bs_settle.specs.Field.{net_in, ticks_of}
use Rattle.bs_settle.specs.Settled.{SettlesAt}
use Rattle.bs_settle.specs.Timed.{AreTimes}
use Rattle.bs_times.specs.Machine.{machine_of}
use Rattle.bs_whatif.proofs.Ticks.{begun_same, settles_from}
use Rattle.bs_whatif.proofs.points.resettle.Goals as goal

pub returns-clause-point : goal.returns-clause-point
returns-clause-point c =
    let f = c.in_ok-field.field in
    let e = c.in_ok-field.ensures in
    let log = c.args.log.now in
    let machine = c.args.machine.now in
    let counted = c.in_ok-counted.counted in
    let net : net_in f ≡ net_on log machine = λ i. net_on (e.log i) (e.machine i) in
    let waves = subst (λ x. SettlesAt x (ticks_of f) counted.waves) net c.in_ok-counted.ensures.waves in
    record {
      times = subst (λ (m : Fitted). AreTimes log (machine_of m) counted.times) e.machine (subst (λ (l : Log). AreTimes l (machine_of f.machine.now) counted.times) e.log c.in_ok-counted.ensures.times);
      ticks = c.in_ok-ticks.ensures.ticks;
      waves = λ estimates are. settles_from (net_on log machine) (ticks_of f) estimates counted.waves (begun_same (net_on log machine) c.args.before.now c.in_ok-copy_ticks.field-0 c.in_ok-copy_ticks.ensures (ticks_of f) e.ticks estimates are) waves;
    }
