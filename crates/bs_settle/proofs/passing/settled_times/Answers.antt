use Rattle.std.proofs.Common.{subst}
use Rattle.bs_log.specs.declared.log.Log.{Log}
use Rattle.bs_machine.specs.declared.fitted.Fitted.{Fitted}
use Rattle.bs_times.specs.Machine.{machine_of}
use Rattle.bs_settle.specs.Timed.{AreTimes}
use Rattle.bs_settle.proofs.passing.settled_times.Goals as goal

pub returns-in-Ok : goal.returns-in-Ok
returns-in-Ok c =
    let f = c.in_ok-field.field in
    let e = c.in_ok-field.ensures in
    let times = c.in-Ok.times in
    subst (λ (m : Fitted). AreTimes c.args.log.now (machine_of m) times) e.machine (subst (λ (l : Log). AreTimes l (machine_of f.machine.now) times) e.log c.in-Ok.ensures.times)
