use Rattle.std.proofs.Common.{◌<◌, ◌^◌, length, ap, subst, sym, ◌∙◌, arith}
use Rattle.bs_schedule.specs.Plan.{at}
use Rattle.bs_settle.proofs.Whole.{are_times}
use Rattle.bs_settle.proofs.times.plain_times.Goals as goal

pub timed_rows-requires-clause-each : goal.timed_rows-requires-clause-each
timed_rows-requires-clause-each c = ap length c.deref.ensures.value ∙ c.in_ok-starts.ensures.each

pub timed_rows-requires-clause-early : goal.timed_rows-requires-clause-early
timed_rows-requires-clause-early c i = subst (λ xs. at xs i < 2 ^ 109) (sym c.deref.ensures.value) (omega (arith, c.in_ok-starts.ensures.early i))

pub returns : goal.returns
returns c = are_times c.args.log.now c.args.machine.now c.in_ok-starts.starts.items c.in_ok-times.times c.requires.valid c.in_ok-starts.ensures.consistent c.in_ok-starts.ensures.early
    (rw c.deref.ensures.value at c.in_ok-times.ensures.starts)
    (rw c.deref.ensures.value at c.in_ok-times.ensures.ends)
