use Rattle.std.proofs.Common.{◌<◌, ◌+◌, ◌∙◌, ℕ, length, refl, ap, arith, rules}
use Rattle.bs_schedule.specs.Plan.{at}
use Rattle.bs_times.specs.Machine.{machine_of}
use Rattle.bs_times.specs.Net.{no_row}
use Rattle.bs_settle.proofs.Joined.{starts_more, ends_more, starts_end, ends_end, row_cost}
use Rattle.bs_settle.proofs.times.timed_rows.Goals as goal

pub loop-place-preserved : goal.loop-place-preserved
loop-place-preserved c =
    let lt : c.loop-place.place < length c.args.log.now.rows = omega (arith, c.loop-place-test.true, c.count-place-end.ensures.value) in
    let start : ℕ = at c.args.starts.now (c.loop-place.place + 1) in
    let lasts = c.duration.ensures.value ∙ ap (machine_of c.args.machine.now).duration (row_cost c.args.log.now c.loop-place.place) in (
      starts_more (at c.args.starts.now) c.args.log.now.rows c.loop-place.place no_row c.loop-place.begins _ (record { 0 = start }) _ lt (search rules) refl c.loop-place.invariant.0,
      ends_more (machine_of c.args.machine.now) (at c.args.starts.now) c.args.log.now.rows c.loop-place.place no_row c.loop-place.ends _ (record { 0 = start + c.duration.result }) _ lt (search rules) (ap (λ n. start + n) lasts) c.loop-place.invariant.1,
    )

pub returns-clause-starts : goal.returns-clause-starts
returns-clause-starts c = starts_end (at c.args.starts.now) c.args.log.now.rows c.loop-place.place c.loop-place.begins _ (omega (arith, c.loop-place-test.false, c.count-place-end.ensures.value)) c.loop-place.invariant.0

pub returns-clause-ends : goal.returns-clause-ends
returns-clause-ends c = ends_end (machine_of c.args.machine.now) (at c.args.starts.now) c.args.log.now.rows c.loop-place.place c.loop-place.ends _ (omega (arith, c.loop-place-test.false, c.count-place-end.ensures.value)) c.loop-place.invariant.1
