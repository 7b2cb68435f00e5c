use Rattle.std.proofs.Common.{◌≤◌, ◌^◌, ◌∙◌, length, map, ap, subst, sym}
use Rattle.bs_log.specs.Lists.{Mem}
use Rattle.bs_rows.specs.Rows.{net_on}
use Rattle.bs_line.specs.Making.{numbers}
use Rattle.bs_line.specs.Places.{mail_place}
use Rattle.bs_schedule.specs.Plan.{at}
use Rattle.bs_times.specs.Machine.{machine_of}
use Rattle.bs_settle.specs.Shares.{arriving}
use Rattle.bs_settle.proofs.Passed.{passed_ticks, sends, tick_placed}
use Rattle.bs_settle.proofs.field.Field.from_pass.Goals as goal

pub arrivals-requires-clause-sends : goal.arrivals-requires-clause-sends
arrivals-requires-clause-sends c m is = sends c.args.log.now c.args.machine.now c.requires.valid c.in_ok-mails.mails (c.in_ok-mails.ensures (machine_of c.args.machine.now)) m (subst (Mem m) c.as_slice.ensures is)

pub arrivals-requires-clause-each : goal.arrivals-requires-clause-each
arrivals-requires-clause-each c = ap length c.deref.ensures.value ∙ c.in_ok-starts.ensures.each

pub arrivals-requires-clause-early : goal.arrivals-requires-clause-early
arrivals-requires-clause-early c i = subst (λ xs. at xs i ≤ 2 ^ 100) (sym c.deref.ensures.value) (c.in_ok-starts.ensures.early i)

pub of_ticks-requires-clause-ticks : goal.of_ticks-requires-clause-ticks
of_ticks-requires-clause-ticks c =
    let listed = c.in_ok-mails.ensures (machine_of c.args.machine.now) in
    rw (c.as_slice-2.ensures, c.as_slice-3.ensures, c.in_ok-ticks.ensures, c.as_slice.ensures, c.deref.ensures.value) (passed_ticks c.args.log.now c.args.machine.now c.requires.valid c.in_ok-mails.mails listed c.in_ok-starts.starts.items c.in_ok-starts.ensures.early)

pub returns-clause-ticks : goal.returns-clause-ticks
returns-clause-ticks c =
    let net = net_on c.args.log.now c.args.machine.now in
    let mails = c.in_ok-mails.mails in
    let listed = c.in_ok-mails.ensures (machine_of c.args.machine.now) in
    let starts = c.in_ok-starts.starts.items in
    let ticks = c.as_slice-3.ensures ∙ c.in_ok-ticks.ensures ∙ (λ i. map (arriving net (at (c.deref.ensures.value i))) (c.as_slice.ensures i)) in (
      at starts,
      c.in_ok-starts.ensures.consistent,
      λ m l. c.in_ok-field.ensures.ticks m l ∙ (λ i. at (numbers (ticks i)) (mail_place (c.as_slice-2.ensures i) m)) ∙ tick_placed (arriving net (at starts)) mails m ((listed.all m).0 l),
    )
