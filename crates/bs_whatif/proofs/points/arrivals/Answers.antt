use Rattle.std.proofs.Common.{◌<◌, ◌-◌, ◌^◌, ◌∙◌, length, map, ap, subst, sym}
use Rattle.bs_log.specs.Lists.{Mem}
use Rattle.bs_line.specs.Making.{numbers}
use Rattle.bs_rows.specs.Rows.{net_on}
use Rattle.bs_schedule.specs.Plan.{at}
use Rattle.bs_settle.specs.Shares.{arriving}
use Rattle.bs_settle.proofs.Passed.{sends}
use Rattle.bs_times.specs.Machine.{machine_of}
use Rattle.bs_whatif.proofs.Ticks.{arrivals_are, arrivals_early, starts_long, starts_small}
use Rattle.bs_whatif.proofs.points.arrivals.Goals as goal

pub arrivals_of-requires-clause-sends : goal.arrivals_of-requires-clause-sends
arrivals_of-requires-clause-sends c m is = sends c.args.log.now c.args.machine.now c.requires.valid c.in_ok-mails.mails (c.in_ok-mails.ensures (machine_of c.args.machine.now)) m (subst (Mem m) c.as_slice.ensures is)

pub arrivals_of-requires-clause-each : goal.arrivals_of-requires-clause-each
arrivals_of-requires-clause-each c = ap length c.as_slice-starts.ensures ∙ starts_long c.args.log.now c.args.machine.now c.args.times.now c.requires.times

pub arrivals_of-requires-clause-early : goal.arrivals_of-requires-clause-early
arrivals_of-requires-clause-early c i = subst (λ ts. at (numbers ts) i < 2 ^ 109) (sym c.as_slice-starts.ensures) (starts_small c.args.log.now c.args.machine.now c.args.times.now c.requires.times i)

pub returns-clause-ticks : goal.returns-clause-ticks
returns-clause-ticks c =
    let net = net_on c.args.log.now c.args.machine.now in
    let are = c.in_ok-ticks.ensures ∙ (λ i. map (arriving net (λ k. at (numbers (c.as_slice-starts.ensures i)) (k - 1))) (c.as_slice.ensures i)) in
    arrivals_are c.args.log.now c.args.machine.now c.args.times.now c.requires.times c.requires.valid c.in_ok-mails.mails (c.in_ok-mails.ensures (machine_of c.args.machine.now)) c.in_ok-ticks.ticks are

pub returns-clause-early : goal.returns-clause-early
returns-clause-early c =
    let net = net_on c.args.log.now c.args.machine.now in
    let are = c.in_ok-ticks.ensures ∙ (λ i. map (arriving net (λ k. at (numbers (c.as_slice-starts.ensures i)) (k - 1))) (c.as_slice.ensures i)) in
    arrivals_early c.args.log.now c.args.machine.now c.args.times.now c.requires.times c.requires.valid c.in_ok-mails.mails (c.in_ok-mails.ensures (machine_of c.args.machine.now)) c.in_ok-ticks.ticks are
