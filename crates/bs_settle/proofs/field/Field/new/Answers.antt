use Rattle.std.proofs.Common.{◌∙◌, length, ap}
use Rattle.bs_rows.specs.Rows.{net_on}
use Rattle.bs_line.specs.Making.{numbers}
use Rattle.bs_line.specs.Places.{mail_place}
use Rattle.bs_schedule.specs.Plan.{at}
use Rattle.bs_times.specs.Machine.{machine_of}
use Rattle.bs_settle.specs.Shares.{ticks_by}
use Rattle.bs_settle.proofs.Shared.{begun_tick, begun_ticks}
use Rattle.bs_settle.proofs.field.Field.new.Goals as goal

pub of_ticks-requires-clause-ticks : goal.of_ticks-requires-clause-ticks
of_ticks-requires-clause-ticks c =
    let net = net_on c.args.log.now c.args.machine.now in
    let mails = c.in_ok-mails.mails in
    let many = c.in_ok-ticks.ensures ∙ ap (λ ms. ticks_by c.args.estimates (length ms)) c.as_slice.ensures in
    rw (c.as_slice-2.ensures, c.as_slice-3.ensures, many) (begun_ticks net c.args.estimates mails c.requires.estimates (c.in_ok-mails.ensures (machine_of c.args.machine.now)))

pub returns-clause-ticks : goal.returns-clause-ticks
returns-clause-ticks c =
    let mails = c.in_ok-mails.mails in
    let many = c.in_ok-ticks.ensures ∙ ap (λ ms. ticks_by c.args.estimates (length ms)) c.as_slice.ensures in (
      mails,
      c.in_ok-mails.ensures (machine_of c.args.machine.now),
      λ m l. c.in_ok-field.ensures.ticks m l ∙ (λ i. at (numbers ((c.as_slice-3.ensures ∙ many) i)) (mail_place (c.as_slice-2.ensures i) m)) ∙ begun_tick c.args.estimates mails m,
    )
