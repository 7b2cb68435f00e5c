use Rattle.std.proofs.Common.{◌∙◌, [], length, subst}
use Rattle.bs_machine.specs.Fitted.{processors_of}
use Rattle.bs_rows.specs.Rows.{net_on}
use Rattle.bs_rows.proofs.Numbered.{mail_sent}
use Rattle.bs_settle.specs.Shares.{AreShares}
use Rattle.bs_settle.proofs.shares.shares.Goals as goal

pub share_rows-requires-clause-many : goal.share_rows-requires-clause-many
share_rows-requires-clause-many c = (c.in_ok-shares.ensures (net_on c.args.log.now c.args.machine.now) [] []).many_of ∙ c.processors.ensures.value

pub share_mails-requires-clause-many : goal.share_mails-requires-clause-many
share_mails-requires-clause-many c = (c.in_ok-share_rows.ensures c.processors.result [] [] (c.in_ok-shares.ensures (net_on c.args.log.now c.args.machine.now) [] [])).many_of ∙ c.processors.ensures.value

pub share_mails-requires-clause-sends : goal.share_mails-requires-clause-sends
share_mails-requires-clause-sends c m is =
    let row = (c.requires.ticks.listed.all m).1 is in
    mail_sent c.args.log.now row.0 m c.requires.valid row.1.0 row.1.1 row.2

pub share_mails-requires-clause-each : goal.share_mails-requires-clause-each
share_mails-requires-clause-each c = c.requires.ticks.each

pub returns : goal.returns
returns c =
    let net = net_on c.args.log.now c.args.machine.now in
    let mails = c.args.mails.now in
    let ticks = c.args.ticks.now in
    let rows = c.in_ok-share_rows.ensures (processors_of c.args.machine.now) mails ticks (subst (λ n. AreShares net n 0 0 mails ticks c.in_ok-shares.shares.items) c.processors.ensures.value (c.in_ok-shares.ensures net mails ticks)) in
    record {
      ticks_for = c.requires.ticks;
      shares_are = c.in_ok-share_mails.ensures (processors_of c.args.machine.now) (length c.args.log.now.rows) rows;
    }
