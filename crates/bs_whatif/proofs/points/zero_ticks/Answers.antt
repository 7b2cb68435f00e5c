use Rattle.std.proofs.Common.{◌∙◌, length, replicate, ap, arith}
use Rattle.bs_rows.specs.Rows.{net_on}
use Rattle.bs_times.specs.Machine.{machine_of}
use Rattle.bs_whatif.specs.Figures.{at_zero}
use Rattle.bs_whatif.proofs.Ticks.{early_ticks, zeros_are}
use Rattle.bs_whatif.proofs.points.zero_ticks.Goals as goal

pub returns-clause-zero : goal.returns-clause-zero
returns-clause-zero c machine =
    let many = c.in_ok-ticks.ensures ∙ ap (λ ms. replicate (length ms) (record { 0 = 0 })) c.as_slice.ensures in
    zeros_are (net_on c.args.log.now machine) c.in_ok-mails.mails (c.in_ok-mails.ensures (machine_of machine)) c.in_ok-ticks.ticks many

pub returns-clause-early : goal.returns-clause-early
returns-clause-early c machine =
    let many = c.in_ok-ticks.ensures ∙ ap (λ ms. replicate (length ms) (record { 0 = 0 })) c.as_slice.ensures in
    early_ticks (net_on c.args.log.now machine) at_zero c.in_ok-ticks.ticks (zeros_are (net_on c.args.log.now machine) c.in_ok-mails.mails (c.in_ok-mails.ensures (machine_of machine)) c.in_ok-ticks.ticks many) (λ m l. omega arith)
