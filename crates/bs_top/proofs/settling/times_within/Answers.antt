use Rattle.std.proofs.Common.{Ok, subst, sym}
use Rattle.bs_machine.specs.Machine.{machine_view}
use Rattle.bs_top.specs.Waves.{within}
use Rattle.bs_top.proofs.Enough.{unbounded}
use Rattle.bs_top.proofs.settling.times_within.Goals as goal

pub returns-in_ok-settled_times-in-None-clause-told :
    goal.returns-in_ok-settled_times-in-None-clause-told
returns-in_ok-settled_times-in-None-clause-told c =
    let machine = machine_view c.args.fitted.now.machine in
    subst (λ waves. within waves c.args.log.now machine (Ok tt)) (sym c.in-None.is) (unbounded c.args.log.now machine)
