use Rattle.std.proofs.Common.{None, Ok, Err, subst}
use Rattle.bs_machine.specs.Machine.{machine_view}
use Rattle.bs_settle.specs.declared.times.Times.{Times}
use Rattle.bs_top.specs.commands.Chain.{chain_on, chained}
use Rattle.bs_top.specs.Waves.{within}
use Rattle.bs_top.specs.Seen.{said_of}
use Rattle.bs_top.specs.Step.{Told}
use Rattle.bs_top.proofs.Foretelling.{chains, unbound_chain, unfit_chain}
use Rattle.bs_top.proofs.Stages.{at_stop}
use Rattle.bs_top.proofs.commands.chain.chained.Goals as goal

pub fit-requires : goal.fit-requires
fit-requires c = (c.requires.chares.least_is, c.requires.chares.most_is)

pub returns-in_err-fitted-clause-told : goal.returns-in_err-fitted-clause-told
returns-in_err-fitted-clause-told c =
    let m = machine_view c.args.machine in
    at_stop (Told said_of (chained c.args.log.now m)) c.in_err-fitted.field-0.0 c.from_residual.result c.from_residual.ensures.1
    (unfit_chain c.args.log.now m c.in_err-fitted.field-0.0 c.in_err-fitted.ensures.told)

pub returns-in_err-times-clause-told : goal.returns-in_err-times-clause-told
returns-in_err-times-clause-told c =
    let m = machine_view c.args.machine in
    at_stop (Told said_of (chained c.args.log.now m)) c.in_err-times.field-0.0 c.from_residual-in_err-times.result c.from_residual-in_err-times.ensures.1
    (unbound_chain c.args.log.now m c.in_err-times.field-0.0
    (subst (λ k. Told (λ (t : Times). tt) (within None c.args.log.now (machine_view k)) (Err c.in_err-times.field-0.0)) c.in_ok-fitted.ensures.fitted.0 c.in_err-times.ensures.told))

pub returns-clause-told : goal.returns-clause-told
returns-clause-told c =
    chains c.args.log.now (machine_view c.args.machine) c.in_ok-fitted.ensures.told (said_of c.in_ok-chain_at.field-0)
    (subst (λ k. chain_on c.args.log.now (machine_view k) (Ok (said_of c.in_ok-chain_at.field-0))) c.in_ok-fitted.ensures.fitted.0 c.in_ok-chain_at.ensures)
