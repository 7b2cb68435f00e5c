use Rattle.std.proofs.Common.{subst, sym}
use Rattle.bs_times.proofs.Causal.{fitted_is_timely}
use Rattle.bs_times.specs.Machine.{machine_of}
use Rattle.bs_rows.specs.Rows.{net_on}
use Rattle.bs_settle.specs.Timed.{numbers}
use Rattle.bs_times.specs.Times.{IsConsistent}
use Rattle.bs_path.specs.Chain.{start_in}
use Rattle.bs_path.proofs.Table.{all_early, a_start_each, the_table}
use Rattle.bs_path.proofs.searching.chain.Goals as goal

pub last_row-requires-clause-each : goal.last_row-requires-clause-each
last_row-requires-clause-each c = a_start_each c.args.log.now (machine_of c.args.machine.now) c.args.times.now c.requires.times _ c.as_slice-starts.ensures

pub last_row-requires-clause-early : goal.last_row-requires-clause-early
last_row-requires-clause-early c = all_early c.args.log.now (machine_of c.args.machine.now) c.args.times.now c.requires.times _ c.as_slice-starts.ensures

pub chain_to-requires-clause-each : goal.chain_to-requires-clause-each
chain_to-requires-clause-each c = a_start_each c.args.log.now (machine_of c.args.machine.now) c.args.times.now c.requires.times _ c.as_slice-starts.ensures

pub chain_to-requires-clause-early : goal.chain_to-requires-clause-early
chain_to-requires-clause-early c = all_early c.args.log.now (machine_of c.args.machine.now) c.args.times.now c.requires.times _ c.as_slice-starts.ensures

pub chain_to-requires-clause-table : goal.chain_to-requires-clause-table
chain_to-requires-clause-table c =
    subst (λ xs. IsConsistent (net_on c.args.log.now c.args.machine.now) (start_in (numbers xs))) (sym c.as_slice-starts.ensures)
    (the_table c.args.log.now (machine_of c.args.machine.now) c.args.times.now c.requires.times c.requires.valid (fitted_is_timely c.args.machine.now))
