use Rattle.std.proofs.Common.{arith}
use Rattle.bs_rows.specs.Rows.{net_on}
use Rattle.bs_settle.specs.Timed.{numbers}
use Rattle.bs_times.proofs.Causal.{fitted_is_timely}
use Rattle.bs_times.proofs.Small.{small_ends}
use Rattle.bs_times.specs.Machine.{machine_of}
use Rattle.bs_path.specs.Chain.{start_in}
use Rattle.bs_path.proofs.There.{all_small, all_there}
use Rattle.bs_path.proofs.searching.chain_to.Goals as goal

pub returns-clause-rows : goal.returns-clause-rows
returns-clause-rows c = all_there (net_on c.args.log.now c.args.machine.now) (start_in (numbers c.args.starts.now)) c.args.last c.in_ok-rows.rows c.in_ok-rows.ensures

pub returns-clause-range : goal.returns-clause-range
returns-clause-range c =
    let s = start_in (numbers c.args.starts.now) in
    let ends = small_ends c.args.log.now (machine_of c.args.machine.now) c.requires.valid (fitted_is_timely c.args.machine.now) s c.requires.table in
    record {
      rows = all_small (net_on c.args.log.now c.args.machine.now) s (λ i has. omega (arith, ends i has)) c.args.last c.in_ok-rows.rows c.in_ok-rows.ensures;
      rest = omega (arith, c.from.ensures, c.duration.ensures.range.1);
      span = omega (arith, c.end.ensures, ends c.args.last c.requires.row);
    }
