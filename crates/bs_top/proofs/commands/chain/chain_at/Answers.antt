use Rattle.std.proofs.Common.{refl, None}
use Rattle.bs_path.specs.Chain.{starts_of}
use Rattle.bs_times.specs.Machine.{machine_of}
use Rattle.bs_top.specs.Targets.{output}
use Rattle.bs_top.specs.declared.reply.Ending.TheVariants.{Run}
use Rattle.bs_top.proofs.commands.chain.chain_at.Goals as goal

pub returns : goal.returns
returns c =
    record {
      fitted = c.args.fitted.now;
      starts = starts_of c.args.times.now;
      chain = c.in_ok-chain.chain;
      is_machine = refl;
      is_fitted = c.requires.chares;
      is_consistent = c.times_are_the_table.ensures c.args.log.now (machine_of c.args.fitted.now) c.args.times.now c.requires.valid (c.timely_machines.ensures c.args.fitted.now) c.requires.times;
      is_critical = c.in_ok-chain.ensures.critical;
      is_said = λ i. record {
        ending = Run (c.end.ensures i);
        note = None;
        target = output;
        text = c.in_ok-text.ensures i;
      };
    }
