use Rattle.std.proofs.Common.{refl}
use Rattle.bs_top.proofs.commands.sweep.swept.Goals as goal

pub returns : goal.returns
returns c =
    record {
      fitted = c.args.machines.now;
      text = c.in_ok-text.text.items;
      are_machines = refl;
      are_fitted = c.requires.fitted;
      is_text = c.in_ok-text.ensures;
      is_said = c.points_reply.ensures;
    }
