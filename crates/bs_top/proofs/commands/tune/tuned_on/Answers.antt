use Rattle.std.proofs.Common.{refl, ◌∙◌}
use Rattle.bs_top.proofs.Pointed.{IsFraction-of_tuning}
use Rattle.bs_top.proofs.commands.tune.tuned_on.Goals as goal

pub returns : goal.returns
returns c =
    record {
      fitted = c.args.fitted.now;
      text = c.in_ok-text.text.items;
      is_machine = refl;
      is_fitted = c.requires.chares;
      is_fraction = IsFraction-of_tuning c.args.tuning c.requires.tuning;
      is_text = c.in_ok-text.ensures;
      is_said = c.points_reply.ensures;
    }
