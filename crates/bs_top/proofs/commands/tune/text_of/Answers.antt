use Rattle.std.proofs.Common.{refl, subst, arith}
use Rattle.bs_top.proofs.Pointed.{IsFraction-of_tuning, some_figures, some_spans}
use Rattle.bs_top.proofs.commands.tune.text_of.Goals as goal

pub tune-requires-clause-fraction : goal.tune-requires-clause-fraction
tune-requires-clause-fraction c = IsFraction-of_tuning c.args.tuning c.requires.tuning

pub tune_spans-requires-clause-fraction : goal.tune_spans-requires-clause-fraction
tune_spans-requires-clause-fraction c = IsFraction-of_tuning c.args.tuning c.requires.tuning
