use Rattle.std.proofs.Common.{◌∙◌, ap}
use Rattle.bs_whatif.specs.Figures.{latest_of}
use Rattle.bs_whatif.proofs.Ends.{latest_is}
use Rattle.bs_whatif.proofs.figures.span.Goals as goal

pub returns : goal.returns
returns c = c.latest.ensures ∙ ap latest_of c.as_slice.ensures ∙ latest_is c.args.times.now.ends
