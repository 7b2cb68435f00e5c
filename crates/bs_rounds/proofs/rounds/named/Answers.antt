use Rattle.std.proofs.Common.{◌∙◌, sym, ap, option_map}
use Rattle.bs_semantics.proofs.Ambiguous.{once_of}
use Rattle.bs_rounds.specs.Answer.{twice_of}
use Rattle.bs_rounds.proofs.rounds.named.Goals as goal

pub unreachable-requires : goal.unreachable-requires
unreachable-requires c = c.requires.twice (once_of c.args.histories.now (sym c.in_ok-twice.ensures ∙ ap (option_map twice_of) c.in-None.is))
