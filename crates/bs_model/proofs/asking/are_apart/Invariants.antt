use Rattle.std.proofs.Common.{drop}
use Rattle.bs_log.specs.Lists.{Apart}
use Rattle.bs_log.specs.Messages.{one_asked}
use Rattle.bs_rounds.proofs.Asked.{has, Unlisted}
use Rattle.bs_model.proofs.asking.are_apart.Given as goal

abbrev pub invariant-loop-one : goal.invariant-loop-one
invariant-loop-one l = record {
  whole : Unlisted (has l.keys) (drop l.one-index l.asked) → Apart one_asked l.asked;
  rest : Apart one_asked l.asked → Unlisted (has l.keys) (drop l.one-index l.asked);
}
