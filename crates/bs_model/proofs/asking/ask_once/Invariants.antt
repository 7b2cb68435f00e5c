use Rattle.std.proofs.Common.{drop}
use Rattle.bs_model.specs.Asking.{AskOnce}
use Rattle.bs_model.proofs.asking.ask_once.Given as goal

abbrev pub invariant-loop-history : goal.invariant-loop-history
invariant-loop-history l = record {
  whole : AskOnce (drop l.history-index l.histories) → AskOnce l.histories;
  rest : AskOnce l.histories → AskOnce (drop l.history-index l.histories);
}
