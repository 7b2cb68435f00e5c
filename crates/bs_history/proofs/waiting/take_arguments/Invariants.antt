use Rattle.std.proofs.Common.{◌≡◌, drop}
use Rattle.bs_semantics.specs.Run.{take_mail}
use Rattle.bs_block.specs.Env.{MadeFor}
use Rattle.bs_history.proofs.waiting.take_arguments.Given as goal

abbrev pub invariant-loop-at : goal.invariant-loop-at
invariant-loop-at l = record {
  this : l.env.this ≡ l.fn.env.this;
  made : MadeFor l.accepted.program l.env;
  left : take_mail l.accepted.program (drop l.at l.waits) (drop l.at l.messages) l.env.cells ≡ take_mail l.accepted.program l.waits l.messages l.fn.env.cells;
}
