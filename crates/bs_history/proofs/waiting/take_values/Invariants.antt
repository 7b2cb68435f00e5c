use Rattle.std.proofs.Common.{◌≡◌, drop}
use Rattle.bs_semantics.specs.Run.{take_args}
use Rattle.bs_block.specs.Env.{MadeFor}
use Rattle.bs_history.proofs.waiting.take_values.Given as goal

abbrev pub invariant-loop-at : goal.invariant-loop-at
invariant-loop-at l = record {
  this : l.env.this ≡ l.fn.env.this;
  made : MadeFor l.accepted.program l.env;
  left : take_args l.accepted.program (drop l.at l.params) (drop l.at l.args) l.env.cells ≡ take_args l.accepted.program l.params l.args l.fn.env.cells;
}
