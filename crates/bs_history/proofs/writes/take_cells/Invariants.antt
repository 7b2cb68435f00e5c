use Rattle.std.proofs.Common.{◌≡◌, ◌+◌}
use Rattle.bs_block.specs.Env.{MadeFor}
use Rattle.bs_semantics.specs.Run.{mix}
use Rattle.bs_history.specs.Taken.{between}
use Rattle.bs_history.proofs.writes.take_cells.Given as goal

abbrev pub invariant-loop-cell : goal.invariant-loop-cell
invariant-loop-cell l = record {
  this : l.env.this ≡ l.fn.env.this;
  made : MadeFor l.accepted.program l.env;
  end : l.cell-end ≡ l.from + l.cells;
  taken : l.env.cells ≡ mix (between l.from l.cell) 0 l.part.cells l.fn.env.cells;
}
