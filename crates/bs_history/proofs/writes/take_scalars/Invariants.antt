use Rattle.std.proofs.Common.{◌≡◌, true, drop, map}
use Rattle.bs_block.specs.Env.{MadeFor}
use Rattle.bs_check.specs.Known.{all_true, is_scalar}
use Rattle.bs_semantics.specs.Run.{mix, params_own}
use Rattle.bs_history.proofs.writes.take_scalars.Given as goal

abbrev pub invariant-loop-name : goal.invariant-loop-name
invariant-loop-name l = record {
  fits : all_true (map (is_scalar l.accepted.program) (drop l.name-index l.names)) ≡ true;
  this : l.env.this ≡ l.fn.env.this;
  made : MadeFor l.accepted.program l.env;
  left : mix (params_own l.accepted.program (drop l.name-index l.names)) 0 l.part.cells l.env.cells ≡ mix (params_own l.accepted.program l.names) 0 l.part.cells l.fn.env.cells;
}
