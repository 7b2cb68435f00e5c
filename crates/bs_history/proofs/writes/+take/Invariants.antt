use Rattle.std.proofs.Common.{◌≡◌, true, drop, map}
use Rattle.bs_block.specs.Env.{MadeFor}
use Rattle.bs_check.specs.Fits.{are_fit}
use Rattle.bs_semantics.specs.Run.{any_part, mix}
use Rattle.bs_history.specs.Ground.{means, program_of}
use Rattle.bs_history.proofs.writes.+take.Given as goal

abbrev pub invariant-take_list-loop-stmt : goal.invariant-take_list-loop-stmt
invariant-take_list-loop-stmt l = record {
  fits : are_fit (program_of l.ground) (drop l.stmt-index l.body) ≡ true;
  this : l.env.this ≡ l.fn.env.this;
  made : MadeFor (program_of l.ground) l.env;
  left : mix (any_part (map (means l.ground) (drop l.stmt-index l.body))) 0 l.part.cells l.env.cells ≡ mix (any_part (map (means l.ground) l.body)) 0 l.part.cells l.fn.env.cells;
}
