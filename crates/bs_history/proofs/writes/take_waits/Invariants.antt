use Rattle.std.proofs.Common.{◌≡◌, true, drop}
use Rattle.bs_block.specs.Env.{MadeFor}
use Rattle.bs_check.specs.Fits.{are_waits_fit}
use Rattle.bs_semantics.specs.Run.{mix, waits_own}
use Rattle.bs_history.proofs.writes.take_waits.Given as goal

abbrev pub invariant-loop-wait : goal.invariant-loop-wait
invariant-loop-wait l = record {
  fits : are_waits_fit l.accepted.program (drop l.wait-index l.waits) ≡ true;
  this : l.env.this ≡ l.fn.env.this;
  made : MadeFor l.accepted.program l.env;
  left : mix (waits_own l.accepted.program (drop l.wait-index l.waits)) 0 l.part.cells l.env.cells ≡ mix (waits_own l.accepted.program l.waits) 0 l.part.cells l.fn.env.cells;
}
