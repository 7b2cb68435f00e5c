use Rattle.std.proofs.Common.{◌≡◌, true, drop, map}
use Rattle.bs_block.specs.Env.{MadeFor}
use Rattle.bs_check.specs.Known.{are_known}
use Rattle.bs_semantics.specs.Acts.{act_writes, any_writes}
use Rattle.bs_semantics.specs.Run.{mix}
use Rattle.bs_history.proofs.writes.+acts.Given as goal

abbrev pub invariant-take_acts-loop-act : goal.invariant-take_acts-loop-act
invariant-take_acts-loop-act l = record {
  known : are_known l.accepted.program (drop l.act-index l.acts) ≡ true;
  this : l.env.this ≡ l.fn.env.this;
  made : MadeFor l.accepted.program l.env;
  left : mix (any_writes (map (act_writes l.accepted.program) (drop l.act-index l.acts))) 0 l.part.cells l.env.cells ≡ mix (any_writes (map (act_writes l.accepted.program) l.acts)) 0 l.part.cells l.fn.env.cells;
}
