use Rattle.std.proofs.Common.{◌≡◌, min, ◌^◌, ◌-◌, ◌+◌, ◌<◌, drop}
use Rattle.bs_semantics.specs.Layout.{all_cells}
use Rattle.bs_check.proofs.declarations.cells_of.Given as goal

abbrev pub invariant-loop-var : goal.invariant-loop-var
invariant-loop-var l = record {
  fits : l.cells < 2 ^ 64;
  total : min (l.cells + all_cells (drop l.var-index l.vars)) (2 ^ 64 - 1) ≡ min (all_cells l.vars) (2 ^ 64 - 1);
}
