use Rattle.std.proofs.Common.{◌≡◌, ℕ, ◌+◌, drop, vec_len}
use Rattle.bs_semantics.specs.Layout.{all_cells}
use Rattle.bs_check.specs.Kinds.{or_entry, var_kind}
use Rattle.bs_check.specs.Table.{kind_in, name_at}
use Rattle.bs_check.proofs.declarations.put_vars.Given as goal

abbrev pub invariant-loop-var : goal.invariant-loop-var
invariant-loop-var l = record {
  same : vec_len l.kinds ≡ vec_len l.fn.kinds;
  cells : l.from + all_cells (drop l.var-index l.vars) ≡ all_cells l.vars;
  kinds : (n : ℕ) → or_entry (kind_in l.kinds.items n) (var_kind (drop l.var-index l.vars) l.from (name_at n)) ≡ or_entry (kind_in l.fn.kinds.items n) (var_kind l.vars 0 (name_at n));
}
