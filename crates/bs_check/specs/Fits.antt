-- Whether the names in a statement are declared as what they are used for, and whether its messages have as many
-- arguments as their entries have parameters (docs/program-text.md).
use Rattle.std.specs.Prelude.{Bool, ◌&&◌, List, map}
use Rattle.bs_tree.specs.declared.tree.NameId.{NameId}
use Rattle.bs_tree.specs.declared.tree.Expr.{Expr}
use Rattle.bs_tree.specs.declared.tree.Wait.{Wait}
use Rattle.bs_tree.specs.declared.tree.Stmt.{Stmt}
use Rattle.bs_tree.specs.declared.tree.Stmt.TheOpen.{Stmt-F}
use Rattle.bs_tree.specs.declared.tree.Stmt.TheFolds.{fold-Stmt}
use Rattle.bs_tree.specs.declared.tree.Program.{Program}
use Rattle.bs_check.specs.Known.{all_true, all_in_else, are_counted, are_known, is_entry, is_known, is_scalar}

abbrev pub is_wait_fit : Program → Wait → Bool
is_wait_fit p w = is_entry p w.entry && is_known p w.reference && all_true (map (is_scalar p) w.params)

abbrev pub are_waits_fit : Program → List Wait → Bool
are_waits_fit p waits = all_true (map (is_wait_fit p) waits)

-- a scalar is set to a value
abbrev pub is_set_fit : Program → NameId → Expr → Bool
is_set_fit p x e = is_scalar p x && is_known p e

-- what a `for` sets and tests. It is closed to the proofs of what is called with it
unfoldable pub is_for_fit : Program → NameId → Expr → Expr → NameId → Expr → Bool
is_for_fit p x first test y step = is_set_fit p x first && is_known p test && is_set_fit p y step

-- one statement, with whether each statement inside it fits in its place
abbrev pub fit_step : Program → Stmt-F Bool → Bool
fit_step p (Stmt-F.Serial acts) = are_known p acts && are_counted p acts
fit_step p (Stmt-F.When waits body) = are_waits_fit p waits && all_true body
fit_step p (Stmt-F.Overlap body) = all_true body
fit_step p (Stmt-F.For x first test y step body) = is_for_fit p x first test y step && all_true body
fit_step p (Stmt-F.While test body) = is_known p test && all_true body
fit_step p (Stmt-F.If test body other) = is_known p test && all_true body && all_in_else other
fit_step p (Stmt-F.Seq body) = all_true body

abbrev pub is_fit : Program → Stmt → Bool
is_fit p = fold-Stmt Bool (fit_step p)

abbrev pub are_fit : Program → List Stmt → Bool
are_fit p body = all_true (map (is_fit p) body)
