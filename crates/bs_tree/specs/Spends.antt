-- Which statements make a block whenever they end (docs/model.md).
use Rattle.std.specs.Prelude.{Bool, true, false, ◌&&◌, List, map}
use Rattle.bs_tree.specs.declared.tree.Stmt.{Stmt}
use Rattle.bs_tree.specs.declared.tree.Stmt.TheOpen.{Stmt-F}
use Rattle.bs_tree.specs.declared.tree.Stmt.TheFolds.{fold-Stmt}
use Rattle.bs_tree.specs.Reads.{any_true, any_in_else}

-- A `serial` spends. A `when`, an `overlap` and a block in braces spend where a statement of their list does, and an `if`
-- where it has an `else` and each of its lists has one that does. A loop may do no turn, so it doesn't spend.
abbrev pub stmt_spends_step : Stmt-F Bool → Bool
stmt_spends_step (Stmt-F.Serial acts) = true
stmt_spends_step (Stmt-F.When waits body) = any_true body
stmt_spends_step (Stmt-F.Overlap body) = any_true body
stmt_spends_step (Stmt-F.For x first test y step body) = false
stmt_spends_step (Stmt-F.While test body) = false
stmt_spends_step (Stmt-F.If test body other) = any_true body && any_in_else other
stmt_spends_step (Stmt-F.Seq body) = any_true body

abbrev pub stmt_spends : Stmt → Bool
stmt_spends = fold-Stmt Bool stmt_spends_step

abbrev pub any_stmt_spends : List Stmt → Bool
any_stmt_spends body = any_true (map stmt_spends body)
