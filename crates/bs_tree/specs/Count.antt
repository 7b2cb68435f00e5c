-- How many statements there are: each statement is one, and so is each statement inside it.
use Rattle.std.specs.Prelude.{ℕ, ◌+◌, List, Option, Some, None, map, sum}
use Rattle.bs_tree.specs.declared.tree.Stmt.{Stmt}
use Rattle.bs_tree.specs.declared.tree.Stmt.TheOpen.{Stmt-F}
use Rattle.bs_tree.specs.declared.tree.Stmt.TheFolds.{fold-Stmt}

abbrev pub statements_in_else : Option (List ℕ) → ℕ
statements_in_else None = 0
statements_in_else (Some counts) = sum counts

-- one statement, where each statement inside it is given as its count
abbrev pub statements_step : Stmt-F ℕ → ℕ
statements_step (Stmt-F.Serial acts) = 1
statements_step (Stmt-F.When waits body) = 1 + sum body
statements_step (Stmt-F.Overlap body) = 1 + sum body
statements_step (Stmt-F.For first value test next step body) = 1 + sum body
statements_step (Stmt-F.While test body) = 1 + sum body
statements_step (Stmt-F.If test body other) = 1 + sum body + statements_in_else other
statements_step (Stmt-F.Seq body) = 1 + sum body

abbrev pub statements_of : Stmt → ℕ
statements_of = fold-Stmt ℕ statements_step

abbrev pub statements_in : List Stmt → ℕ
statements_in body = sum (map statements_of body)
