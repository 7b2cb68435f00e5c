-- All statements of a program in the order of the text.
use Rattle.std.specs.Prelude.{List, [], ◌∷◌, ◌++◌, Option, Some, None, map}
use Rattle.bs_tree.specs.declared.tree.Stmt.{Stmt, roll-Stmt}
use Rattle.bs_tree.specs.declared.tree.Stmt.TheOpen.{Stmt-F}
use Rattle.bs_tree.specs.declared.tree.Stmt.TheFolds.{fold-Stmt, map-Stmt}

-- a statement, and the statements inside it in the order of the text
pub record Listed : Type 0 where
  pub self : Stmt
  pub inside : List Stmt

abbrev pub all_of : List Listed → List Stmt
all_of [] = []
all_of (x ∷ xs) = x.self ∷ (x.inside ++ all_of xs)

abbrev pub all_of_else : Option (List Listed) → List Stmt
all_of_else None = []
all_of_else (Some xs) = all_of xs

abbrev pub inside_step : Stmt-F Listed → List Stmt
inside_step (Stmt-F.Serial acts) = []
inside_step (Stmt-F.When waits body) = all_of body
inside_step (Stmt-F.Overlap body) = all_of body
inside_step (Stmt-F.For x first test y step body) = all_of body
inside_step (Stmt-F.While test body) = all_of body
inside_step (Stmt-F.If test body other) = all_of body ++ all_of_else other
inside_step (Stmt-F.Seq body) = all_of body

abbrev pub listed_step : Stmt-F Listed → Listed
listed_step x = record { self = roll-Stmt (map-Stmt Listed Stmt (λ l. l.self) x); inside = inside_step x }

abbrev pub listed : Stmt → Listed
listed = fold-Stmt Listed listed_step

-- each statement of a list before those inside it
abbrev pub every : List Stmt → List Stmt
every body = all_of (map listed body)
