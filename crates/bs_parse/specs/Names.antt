-- The names of a program's tree, as numbers, in the order in which they stand in its text.
use Rattle.std.specs.Prelude.{ℕ, List, [], ◌∷◌, ◌++◌, map, Option, Some, None}
use Rattle.std.specs.List.{concat}
use Rattle.bs_tree.specs.declared.tree.NameId.{NameId}
use Rattle.bs_tree.specs.declared.tree.VarDecl.{VarDecl}
use Rattle.bs_tree.specs.declared.tree.EntryDecl.{EntryDecl}
use Rattle.bs_tree.specs.declared.tree.Wait.{Wait}
use Rattle.bs_tree.specs.declared.tree.Expr.{Expr}
use Rattle.bs_tree.specs.declared.tree.Expr.TheOpen.{Expr-F}
use Rattle.bs_tree.specs.declared.tree.Expr.TheFolds.{fold-Expr}
use Rattle.bs_tree.specs.declared.tree.Act.{Act}
use Rattle.bs_tree.specs.declared.tree.Act.TheOpen.{Act-F}
use Rattle.bs_tree.specs.declared.tree.Act.TheFolds.{fold-Act}
use Rattle.bs_tree.specs.declared.tree.Stmt.{Stmt}
use Rattle.bs_tree.specs.declared.tree.Stmt.TheOpen.{Stmt-F}
use Rattle.bs_tree.specs.declared.tree.Stmt.TheFolds.{fold-Stmt}
use Rattle.bs_tree.specs.Rule.{Terminal, name}
use Rattle.bs_tree.specs.Grammar.{Parts}

-- those of some terminals
abbrev pub names_among : List Terminal → List ℕ
names_among [] = []
names_among (name n ∷ ts) = n ∷ names_among ts
names_among (_ ∷ ts) = names_among ts

-- one expression, where each expression inside it is given as its names
abbrev pub expression_step : Expr-F (List ℕ) → List ℕ
expression_step (Expr-F.Number z) = []
expression_step (Expr-F.Var x) = x.0 ∷ []
expression_step (Expr-F.At x index) = x.0 ∷ index
expression_step Expr-F.This = []
expression_step Expr-F.Chares = []
expression_step (Expr-F.Neg x) = x
expression_step (Expr-F.Not x) = x
expression_step (Expr-F.Two op x y) = x ++ y

abbrev pub names_in_expression : Expr → List ℕ
names_in_expression = fold-Expr (List ℕ) expression_step

abbrev pub names_in_expressions : List Expr → List ℕ
names_in_expressions xs = concat (map names_in_expression xs)

abbrev pub names_where_given : Option Expr → List ℕ
names_where_given None = []
names_where_given (Some x) = names_in_expression x

-- those of each that there is
abbrev pub each_where_given : Option (List (List ℕ)) → List ℕ
each_where_given None = []
each_where_given (Some names) = concat names

-- one act, where each act inside it is given as its names
abbrev pub act_step : Act-F (List ℕ) → List ℕ
act_step (Act-F.Set x value) = x.0 ∷ names_in_expression value
act_step (Act-F.SetAt x at value) = x.0 ∷ (names_in_expression at ++ names_in_expression value)
act_step (Act-F.Send entry reference args target bytes) = entry.0 ∷ (names_in_expression reference ++ names_in_expressions args ++ names_in_expression target ++ names_where_given bytes)
act_step (Act-F.Work x) = names_in_expression x
act_step (Act-F.Emit x) = names_in_expression x
act_step (Act-F.If test body other) = names_in_expression test ++ concat body ++ each_where_given other
act_step (Act-F.Repeat times body) = names_in_expression times ++ concat body

abbrev pub names_in_act : Act → List ℕ
names_in_act = fold-Act (List ℕ) act_step

abbrev pub names_in_acts : List Act → List ℕ
names_in_acts acts = concat (map names_in_act acts)

abbrev pub as_numbers : List NameId → List ℕ
as_numbers names = map (λ x. x.0) names

abbrev pub names_in_wait : Wait → List ℕ
names_in_wait wait = wait.entry.0 ∷ (names_in_expression wait.reference ++ as_numbers wait.params)

abbrev pub names_in_waits : List Wait → List ℕ
names_in_waits waits = concat (map names_in_wait waits)

-- one statement, where each statement inside it is given as its names
abbrev pub statement_step : Stmt-F (List ℕ) → List ℕ
statement_step (Stmt-F.Serial acts) = names_in_acts acts
statement_step (Stmt-F.When waits body) = names_in_waits waits ++ concat body
statement_step (Stmt-F.Overlap body) = concat body
statement_step (Stmt-F.For x first test y next body) = x.0 ∷ (names_in_expression first ++ names_in_expression test ++ y.0 ∷ (names_in_expression next ++ concat body))
statement_step (Stmt-F.While test body) = names_in_expression test ++ concat body
statement_step (Stmt-F.If test body other) = names_in_expression test ++ concat body ++ each_where_given other
statement_step (Stmt-F.Seq body) = concat body

abbrev pub names_in_statement : Stmt → List ℕ
names_in_statement = fold-Stmt (List ℕ) statement_step

abbrev pub names_in_body : List Stmt → List ℕ
names_in_body body = concat (map names_in_statement body)

abbrev pub names_of_variables : List VarDecl → List ℕ
names_of_variables vars = map (λ x. x.name.0) vars

abbrev pub names_of_entries : List EntryDecl → List ℕ
names_of_entries entries = map (λ x. x.name.0) entries

abbrev pub names_in_program : Parts → List ℕ
names_in_program parts = names_of_variables parts.1 ++ names_of_entries parts.2 ++ names_in_body parts.3
