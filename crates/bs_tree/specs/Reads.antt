-- Which variables, by their names, a statement reads and which it writes (docs/program-text.md).
use Rattle.std.specs.Prelude.{◌==◌, Bool, false, ◌||◌, List, [], ◌∷◌, Option, Some, None, map}
use Rattle.bs_tree.specs.declared.tree.NameId.{NameId}
use Rattle.bs_tree.specs.declared.tree.Wait.{Wait}
use Rattle.bs_tree.specs.declared.tree.Expr.{Expr}
use Rattle.bs_tree.specs.declared.tree.Expr.TheOpen.{Expr-F}
use Rattle.bs_tree.specs.declared.tree.Expr.TheFolds.{fold-Expr}
use Rattle.bs_tree.specs.declared.tree.Act.{Act}
use Rattle.bs_tree.specs.declared.tree.Act.TheOpen.{Act-F}
use Rattle.bs_tree.specs.declared.tree.Act.TheFolds.{fold-Act}
use Rattle.bs_tree.specs.declared.tree.Stmt.{Stmt}
use Rattle.bs_tree.specs.declared.tree.Stmt.TheOpen.{Stmt-F}
use Rattle.bs_tree.specs.declared.tree.Stmt.TheFolds.{fold-Stmt}

abbrev pub any_true : List Bool → Bool
any_true [] = false
any_true (b ∷ bs) = b || any_true bs

abbrev pub any_in_else : Option (List Bool) → Bool
any_in_else None = false
any_in_else (Some bs) = any_true bs

-- two names are one
abbrev pub is_same : NameId → NameId → Bool
is_same a b = a.0 == b.0

-- whether the variable stands in an expression, where each expression inside it is given as whether it stands there
abbrev pub mentions_step : NameId → Expr-F Bool → Bool
mentions_step name (Expr-F.Number n) = false
mentions_step name (Expr-F.Var x) = is_same x name
mentions_step name (Expr-F.At x i) = is_same x name || i
mentions_step name Expr-F.This = false
mentions_step name Expr-F.Chares = false
mentions_step name (Expr-F.Neg a) = a
mentions_step name (Expr-F.Not a) = a
mentions_step name (Expr-F.Two op a b) = a || b

abbrev pub mentions : NameId → Expr → Bool
mentions name = fold-Expr Bool (mentions_step name)

abbrev pub any_mentions : NameId → List Expr → Bool
any_mentions name exprs = any_true (map (mentions name) exprs)

abbrev pub mentions_if_given : NameId → Option Expr → Bool
mentions_if_given name None = false
mentions_if_given name (Some expr) = mentions name expr

abbrev pub act_reads_step : NameId → Act-F Bool → Bool
act_reads_step name (Act-F.Set x e) = mentions name e
act_reads_step name (Act-F.SetAt x i e) = mentions name i || mentions name e
act_reads_step name (Act-F.Send entry reference args target bytes) = mentions name reference || any_mentions name args || mentions name target || mentions_if_given name bytes
act_reads_step name (Act-F.Work e) = mentions name e
act_reads_step name (Act-F.Emit e) = mentions name e
act_reads_step name (Act-F.If test body other) = mentions name test || any_true body || any_in_else other
act_reads_step name (Act-F.Repeat times body) = mentions name times || any_true body

-- an act reads the variables of its expressions, and those that the acts inside it read
abbrev pub act_reads : NameId → Act → Bool
act_reads name = fold-Act Bool (act_reads_step name)

abbrev pub any_act_reads : NameId → List Act → Bool
any_act_reads name acts = any_true (map (act_reads name) acts)

abbrev pub act_writes_step : NameId → Act-F Bool → Bool
act_writes_step name (Act-F.Set x e) = is_same x name
act_writes_step name (Act-F.SetAt x i e) = is_same x name
act_writes_step name (Act-F.Send entry reference args target bytes) = false
act_writes_step name (Act-F.Work e) = false
act_writes_step name (Act-F.Emit e) = false
act_writes_step name (Act-F.If test body other) = any_true body || any_in_else other
act_writes_step name (Act-F.Repeat times body) = any_true body

-- an act writes the variable that it assigns, an array at whatever index, and those that the acts inside it write
abbrev pub act_writes : NameId → Act → Bool
act_writes name = fold-Act Bool (act_writes_step name)

abbrev pub any_act_writes : NameId → List Act → Bool
any_act_writes name acts = any_true (map (act_writes name) acts)

-- a wait reads the variables of its reference number
abbrev pub wait_reads : NameId → Wait → Bool
wait_reads name wait = mentions name wait.reference

abbrev pub any_wait_reads : NameId → List Wait → Bool
any_wait_reads name waits = any_true (map (wait_reads name) waits)

abbrev pub any_named : NameId → List NameId → Bool
any_named name params = any_true (map (λ x. is_same x name) params)

-- a wait writes its parameters
abbrev pub wait_writes : NameId → Wait → Bool
wait_writes name wait = any_named name wait.params

abbrev pub any_wait_writes : NameId → List Wait → Bool
any_wait_writes name waits = any_true (map (wait_writes name) waits)

abbrev pub stmt_reads_step : NameId → Stmt-F Bool → Bool
stmt_reads_step name (Stmt-F.Serial acts) = any_act_reads name acts
stmt_reads_step name (Stmt-F.When waits body) = any_wait_reads name waits || any_true body
stmt_reads_step name (Stmt-F.Overlap body) = any_true body
stmt_reads_step name (Stmt-F.For x first test y step body) = mentions name first || mentions name test || mentions name step || any_true body
stmt_reads_step name (Stmt-F.While test body) = mentions name test || any_true body
stmt_reads_step name (Stmt-F.If test body other) = mentions name test || any_true body || any_in_else other
stmt_reads_step name (Stmt-F.Seq body) = any_true body

-- a statement reads the variables of its expressions, and those that the statements inside it read
abbrev pub stmt_reads : NameId → Stmt → Bool
stmt_reads name = fold-Stmt Bool (stmt_reads_step name)

abbrev pub any_stmt_reads : NameId → List Stmt → Bool
any_stmt_reads name body = any_true (map (stmt_reads name) body)

abbrev pub stmt_writes_step : NameId → Stmt-F Bool → Bool
stmt_writes_step name (Stmt-F.Serial acts) = any_act_writes name acts
stmt_writes_step name (Stmt-F.When waits body) = any_wait_writes name waits || any_true body
stmt_writes_step name (Stmt-F.Overlap body) = any_true body
stmt_writes_step name (Stmt-F.For x first test y step body) = is_same x name || is_same y name || any_true body
stmt_writes_step name (Stmt-F.While test body) = any_true body
stmt_writes_step name (Stmt-F.If test body other) = any_true body || any_in_else other
stmt_writes_step name (Stmt-F.Seq body) = any_true body

-- a statement writes what its acts assign, what its waits take, what its loop head assigns, and what the statements
-- inside it write
abbrev pub stmt_writes : NameId → Stmt → Bool
stmt_writes name = fold-Stmt Bool (stmt_writes_step name)

abbrev pub any_stmt_writes : NameId → List Stmt → Bool
any_stmt_writes name body = any_true (map (stmt_writes name) body)
