-- Whether each number that stands in a program has 64 bits, as a test that can be computed (docs/program-text.md).
use Rattle.std.specs.Prelude.{◌≡◌, ℕ, pos, Bool, true, ◌&&◌, List, Option, Some, None, map}
use Rattle.bs_tree.specs.declared.tree.VarDecl.{VarDecl}
use Rattle.bs_tree.specs.declared.tree.EntryDecl.{EntryDecl}
use Rattle.bs_tree.specs.declared.tree.Wait.{Wait}
use Rattle.bs_tree.specs.declared.tree.Expr.{Expr}
use Rattle.bs_tree.specs.declared.tree.Expr.TheOpen.{Expr-F}
use Rattle.bs_tree.specs.declared.tree.Expr.TheFolds.{fold-Expr}
use Rattle.bs_tree.specs.declared.tree.Act.{Act}
use Rattle.bs_tree.specs.declared.tree.Act.TheOpen.{Act-F}
use Rattle.bs_tree.specs.declared.tree.Act.TheFolds.{fold-Act}
use Rattle.bs_tree.specs.declared.tree.Stmt.{Stmt}
use Rattle.bs_tree.specs.declared.tree.Stmt.TheOpen.{Stmt-F}
use Rattle.bs_tree.specs.declared.tree.Stmt.TheFolds.{fold-Stmt}
use Rattle.bs_tree.specs.declared.tree.Program.{Program}
use Rattle.bs_tree.specs.Grammar.{Parts}
use Rattle.bs_log.specs.ValidTest.{is_word}
use Rattle.bs_check.specs.Known.{all_true, all_in_else}

-- a number of the program, which has no sign
abbrev pub is_small : ℕ → Bool
is_small n = is_word (pos n)

-- one expression, where each expression inside it is given as whether its numbers have 64 bits
abbrev pub expression_step : Expr-F Bool → Bool
expression_step (Expr-F.Number z) = is_word z
expression_step (Expr-F.Var x) = true
expression_step (Expr-F.At x index) = index
expression_step Expr-F.This = true
expression_step Expr-F.Chares = true
expression_step (Expr-F.Neg x) = x
expression_step (Expr-F.Not x) = x
expression_step (Expr-F.Two op x y) = x && y

abbrev pub small_in_expression : Expr → Bool
small_in_expression = fold-Expr Bool expression_step

abbrev pub small_in_expressions : List Expr → Bool
small_in_expressions xs = all_true (map small_in_expression xs)

abbrev pub small_where_given : Option Expr → Bool
small_where_given None = true
small_where_given (Some x) = small_in_expression x

-- one act, where each act inside it is given in the same way
abbrev pub act_step : Act-F Bool → Bool
act_step (Act-F.Set x value) = small_in_expression value
act_step (Act-F.SetAt x at value) = small_in_expression at && small_in_expression value
act_step (Act-F.Send entry reference args target bytes) = (small_in_expression reference && small_in_expressions args) && (small_in_expression target && small_where_given bytes)
act_step (Act-F.Work x) = small_in_expression x
act_step (Act-F.Emit x) = small_in_expression x
act_step (Act-F.If test body other) = small_in_expression test && (all_true body && all_in_else other)
act_step (Act-F.Repeat times body) = small_in_expression times && all_true body

abbrev pub small_in_act : Act → Bool
small_in_act = fold-Act Bool act_step

abbrev pub small_in_acts : List Act → Bool
small_in_acts acts = all_true (map small_in_act acts)

abbrev pub small_in_wait : Wait → Bool
small_in_wait wait = small_in_expression wait.reference

abbrev pub small_in_waits : List Wait → Bool
small_in_waits waits = all_true (map small_in_wait waits)

-- one statement, where each statement inside it is given in the same way
abbrev pub statement_step : Stmt-F Bool → Bool
statement_step (Stmt-F.Serial acts) = small_in_acts acts
statement_step (Stmt-F.When waits body) = small_in_waits waits && all_true body
statement_step (Stmt-F.Overlap body) = all_true body
statement_step (Stmt-F.For x first test y next body) = (small_in_expression first && (small_in_expression test && small_in_expression next)) && all_true body
statement_step (Stmt-F.While test body) = small_in_expression test && all_true body
statement_step (Stmt-F.If test body other) = small_in_expression test && (all_true body && all_in_else other)
statement_step (Stmt-F.Seq body) = all_true body

abbrev pub small_in_statement : Stmt → Bool
small_in_statement = fold-Stmt Bool statement_step

abbrev pub small_in_body : List Stmt → Bool
small_in_body body = all_true (map small_in_statement body)

-- the length of an array, if there is one
abbrev pub small_length : Option ℕ → Bool
small_length None = true
small_length (Some n) = is_small n

abbrev pub small_in_variables : List VarDecl → Bool
small_in_variables vars = all_true (map (λ x. small_length x.cells) vars)

abbrev pub small_in_entries : List EntryDecl → Bool
small_in_entries entries = all_true (map (λ x. is_small x.params) entries)

abbrev pub small_in_parts : Parts → Bool
small_in_parts parts = is_small parts.0 && (small_in_variables parts.1 && (small_in_entries parts.2 && small_in_body parts.3))

-- each number in the program is at most 2^63 - 1: the number of chares, the lengths and the counts of its declarations,
-- and all in its body
abbrev pub HasSmallNumbers : Program → Type 0
HasSmallNumbers p = small_in_parts (p.chares, p.vars, p.entries, p.body) ≡ true
