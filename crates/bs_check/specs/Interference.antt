-- Which variable two parts of an `overlap` share, where one of them writes it (docs/program-text.md).
use Rattle.std.specs.Prelude.{ℕ, ◌+◌, Bool, ◌&&◌, ◌||◌, if◌then◌else◌, List, [], ◌∷◌, Option, Some, None}
use Rattle.bs_tree.specs.Reads.{stmt_reads, stmt_writes}
use Rattle.bs_tree.specs.declared.tree.NameId.{NameId}
use Rattle.bs_tree.specs.declared.tree.VarDecl.{VarDecl}
use Rattle.bs_tree.specs.declared.tree.Stmt.{Stmt}
use Rattle.bs_check.specs.declared.fault.Rule.{Rule}
use Rattle.bs_check.specs.declared.fault.Rule.TheVariants.{Interference}

abbrev pub touches : NameId → Stmt → Bool
touches name part = stmt_reads name part || stmt_writes name part

-- one part writes the variable, and the other reads or writes it
abbrev pub clash : NameId → Stmt → Stmt → Bool
clash name a b = (stmt_writes name a && touches name b) || (touches name a && stmt_writes name b)

-- among parts, the first of which has this number, the least that clashes with a part before them
abbrev pub partner : NameId → Stmt → ℕ → List Stmt → Option ℕ
partner name a k [] = None
partner name a k (b ∷ bs) = if clash name a b then Some k else partner name a (k + 1) bs

-- two parts that clash, the lesser first
pub record Pair : Type 0 where
  pub one : ℕ
  pub other : ℕ

abbrev pub or_else_pair : ℕ → Option ℕ → Option Pair → Option Pair
or_else_pair k (Some j) rest = Some (record { one = k; other = j })
or_else_pair k None rest = rest

-- among parts, the first of which has this number, the least that clashes with a later one, and the least of those
abbrev pub pair : NameId → ℕ → List Stmt → Option Pair
pair name k [] = None
pair name k (a ∷ parts) = or_else_pair k (partner name a (k + 1) parts) (pair name (k + 1) parts)

abbrev pub or_else_rule : ℕ → Option Pair → Option Rule → Option Rule
or_else_rule v (Some both) rest = Some (Interference v both.one both.other)
or_else_rule v None rest = rest

-- among variables, the first of which has this number, the least for which two parts clash, and their pair
abbrev pub interference_from : ℕ → List VarDecl → List Stmt → Option Rule
interference_from v [] parts = None
interference_from v (d ∷ ds) parts = or_else_rule v (pair d.name 0 parts) (interference_from (v + 1) ds parts)
