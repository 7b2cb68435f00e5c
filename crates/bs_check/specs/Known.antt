-- Whether the names of an expression or an act are declared as what they are used for, and whether messages have as
-- many arguments as their entries have parameters (docs/program-text.md).
use Rattle.std.specs.Prelude.{ℕ, ◌==◌, Bool, true, false, ◌&&◌, List, [], ◌∷◌, length, map, Option, Some, None}
use Rattle.bs_tree.specs.declared.tree.NameId.{NameId}
use Rattle.bs_tree.specs.declared.tree.Expr.{Expr}
use Rattle.bs_tree.specs.declared.tree.Expr.TheOpen.{Expr-F}
use Rattle.bs_tree.specs.declared.tree.Expr.TheFolds.{fold-Expr}
use Rattle.bs_tree.specs.declared.tree.Act.{Act}
use Rattle.bs_tree.specs.declared.tree.Act.TheOpen.{Act-F}
use Rattle.bs_tree.specs.declared.tree.Act.TheFolds.{fold-Act}
use Rattle.bs_tree.specs.declared.tree.Program.{Program}
use Rattle.bs_check.specs.declared.kind.Kind.{Kind}
use Rattle.bs_check.specs.declared.kind.Kind.TheVariants.{Scalar, Array, Entry}
use Rattle.bs_check.specs.Kinds.{kind_of}

abbrev pub is_scalar_kind : Option Kind → Bool
is_scalar_kind (Some (Scalar cell)) = true
is_scalar_kind _ = false

abbrev pub is_array_kind : Option Kind → Bool
is_array_kind (Some (Array cell length)) = true
is_array_kind _ = false

abbrev pub is_entry_kind : Option Kind → Bool
is_entry_kind (Some (Entry number params)) = true
is_entry_kind _ = false

abbrev pub is_scalar : Program → NameId → Bool
is_scalar p name = is_scalar_kind (kind_of p name)

abbrev pub is_array : Program → NameId → Bool
is_array p name = is_array_kind (kind_of p name)

abbrev pub is_entry : Program → NameId → Bool
is_entry p name = is_entry_kind (kind_of p name)

abbrev pub takes_kind : Option Kind → ℕ → Bool
takes_kind (Some (Entry number params)) n = params == n
takes_kind _ n = true

-- whether an entry, if it is one, has so many parameters
abbrev pub takes : Program → NameId → ℕ → Bool
takes p name n = takes_kind (kind_of p name) n

abbrev pub all_true : List Bool → Bool
all_true [] = true
all_true (b ∷ bs) = b && all_true bs

abbrev pub all_in_else : Option (List Bool) → Bool
all_in_else None = true
all_in_else (Some bs) = all_true bs

abbrev pub known_step : Program → Expr-F Bool → Bool
known_step p (Expr-F.Number n) = true
known_step p (Expr-F.Var x) = is_scalar p x
known_step p (Expr-F.At x i) = is_array p x && i
known_step p Expr-F.This = true
known_step p Expr-F.Chares = true
known_step p (Expr-F.Neg a) = a
known_step p (Expr-F.Not a) = a
known_step p (Expr-F.Two op a b) = a && b

-- each name of the expression is declared as what it is used for
abbrev pub is_known : Program → Expr → Bool
is_known p = fold-Expr Bool (known_step p)

abbrev pub are_exprs_known : Program → List Expr → Bool
are_exprs_known p exprs = all_true (map (is_known p) exprs)

abbrev pub is_known_if_given : Program → Option Expr → Bool
is_known_if_given p None = true
is_known_if_given p (Some e) = is_known p e

abbrev pub known_act_step : Program → Act-F Bool → Bool
known_act_step p (Act-F.Set x e) = is_scalar p x && is_known p e
known_act_step p (Act-F.SetAt x i e) = is_array p x && is_known p i && is_known p e
known_act_step p (Act-F.Send entry reference args target bytes) = is_entry p entry && is_known p reference && are_exprs_known p args && is_known p target && is_known_if_given p bytes
known_act_step p (Act-F.Work e) = is_known p e
known_act_step p (Act-F.Emit e) = is_known p e
known_act_step p (Act-F.If e body other) = is_known p e && all_true body && all_in_else other
known_act_step p (Act-F.Repeat e body) = is_known p e && all_true body

-- each name of the act, and of the acts inside it, is declared as what it is used for
abbrev pub is_known_act : Program → Act → Bool
is_known_act p = fold-Act Bool (known_act_step p)

abbrev pub are_known : Program → List Act → Bool
are_known p acts = all_true (map (is_known_act p) acts)

abbrev pub counted_act_step : Program → Act-F Bool → Bool
counted_act_step p (Act-F.Send entry reference args target bytes) = takes p entry (length args)
counted_act_step p (Act-F.If e body other) = all_true body && all_in_else other
counted_act_step p (Act-F.Repeat e body) = all_true body
counted_act_step p _ = true

-- each message of the act, and of the acts inside it, has as many arguments as its entry has parameters
abbrev pub is_counted_act : Program → Act → Bool
is_counted_act p = fold-Act Bool (counted_act_step p)

abbrev pub are_counted : Program → List Act → Bool
are_counted p acts = all_true (map (is_counted_act p) acts)
