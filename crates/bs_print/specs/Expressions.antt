-- How an expression is printed: its items, with no parentheses but those that its tree needs.
use Rattle.std.specs.Prelude.{ℕ, suc, nat_le, List, [], ◌∷◌, ◌++◌, if◌then◌else◌}
use Rattle.bs_tree.specs.declared.symbols.Word.TheVariants as w
use Rattle.bs_tree.specs.declared.symbols.Mark.{Mark}
use Rattle.bs_tree.specs.declared.symbols.Mark.TheVariants as m
use Rattle.bs_tree.specs.declared.tree.Expr.{Expr}
use Rattle.bs_tree.specs.declared.tree.Expr.TheOpen.{Expr-F}
use Rattle.bs_tree.specs.declared.tree.Expr.TheFolds.{fold-Expr}
use Rattle.bs_tree.specs.declared.tree.Op2.{Op2}
use Rattle.bs_tree.specs.declared.tree.Op2.TheVariants as o
use Rattle.bs_tree.specs.Rule.{name, number, word, mark, Role, operand, operator, closing, Item}

-- a level from 0 to 6, the tightest, and the items with no parentheses round them
pub record Printed : Type 0 where
  pub level : ℕ
  pub items : List Item

-- an opening bracket, what stands inside, and its closing bracket
abbrev pub bracketed : Role → Mark → Mark → List Item → List Item
bracketed role left right inner = (role, mark left) ∷ (inner ++ (closing role, mark right) ∷ [])

-- in parentheses
abbrev pub grouped : Role → List Item → List Item
grouped role inner = bracketed role m.ParenLeft m.ParenRight inner

-- in square brackets
abbrev pub indexed : Role → List Item → List Item
indexed role inner = bracketed role m.BracketLeft m.BracketRight inner

-- where an operand of this level at least is wanted: one of a looser level stands in parentheses
abbrev pub operand_at : ℕ → Printed → List Item
operand_at least x = if nat_le least x.level then x.items else grouped operand x.items

-- the level of an operator of two operands, from the loosest; the signs have level 5
abbrev pub level_of : Op2 → ℕ
level_of o.Or = 0
level_of o.And = 1
level_of o.Eq = 2
level_of o.Ne = 2
level_of o.Lt = 2
level_of o.Le = 2
level_of o.Gt = 2
level_of o.Ge = 2
level_of o.Add = 3
level_of o.Sub = 3
level_of o.Mul = 4
level_of o.Div = 4
level_of o.Rem = 4

-- the least level of a left operand: operators of one level group to the left, but comparisons don't
abbrev pub left_level : Op2 → ℕ
left_level o.Or = 0
left_level o.And = 1
left_level o.Eq = 3
left_level o.Ne = 3
left_level o.Lt = 3
left_level o.Le = 3
left_level o.Gt = 3
left_level o.Ge = 3
left_level o.Add = 3
left_level o.Sub = 3
left_level o.Mul = 4
left_level o.Div = 4
left_level o.Rem = 4

-- how an operator is written
abbrev pub mark_of : Op2 → Mark
mark_of o.Or = m.Or
mark_of o.And = m.And
mark_of o.Eq = m.Equal
mark_of o.Ne = m.NotEqual
mark_of o.Lt = m.Less
mark_of o.Le = m.LessEqual
mark_of o.Gt = m.Greater
mark_of o.Ge = m.GreaterEqual
mark_of o.Add = m.Plus
mark_of o.Sub = m.Minus
mark_of o.Mul = m.Star
mark_of o.Div = m.Slash
mark_of o.Rem = m.Percent

-- an operator between its operands; the right one binds more tightly
abbrev pub two_items : Op2 → Printed → Printed → List Item
two_items op left right = operand_at (left_level op) left ++ (operator, mark (mark_of op)) ∷ operand_at (suc (level_of op)) right

-- one expression, where each expression inside it is given as it is printed
abbrev pub printed_step : Expr-F Printed → Printed
printed_step (Expr-F.Number n) = record { level = 6; items = (operand, number n) ∷ [] }
printed_step (Expr-F.Var x) = record { level = 6; items = (operand, name x.0) ∷ [] }
printed_step (Expr-F.At x index) = record { level = 6; items = (operand, name x.0) ∷ indexed operand index.items }
printed_step Expr-F.This = record { level = 6; items = (operand, word w.This) ∷ [] }
printed_step Expr-F.Chares = record { level = 6; items = (operand, word w.Chares) ∷ [] }
printed_step (Expr-F.Neg x) = record { level = 5; items = (operand, mark m.Minus) ∷ operand_at 6 x }
printed_step (Expr-F.Not x) = record { level = 5; items = (operand, mark m.Not) ∷ operand_at 6 x }
printed_step (Expr-F.Two op left right) = record { level = level_of op; items = two_items op left right }

-- an expression as it is printed
unfoldable pub printed : Expr → Printed
printed = fold-Expr Printed printed_step

-- the items of an expression that stands in no other
abbrev pub expression_items : Expr → List Item
expression_items x = (printed x).items
