-- What an expression is worth for a program, a chare and its cells: a number in the range of 64 bits with a sign, or a
-- trap (docs/model.md).
use Rattle.std.specs.Prelude.{ℕ, ℤ, pos, negsuc, ◌+ℤ◌, ◌*ℤ◌, ◌-ℤ◌, ◌^◌, ◌+◌, ◌-◌, nat_lt, int_lt, int_le, int_div, int_rem, Bool, true, false, not, ◌&&◌, if◌then◌else◌, List, Option, Some, None, get_or, Result, Ok, Err}
use Rattle.std.specs.Ordering.{int_eq}
use Rattle.bs_tree.specs.declared.tree.Expr.{Expr}
use Rattle.bs_tree.specs.declared.tree.Expr.TheOpen.{Expr-F}
use Rattle.bs_tree.specs.declared.tree.Expr.TheFolds.{fold-Expr}
use Rattle.bs_tree.specs.declared.tree.Op2.{Op2}
use Rattle.bs_tree.specs.declared.tree.Op2.TheVariants.{Or, And, Eq, Ne, Lt, Le, Gt, Ge, Add, Sub, Mul, Div, Rem}
use Rattle.bs_log.specs.declared.history.TrapKind.{TrapKind}
use Rattle.bs_log.specs.declared.history.TrapKind.TheVariants.{Overflow, ZeroDivisor, Index}
use Rattle.bs_tree.specs.declared.tree.Program.{Program}
use Rattle.bs_semantics.specs.Layout.{place_of}

abbrev pub Cells : Type 0
Cells = List ℤ

abbrev pub Value : Type 0
Value = Result ℤ TrapKind

abbrev pub Meaning : Type 0
Meaning = Cells → Value

-- a result that doesn't fit is a trap
abbrev pub in_range : ℤ → Value
in_range (pos n) = if nat_lt n (2 ^ 63) then Ok (pos n) else Err Overflow
in_range (negsuc n) = if nat_lt n (2 ^ 63) then Ok (negsuc n) else Err Overflow

-- on with a value, or stopped by a trap
abbrev pub then_value : Value → (ℤ → Value) → Value
then_value (Err k) f = Err k
then_value (Ok v) f = f v

abbrev pub bit : Bool → ℤ
bit true = pos 1
bit false = pos 0

abbrev pub is_zero : ℤ → Bool
is_zero v = int_eq v (pos 0)

-- division truncates towards 0, and the remainder has the sign of the dividend
abbrev pub divided : (ℤ → ℤ → ℤ) → ℤ → ℤ → Value
divided f a b = if is_zero b then Err ZeroDivisor else if int_eq b (negsuc 0) && int_eq a (negsuc (2 ^ 63 - 1)) then Err Overflow else Ok (f a b)

-- an operator on the values of both operands
abbrev pub apply : Op2 → ℤ → ℤ → Value
apply Or a b = Ok (bit (not (is_zero b)))
apply And a b = Ok (bit (not (is_zero b)))
apply Eq a b = Ok (bit (int_eq a b))
apply Ne a b = Ok (bit (not (int_eq a b)))
apply Lt a b = Ok (bit (int_lt a b))
apply Le a b = Ok (bit (int_le a b))
apply Gt a b = Ok (bit (int_lt b a))
apply Ge a b = Ok (bit (int_le b a))
apply Add a b = in_range (a +ℤ b)
apply Sub a b = in_range (a -ℤ b)
apply Mul a b = in_range (a *ℤ b)
apply Div a b = divided int_div a b
apply Rem a b = divided int_rem a b

-- the value that a left operand decides alone, if it does
abbrev pub decided : Op2 → ℤ → Option ℤ
decided Or a = if is_zero a then None else Some (pos 1)
decided And a = if is_zero a then Some (pos 0) else None
decided _ a = None

-- the right operand is asked only where the left one doesn't decide
abbrev pub or_right : Option ℤ → (ℤ → Value) → Value → Value
or_right (Some v) f b = Ok v
or_right None f b = then_value b f

-- an index into n cells, counted from 0
abbrev pub indexed : ℕ → ℤ → Result ℕ TrapKind
indexed n (negsuc i) = Err Index
indexed n (pos i) = if nat_lt i n then Ok i else Err Index

abbrev pub at_index : ℕ → Cells → Result ℕ TrapKind → Value
at_index from cells (Err k) = Err k
at_index from cells (Ok i) = Ok (get_or cells (from + i) (pos 0))

-- one expression, with the meaning of each operand in its place
abbrev pub value_step : Program → ℕ → Expr-F Meaning → Meaning
value_step p this (Expr-F.Number n) cells = Ok n
value_step p this (Expr-F.Var x) cells = Ok (get_or cells (place_of p x).from (pos 0))
value_step p this (Expr-F.At x i) cells = then_value (i cells) (λ v. at_index (place_of p x).from cells (indexed (place_of p x).cells v))
value_step p this Expr-F.This cells = Ok (pos this)
value_step p this Expr-F.Chares cells = Ok (pos p.chares)
value_step p this (Expr-F.Neg a) cells = then_value (a cells) (λ v. in_range (pos 0 -ℤ v))
value_step p this (Expr-F.Not a) cells = then_value (a cells) (λ v. Ok (bit (is_zero v)))
value_step p this (Expr-F.Two op a b) cells = then_value (a cells) (λ v. or_right (decided op v) (apply op v) (b cells))

abbrev pub value_of : Program → ℕ → Expr → Meaning
value_of p this = fold-Expr Meaning (value_step p this)
