-- What the reader sees of its tokens, and that it reads as the rules say.
use Rattle.std.specs.Prelude.{Bool, true, false, ◌≡◌, ℕ, ◌-◌, List, Option, Result, Ok, Err}
use Rattle.bs_tree.specs.Rule as g
use Rattle.bs_tree.specs.Rule.{Terminal}
use Rattle.bs_tree.specs.Limits as limits
use Rattle.bs_tree.specs.Limits.{Counts}
use Rattle.bs_parse.specs.declared.cursor.Lexeme.{Lexeme}
use Rattle.bs_parse.specs.declared.cursor.Lexeme.TheVariants as lexeme
use Rattle.bs_parse.specs.declared.cursor.Role.{Role}
use Rattle.bs_parse.specs.declared.cursor.Role.TheVariants as role
use Rattle.bs_parse.specs.declared.cursor.Reason.{Reason}
use Rattle.bs_parse.specs.declared.cursor.Reason.TheVariants as reason
use Rattle.bs_parse.specs.declared.cursor.Stop.{Stop}
use Rattle.bs_parse.specs.declared.cursor.Stop.TheVariants as stop
use Rattle.bs_tree.specs.declared.symbols.Mark.{Mark}
use Rattle.bs_tree.specs.declared.tree.Op2.{Op2}
use Rattle.bs_tree.specs.declared.tree.Expr.{Expr}
use Rattle.bs_tree.specs.Limits.{most_allowed}
use Rattle.bs_tree.specs.Rule.{Rule, the_mark}
use Rattle.bs_tree.specs.Grammar.{multiplies, adds, joins, chooses, compares, unary, product, sum, comparison, conjunction}
use Rattle.bs_parse.specs.declared.cursor.Level.{Level}
use Rattle.bs_parse.specs.declared.cursor.Level.TheVariants as level
use Rattle.bs_tree.specs.declared.symbols.Word.TheVariants as w
use Rattle.bs_tree.specs.declared.symbols.Mark.TheVariants as m
use Rattle.bs_parse.specs.Reading.{Kind, some_name, some_number, word, mark, Outcome, got, bad, read_one, and_then, turns, begins, read, reading}

abbrev pub terminal : Lexeme → Terminal
terminal (lexeme.Name id) = g.name id.0
terminal (lexeme.Number z) = g.number z
terminal (lexeme.Word w) = g.word w
terminal (lexeme.Mark m) = g.mark m

abbrev pub role_of : Role → g.Role
role_of role.Opening = g.opening
role_of role.Outside = g.outside
role_of role.Operand = g.operand
role_of role.Operator = g.operator

abbrev pub reason_of : Reason → limits.Reason
reason_of reason.Unexpected = limits.unexpected
reason_of reason.TooDeep = limits.too_deep
reason_of reason.TooMany = limits.too_many

-- what is left to read, and what came before it
pub record Input : Type 0 where
  pub counts : Counts
  pub rest : List Terminal

-- what a function read is what reading gives, and the tokens are left where reading ends
abbrev pub Reads : {A : Type 0} → Outcome A → Result A Stop → Input → Input → Type 0
Reads outcome (Ok a) old new = outcome ≡ got a new.counts new.rest
Reads outcome (Err (stop.At reason)) old new = outcome ≡ bad (reason_of reason) new.rest
Reads outcome (Err stop.Memory) old new = Unit {0}

-- the operators of a level
abbrev pub operators_of : Level → Mark → Option Op2
operators_of level.Or = chooses
operators_of level.And = joins
operators_of level.Comparison = compares
operators_of level.Sum = adds
operators_of level.Product = multiplies

-- what stands between them
abbrev pub operand_of : Level → Rule Expr
operand_of level.Or = conjunction
operand_of level.And = comparison
operand_of level.Comparison = sum
operand_of level.Sum = product
operand_of level.Product = unary

-- what is read by a rule from here on
abbrev pub by_rule : {A : Type 0} → Rule A → Input → Outcome A
by_rule rule input = read most_allowed (reading most_allowed (64 - input.counts.brackets)) rule input.counts input.rest

-- a function reads by a rule, and closes all brackets that it opens
abbrev pub Follows : {A : Type 0} → Rule A → Result A Stop → Input → Input → Type 0
Follows rule (Ok a) old new = (by_rule rule old ≡ got a new.counts new.rest) × (new.counts.brackets ≡ old.counts.brackets)
Follows rule (Err (stop.At reason)) old new = by_rule rule old ≡ bad (reason_of reason) new.rest
Follows rule (Err stop.Memory) old new = Unit {0}

-- what any number of a rule still gives, at so many turns at most, where what they give is put together like this
abbrev pub onward : {A B : Type 0} → Rule B → ℕ → ℕ → (List B → A) → Input → Outcome A
onward rule depth n f input =
    and_then (and_then (turns (read most_allowed (reading most_allowed depth) rule) (begins rule) n input.counts input.rest) (λ bs counts ts. got bs counts ts)) (λ bs counts ts. got (f bs) counts ts)

-- the same where nothing stands before
abbrev pub further : {A B : Type 0} → Rule B → ℕ → ℕ → (List B → A) → Input → Outcome A
further rule depth n f input =
    and_then (turns (read most_allowed (reading most_allowed depth) rule) (begins rule) n input.counts input.rest) (λ bs counts ts. got (f bs) counts ts)

-- the closing bracket comes behind what was read, unless reading stopped there
abbrev pub Shuts : {A : Type 0} → g.Role → Mark → Result A Stop → Result A Stop → Input → Input → Type 0
Shuts role right (Ok a) result old new = Reads (and_then (read_one {A = Unit {0}} most_allowed role (the_mark right tt) old.counts old.rest) (λ _ counts ts. got a counts ts)) result old new
Shuts role right (Err stop) result old new = (result ≡ Err stop) × (new ≡ old)

abbrev pub level_number : Level → ℕ
level_number level.Or = 0
level_number level.And = 1
level_number level.Comparison = 2
level_number level.Sum = 3
level_number level.Product = 4

-- the tokens that an expression begins with
abbrev pub begins_operand : Kind → Bool
begins_operand some_name = true
begins_operand some_number = true
begins_operand (word w.This) = true
begins_operand (word w.Chares) = true
begins_operand (mark m.Minus) = true
begins_operand (mark m.Not) = true
begins_operand (mark m.ParenLeft) = true
begins_operand _ = false
