-- The limits of a program text: how many brackets may be open at once, how many operators an
-- outermost expression may have, and how many statements a program.
use Rattle.std.specs.Prelude.{◌≡◌, ℕ, suc, pred, List, [], ◌∷◌, Option, Some, None, Bool, true, false, nat_le, ◌&&◌, if◌then◌else◌}
use Rattle.bs_tree.specs.declared.symbols.Mark.TheVariants as m
use Rattle.bs_tree.specs.Rule.{Terminal, mark, Role, opening, operand, operator, Item}

-- What the tokens so far come to: the brackets that are open, the operators of two operands since
-- the beginning of the outermost expression, and the statements begun. As limits, the most there
-- may be of each.
pub record Counts : Type 0 where
  pub brackets : ℕ
  pub operators : ℕ
  pub statements : ℕ

abbrev pub most_allowed : Counts
most_allowed = record { brackets = 64; operators = 64; statements = 10000 }

abbrev pub none_yet : Counts
none_yet = record { brackets = 0; operators = 0; statements = 0 }

abbrev pub opens : Terminal → Bool
opens (mark m.BraceLeft) = true
opens (mark m.ParenLeft) = true
opens (mark m.BracketLeft) = true
opens _ = false

abbrev pub closes : Terminal → Bool
closes (mark m.BraceRight) = true
closes (mark m.ParenRight) = true
closes (mark m.BracketRight) = true
closes _ = false

abbrev pub operators_after : ℕ → Role → ℕ
operators_after n operator = suc n
operators_after n operand = n
operators_after n _ = 0

abbrev pub statements_after : ℕ → Role → ℕ
statements_after n opening = suc n
statements_after n _ = n

abbrev pub after : Counts → Item → Counts
after counts item = record {
  brackets = (if opens item.1 then suc counts.brackets else if closes item.1 then pred counts.brackets else counts.brackets);
  operators = operators_after counts.operators item.0;
  statements = statements_after counts.statements item.0;
}

abbrev pub after_all : Counts → List Item → Counts
after_all counts [] = counts
after_all counts (item ∷ items) = after_all (after counts item) items

-- what can be wrong with a token
pub data Reason : Type 0 where
  unexpected : Reason
  too_deep : Reason
  too_many : Reason

abbrev pub refused_role : Counts → Counts → Role → Option Reason
refused_role most counts operator = (if nat_le most.operators counts.operators then Some too_deep else None)
refused_role most counts opening = (if nat_le most.statements counts.statements then Some too_many else None)
refused_role most counts _ = None

-- the limit that a token passes where the tokens before it come to these counts: too deep comes
-- before too many
abbrev pub refused : Counts → Counts → Item → Option Reason
refused most counts item = (if opens item.1 && nat_le most.brackets counts.brackets then Some too_deep else refused_role most counts item.0)

-- no token passes a limit
abbrev pub Within : Counts → Counts → List Item → Type 0
Within most counts [] = Unit {0}
Within most counts (item ∷ items) = (refused most counts item ≡ None) × Within most (after counts item) items
