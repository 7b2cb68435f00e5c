-- What the checker refuses: the least statement, and at it the least rule (docs/program-text.md).
use Rattle.std.specs.Prelude.{◌≡◌, ◌≤◌, ◌<◌, ℕ, ◌+◌, not, List, [], ◌∷◌, length, Option, Some, None, All}
use Rattle.bs_tree.specs.Count.{statements_in}
use Rattle.bs_tree.specs.declared.tree.Stmt.{Stmt}
use Rattle.bs_tree.specs.declared.tree.Program.{Program}
use Rattle.bs_check.specs.declared.fault.Rule.{Rule}
use Rattle.bs_check.specs.declared.fault.Rule.TheVariants.{TwiceDeclared, Limits}
use Rattle.bs_check.specs.declared.fault.CheckFault.{CheckFault}
use Rattle.bs_check.specs.declared.fault.CheckFault.TheVariants.{Refused, Memory}
use Rattle.bs_check.specs.Every.{every}
use Rattle.bs_check.specs.Declarations.{declared_names, has_twice, is_within}
use Rattle.bs_check.specs.Rules.{where_not, or_next, broken_rule}

-- a statement, where 0 stands for the declarations, and the rule that it breaks
pub record Broken : Type 0 where
  pub stmt : ℕ
  pub rule : Rule

abbrev pub or_later : ℕ → Option Rule → Option Broken → Option Broken
or_later number (Some rule) later = Some (record { stmt = number; rule = rule })
or_later number None later = later

-- among statements, the first of which has this number, the first that breaks a rule
abbrev pub first_broken : Program → ℕ → List Stmt → Option Broken
first_broken p number [] = None
first_broken p number (s ∷ ss) = or_later number (broken_rule p s) (first_broken p (number + 1) ss)

-- the least rule that the declarations break, if they break one
unfoldable pub declarations_rule : Program → Option Rule
declarations_rule p = or_next (where_not (not (has_twice (declared_names p))) TwiceDeclared) (where_not (is_within p) Limits)

-- what the program is refused for, if it is: statements count from 1 in the order of the text
unfoldable pub refusal : Program → Option Broken
refusal p = or_later 0 (declarations_rule p) (first_broken p 1 (every p.body))

-- what is known of each program that some text spells: at most 10,000 statements, and its declarations name names
pub record IsWhole (p : Program) : Type 0 where
  pub statements : statements_in p.body ≤ 10000
  pub vars : All (λ v. v.name.0 < length p.names) p.vars
  pub entries : All (λ e. e.name.0 < length p.names) p.entries

abbrev pub IsRefused : Program → CheckFault → Type 0
IsRefused p (Refused stmt rule) = refusal p ≡ Some (record { stmt = stmt; rule = rule })
IsRefused p Memory = ⊥
