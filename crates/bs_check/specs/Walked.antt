-- What is found among statements, the first of which has this number.
use Rattle.std.specs.Prelude.{◌≡◌, ℕ, ◌+◌, List, length, Some, None, Result, Ok, Err}
use Rattle.bs_tree.specs.declared.tree.Stmt.{Stmt}
use Rattle.bs_tree.specs.declared.tree.Program.{Program}
use Rattle.bs_check.specs.declared.fault.CheckFault.{CheckFault}
use Rattle.bs_check.specs.declared.fault.CheckFault.TheVariants.{Refused, Memory}
use Rattle.bs_check.specs.Refusal.{first_broken}

-- none breaks a rule, and this number comes next
pub record Kept (p : Program) (number : ℕ) (stmts : List Stmt) (after : ℕ) : Type 0 where
  pub none : first_broken p number stmts ≡ None
  pub next : after ≡ number + length stmts

-- none breaks a rule, or the first that does is told with its least rule
abbrev pub Walked : Program → ℕ → List Stmt → Result ℕ CheckFault → Type 0
Walked p number stmts (Ok next) = Kept p number stmts next
Walked p number stmts (Err (Refused stmt rule)) = first_broken p number stmts ≡ Some (record { stmt = stmt; rule = rule })
Walked p number stmts (Err Memory) = ⊥
