-- Which statements make a block whenever they end, and which programs have no idle loop (docs/model.md).
use Rattle.std.specs.Prelude.{◌≡◌, ◌≤◌, ℕ, Bool, true, false, ◌&&◌, ◌||◌, List, [], ◌∷◌, Some, None, map}
use Rattle.bs_tree.specs.declared.tree.Program.{Program}
use Rattle.bs_tree.specs.declared.tree.Stmt.{Stmt}
use Rattle.bs_tree.specs.declared.tree.Stmt.TheOpen.{Stmt-F}
use Rattle.bs_tree.specs.declared.tree.Stmt.TheFolds.{fold-Stmt}
use Rattle.bs_log.specs.Size.{size}
use Rattle.bs_semantics.specs.Run.{Lookup, history}

-- whether a statement spends, and whether each loop in it, itself included, has a body in whose list some statement spends
pub record Spending : Type 0 where
  pub spends : Bool
  pub busy : Bool

abbrev pub any_spends : List Spending → Bool
any_spends [] = false
any_spends (x ∷ xs) = x.spends || any_spends xs

abbrev pub all_busy : List Spending → Bool
all_busy [] = true
all_busy (x ∷ xs) = x.busy && all_busy xs

-- a `serial` spends. A `when`, an `overlap` and a block in braces spend where a statement of their list does, and an `if`
-- where it has an `else` and each of its lists has one that does. A loop may do no turn, so it doesn't spend
abbrev pub spending_step : Stmt-F Spending → Spending
spending_step (Stmt-F.Serial acts) = record { spends = true; busy = true }
spending_step (Stmt-F.When waits body) = record { spends = any_spends body; busy = all_busy body }
spending_step (Stmt-F.Overlap body) = record { spends = any_spends body; busy = all_busy body }
spending_step (Stmt-F.For x first test y step body) = record { spends = false; busy = any_spends body && all_busy body }
spending_step (Stmt-F.While test body) = record { spends = false; busy = any_spends body && all_busy body }
spending_step (Stmt-F.If test body None) = record { spends = false; busy = all_busy body }
spending_step (Stmt-F.If test body (Some other)) = record { spends = any_spends body && any_spends other; busy = all_busy body && all_busy other }
spending_step (Stmt-F.Seq body) = record { spends = any_spends body; busy = all_busy body }

abbrev pub spending : Stmt → Spending
spending = fold-Stmt Spending spending_step

-- no loop of the program is idle
abbrev pub HasNoIdleLoop : Program → Type 0
HasNoIdleLoop p = all_busy (map spending p.body) ≡ true

-- a history within the limit has not met the bound on turns: under each greater bound it is the same
abbrev pub IsUncut : Program → Type 0
IsUncut p = (limit more c : ℕ) (mail : Lookup) → limit ≤ more → size (history p limit c mail) ≤ limit → history p limit c mail ≡ history p more c mail
