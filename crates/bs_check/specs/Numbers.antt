-- The numbers of statements: they count from 1 in the order of the text, each statement before those inside it.
use Rattle.std.specs.Prelude.{◌≡◌, ◌≤◌, ℕ, ◌+◌, ◌-◌, List, [], ◌∷◌, length, take, drop}
use Rattle.bs_tree.specs.Count.{statements_of, statements_in}
use Rattle.bs_tree.specs.declared.tree.Stmt.{Stmt}
use Rattle.bs_tree.specs.declared.tree.Program.{Program}
use Rattle.bs_check.specs.Every.{every}

-- for statements as they follow one another in the text, the first of which has this number: the number that comes behind each and those inside it
abbrev pub ends_from : ℕ → List Stmt → List ℕ
ends_from n [] = []
ends_from n (s ∷ ss) = (n + statements_of s) ∷ ends_from (n + 1) ss

-- for each statement of the program, the number that comes behind it and those inside it
unfoldable pub ends_of : Program → List ℕ
ends_of p = ends_from 1 (every p.body)

-- this list stands in the text of the program: its first statement has this number, and the others and those inside them follow
pub record StandsAt (p : Program) (n : ℕ) (body : List Stmt) : Type 0 where
  pub first : 1 ≤ n
  pub last : n + statements_in body ≤ statements_in p.body + 1
  pub here : take (length (every body)) (drop (n - 1) (every p.body)) ≡ every body
