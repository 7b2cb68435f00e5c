-- Which lists of terminals spell a program within the limits, and what is the first fault of one that doesn't.
use Rattle.std.specs.Prelude.{◌≡◌, ℕ, length, List, [], ◌∷◌, ◌++◌, Some}
use Rattle.bs_tree.specs.Rule.{Terminal, Role, Item, terminals, Spells}
use Rattle.bs_tree.specs.Grammar.{program, Parts, Inner}
use Rattle.bs_tree.specs.Limits.{Reason, unexpected, most_allowed, none_yet, after_all, refused, Within}

-- the terminals spell this by the grammar, and no token passes a limit
pub record IsProgram (ts : List Terminal) (parts : Parts) : Type 0 where
  pub items : List Item
  pub is : terminals items ≡ ts
  pub depth : ℕ
  pub spells : Spells (Inner depth) program items parts
  pub allows : Within most_allowed none_yet items

-- these items begin a program of the grammar without limits
pub record BeginsProgram (items : List Item) : Type 0 where
  pub more : List Item
  pub depth : ℕ
  pub parts : Parts
  pub spells : Spells (Inner depth) program (items ++ more) parts

-- the same terminal comes next, or in both the end
abbrev pub Same : List Terminal → List Terminal → Type 0
Same [] ys = ys ≡ []
Same (t ∷ xs) ys = (zs : List Terminal) × (ys ≡ t ∷ zs)

-- no program of the grammar without limits goes on from these terminals with what comes next
abbrev pub NoneGoesOn : List Terminal → List Terminal → Type 0
NoneGoesOn before rest =
    (next : List Terminal) → Same rest next → (depth : ℕ) (items : List Item) (parts : Parts) → Spells (Inner depth) program items parts → terminals items ≡ before ++ next → ⊥

-- what is wrong with the token that comes next: it can't go on any program, or it can and passes a limit
pub data Cause (before : List Item) (rest : List Terminal) : Reason → Type 0 where
  stray : BeginsProgram before → NoneGoesOn (terminals before) rest → Cause before rest unexpected
  passes : {reason : Reason} (role : Role) (t : Terminal) (others : List Terminal) → rest ≡ t ∷ others → refused most_allowed (after_all none_yet before) (role, t) ≡ Some reason → BeginsProgram (before ++ (role, t) ∷ []) → Cause before rest reason

-- The token at this place, counted from 0, is the first with a fault: those before it begin a
-- program, and none of them passes a limit. The place of the end is the number of the tokens.
pub record IsFirstFault (ts : List Terminal) (place : ℕ) (reason : Reason) : Type 0 where
  pub before : List Item
  pub rest : List Terminal
  pub is : ts ≡ terminals before ++ rest
  pub at : place ≡ length before
  pub allows : Within most_allowed none_yet before
  pub cause : Cause before rest reason
