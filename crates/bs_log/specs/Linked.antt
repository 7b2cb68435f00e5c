-- That the blocks which histories name as causes are there, so that their rows have numbers (docs/model.md).
use Rattle.std.specs.Prelude.{◌≡◌, ◌≤◌, ℕ, zero, suc, ◌+◌, true, List, [], ◌∷◌, length}
use Rattle.bs_tree.specs.declared.tree.Path.{Path}
use Rattle.bs_log.specs.declared.history.Origin.{Origin}
use Rattle.bs_log.specs.declared.history.Block.{Block}
use Rattle.bs_log.specs.declared.history.History.{History}
use Rattle.bs_log.specs.Checks.{rise, has_path}
use Rattle.bs_log.specs.Collected.{blocks_in}

-- the history at a place
abbrev pub IsAt : List History → ℕ → History → Type 0
IsAt [] c h = ⊥
IsAt (x ∷ xs) zero h = x ≡ h
IsAt (x ∷ xs) (suc c) h = IsAt xs c h

-- the chare has a block of this path, and its blocks rise
pub record HasBlock (all : List History) (c : ℕ) (p : Path) : Type 0 where
  pub history : History
  pub is_at : IsAt all c history
  pub rises : rise history.blocks ≡ true
  pub has : has_path history.blocks p ≡ true

abbrev pub AllHave : List History → ℕ → List Path → Type 0
AllHave all c [] = Unit {0}
AllHave all c (q ∷ qs) = HasBlock all c q × AllHave all c qs

abbrev pub AllCame : List History → List Origin → Type 0
AllCame all [] = Unit {0}
AllCame all (o ∷ os) = HasBlock all o.chare o.path × AllCame all os

-- each cause of a block of the chare is there
pub record IsLinked (all : List History) (c : ℕ) (x : Block) : Type 0 where
  pub after : AllHave all c x.after
  pub mail : AllCame all x.mail

abbrev pub AreLinked : List History → ℕ → List Block → Type 0
AreLinked all c [] = Unit {0}
AreLinked all c (x ∷ xs) = IsLinked all c x × AreLinked all c xs

abbrev pub AllLinked : List History → ℕ → List History → Type 0
AllLinked all c [] = Unit {0}
AllLinked all c (h ∷ hs) = AreLinked all c h.blocks × AllLinked all (c + 1) hs

-- how many blocks the chares before each one have, and n more
abbrev pub firsts_from : ℕ → List History → List ℕ
firsts_from n [] = []
firsts_from n (h ∷ hs) = n ∷ firsts_from (n + length h.blocks) hs

-- the numbers fit
pub record IsNumbering (all : List History) (firsts : List ℕ) : Type 0 where
  pub is : firsts ≡ firsts_from 0 all
  pub few : blocks_in all ≤ 262144
