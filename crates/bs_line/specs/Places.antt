-- Places in lists of rows and of messages, and how many places of two lists differ.
use Rattle.std.specs.Prelude.{◌<◌, ◌+◌, ◌==◌, ℕ, suc, Bool, if◌then◌else◌, List, [], ◌∷◌, ◌↔◌}
use Rattle.bs_log.specs.declared.log.MailRef.{MailRef}
use Rattle.bs_log.specs.Rising.{IsLower}
use Rattle.bs_log.specs.Lists.{Mem, InOrder}
use Rattle.bs_times.specs.Racing.{same_mail}

-- the first place of an item, or how many items there are where it isn't among them
abbrev pub place_in : {A : Type 0} → (A → A → Bool) → List A → A → ℕ
place_in same [] x = 0
place_in same (y ∷ ys) x = if same y x then 0 else suc (place_in same ys x)

abbrev pub mail_place : List MailRef → MailRef → ℕ
mail_place ms m = place_in same_mail ms m

abbrev pub row_place : List ℕ → ℕ → ℕ
row_place rows i = place_in ◌==◌ rows i

-- exactly the messages of which P holds, in the order of (row, place of the send)
pub record AreMails (P : MailRef → Type 0) (ms : List MailRef) : Type 0 where
  pub rises : InOrder IsLower ms
  pub all : (m : MailRef) → P m ↔ Mem m ms

-- exactly the rows of which P holds, in their order
pub record AreThose (P : ℕ → Type 0) (rows : List ℕ) : Type 0 where
  pub rises : InOrder (λ i j. i < j) rows
  pub all : (i : ℕ) → P i ↔ Mem i rows

-- 1 for two numbers that differ
abbrev pub differ : ℕ → ℕ → ℕ
differ a b = if a == b then 0 else 1

-- at how many places two lists differ
abbrev pub differing : List ℕ → List ℕ → ℕ
differing [] ys = 0
differing (a ∷ xs) [] = 0
differing (a ∷ xs) (b ∷ ys) = differ a b + differing xs ys
