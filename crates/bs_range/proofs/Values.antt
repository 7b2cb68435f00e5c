-- What an expression is worth has 64 bits, where the numbers in it and the cells have.
use Rattle.std.proofs.Common.{◌≡◌, ◌<◌, ◌≤◌, ◌⊎◌, inl, inr, ℕ, zero, suc, ◌+◌, ◌-◌, ◌^◌, ◌/◌, ◌%◌, ℤ, pos, negsuc, ◌-ℤ◌, ◌+ℤ◌, ◌*ℤ◌, Bool, true, false, not, ◌&&◌, if◌then◌else◌, List, [], ◌∷◌, Some, None, Result, Ok, Err, refl, sym, ap, subst, subst₂, arith, nat_lt, get_or, slice_set, replicate, int_div, int_rem, int_lt, int_le, neg_ℤ}
use Rattle.std.specs.Ordering.{int_eq}
use Rattle.std.proofs.lemmas.Bool.{and_parts, cases_lt}
use Rattle.std.proofs.lemmas.Bool.Decides.{Decides-int_eq}
use Rattle.std.proofs.Math.Nat.{div-le_self, div-le_of_le-mul, mod-le}
use Rattle.bs_tree.specs.declared.tree.Program.{Program}
use Rattle.bs_tree.specs.declared.tree.Expr.{Expr}
use Rattle.bs_tree.specs.declared.tree.Expr.TheOpen.{Expr-F}
use Rattle.bs_tree.specs.declared.tree.Expr.TheFolds.{fold-roll-Expr, ind-Expr, map-Expr}
use Rattle.bs_tree.specs.declared.tree.Op2.{Op2}
use Rattle.bs_tree.specs.declared.tree.Op2.TheVariants.{Or, And, Eq, Ne, Lt, Le, Gt, Ge, Add, Sub, Mul, Div, Rem}
use Rattle.bs_log.specs.declared.history.TrapKind.{TrapKind}
use Rattle.bs_log.specs.declared.history.TrapKind.TheVariants.{Overflow, ZeroDivisor}
use Rattle.bs_log.specs.Valid.{IsWord}
use Rattle.bs_log.specs.ValidTest.{is_word}
use Rattle.bs_log.proofs.ValidTests.{lt_decides}
use Rattle.bs_semantics.specs.Layout.{place_of}
use Rattle.bs_semantics.specs.Value.{Cells, Value, Meaning, in_range, then_value, bit, is_zero, divided, apply, decided, or_right, indexed, at_index, value_step, value_of}
use Rattle.bs_range.specs.Numbers.{expression_step, small_in_expression}
use Rattle.bs_range.specs.Words.{AreWords}

-- ---- numbers of 64 bits

pub word_of : (z : ℤ) → is_word z ≡ true → IsWord z
word_of (pos n) h = (lt_decides n (2 ^ 63)).0 h
word_of (negsuc n) h = (lt_decides n (2 ^ 63)).0 h

pub zero_word : IsWord (pos 0)
zero_word = omega arith

bit_word : (b : Bool) → IsWord (bit b)
bit_word true = omega arith
bit_word false = omega arith

-- what is given is a word
abbrev pub GivesWord : Value → Type 0
GivesWord r = (v : ℤ) → r ≡ Ok v → IsWord v

pub given : (z : ℤ) → IsWord z → GivesWord (Ok z)
given z w v e = let same : z ≡ v = cc in subst IsWord same w

ranged : (z : ℤ) → GivesWord (in_range z)
ranged (pos n) v e = by (nat_lt n (2 ^ 63)) refl e
  where
    by : (b : Bool) → nat_lt n (2 ^ 63) ≡ b → (if b then Ok (pos n) else Err Overflow) ≡ Ok v → IsWord v
    by true l e = given (pos n) ((lt_decides n (2 ^ 63)).0 l) v e
    by false l e = absurd (cc)
ranged (negsuc n) v e = by (nat_lt n (2 ^ 63)) refl e
  where
    by : (b : Bool) → nat_lt n (2 ^ 63) ≡ b → (if b then Ok (negsuc n) else Err Overflow) ≡ Ok v → IsWord v
    by true l e = given (negsuc n) ((lt_decides n (2 ^ 63)).0 l) v e
    by false l e = absurd (cc)

-- ---- quotients and remainders

minus_word : (n : ℕ) → n ≤ 2 ^ 63 → IsWord (neg_ℤ (pos n))
minus_word zero l = omega arith
minus_word (suc n) l = omega arith

quotient_word : (a b : ℤ) → IsWord a → IsWord b → (int_eq b (negsuc 0) && int_eq a (negsuc (2 ^ 63 - 1))) ≡ false → IsWord (int_div a b)
quotient_word (pos a) (pos b) v w h = let l = div-le_self a b in omega (arith, l, v)
quotient_word (pos a) (negsuc b) v w h = minus_word (a / suc b) (let l = div-le_self a (suc b) in omega (arith, l, v))
quotient_word (negsuc a) (pos b) v w h = minus_word (suc a / b) (let l = div-le_self (suc a) b in omega (arith, l, v))
quotient_word (negsuc a) (negsuc zero) v w h = by_size (cases_lt (suc a) (2 ^ 63))
  where
    by_size : (suc a < 2 ^ 63) ⊎ (2 ^ 63 ≤ suc a) → suc a / 1 < 2 ^ 63
    by_size (inl l) = let m = div-le_self (suc a) 1 in omega (arith, l, m)
    by_size (inr l) =
        let least : a ≡ 2 ^ 63 - 1 = omega (arith, l, v) in
        let is = (Decides-int_eq (negsuc a) (negsuc (2 ^ 63 - 1))).1 (ap negsuc least) in
        absurd (cc)
quotient_word (negsuc a) (negsuc (suc b)) v w h = let l = div-le_of_le-mul (suc (suc b)) {m = suc a} {n = 2 ^ 62} (omega (arith, v)) in omega (arith, l)

remainder_word : (a b : ℤ) → IsWord a → IsWord (int_rem a b)
remainder_word (pos a) (pos b) v = let l = mod-le a b in omega (arith, l, v)
remainder_word (pos a) (negsuc b) v = let l = mod-le a (suc b) in omega (arith, l, v)
remainder_word (negsuc a) (pos b) v = minus_word (suc a % b) (let l = mod-le (suc a) b in omega (arith, l, v))
remainder_word (negsuc a) (negsuc b) v = minus_word (suc a % suc b) (let l = mod-le (suc a) (suc b) in omega (arith, l, v))

divided_word : (f : ℤ → ℤ → ℤ) (a b : ℤ) → ((int_eq b (negsuc 0) && int_eq a (negsuc (2 ^ 63 - 1))) ≡ false → IsWord (f a b)) → GivesWord (divided f a b)
divided_word f a b h v e = by (is_zero b) (int_eq b (negsuc 0) && int_eq a (negsuc (2 ^ 63 - 1))) refl e
  where
    by : (s t : Bool) → (int_eq b (negsuc 0) && int_eq a (negsuc (2 ^ 63 - 1))) ≡ t → (if s then Err ZeroDivisor else if t then Err Overflow else Ok (f a b)) ≡ Ok v → IsWord v
    by true t q e = absurd (cc)
    by false true q e = absurd (cc)
    by false false q e = given (f a b) (h q) v e

-- ---- operators

apply_word : (op : Op2) (a b : ℤ) → IsWord a → IsWord b → GivesWord (apply op a b)
apply_word Or a b h k = given _ (bit_word (not (is_zero b)))
apply_word And a b h k = given _ (bit_word (not (is_zero b)))
apply_word Eq a b h k = given _ (bit_word (int_eq a b))
apply_word Ne a b h k = given _ (bit_word (not (int_eq a b)))
apply_word Lt a b h k = given _ (bit_word (int_lt a b))
apply_word Le a b h k = given _ (bit_word (int_le a b))
apply_word Gt a b h k = given _ (bit_word (int_lt b a))
apply_word Ge a b h k = given _ (bit_word (int_le b a))
apply_word Add a b h k = ranged (a +ℤ b)
apply_word Sub a b h k = ranged (a -ℤ b)
apply_word Mul a b h k = ranged (a *ℤ b)
apply_word Div a b h k = divided_word int_div a b (quotient_word a b h k)
apply_word Rem a b h k = divided_word int_rem a b (λ q. remainder_word a b h)

then_word : (r : Value) (f : ℤ → Value) → ((x : ℤ) → r ≡ Ok x → GivesWord (f x)) → GivesWord (then_value r f)
then_word (Err k) f h v e = absurd (cc)
then_word (Ok x) f h v e = h x refl v e

decided_word : (op : Op2) (a : ℤ) (f : ℤ → Value) (r : Value) → GivesWord (then_value r f) → GivesWord (or_right (decided op a) f r)
decided_word Or a f r h = by (is_zero a)
  where
    by : (b : Bool) → GivesWord (or_right (if b then None else Some (pos 1)) f r)
    by true = h
    by false = given (pos 1) (omega arith)
decided_word And a f r h = by (is_zero a)
  where
    by : (b : Bool) → GivesWord (or_right (if b then Some (pos 0) else None) f r)
    by true = given (pos 0) zero_word
    by false = h
decided_word Eq a f r h = h
decided_word Ne a f r h = h
decided_word Lt a f r h = h
decided_word Le a f r h = h
decided_word Gt a f r h = h
decided_word Ge a f r h = h
decided_word Add a f r h = h
decided_word Sub a f r h = h
decided_word Mul a f r h = h
decided_word Div a f r h = h
decided_word Rem a f r h = h

-- ---- cells

pub cell_word : (cells : Cells) (n : ℕ) → AreWords cells → IsWord (get_or cells n (pos 0))
cell_word [] n h = zero_word
cell_word (x ∷ xs) zero h = h x (inl refl)
cell_word (x ∷ xs) (suc n) h = cell_word xs n (λ v m. h v (inr m))

pub one_word : (x : ℤ) (xs : List ℤ) → IsWord x → AreWords xs → AreWords (x ∷ xs)
one_word x xs w h v (inl e) = subst IsWord (sym e) w
one_word x xs w h v (inr m) = h v m

pub set_words : (cells : Cells) (n : ℕ) (z : ℤ) → AreWords cells → IsWord z → AreWords (slice_set cells n z)
set_words [] n z h w = h
set_words (x ∷ xs) zero z h w = one_word z xs w (λ v m. h v (inr m))
set_words (x ∷ xs) (suc n) z h w = one_word x (slice_set xs n z) (h x (inl refl)) (set_words xs n z (λ v m. h v (inr m)) w)

pub zeros_words : (n : ℕ) → AreWords (replicate n (pos 0))
zeros_words zero v m = absurd m
zeros_words (suc n) v m = one_word (pos 0) (replicate n (pos 0)) zero_word (zeros_words n) v m

index_word : (from : ℕ) (cells : Cells) (r : Result ℕ TrapKind) → AreWords cells → GivesWord (at_index from cells r)
index_word from cells (Err k) h v e = absurd (cc)
index_word from cells (Ok i) h v e = given (get_or cells (from + i) (pos 0)) (cell_word cells (from + i) h) v e

-- ---- expressions

module _ (p : Program) (this : ℕ) (chares : IsWord (pos p.chares)) (own : IsWord (pos this)) where
  abbrev Gives : Meaning → Type 0
  Gives f = (cells : Cells) → AreWords cells → GivesWord (f cells)

  -- the numbers in it are small, and what it is worth
  abbrev GivesSo : Bool → Meaning → Type 0
  GivesSo b f = b ≡ true → Gives f

  abbrev Fine : Expr → Type 0
  Fine e = GivesSo (small_in_expression e) (value_of p this e)

  step_word : (y : Expr-F ((e : Expr) × Fine e)) → expression_step (map-Expr Expr Bool small_in_expression (map-Expr _ Expr (λ e. e.0) y)) ≡ true → Gives (value_step p this (map-Expr Expr Meaning (value_of p this) (map-Expr _ Expr (λ e. e.0) y)))
  step_word (Expr-F.Number z) h cells w = given z (word_of z h)
  step_word (Expr-F.Var x) h cells w = given _ (cell_word cells (place_of p x).from w)
  step_word (Expr-F.At x i) h cells w = then_word (value_of p this i.0 cells) _ (λ v e. index_word (place_of p x).from cells (indexed (place_of p x).cells v) w)
  step_word Expr-F.This h cells w = given (pos this) own
  step_word Expr-F.Chares h cells w = given (pos p.chares) chares
  step_word (Expr-F.Neg a) h cells w = then_word (value_of p this a.0 cells) _ (λ v e. ranged (pos 0 -ℤ v))
  step_word (Expr-F.Not a) h cells w = then_word (value_of p this a.0 cells) _ (λ v e. given _ (bit_word (is_zero v)))
  step_word (Expr-F.Two op a b) h cells w =
      let both = and_parts _ _ h in
      then_word (value_of p this a.0 cells) _ (λ v e. decided_word op v (apply op v) (value_of p this b.0 cells)
      (then_word (value_of p this b.0 cells) (apply op v) (λ u q. apply_word op v u (a.1 both.0 cells w v e) (b.1 both.1 cells w u q))))

  pub value_word : (e : Expr) → small_in_expression e ≡ true → (cells : Cells) → AreWords cells → GivesWord (value_of p this e cells)
  value_word = ind-Expr Fine (λ x y is.
      subst₂ GivesSo (sym (fold-roll-Expr Bool expression_step x)) (sym (fold-roll-Expr Meaning (value_step p this) x))
      (subst (λ z. GivesSo (expression_step (map-Expr Expr Bool small_in_expression z)) (value_step p this (map-Expr Expr Meaning (value_of p this) z))) is (step_word y)))
