-- Lists in which each item stands so to the next one.
use Rattle.std.proofs.Common.{◌≡◌, ◌<◌, inl, inr, ℕ, zero, suc, ◌+◌, Bool, true, false, ◌&&◌, List, [], ◌∷◌, refl, sym, subst, ◌∙◌, length, get_or, arith}
use Rattle.std.specs.Bool.{Decides}
use Rattle.std.specs.List.{IsAllAdjacentAnswer}
use Rattle.std.proofs.lemmas.Bool.Decides.{Decides-and, Decides-like}
use Rattle.bs_log.specs.ValidTest.{chain_after, chain}
use Rattle.bs_log.specs.Lists.{Mem, InOrder}

module _ {X : Type 0} (e : X → X → Bool) where
  abbrev Joined : X → List X → Type 0
  Joined x xs = (k : ℕ) (d : X) → k + 1 < suc (length xs) → true ≡ e (get_or (x ∷ xs) k d) (get_or (x ∷ xs) (k + 1) d)

  all_joined : (x : X) (xs : List X) → Joined x xs → true ≡ chain_after e x xs
  all_joined x [] h = refl
  all_joined x (y ∷ ys) h = λ j. h 0 x (omega arith) j && all_joined y ys rest j
    where
      rest : Joined y ys
      rest k d l = let n : suc k + 1 ≡ suc (k + 1) = omega arith in subst (λ z. true ≡ e (get_or (y ∷ ys) k d) (get_or (x ∷ y ∷ ys) z d)) n (h (suc k) d (omega arith))

  broken : (x : X) (xs : List X) (k : ℕ) → k + 1 < suc (length xs) → ((d : X) → false ≡ e (get_or (x ∷ xs) k d) (get_or (x ∷ xs) (k + 1) d)) → false ≡ chain_after e x xs
  broken x [] k l h = absurd (omega arith)
  broken x (y ∷ ys) zero l h = λ j. h x j && chain_after e y ys
  broken x (y ∷ ys) (suc k) l h = and_false (e x y) ∙ (λ j. e x y && broken y ys k (omega arith) (λ d. let n : suc k + 1 ≡ suc (k + 1) = omega arith in subst (λ z. false ≡ e (get_or (y ∷ ys) k d) (get_or (x ∷ y ∷ ys) z d)) n (h d)) j)
    where
      and_false : (b : Bool) → false ≡ (b && false)
      and_false true = refl
      and_false false = refl

  pub chain_is : (xs : List X) (r : Bool) → IsAllAdjacentAnswer (λ x y b. b ≡ e x y) xs r → r ≡ chain e xs
  chain_is [] true h = refl
  chain_is [] false h = absurd (let l = h.1 in omega (arith, l))
  chain_is (x ∷ xs) true h = all_joined x xs h
  chain_is (x ∷ xs) false h = broken x xs h.0 h.1 h.2

module _ {X : Type 0} (r : X → X → Bool) (R : X → X → Type 0) (d : (x y : X) → Decides (r x y) (R x y)) (trans : (x y z : X) → R x y → R y z → R x z) where
  from_first : (x : X) (xs : List X) → Decides (chain_after r x xs) (((y : X) → Mem y xs → R x y) × InOrder R xs)
  from_first x [] = (λ e. (λ y m. absurd m, tt), λ h. refl)
  from_first x (y ∷ ys) = Decides-like _ more parts (Decides-and (r x y) (chain_after r y ys) (d x y) (from_first y ys))
    where
      below_all : R x y → ((z : X) → Mem z ys → R y z) → (z : X) → Mem z (y ∷ ys) → R x z
      below_all b h z (inl e) = subst (R x) (sym e) b
      below_all b h z (inr m) = trans x y z b (h z m)

      more : R x y × (((z : X) → Mem z ys → R y z) × InOrder R ys) → ((z : X) → Mem z (y ∷ ys) → R x z) × InOrder R (y ∷ ys)
      more h = (below_all h.0 (h.1).0, h.1)

      parts : ((z : X) → Mem z (y ∷ ys) → R x z) × InOrder R (y ∷ ys) → R x y × (((z : X) → Mem z ys → R y z) × InOrder R ys)
      parts k = (k.0 y (inl refl), k.1)

  pub in_order_is : (xs : List X) → Decides (chain r xs) (InOrder R xs)
  in_order_is [] = (λ e. tt, λ h. refl)
  in_order_is (x ∷ xs) = from_first x xs
