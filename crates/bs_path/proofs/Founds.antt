-- What is found first in a list in order.
use Rattle.std.proofs.Common.{◌≡◌, ◌⊎◌, inl, inr, Bool, true, false, cond, List, [], ◌∷◌, Some, None, sym, ap, subst, ◌∙◌}
use Rattle.std.specs.List.{find}
use Rattle.std.proofs.lemmas.Bool.{cases_Bool, true≢false}
use Rattle.bs_log.specs.Lists.{InOrder, Mem}

some_is : {A : Type 0} (x y : A) → Some x ≡ Some y → x ≡ y
some_is x y e = cc e

none_some : {A : Type 0} (x : A) → None ≡ Some x → ⊥
none_some x e = cc e

module _ {A : Type 0} (p : A → Bool) where
  pub find_none : (xs : List A) → find p xs ≡ None → (x : A) → Mem x xs → p x ≡ true → ⊥
  find_none [] e x m t = m
  find_none (y ∷ ys) e x m t = go (λ q k. find_none ys q x k t) (cases_Bool (p y)) m
    where
      here : p y ≡ true → ⊥
      here q = none_some y (sym e ∙ ap (λ b. cond b (Some y) (find p ys)) q)

      go : (find p ys ≡ None → Mem x ys → ⊥) → (p y ≡ true) ⊎ (p y ≡ false) → (x ≡ y) ⊎ Mem x ys → ⊥
      go ih (inl q) k = here q
      go ih (inr q) (inl k) = here (ap p (sym k) ∙ t)
      go ih (inr q) (inr k) = ih (sym (ap (λ b. cond b (Some y) (find p ys)) q) ∙ e) k

  pub find_some : (xs : List A) (x : A) → find p xs ≡ Some x → Mem x xs × (p x ≡ true)
  find_some [] x e = absurd (none_some x e)
  find_some (y ∷ ys) x e = go (find_some ys x) (cases_Bool (p y))
    where
      go : (find p ys ≡ Some x → Mem x ys × (p x ≡ true)) → (p y ≡ true) ⊎ (p y ≡ false) → Mem x (y ∷ ys) × (p x ≡ true)
      go ih (inl q) =
          let k : y ≡ x = some_is y x (sym (ap (λ b. cond b (Some y) (find p ys)) q) ∙ e) in
          (inl (sym k), ap p (sym k) ∙ q)
      go ih (inr q) =
          let r = ih (sym (ap (λ b. cond b (Some y) (find p ys)) q) ∙ e) in
          (inr r.0, r.1)

  pub find_first : (R : A → A → Type 0) → ((a b : A) → R a b → R b a → ⊥) → (xs : List A) → InOrder R xs → (x : A) → find p xs ≡ Some x → (y : A) → Mem y xs → p y ≡ true → R y x → ⊥
  find_first R asym [] o x e y m t r = m
  find_first R asym (z ∷ zs) o x e y m t r = go (λ q k. find_first R asym zs o.1 x q y k t r) (cases_Bool (p z)) m
    where
      go : (find p zs ≡ Some x → Mem y zs → ⊥) → (p z ≡ true) ⊎ (p z ≡ false) → (y ≡ z) ⊎ Mem y zs → ⊥
      go ih (inl q) (inl k) =
          let h : z ≡ x = some_is z x (sym (ap (λ b. cond b (Some z) (find p zs)) q) ∙ e) in
          let self : R x x = subst (λ a. R a x) (k ∙ h) r in
          asym x x self self
      go ih (inl q) (inr k) =
          let h : z ≡ x = some_is z x (sym (ap (λ b. cond b (Some z) (find p zs)) q) ∙ e) in
          asym y x r (subst (λ a. R a y) h (o.0 y k))
      go ih (inr q) (inl k) = true≢false (sym t ∙ ap p k ∙ q)
      go ih (inr q) (inr k) = ih (sym (ap (λ b. cond b (Some z) (find p zs)) q) ∙ e) k
