-- Places in lists that rise.
use Rattle.std.proofs.Common.{◌≡◌, ◌≤◌, ◌<◌, ◌⊎◌, inl, inr, ◌==◌, ℕ, zero, suc, Bool, true, false, if◌then◌else◌, List, [], ◌∷◌, length, get_or, refl, sym, ap, subst, ◌∙◌, arith}
use Rattle.std.proofs.lemmas.Bool.{cases_lt, cases_order, eq-eqb, eqb-true, true≢false, and_from, and_parts}
use Rattle.bs_log.specs.declared.log.MailRef.{MailRef}
use Rattle.bs_log.specs.Rising.{IsLower}
use Rattle.bs_log.specs.Lists.{Mem, InOrder}
use Rattle.bs_schedule.proofs.Places.{place_mem}
use Rattle.bs_times.specs.Racing.{same_mail}
use Rattle.bs_line.specs.Places.{AreMails, place_in}

-- ---- tests of sameness, and orders

pub record Tests {A : Type 0} (same : A → A → Bool) : Type 0 where
  pub itself : (x : A) → same x x ≡ true
  pub only : (x y : A) → same x y ≡ true → x ≡ y

pub row_tests : Tests {A = ℕ} ◌==◌
row_tests = record { itself = λ x. eq-eqb x x refl; only = λ x y e. eqb-true x y e }

pub mail_tests : Tests same_mail
mail_tests = record {
  itself = λ m. and_from (m.row == m.row) (m.index == m.index) (eq-eqb m.row m.row refl) (eq-eqb m.index m.index refl);
  only = λ m k e. let d = and_parts (m.row == k.row) (m.index == k.index) e in λ i. record { row = eqb-true m.row k.row d.0 i; index = eqb-true m.index k.index d.1 i };
}

pub below_back : (i j : ℕ) → i < j → j < i → ⊥
below_back i j h k = omega (arith, h, k)

pub lower_back : (a b : MailRef) → IsLower a b → IsLower b a → ⊥
lower_back a b (inl h) (inl k) = omega (arith, h, k)
lower_back a b (inl h) (inr k) = omega (arith, h, k.0)
lower_back a b (inr h) (inl k) = omega (arith, h.0, k)
lower_back a b (inr h) (inr k) = omega (arith, h.1, k.1)

-- ---- lists in order

pub in_order_at : {A : Type 0} (R : A → A → Type 0) (xs : List A) (i j : ℕ) (d : A) → InOrder R xs → i < j → j < length xs → R (get_or xs i d) (get_or xs j d)
in_order_at R [] i j d o lt le = absurd (omega (arith, le))
in_order_at R (x ∷ xs) zero zero d o lt le = absurd (omega (arith, lt))
in_order_at R (x ∷ xs) zero (suc j) d o lt le = o.0 (get_or xs j d) (place_mem xs j d (omega (arith, le)))
in_order_at R (x ∷ xs) (suc i) zero d o lt le = absurd (omega (arith, lt))
in_order_at R (x ∷ xs) (suc i) (suc j) d o lt le = in_order_at R xs i j d o.1 (omega (arith, lt)) (omega (arith, le))

abbrev pub IsAt : {A : Type 0} → List A → ℕ → A → Type 0
IsAt {A} xs k x = (k < length xs) × ((d : A) → get_or xs k d ≡ x)

-- the place of an item has it.
pub place_found : {A : Type 0} (same : A → A → Bool) (t : Tests same) (xs : List A) (x : A) → Mem x xs → IsAt xs (place_in same xs x) x
place_found same t [] x m = absurd m
place_found {A} same t (y ∷ ys) x m = go (same y x) refl m (place_found same t ys x)
  where
    go : (b : Bool) → same y x ≡ b → Mem x (y ∷ ys) → (Mem x ys → IsAt ys (place_in same ys x) x) → IsAt (y ∷ ys) (if b then 0 else suc (place_in same ys x)) x
    go true e m ih = (omega arith, λ d. t.only y x e)
    go false e (inl q) ih = absurd (true≢false (sym (subst (λ z. same y z ≡ true) (sym q) (t.itself y)) ∙ e))
    go false e (inr n) ih = let h = ih n in (omega (arith, h.0), h.1)

pub place_has : {A : Type 0} (same : A → A → Bool) (t : Tests same) (xs : List A) (x d : A) → place_in same xs x < length xs → get_or xs (place_in same xs x) d ≡ x
place_has same t [] x d lt = absurd (omega (arith, lt))
place_has {A} same t (y ∷ ys) x d lt = go (same y x) refl lt (place_has same t ys x d)
  where
    go : (b : Bool) → same y x ≡ b → (if b then 0 else suc (place_in same ys x)) < suc (length ys) → (place_in same ys x < length ys → get_or ys (place_in same ys x) d ≡ x) → get_or (y ∷ ys) (if b then 0 else suc (place_in same ys x)) d ≡ x
    go true e lt ih = t.only y x e
    go false e lt ih = ih (omega (arith, lt))

-- in a list that rises each item has one place.
pub place_at : {A : Type 0} (same : A → A → Bool) (t : Tests same) (R : A → A → Type 0) (back : (x y : A) → R x y → R y x → ⊥) (xs : List A) (k : ℕ) (d : A) → InOrder R xs → k < length xs → place_in same xs (get_or xs k d) ≡ k
place_at {A} same t R back xs k d o lt = go (cases_order place k)
  where
    x : A
    x = get_or xs k d

    place : ℕ
    place = place_in same xs x

    found : IsAt xs place x
    found = place_found same t xs x (place_mem xs k d lt)

    itself : R x x → ⊥
    itself h = back x x h h

    go : (place ≡ k) ⊎ ((place < k) ⊎ (k < place)) → place ≡ k
    go (inl e) = e
    go (inr (inl h)) = absurd (itself (subst (λ z. R z x) (found.1 d) (in_order_at R xs place k d o h lt)))
    go (inr (inr h)) = absurd (itself (subst (λ z. R x z) (found.1 d) (in_order_at R xs k place d o h found.0)))

-- an item stands before those that are above it.
pub stands_before : {A : Type 0} (same : A → A → Bool) (t : Tests same) (R : A → A → Type 0) (back : (x y : A) → R x y → R y x → ⊥) (xs : List A) (x : A) (k : ℕ) (d : A) → InOrder R xs → Mem x xs → k < length xs → R x (get_or xs k d) → place_in same xs x < k
stands_before {A} same t R back xs x k d o m lt above = go (cases_order (place_in same xs x) k)
  where
    found : IsAt xs (place_in same xs x) x
    found = place_found same t xs x m

    go : (place_in same xs x ≡ k) ⊎ ((place_in same xs x < k) ⊎ (k < place_in same xs x)) → place_in same xs x < k
    go (inl e) =
        let here : get_or xs k d ≡ x = ap (λ j. get_or xs j d) (sym e) ∙ found.1 d in
        let h : R x x = subst (λ z. R x z) here above in
        absurd (back x x h h)
    go (inr (inl h)) = h
    go (inr (inr h)) = absurd (back x (get_or xs k d) above (subst (λ z. R (get_or xs k d) z) (found.1 d) (in_order_at R xs k (place_in same xs x) d o h found.0)))

-- and not before others.
pub stands_from : {A : Type 0} (same : A → A → Bool) (t : Tests same) (R : A → A → Type 0) (xs : List A) (x : A) (k : ℕ) (d : A) → InOrder R xs → Mem x xs → k < length xs → (R x (get_or xs k d) → ⊥) → k ≤ place_in same xs x
stands_from {A} same t R xs x k d o m lt deny = go (cases_lt (place_in same xs x) k)
  where
    found : IsAt xs (place_in same xs x) x
    found = place_found same t xs x m

    go : (place_in same xs x < k) ⊎ (k ≤ place_in same xs x) → k ≤ place_in same xs x
    go (inl h) = absurd (deny (subst (λ z. R z (get_or xs k d)) (found.1 d) (in_order_at R xs (place_in same xs x) k d o h lt)))
    go (inr h) = h

-- two lists that rise are one, if they have the same items.
pub one_list : {A : Type 0} (R : A → A → Type 0) (back : (x y : A) → R x y → R y x → ⊥) (xs ys : List A) → InOrder R xs → InOrder R ys → ((x : A) → Mem x xs → Mem x ys) → ((x : A) → Mem x ys → Mem x xs) → xs ≡ ys
one_list R back [] [] o q f g = refl
one_list R back [] (y ∷ ys) o q f g = absurd (g y (inl refl))
one_list R back (x ∷ xs) [] o q f g = absurd (f x (inl refl))
one_list {A} R back (x ∷ xs) (y ∷ ys) o q f g = rw (first, one_list R back xs ys o.1 q.1 there before) refl
  where
    heads : (x ≡ y) ⊎ Mem x ys → (y ≡ x) ⊎ Mem y xs → x ≡ y
    heads (inl e) h = e
    heads (inr k) (inl e) = sym e
    heads (inr k) (inr h) = absurd (back y x (q.0 x k) (o.0 y h))

    first : x ≡ y
    first = heads (f x (inl refl)) (g y (inl refl))

    behind_y : (z : A) → R x z → (z ≡ y) ⊎ Mem z ys → Mem z ys
    behind_y z h (inl e) = absurd (let l : R x x = subst (λ w. R x w) (e ∙ sym first) h in back x x l l)
    behind_y z h (inr k) = k

    behind_x : (z : A) → R y z → (z ≡ x) ⊎ Mem z xs → Mem z xs
    behind_x z h (inl e) = absurd (let l : R y y = subst (λ w. R y w) (e ∙ first) h in back y y l l)
    behind_x z h (inr k) = k

    there : (z : A) → Mem z xs → Mem z ys
    there z k = behind_y z (o.0 z k) (f z (inr k))

    before : (z : A) → Mem z ys → Mem z xs
    before z k = behind_x z (q.0 z k) (g z (inr k))

pub one_mails : (P : MailRef → Type 0) (ms ns : List MailRef) → AreMails P ms → AreMails P ns → ms ≡ ns
one_mails P ms ns h k = one_list IsLower lower_back ms ns h.rises k.rises (λ m i. (k.all m).0 ((h.all m).1 i)) (λ m i. (h.all m).0 ((k.all m).1 i))
