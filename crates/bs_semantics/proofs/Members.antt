-- Members of lists that are joined or mapped, and lists in order.
use Rattle.std.proofs.Common.{◌≡◌, ◌⊎◌, inl, inr, List, [], ◌∷◌, ◌++◌, refl, sym, ap, subst, map}
use Rattle.bs_log.specs.Lists.{Mem, InOrder}

pub mem_left : {A : Type 0} (x : A) (xs ys : List A) → Mem x xs → Mem x (xs ++ ys)
mem_left x [] ys m = absurd m
mem_left x (y ∷ xs) ys (inl e) = inl e
mem_left x (y ∷ xs) ys (inr m) = inr (mem_left x xs ys m)

pub mem_right : {A : Type 0} (x : A) (xs ys : List A) → Mem x ys → Mem x (xs ++ ys)
mem_right x [] ys m = m
mem_right x (y ∷ xs) ys m = inr (mem_right x xs ys m)

pub mem_cases : {A : Type 0} (x : A) (xs ys : List A) → Mem x (xs ++ ys) → Mem x xs ⊎ Mem x ys
mem_cases x [] ys m = inr m
mem_cases x (y ∷ xs) ys (inl e) = inl (inl e)
mem_cases x (y ∷ xs) ys (inr m) = left (mem_cases x xs ys m)
  where
    left : Mem x xs ⊎ Mem x ys → Mem x (y ∷ xs) ⊎ Mem x ys
    left (inl h) = inl (inr h)
    left (inr h) = inr h

pub mem_map : {A B : Type 0} (f : A → B) (x : A) (xs : List A) → Mem x xs → Mem (f x) (map f xs)
mem_map f x [] m = absurd m
mem_map f x (y ∷ xs) (inl e) = inl (ap f e)
mem_map f x (y ∷ xs) (inr m) = inr (mem_map f x xs m)

pub record MapOf {A B : Type 0} (f : A → B) (xs : List A) (y : B) : Type 0 where
  pub from : A
  pub is_in : Mem from xs
  pub is : y ≡ f from

map_more : {A B : Type 0} (f : A → B) (x : A) (xs : List A) (y : B) → MapOf f xs y → MapOf f (x ∷ xs) y
map_more f x xs y m = record { from = m.from; is_in = inr m.is_in; is = m.is }

pub map_of : {A B : Type 0} (f : A → B) (xs : List A) (y : B) → Mem y (map f xs) → MapOf f xs y
map_of f [] y m = absurd m
map_of f (x ∷ xs) y (inl e) = record { from = x; is_in = inl refl; is = e }
map_of f (x ∷ xs) y (inr m) = map_more f x xs y (map_of f xs y m)

-- two lists in order, the one before the other.
pub in_order_both : {A : Type 0} (R : A → A → Type 0) (xs ys : List A) → InOrder R xs → InOrder R ys → ((x y : A) → Mem x xs → Mem y ys → R x y) → InOrder R (xs ++ ys)
in_order_both {A} R [] ys h k f = k
in_order_both {A} R (x ∷ xs) ys h k f = ((λ y m. by_side y (mem_cases y xs ys m)), in_order_both R xs ys h.1 k (λ a b m n. f a b (inr m) n))
  where
    by_side : (y : A) → Mem y xs ⊎ Mem y ys → R x y
    by_side y (inl m) = h.0 y m
    by_side y (inr m) = f x y (inl refl) m

-- a mapped list is in order where the list is.
pub in_order_map : {A B : Type 0} (f : A → B) (R : A → A → Type 0) (S : B → B → Type 0) → ((x y : A) → R x y → S (f x) (f y)) → (xs : List A) → InOrder R xs → InOrder S (map f xs)
in_order_map {A} {B} f R S h [] k = tt
in_order_map {A} {B} f R S h (x ∷ xs) k = ((λ y m. one y (map_of f xs y m)), in_order_map f R S h xs k.1)
  where
    one : (y : B) → MapOf f xs y → S (f x) y
    one y m = subst (S (f x)) (sym m.is) (h x m.from (k.0 m.from m.is_in))
