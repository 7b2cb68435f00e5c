-- What holds of each line of a list, and what it says of the list that the lines are of.
use Rattle.std.proofs.Common.{◌≡◌, ◌⊎◌, inl, inr, ℕ, zero, suc, ◌+◌, Bool, false, List, [], ◌∷◌, ◌++◌, Option, Some, None, refl, sym, ap, subst, ◌∙◌}
use Rattle.bs_log.specs.Valid.{EachFrom}
use Rattle.bs_log.specs.Lists.{Mem, Apart, Each, InOrder}
use Rattle.bs_log.proofs.ClosedTests.{in_front, behind, either}
use Rattle.bs_logcheck.specs.Lines.{Line, each_line, lines_with, IsAt}
use Rattle.bs_logcheck.specs.Rules.{Follows}

pub each_join : {A : Type 0} (P : A → Type 0) (xs ys : List A) → Each P xs → Each P ys → Each P (xs ++ ys)
each_join P [] ys h k = k
each_join P (x ∷ xs) ys h k = (h.0, each_join P xs ys h.1 k)

pub each_split : {A : Type 0} (P : A → Type 0) (xs ys : List A) → Each P (xs ++ ys) → Each P xs × Each P ys
each_split P [] ys h = (tt, h)
each_split P (x ∷ xs) ys h = let k = each_split P xs ys h.1 in ((h.0, k.0), k.1)

pub each_at : (P : Line → Type 0) (xs : List Line) → ((p : ℕ) (x : Line) → IsAt xs p x → P x) → Each P xs
each_at P [] h = tt
each_at P (x ∷ xs) h = (h 0 x refl, each_at P xs (λ p y i. h (suc p) y i))

pub at_each : (P : Line → Type 0) (xs : List Line) → Each P xs → (p : ℕ) (x : Line) → IsAt xs p x → P x
at_each P [] e p x i = absurd i
at_each P (y ∷ ys) e zero x i = subst P i e.0
at_each P (y ∷ ys) e (suc p) x i = at_each P ys e.1 p x i

pub from_each : {A : Type 0} (P : ℕ → A → Type 0) (Q : A → Type 0) → ((k : ℕ) (x : A) → P k x → Q x) → (k : ℕ) (xs : List A) → EachFrom P k xs → (x : A) → Mem x xs → Q x
from_each P Q f k [] e x m = absurd m
from_each P Q f k (y ∷ ys) e x (inl i) = subst Q (sym i) (f k y e.0)
from_each P Q f k (y ∷ ys) e x (inr m) = from_each P Q f (k + 1) ys e.1 x m

-- lists of which no two are alike
pub apart_join : {A : Type 0} (same : A → A → Bool) (xs ys : List A) → Apart same xs → Apart same ys → ((x : A) → Mem x xs → (y : A) → Mem y ys → same x y ≡ false) → Apart same (xs ++ ys)
apart_join same [] ys h k c = k
apart_join {A} same (x ∷ xs) ys h k c = (λ y m. by y (either y xs ys m), apart_join same xs ys h.1 k (λ z i. c z (inr i)))
  where
    by : (y : A) → Mem y xs ⊎ Mem y ys → same x y ≡ false
    by y (inl i) = h.0 y i
    by y (inr i) = c x (inl refl) y i

pub apart_front : {A : Type 0} (same : A → A → Bool) (xs ys : List A) → Apart same (xs ++ ys) → Apart same xs
apart_front same [] ys h = tt
apart_front same (x ∷ xs) ys h = (λ y m. h.0 y (in_front y xs ys m), apart_front same xs ys h.1)

pub apart_behind : {A : Type 0} (same : A → A → Bool) (xs ys : List A) → Apart same (xs ++ ys) → Apart same ys
apart_behind same [] ys h = h
apart_behind same (x ∷ xs) ys h = apart_behind same xs ys h.1

pub apart_across : {A : Type 0} (same : A → A → Bool) (xs ys : List A) → Apart same (xs ++ ys) → (x : A) → Mem x xs → (y : A) → Mem y ys → same x y ≡ false
apart_across same [] ys h x m y i = absurd m
apart_across same (z ∷ zs) ys h x (inl e) y i = ap (λ w. same w y) e ∙ h.0 y (behind y zs ys i)
apart_across same (z ∷ zs) ys h x (inr m) y i = apart_across same zs ys h.1 x m y i

-- one before all of these, if there is one, stands so to each of them
abbrev pub FollowAll : {A : Type 0} → (A → A → Type 0) → Option A → List A → Type 0
FollowAll R None xs = Unit {0}
FollowAll R (Some y) xs = (x : _) → Mem x xs → R y x

-- each of a list is fit, they stand in order and apart, and so to those of earlier lines
pub record AllFit {A : Type 0} (Q : A → Type 0) (R : A → A → Type 0) (same : A → A → Bool) (es : List A) (o : Option A) (xs : List A) : Type 0 where
  pub fit : (x : A) → Mem x xs → Q x
  pub order : InOrder R xs
  pub follow : FollowAll R o xs
  pub apart : Apart same xs
  pub new : (e : A) → Mem e es → (x : A) → Mem x xs → same e x ≡ false

-- one is fit, and stands so to the one before it and to those of earlier lines
pub record OneFits {A : Type 0} (Q : A → Type 0) (R : A → A → Type 0) (same : A → A → Bool) (es : List A) (o : Option A) (x : A) : Type 0 where
  pub fit : Q x
  pub follow : Follows R o x
  pub new : (e : A) → Mem e es → same e x ≡ false

module _ {A : Type 0} (f : List A → Option A → A → Line) (P : Line → Type 0) (Q : A → Type 0) (R : A → A → Type 0) (same : A → A → Bool) where
  pub lines_fit : ((x y z : A) → R x y → R y z → R x z) → ((es : List A) (o : Option A) (x : A) → P (f es o x) → OneFits Q R same es o x) → (es : List A) (o : Option A) (xs : List A) → Each P (lines_with f es o xs) → AllFit Q R same es o xs
  lines_fit trans one es o [] h = record {
    fit = λ x m. absurd m;
    order = tt;
    follow = nothing o;
    apart = tt;
    new = λ e i x m. absurd m;
  }
    where
      nothing : (o : Option A) → FollowAll R o []
      nothing None = tt
      nothing (Some y) = λ x m. absurd m
  lines_fit trans one es o (x ∷ xs) h = by (one es o x h.0) (lines_fit trans one (x ∷ es) (Some x) xs h.1)
    where
      all_fit : Q x → ((y : A) → Mem y xs → Q y) → (y : A) → Mem y (x ∷ xs) → Q y
      all_fit q k y (inl e) = subst Q (sym e) q
      all_fit q k y (inr m) = k y m

      all_follow : (o : Option A) → Follows R o x → ((y : A) → Mem y xs → R x y) → FollowAll R o (x ∷ xs)
      all_follow None r k = tt
      all_follow (Some z) r k = below
        where
          below : (y : A) → Mem y (x ∷ xs) → R z y
          below y (inl e) = subst (R z) (sym e) r
          below y (inr m) = trans z x y r (k y m)

      all_new : ((e : A) → Mem e es → same e x ≡ false) → ((e : A) → Mem e (x ∷ es) → (y : A) → Mem y xs → same e y ≡ false) → (e : A) → Mem e es → (y : A) → Mem y (x ∷ xs) → same e y ≡ false
      all_new n k e i y (inl q) = ap (same e) q ∙ n e i
      all_new n k e i y (inr m) = k e (inr i) y m

      by : OneFits Q R same es o x → AllFit Q R same (x ∷ es) (Some x) xs → AllFit Q R same es o (x ∷ xs)
      by a k = record {
        fit = all_fit a.fit k.fit;
        order = (k.follow, k.order);
        follow = all_follow o a.follow k.follow;
        apart = (λ y m. k.new x (inl refl) y m, k.apart);
        new = all_new a.new k.new;
      }

  pub fit_lines : ((es : List A) (o : Option A) (x : A) → OneFits Q R same es o x → P (f es o x)) → (es : List A) (o : Option A) (xs : List A) → AllFit Q R same es o xs → Each P (lines_with f es o xs)
  fit_lines one es o [] a = tt
  fit_lines one es o (x ∷ xs) a = (one es o x here, fit_lines one (x ∷ es) (Some x) xs rest)
    where
      first : (o : Option A) → FollowAll R o (x ∷ xs) → Follows R o x
      first None k = tt
      first (Some y) k = k x (inl refl)

      here : OneFits Q R same es o x
      here = record { fit = a.fit x (inl refl); follow = first o a.follow; new = λ e i. a.new e i x (inl refl) }

      news : (e : A) → Mem e (x ∷ es) → (y : A) → Mem y xs → same e y ≡ false
      news e (inl q) y m = ap (λ z. same z y) q ∙ a.apart.0 y m
      news e (inr i) y m = a.new e i y (inr m)

      rest : AllFit Q R same (x ∷ es) (Some x) xs
      rest = record { fit = λ y m. a.fit y (inr m); order = a.order.1; follow = a.order.0; apart = a.apart.1; new = news }

-- lines that don't look back to all earlier ones
pub line_each : {A : Type 0} (f : Option A → A → Line) (P : Line → Type 0) (es : List A) (o : Option A) (xs : List A) → Each P (each_line f o xs) → Each P (lines_with (λ es. f) es o xs)
line_each f P es o [] h = tt
line_each f P es o (x ∷ xs) h = (h.0, line_each f P (x ∷ es) (Some x) xs h.1)

pub each_of_line : {A : Type 0} (f : Option A → A → Line) (P : Line → Type 0) (es : List A) (o : Option A) (xs : List A) → Each P (lines_with (λ es. f) es o xs) → Each P (each_line f o xs)
each_of_line f P es o [] h = tt
each_of_line f P es o (x ∷ xs) h = (h.0, each_of_line f P (x ∷ es) (Some x) xs h.1)

pub never_apart : {A : Type 0} (xs : List A) → Apart (λ a b. false) xs
never_apart [] = tt
never_apart (x ∷ xs) = (λ y m. refl, never_apart xs)
