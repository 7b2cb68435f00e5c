-- The depth of a set of causes.
use Rattle.std.proofs.Common.{◌≡◌, ℕ, max, List, [], ◌∷◌, refl, sym, ap, map, arith, Ordering, Less, Equal, Greater, nat_cmp}
use Rattle.std.specs.Ordering.{ordering_then}
use Rattle.std.specs.Cmp.Lexicographic.{slice_cmp}
use Rattle.std.proofs.lemmas.Cmp.{ranked}
use Rattle.bs_log.specs.declared.history.Message.{Message}
use Rattle.bs_semantics.specs.Run.{Causes, cause_cmp, origin_cmp, place_by, put, put_all, union, greatest, depth_of, with_mail}

abbrev Agrees : {A : Type 0} → (A → A → Ordering) → (A → ℕ) → Type 0
Agrees cmp f = (x y : _) → cmp x y ≡ Equal → f x ≡ f y

pub put_depth : {A : Type 0} (cmp : A → A → Ordering) (f : A → ℕ) → Agrees cmp f → (x : A) (ys : List A) → greatest f (put cmp x ys) ≡ max (f x) (greatest f ys)
put_depth cmp f h x [] = refl
put_depth cmp f h x (y ∷ ys) = by_order (cmp x y) refl (put_depth cmp f h x ys)
  where
    by_order : (o : Ordering) → cmp x y ≡ o → greatest f (put cmp x ys) ≡ max (f x) (greatest f ys) → greatest f (place_by o x y ys (put cmp x ys)) ≡ max (f x) (max (f y) (greatest f ys))
    by_order Less p is = refl
    by_order Equal p is = let e = h x y p in omega (arith, e)
    by_order Greater p is = omega (arith, is)

pub put_all_depth : {A : Type 0} (cmp : A → A → Ordering) (f : A → ℕ) → Agrees cmp f → (xs ys : List A) → greatest f (put_all cmp xs ys) ≡ max (greatest f xs) (greatest f ys)
put_all_depth cmp f h [] ys = omega arith
put_all_depth cmp f h (x ∷ xs) ys =
    let one = put_depth cmp f h x (put_all cmp xs ys) in
    let more = put_all_depth cmp f h xs ys in
    omega (arith, one, more)

then_equal : (o u : Ordering) → ordering_then o u ≡ Equal → u ≡ Equal
then_equal Less u e = cc
then_equal Equal u e = e
then_equal Greater u e = cc

nat_equal : (x y : ℕ) → nat_cmp x y ≡ Equal → x ≡ y
nat_equal x y e = ranked x y Equal (sym e)

cause_agrees : Agrees cause_cmp (λ c. c.depth)
cause_agrees x y e = nat_equal _ _ (then_equal (slice_cmp nat_cmp x.path y.path) _ e)

origin_agrees : Agrees origin_cmp (λ o. o.depth)
origin_agrees x y e = nat_equal _ _ (then_equal (nat_cmp x.index y.index) _ (then_equal (slice_cmp nat_cmp x.path.0 y.path.0) _ (then_equal (nat_cmp x.chare y.chare) _ e)))

pub union_depth : (a b : Causes) → depth_of (union a b) ≡ max (depth_of a) (depth_of b)
union_depth a b =
    let one = put_all_depth cause_cmp (λ c. c.depth) cause_agrees a.after b.after in
    let two = put_all_depth origin_cmp (λ o. o.depth) origin_agrees a.mail b.mail in
    omega (arith, one, two)

abbrev pub depth_in : List Message → ℕ
depth_in ms = greatest (λ m. m.origin.depth) ms

mapped : (ms : List Message) → greatest (λ o. o.depth) (map (λ m. m.origin) ms) ≡ depth_in ms
mapped [] = refl
mapped (m ∷ ms) = ap (max m.origin.depth) (mapped ms)

pub with_mail_depth : (ms : List Message) (k : Causes) → depth_of (with_mail ms k) ≡ max (depth_in ms) (depth_of k)
with_mail_depth ms k =
    let one = put_all_depth origin_cmp (λ o. o.depth) origin_agrees (map (λ m. m.origin) ms) k.mail in
    let two = mapped ms in
    omega (arith, one, two)
