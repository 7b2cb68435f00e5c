-- Rows are numbered in the order of (chare, path).
use Rattle.std.proofs.Common.{◌≡◌, ◌≤◌, ◌<◌, ◌⊎◌, inl, inr, ℕ, zero, suc, ◌+◌, Bool, true, false, ◌||◌, if◌then◌else◌, List, [], ◌∷◌, refl, sym, ap, subst, ◌∙◌, length, map, get_or, nat_cmp, arith}
use Rattle.std.specs.Ordering.{ordering_then}
use Rattle.std.specs.Cmp.Lexicographic.{slice_cmp}
use Rattle.std.specs.declared.cmp.Ordering.{Ordering}
use Rattle.std.specs.declared.cmp.Ordering.TheVariants.{Less, Equal, Greater}
use Rattle.std.proofs.lemmas.Bool.{false≢true}
use Rattle.std.proofs.lemmas.Bool.Decides.{nat_tests}
use Rattle.std.proofs.lemmas.Cmp.{nat_list_cmp_total}
use Rattle.std.proofs.lemmas.Map.Lookups.{exact_bytes, exact_unsigned}
use Rattle.bs_tree.specs.declared.tree.Path.{Path}
use Rattle.bs_log.specs.declared.history.Origin.{Origin}
use Rattle.bs_log.specs.declared.history.Block.{Block}
use Rattle.bs_log.specs.declared.history.History.{History}
use Rattle.bs_log.specs.declared.log.Row.{Row}
use Rattle.bs_log.specs.Messages.{same_path}
use Rattle.bs_log.specs.Checks.{has_path}
use Rattle.bs_log.specs.Collected.{place, number_of, mail_ref, row_of, rows_from}
use Rattle.bs_log.specs.Linked.{IsAt, HasBlock, AllHave, AllCame, IsLinked, AreLinked, AllLinked, firsts_from}
use Rattle.bs_log.specs.Rising.{IsBefore, CausesRise, IsLower, RowRises, Rising}
use Rattle.bs_log.specs.Lists.{Mem, InOrder}
use Rattle.bs_log.specs.Paths.{IsBelow}
use Rattle.bs_log.proofs.Decided.{SomeOf, any_some}
use Rattle.bs_log.proofs.ClosedTests.{same_path_is, lt_is, rising_is, either}
use Rattle.bs_log.proofs.Numbers.{at_index, place_below, number_is, not_below_itself}

nothing_below_itself : (p : Path) → IsBelow p.0 p.0 → ⊥
nothing_below_itself p b = not_below_itself p p refl ((lt_is _).1 b)

-- among blocks that rise

below_found : (x : Block) (xs : List Block) (p : Path) → ((y : Block) → Mem y xs → IsBelow x.path.0 y.path.0) → has_path xs p ≡ true → IsBelow x.path.0 p.0
below_found x xs p r f =
    let s = (any_some (λ b. same_path b.path p) (λ b. b.path ≡ p) (λ b. same_path_is b.path p) xs).0 f in
    subst (λ (z : Path). IsBelow x.path.0 z.0) s.holds (r s.one s.is_in)

others : (xs : List Block) (x p : Path) → false ≡ same_path x p → (same_path x p || has_path xs p) ≡ true → has_path xs p ≡ true
others xs x p a e = subst (λ b. (b || has_path xs p) ≡ true) (sym a) e

place_up : (xs : List Block) (p q : Path) → Rising xs → has_path xs p ≡ true → has_path xs q ≡ true → IsBelow p.0 q.0 → place (λ b. same_path b.path p) xs < place (λ b. same_path b.path q) xs
place_up [] p q r e f b = absurd (false≢true e)
place_up (x ∷ xs) p q r e f b = by (same_path x.path p) (same_path x.path q) refl refl (place_up xs p q r.1)
  where
    by : (s t : Bool) → s ≡ same_path x.path p → t ≡ same_path x.path q → (has_path xs p ≡ true → has_path xs q ≡ true → IsBelow p.0 q.0 → place (λ b. same_path b.path p) xs < place (λ b. same_path b.path q) xs) → (if s then 0 else suc (place (λ b. same_path b.path p) xs)) < (if t then 0 else suc (place (λ b. same_path b.path q) xs))
    by true true a c ih =
        let xp = (same_path_is x.path p).0 (sym a) in
        let xq = (same_path_is x.path q).0 (sym c) in
        absurd (nothing_below_itself q (subst (λ (z : Path). IsBelow z.0 q.0) (sym xp ∙ xq) b))
    by true false a c ih = omega arith
    by false true a c ih =
        let xq = (same_path_is x.path q).0 (sym c) in
        let low = below_found x xs p r.0 (others xs x.path p a e) in
        absurd (nothing_below_itself p (nat_list_cmp_total.trans p.0 x.path.0 p.0 (subst (λ (z : Path). IsBelow p.0 z.0) (sym xq) b) low))
    by false false a c ih = let k = ih (others xs x.path p a e) (others xs x.path q c f) b in omega (arith, k)

-- among histories

pub least : (n : ℕ) (hs : List History) (c : ℕ) (h : History) → IsAt hs c h → n ≤ get_or (firsts_from n hs) c 0
least n [] c h i = absurd i
least n (x ∷ xs) zero h i = omega arith
least n (x ∷ xs) (suc c) h i = let r = least (n + length x.blocks) xs c h i in omega (arith, r)

firsts_up : (n : ℕ) (hs : List History) (c d : ℕ) (g h : History) → IsAt hs c g → IsAt hs d h → c < d → get_or (firsts_from n hs) c 0 + length g.blocks ≤ get_or (firsts_from n hs) d 0
firsts_up n [] c d g h i k l = absurd i
firsts_up n (x ∷ xs) c zero g h i k l = absurd (omega arith)
firsts_up n (x ∷ xs) zero (suc d) g h i k l =
    let e = ap (λ (z : History). length z.blocks) i in
    let r = least (n + length x.blocks) xs d h k in
    omega (arith, e, r)
firsts_up n (x ∷ xs) (suc c) (suc d) g h i k l = firsts_up (n + length x.blocks) xs c d g h i k (omega arith)

earlier_chare : (hs : List History) (c d : ℕ) (p q : Path) → HasBlock hs c p → HasBlock hs d q → c < d → number_of hs c p < number_of hs d q
earlier_chare hs c d p q a b l =
    let m = number_is hs c a.history p 0 a.is_at a.has in
    let n = number_is hs d b.history q 0 b.is_at b.has in
    let f = place_below (λ (x : Block). same_path x.path p) (a.history).blocks a.has in
    let u = firsts_up 0 hs c d a.history b.history a.is_at b.is_at l in
    omega (arith, m, n, f, u)

pub earlier_path : (hs : List History) (c : ℕ) (p q : Path) → HasBlock hs c p → HasBlock hs c q → IsBelow p.0 q.0 → number_of hs c p < number_of hs c q
earlier_path hs c p q a b l =
    let e = sym (at_index hs c b.history b.history b.is_at) ∙ at_index hs c a.history b.history a.is_at in
    let has = subst (λ (h : History). has_path h.blocks q ≡ true) e b.has in
    let m = number_is hs c a.history p 0 a.is_at a.has in
    let n = number_is hs c a.history q 0 a.is_at has in
    let u = place_up (a.history).blocks p q ((rising_is (a.history).blocks).0 a.rises) a.has has l in
    omega (arith, m, n, u)

-- the order of messages, by cases

abbrev ByCases : Origin → Origin → Type 0
ByCases a b = ((a.chare < b.chare) ⊎ ((a.chare ≡ b.chare) × IsBelow a.path.0 b.path.0)) ⊎ ((a.chare ≡ b.chare) × ((a.path ≡ b.path) × (a.index < b.index)))

less_is : (a b : ℕ) → nat_cmp a b ≡ Less → a < b
less_is a b e = grind (arith, nat_tests)

by_cases : (a b : Origin) → IsBefore a b → ByCases a b
by_cases a b = by_chare (nat_cmp a.chare b.chare) refl
  where
    by_index : (o : Ordering) → nat_cmp a.index b.index ≡ o → nat_cmp a.chare b.chare ≡ Equal → slice_cmp nat_cmp a.path.0 b.path.0 ≡ Equal → o ≡ Less → ByCases a b
    by_index o e c p q = inr (exact_unsigned _ _ c, ((λ j. record { 0 = exact_bytes a.path.0 b.path.0 p j }), less_is a.index b.index (e ∙ q)))

    by_path : (o : Ordering) → slice_cmp nat_cmp a.path.0 b.path.0 ≡ o → nat_cmp a.chare b.chare ≡ Equal → ordering_then o (nat_cmp a.index b.index) ≡ Less → ByCases a b
    by_path Less e c q = inl (inr (exact_unsigned _ _ c, e))
    by_path Equal e c q = by_index (nat_cmp a.index b.index) refl c e q
    by_path Greater e c q = absurd (cc)

    by_chare : (o : Ordering) → nat_cmp a.chare b.chare ≡ o → ordering_then o (ordering_then (slice_cmp nat_cmp a.path.0 b.path.0) (nat_cmp a.index b.index)) ≡ Less → ByCases a b
    by_chare Less e q = inl (inl (less_is a.chare b.chare e))
    by_chare Equal e q = by_path (slice_cmp nat_cmp a.path.0 b.path.0) refl e q
    by_chare Greater e q = absurd (cc)

earlier_send : (hs : List History) (a b : Origin) → HasBlock hs a.chare a.path → HasBlock hs b.chare b.path → IsBefore a b → IsLower (mail_ref hs a) (mail_ref hs b)
earlier_send hs a b i k h = by (by_cases a b h)
  where
    by : ByCases a b → IsLower (mail_ref hs a) (mail_ref hs b)
    by (inl (inl l)) = inl (earlier_chare hs a.chare b.chare a.path b.path i k l)
    by (inl (inr l)) =
        let there = subst (λ z. HasBlock hs z b.path) (sym l.0) k in
        inl (subst (λ z. number_of hs a.chare a.path < number_of hs z b.path) l.0 (earlier_path hs a.chare a.path b.path i there l.1))
    by (inr l) = inr ((λ j. number_of hs (l.0 j) ((l.1).0 j)), (l.1).1)

-- the causes of a row

pub map_member : {A B : Type 0} (f : A → B) (xs : List A) (y : B) → Mem y (map f xs) → SomeOf (λ x. y ≡ f x) xs
map_member f [] y m = absurd m
map_member f (x ∷ xs) y (inl e) = record { one = x; is_in = inl refl; holds = e }
map_member f (x ∷ xs) y (inr m) = let s = map_member f xs y m in record { one = s.one; is_in = inr s.is_in; holds = s.holds }

pub order_map : {A B : Type 0} (R : A → A → Type 0) (S : B → B → Type 0) (f : A → B) (xs : List A) → ((a b : A) → Mem a xs → Mem b xs → R a b → S (f a) (f b)) → InOrder R xs → InOrder S (map f xs)
order_map R S f [] k h = tt
order_map {A} {B} R S f (x ∷ xs) k h = (first, order_map R S f xs (λ a b i j r. k a b (inr i) (inr j) r) h.1)
  where
    first : (y : B) → Mem y (map f xs) → S (f x) y
    first y m = let s = map_member f xs y m in subst (λ z. S (f x) z) (sym s.holds) (k x s.one (inl refl) (inr s.is_in) (h.0 s.one s.is_in))

one_has : (hs : List History) (c : ℕ) (qs : List Path) → AllHave hs c qs → (q : Path) → Mem q qs → HasBlock hs c q
one_has hs c [] a q m = absurd m
one_has hs c (r ∷ rs) a q (inl e) = subst (λ z. HasBlock hs c z) (sym e) a.0
one_has hs c (r ∷ rs) a q (inr m) = one_has hs c rs a.1 q m

one_came : (hs : List History) (os : List Origin) → AllCame hs os → (o : Origin) → Mem o os → HasBlock hs o.chare o.path
one_came hs [] a o m = absurd m
one_came hs (r ∷ rs) a o (inl e) = subst (λ (z : Origin). HasBlock hs z.chare z.path) (sym e) a.0
one_came hs (r ∷ rs) a o (inr m) = one_came hs rs a.1 o m

one_linked : (hs : List History) (c : ℕ) (xs : List Block) → AreLinked hs c xs → (x : Block) → Mem x xs → IsLinked hs c x
one_linked hs c [] a x m = absurd m
one_linked hs c (y ∷ ys) a x (inl e) = subst (λ z. IsLinked hs c z) (sym e) a.0
one_linked hs c (y ∷ ys) a x (inr m) = one_linked hs c ys a.1 x m

row_rises : (hs : List History) (c : ℕ) (x : Block) → IsLinked hs c x → CausesRise x → RowRises (row_of hs c x)
unfolding row_of
row_rises hs c x l k = record {
  after = order_map (λ q r. IsBelow q.0 r.0) (λ m n. m < n) (number_of hs c) x.after (λ p q i j b. earlier_path hs c p q (one_has hs c x.after l.after p i) (one_has hs c x.after l.after q j) b) k.after;
  mail = order_map IsBefore IsLower (mail_ref hs) x.mail (λ a b i j e. earlier_send hs a b (one_came hs x.mail l.mail a i) (one_came hs x.mail l.mail b j) e) k.mail;
}

pub rows_rise : (all : List History) (c : ℕ) (hs : List History) → AllLinked all c hs → ((h : History) → Mem h hs → (x : Block) → Mem x h.blocks → CausesRise x) → (r : Row) → Mem r (rows_from all c hs) → RowRises r
rows_rise all c [] l k r m = absurd m
rows_rise all c (h ∷ hs) l k r m = by (either r (map (row_of all c) h.blocks) (rows_from all (c + 1) hs) m) (rows_rise all (c + 1) hs l.1 (λ g i. k g (inr i)) r)
  where
    by : Mem r (map (row_of all c) h.blocks) ⊎ Mem r (rows_from all (c + 1) hs) → (Mem r (rows_from all (c + 1) hs) → RowRises r) → RowRises r
    by (inl i) f = let s = map_member (row_of all c) h.blocks r i in subst RowRises (sym s.holds) (row_rises all c s.one (one_linked all c h.blocks l.0 s.one s.is_in) (k h (inl refl) s.one s.is_in))
    by (inr i) f = f i
