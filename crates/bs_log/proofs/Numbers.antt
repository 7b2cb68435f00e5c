-- The place of a block among all blocks, by its place among its chare's.
use Rattle.std.proofs.Common.{◌≡◌, ◌≤◌, ◌<◌, ◌⊎◌, inl, inr, ℕ, zero, suc, ◌+◌, ◌==◌, Bool, true, false, ◌&&◌, ◌||◌, if◌then◌else◌, List, [], ◌∷◌, ◌++◌, refl, sym, ap, subst, ◌∙◌, length, map, get_or, arith}
use Rattle.std.specs.List.{list_any}
use Rattle.std.specs.List.Sorted.{IsPartitionPoint, IsPartitionedBy}
use Rattle.std.specs.Ordering.{is_lt}
use Rattle.std.proofs.lemmas.Bool.{false≢true}
use Rattle.std.proofs.lemmas.Bool.Decides.{nat_tests}
use Rattle.std.proofs.lemmas.Cmp.{nat_list_cmp_total, tied_itself}
use Rattle.std.proofs.lemmas.List.Sums.{sum_by-cons}
use Rattle.bs_tree.specs.declared.tree.Path.{Path}
use Rattle.bs_log.specs.declared.history.Block.{Block}
use Rattle.bs_log.specs.declared.history.History.{History}
use Rattle.bs_log.specs.Messages.{same_path, is_below}
use Rattle.bs_log.specs.Checks.{has_path}
use Rattle.bs_log.specs.Collected.{Site, site, sites_from, is_site, place, number_of, blocks_in}
use Rattle.bs_log.specs.Linked.{IsAt, firsts_from}
use Rattle.bs_log.specs.Lists.{Mem}
use Rattle.bs_log.specs.Paths.{IsBelow}
use Rattle.bs_log.specs.Rising.{Rising}
use Rattle.bs_log.proofs.Decided.{any_some}
use Rattle.bs_log.proofs.ClosedTests.{same_path_is, lt_is}

pub at_index : (hs : List History) (c : ℕ) (h d : History) → IsAt hs c h → get_or hs c d ≡ h
at_index [] c h d i = absurd i
at_index (x ∷ xs) zero h d i = i
at_index (x ∷ xs) (suc c) h d i = at_index xs c h d i

pub at_within : (hs : List History) (c : ℕ) (h : History) → IsAt hs c h → c < length hs
at_within [] c h i = absurd i
at_within (x ∷ xs) zero h i = omega arith
at_within (x ∷ xs) (suc c) h i = let r = at_within xs c h i in omega (arith, r)

pub length_firsts : (n : ℕ) (hs : List History) → length (firsts_from n hs) ≡ length hs
length_firsts n [] = refl
length_firsts n (h ∷ hs) = ap suc (length_firsts (n + length h.blocks) hs)

pub first_at : (n : ℕ) (hs : List History) (c : ℕ) (h : History) (d : ℕ) → IsAt hs c h → get_or (firsts_from n hs) c d + length h.blocks ≤ n + blocks_in hs
first_at n [] c h d i = absurd i
first_at n (x ∷ xs) zero h d i =
    let e = ap (λ (z : History). length z.blocks) i in
    let s = sum_by-cons (λ (z : History). length z.blocks) x xs in
    omega (arith, e, s)
first_at n (x ∷ xs) (suc c) h d i =
    let r = first_at (n + length x.blocks) xs c h d i in
    let s = sum_by-cons (λ (z : History). length z.blocks) x xs in
    omega (arith, r, s)

pub place_below : {X : Type 0} (t : X → Bool) (xs : List X) → list_any t xs ≡ true → place t xs < length xs
place_below t [] e = absurd (false≢true e)
place_below t (x ∷ xs) e = by (t x) e (place_below t xs)
  where
    by : (b : Bool) → (b || list_any t xs) ≡ true → (list_any t xs ≡ true → place t xs < length xs) → (if b then 0 else suc (place t xs)) < suc (length xs)
    by true e f = omega arith
    by false e f = let r = f e in omega (arith, r)

past : (k c : ℕ) (p : Path) → (k == c) ≡ false → (bs : List Block) (rest : List Site) → place (is_site c p) (map (site k) bs ++ rest) ≡ length bs + place (is_site c p) rest
past k c p e [] rest = omega arith
past k c p e (x ∷ xs) rest =
    let one = ap (λ b. if (b && same_path x.path p) then 0 else suc (place (is_site c p) (map (site k) xs ++ rest))) e in
    let more = past k c p e xs rest in
    omega (arith, one, more)

inside : (k c : ℕ) (p : Path) → (k == c) ≡ true → (bs : List Block) (rest : List Site) → has_path bs p ≡ true → place (is_site c p) (map (site k) bs ++ rest) ≡ place (λ b. same_path b.path p) bs
inside k c p e [] rest h = absurd (false≢true h)
inside k c p e (x ∷ xs) rest h =
    ap (λ b. if (b && same_path x.path p) then 0 else suc (place (is_site c p) (map (site k) xs ++ rest))) e ∙ by (same_path x.path p) h (inside k c p e xs rest)
  where
    by : (b : Bool) → (b || has_path xs p) ≡ true → (has_path xs p ≡ true → place (is_site c p) (map (site k) xs ++ rest) ≡ place (λ b. same_path b.path p) xs) → (if b then 0 else suc (place (is_site c p) (map (site k) xs ++ rest))) ≡ (if b then 0 else suc (place (λ b. same_path b.path p) xs))
    by true g f = refl
    by false g f = ap suc (f g)

site_place : (hs : List History) (k j n c : ℕ) (h : History) (p : Path) (d : ℕ) → c ≡ k + j → IsAt hs j h → has_path h.blocks p ≡ true → n + place (is_site c p) (sites_from k hs) ≡ get_or (firsts_from n hs) j d + place (λ b. same_path b.path p) h.blocks
site_place [] k j n c h p d q i e = absurd i
site_place (x ∷ xs) k zero n c h p d q i e =
    let here : (k == c) ≡ true = grind (arith, nat_tests) in
    let has : has_path x.blocks p ≡ true = subst (λ (z : History). has_path z.blocks p ≡ true) (sym i) e in
    ap (λ z. n + z) (inside k c p here x.blocks (sites_from (k + 1) xs) has ∙ ap (λ (z : History). place (λ b. same_path b.path p) z.blocks) i)
site_place (x ∷ xs) k (suc j) n c h p d q i e =
    let other : (k == c) ≡ false = grind (arith, nat_tests) in
    let skip = past k c p other x.blocks (sites_from (k + 1) xs) in
    let rest = site_place xs (k + 1) j (n + length x.blocks) c h p d (omega arith) i e in
    omega (arith, skip, rest)

pub number_is : (hs : List History) (c : ℕ) (h : History) (p : Path) (d : ℕ) → IsAt hs c h → has_path h.blocks p ≡ true → number_of hs c p ≡ get_or (firsts_from 0 hs) c d + place (λ b. same_path b.path p) h.blocks + 1
unfolding number_of
number_is hs c h p d i e = let r = site_place hs 0 c 0 c h p d (omega arith) i e in omega (arith, r)

-- in blocks that rise, the place is the number of those below

pub mem_at : {X : Type 0} (xs : List X) (i : ℕ) (d : X) → i < length xs → Mem (get_or xs i d) xs
mem_at [] i d h = absurd (omega arith)
mem_at (x ∷ xs) zero d h = inl refl
mem_at (x ∷ xs) (suc i) d h = inr (mem_at xs i d (omega arith))

rising_at : (xs : List Block) (i j : ℕ) (d : Block) → Rising xs → i < j → j < length xs → IsBelow (get_or xs i d).path.0 (get_or xs j d).path.0
rising_at [] i j d r a b = absurd (omega arith)
rising_at (x ∷ xs) i zero d r a b = absurd (omega arith)
rising_at (x ∷ xs) zero (suc j) d r a b = r.0 (get_or xs j d) (mem_at xs j d (omega arith))
rising_at (x ∷ xs) (suc i) (suc j) d r a b = rising_at xs i j d r.1 (omega arith) (omega arith)

same_or_below : (i j : ℕ) → i ≤ j → (i ≡ j) ⊎ (i < j)
same_or_below zero zero h = inl refl
same_or_below zero (suc j) h = inr (omega arith)
same_or_below (suc i) zero h = absurd (omega arith)
same_or_below (suc i) (suc j) h = by (same_or_below i j (omega arith))
  where
    by : (i ≡ j) ⊎ (i < j) → (suc i ≡ suc j) ⊎ (suc i < suc j)
    by (inl e) = inl (ap suc e)
    by (inr l) = inr (omega arith)

pub below_first : (p : Path) (xs : List Block) → Rising xs → IsPartitionedBy (λ b. is_below b.path p) xs
below_first p xs r i j d l w e = by (same_or_below i j l)
  where
    by : (i ≡ j) ⊎ (i < j) → is_below (get_or xs i d).path p ≡ true
    by (inl q) = subst (λ k. is_below (get_or xs k d).path p ≡ true) (sym q) e
    by (inr b) = (lt_is _).1 (nat_list_cmp_total.trans (get_or xs i d).path.0 (get_or xs j d).path.0 p.0 (rising_at xs i j d r b w) ((lt_is _).0 e))

pub not_below_itself : (p q : Path) → p ≡ q → is_below p q ≡ true → ⊥
not_below_itself p q e b = false≢true (ap is_lt (sym (tied_itself nat_list_cmp_total q.0)) ∙ subst (λ z. is_below z q ≡ true) e b)

pub parted : (p : Path) (xs : List Block) (i : ℕ) → Rising xs → has_path xs p ≡ true → i ≤ length xs → IsPartitionPoint (λ b. is_below b.path p ≡ true) (λ b. is_below b.path p ≡ false) xs i → i ≡ place (λ b. same_path b.path p) xs
parted p [] i r e l h = absurd (false≢true e)
parted p (x ∷ xs) zero r e l h = by (same_path x.path p) refl
  where
    above : has_path xs p ≡ true → ⊥
    above f =
        let s = (any_some (λ b. same_path b.path p) (λ b. b.path ≡ p) (λ b. same_path_is b.path p) xs).0 f in
        let b = subst (λ (z : Path). IsBelow x.path.0 z.0) s.holds (r.0 s.one s.is_in) in
        false≢true (sym (h.1 zero x (omega arith) (omega arith)) ∙ (lt_is _).1 b)

    by : (b : Bool) → b ≡ same_path x.path p → 0 ≡ (if same_path x.path p then 0 else suc (place (λ b. same_path b.path p) xs))
    by true q = ap (λ b. if b then 0 else suc (place (λ b. same_path b.path p) xs)) q
    by false q = absurd (above (subst (λ b. (b || has_path xs p) ≡ true) (sym q) e))
parted p (x ∷ xs) (suc i) r e l h = by (same_path x.path p) refl (parted p xs i r.1)
  where
    by : (b : Bool) → b ≡ same_path x.path p → (has_path xs p ≡ true → i ≤ length xs → IsPartitionPoint (λ b. is_below b.path p ≡ true) (λ b. is_below b.path p ≡ false) xs i → i ≡ place (λ b. same_path b.path p) xs) → suc i ≡ (if same_path x.path p then 0 else suc (place (λ b. same_path b.path p) xs))
    by true q f = absurd (not_below_itself x.path p ((same_path_is x.path p).0 (sym q)) (h.0 zero x (omega arith) (omega arith)))
    by false q f =
        let has = subst (λ b. (b || has_path xs p) ≡ true) (sym q) e in
        ap suc (f has (omega arith) (λ k d a b. h.0 (suc k) d (omega arith) (omega arith), λ k d a b. h.1 (suc k) d (omega arith) (omega arith))) ∙ ap (λ b. if b then 0 else suc (place (λ b. same_path b.path p) xs)) q

-- a number fits its type

pub number_fits : (hs : List History) (firsts : List ℕ) (c : ℕ) (h : History) (p : Path) → IsAt hs c h → firsts ≡ firsts_from 0 hs → blocks_in hs ≤ 262144 → has_path h.blocks p ≡ true → get_or firsts c 0 + place (λ b. same_path b.path p) h.blocks < 262144
number_fits hs firsts c h p i e l has =
    let f = ap (λ (xs : List ℕ). get_or xs c 0) e in
    let a = first_at 0 hs c h 0 i in
    let b = place_below (λ (b : Block). same_path b.path p) h.blocks has in
    omega (arith, f, a, b)
