-- The rows of the log of the Clean round are its blocks, numbered in the order of (chare, path).
use Rattle.std.proofs.Common.{◌≡◌, ◌≤◌, ◌<◌, ◌⊎◌, inl, inr, ℕ, zero, suc, ◌+◌, ◌-◌, ◌==◌, Bool, true, false, if◌then◌else◌, List, [], ◌∷◌, ◌++◌, Some, Ordering, Less, Equal, refl, sym, ap, ap₂, subst, ◌∙◌, map, length, slice_get, nat_cmp, arith, eqb-true}
use Rattle.std.specs.Ordering.{ordering_then}
use Rattle.std.specs.Cmp.{IsTotalOrder}
use Rattle.std.specs.Cmp.Lexicographic.{slice_cmp}
use Rattle.std.proofs.lemmas.Bool.{and_parts, and_from, cases_lt, false≢true}
use Rattle.std.proofs.lemmas.Cmp.{tied_itself, nat_cmp_total, nat_list_cmp_total, nat_eq_equiv, on_total, then_total}
use Rattle.std.proofs.lemmas.List.{map-append, length-map}
use Rattle.bs_tree.specs.declared.tree.Program.{Program}
use Rattle.bs_log.specs.declared.history.Block.{Block}
use Rattle.bs_log.specs.declared.history.History.{History}
use Rattle.bs_log.specs.declared.log.Row.{Row}
use Rattle.bs_log.specs.Messages.{same_path}
use Rattle.bs_log.specs.Collected.{Site, site, sites_from, is_site, place, number_of, rows_from, log_of}
use Rattle.bs_log.specs.Collected as log
use Rattle.bs_log.specs.Lists.{Mem, InOrder}
use Rattle.bs_log.proofs.ClosedTests.{same_path_is}
use Rattle.bs_semantics.specs.Run.{Lookup, history}
use Rattle.bs_semantics.specs.Rounds.{mail_to, chares, from_to, round, CleanAt}
use Rattle.bs_semantics.specs.Serial.{Machine}
use Rattle.bs_semantics.specs.Reached.{Placed, blocks_from}
use Rattle.bs_semantics.proofs.Members.{map_of, in_order_both, in_order_map}
use Rattle.bs_semantics.proofs.Rising.{run_rising, less_first}
use Rattle.bs_semantics.proofs.Sets.{under}
use Rattle.bs_semantics.proofs.Reached.{is_placed, place_in}
use Rattle.bs_serial.proofs.States.{all_sent, blocks_at, same_round}

-- ---- the item of a list at a place, from 0

abbrev pub Item : {A : Type 0} → List A → ℕ → A → Type 0
Item [] i a = ⊥
Item (x ∷ xs) zero a = x ≡ a
Item (x ∷ xs) (suc i) a = Item xs i a

pub item_of : {A : Type 0} (xs : List A) (a : A) → Mem a xs → (i : ℕ) × Item xs i a
item_of [] a m = absurd m
item_of (x ∷ xs) a (inl e) = (0, sym e)
item_of (x ∷ xs) a (inr m) = let r = item_of xs a m in (suc r.0, r.1)

pub item_at : {A : Type 0} (xs : List A) (i : ℕ) → i < length xs → (a : A) × Item xs i a
item_at [] i l = absurd (omega (arith, l))
item_at (x ∷ xs) zero l = (x, refl)
item_at (x ∷ xs) (suc i) l = item_at xs i (omega (arith, l))

pub item_in : {A : Type 0} (xs : List A) (i : ℕ) (a : A) → Item xs i a → Mem a xs
item_in [] i a e = absurd e
item_in (x ∷ xs) zero a e = inl (sym e)
item_in (x ∷ xs) (suc i) a e = inr (item_in xs i a e)

pub item_within : {A : Type 0} (xs : List A) (i : ℕ) (a : A) → Item xs i a → i < length xs
item_within [] i a e = absurd e
item_within (x ∷ xs) zero a e = omega arith
item_within (x ∷ xs) (suc i) a e = let l = item_within xs i a e in omega (arith, l)

pub one_item : {A : Type 0} (xs : List A) (i : ℕ) (a b : A) → Item xs i a → Item xs i b → a ≡ b
one_item [] i a b e f = absurd e
one_item (x ∷ xs) zero a b e f = sym e ∙ f
one_item (x ∷ xs) (suc i) a b e f = one_item xs i a b e f

pub item_got : {A B : Type 0} (f : A → B) (xs : List A) (i : ℕ) (a : A) → Item xs i a → slice_get (map f xs) i ≡ Some (f a)
item_got f [] i a e = absurd e
item_got f (x ∷ xs) zero a e = ap (λ x. Some (f x)) e
item_got f (x ∷ xs) (suc i) a e = item_got f xs i a e

pub item_order : {A : Type 0} (R : A → A → Type 0) (xs : List A) → InOrder R xs → (i j : ℕ) (a b : A) → Item xs i a → Item xs j b → i < j → R a b
item_order R [] h i j a b e f l = absurd e
item_order R (x ∷ xs) h i zero a b e f l = absurd (omega (arith, l))
item_order R (x ∷ xs) h zero (suc j) a b e f l = subst (λ x. R x b) e (h.0 b (item_in xs j b f))
item_order R (x ∷ xs) h (suc i) (suc j) a b e f l = item_order R xs h.1 i j a b e f (omega (arith, l))

-- ---- the order of (chare, path)

abbrev pub place_cmp : Placed → Placed → Ordering
place_cmp a b = ordering_then (nat_cmp a.chare b.chare) (slice_cmp nat_cmp a.block.path.0 b.block.path.0)

pub place_total : IsTotalOrder place_cmp
place_total = then_total (on_total (λ (a : Placed). a.chare) nat_cmp_total) (on_total (λ (a : Placed). a.block.path.0) nat_list_cmp_total)

pub not_before_itself : (a b : Placed) → a.chare ≡ b.chare → a.block.path.0 ≡ b.block.path.0 → place_cmp a b ≡ Less → ⊥
not_before_itself a b c q e =
    let one : place_cmp b b ≡ Less = ap₂ (λ c q. ordering_then (nat_cmp c b.chare) (slice_cmp nat_cmp q b.block.path.0)) (sym c) (sym q) ∙ e in
    let two : Equal ≡ Less = sym (tied_itself place_total b) ∙ one in
    absurd (cc)

pub not_both : (a b : Placed) → place_cmp a b ≡ Less → place_cmp b a ≡ Less → ⊥
not_both a b e f = not_before_itself a a refl refl (place_total.trans a b a e f)

-- ---- the blocks of histories in their order

least_of : (c n d : ℕ) → Mem d (from_to c n) → c ≤ d
least_of c zero d i = absurd i
least_of c (suc n) d (inl e) = omega (arith, e)
least_of c (suc n) d (inr i) = let l = least_of (c + 1) n d i in omega (arith, l)

module _ (p : Program) (limit : ℕ) (f : ℕ → Lookup) where
  abbrev placed_at : ℕ → List Placed
  placed_at c = map (λ x. record { chare = c; block = x }) (history p limit c (f c)).blocks

  chare_at : (c : ℕ) (a : Placed) → Mem a (placed_at c) → a.chare ≡ c
  chare_at c a i =
      let m = map_of (λ x. record { chare = c; block = x }) (history p limit c (f c)).blocks a i in
      ap (λ (a : Placed). a.chare) m.is

  rise_at : (c : ℕ) → InOrder (λ a b. place_cmp a b ≡ Less) (placed_at c)
  rise_at c = in_order_map (λ x. record { chare = c; block = x }) (λ x y. slice_cmp nat_cmp x.path.0 y.path.0 ≡ Less) (λ a b. place_cmp a b ≡ Less)
      (λ x y e. ap (λ o. ordering_then o (slice_cmp nat_cmp x.path.0 y.path.0)) (tied_itself nat_cmp_total c) ∙ e)
      (history p limit c (f c)).blocks (run_rising p limit c (f c))

  rise_from : (n c : ℕ) → InOrder (λ a b. place_cmp a b ≡ Less) (blocks_from c (under p limit f (from_to c n)))
  rise_from zero c = tt
  rise_from (suc n) c = in_order_both (λ a b. place_cmp a b ≡ Less) (placed_at c) (blocks_from (c + 1) (under p limit f (from_to (c + 1) n))) (rise_at c) (rise_from n (c + 1))
      (λ a b i j.
      let o = chare_at c a i in
      let l = least_of (c + 1) n b.chare (is_placed p limit f n (c + 1) b j).chare in
      ap (λ r. ordering_then r (slice_cmp nat_cmp a.block.path.0 b.block.path.0)) (less_first a.chare b.chare (omega (arith, o, l))))

-- ---- rows and sites

abbrev pub row_at : List History → Placed → Row
row_at all a = log.row_of all a.chare a.block

abbrev site_at : Placed → Site
site_at a = site a.chare a.block

map_placed : {X : Type 0} (f : Placed → X) (c : ℕ) (xs : List Block) → map f (map (λ x. record { chare = c; block = x }) xs) ≡ map (λ x. f (record { chare = c; block = x })) xs
map_placed f c [] = refl
map_placed f c (x ∷ xs) = ap (λ ys. f (record { chare = c; block = x }) ∷ ys) (map_placed f c xs)

rows_are : (all : List History) (c : ℕ) (hs : List History) → rows_from all c hs ≡ map (row_at all) (blocks_from c hs)
rows_are all c [] = refl
rows_are all c (h ∷ hs) =
    ap₂ (λ xs ys. xs ++ ys) (sym (map_placed (row_at all) c h.blocks)) (rows_are all (c + 1) hs)
    ∙ sym (map-append (row_at all) (map (λ x. record { chare = c; block = x }) h.blocks) (blocks_from (c + 1) hs))

sites_are : (c : ℕ) (hs : List History) → sites_from c hs ≡ map site_at (blocks_from c hs)
sites_are c [] = refl
sites_are c (h ∷ hs) =
    ap₂ (λ xs ys. xs ++ ys) (sym (map_placed site_at c h.blocks)) (sites_are (c + 1) hs)
    ∙ sym (map-append site_at (map (λ x. record { chare = c; block = x }) h.blocks) (blocks_from (c + 1) hs))

at_itself : (a : Placed) → is_site a.chare a.block.path (site_at a) ≡ true
at_itself a = and_from _ _ (nat_eq_equiv.refl a.chare) ((same_path_is a.block.path a.block.path).1 refl)

place_first : (a x : Placed) (xs : List Placed) (t : Bool) → t ≡ true → 0 ≡ (if t then 0 else suc (place (is_site a.chare a.block.path) (map site_at xs)))
place_first a x xs true e = refl
place_first a x xs false e = absurd (false≢true e)

place_item : (xs : List Placed) → InOrder (λ a b. place_cmp a b ≡ Less) xs → (i : ℕ) (a : Placed) → Item xs i a → i ≡ place (is_site a.chare a.block.path) (map site_at xs)
place_item [] h i a e = absurd e
place_item (x ∷ xs) h zero a e = place_first a x xs (is_site a.chare a.block.path (site_at x)) (subst (λ x. is_site a.chare a.block.path (site_at x) ≡ true) (sym e) (at_itself a))
place_item (x ∷ xs) h (suc i) a e = by_test (is_site a.chare a.block.path (site_at x)) refl (place_item xs h.1 i a e)
  where
    by_test : (t : Bool) → is_site a.chare a.block.path (site_at x) ≡ t → i ≡ place (is_site a.chare a.block.path) (map site_at xs) → suc i ≡ (if t then 0 else suc (place (is_site a.chare a.block.path) (map site_at xs)))
    by_test true q r =
        let both = and_parts (x.chare == a.chare) (same_path x.block.path a.block.path) q in
        absurd (not_before_itself x a (eqb-true _ _ both.0) (ap (λ q. q.0) ((same_path_is x.block.path a.block.path).0 both.1)) (h.0 a (item_in xs i a e)))
    by_test false q r = ap suc r

-- ---- the log of the Clean round

module _ (p : Program) (limit n : ℕ) (m : Machine) (clean : CleanAt p limit n) where
  -- the blocks in their order
  abbrev pub all_blocks : List Placed
  all_blocks = blocks_from 0 (round p limit n)

  -- the number of the row of a block, from 1
  abbrev pub number : Placed → ℕ
  number a = number_of (round p limit n) a.chare a.block.path

  pub into_blocks : (a : Placed) → Mem a.chare (chares p) → Mem a.block (blocks_at p limit n m clean a.chare) → Mem a all_blocks
  into_blocks a i j = subst (λ hs. Mem a (blocks_from 0 hs)) (sym (same_round p limit n m clean)) (place_in p limit (mail_to (all_sent p limit n m clean)) p.chares 0 a i j)

  pub record IsBlock (a : Placed) : Type 0 where
    pub chare : Mem a.chare (chares p)
    pub block : Mem a.block (blocks_at p limit n m clean a.chare)

  pub is_block : (a : Placed) → Mem a all_blocks → IsBlock a
  is_block a i =
      let k = is_placed p limit (mail_to (all_sent p limit n m clean)) p.chares 0 a (subst (λ hs. Mem a (blocks_from 0 hs)) (same_round p limit n m clean) i) in
      record { chare = k.chare; block = k.block }

  pub in_order : InOrder (λ a b. place_cmp a b ≡ Less) all_blocks
  in_order = subst (λ hs. InOrder (λ a b. place_cmp a b ≡ Less) (blocks_from 0 hs)) (sym (same_round p limit n m clean)) (rise_from p limit (mail_to (all_sent p limit n m clean)) p.chares 0)

  pub number_item : (i : ℕ) (a : Placed) → Item all_blocks i a → number a ≡ suc i
  unfolding number_of
  number_item i a e =
      let one : i ≡ place (is_site a.chare a.block.path) (sites_from 0 (round p limit n)) =
      place_item all_blocks in_order i a e ∙ ap (place (is_site a.chare a.block.path)) (sym (sites_are 0 (round p limit n))) in
      omega (arith, one)

  pub log_rows : (entries : ℕ) → (log_of (round p limit n) entries).rows ≡ map (row_at (round p limit n)) all_blocks
  unfolding log_of
  log_rows entries = rows_are (round p limit n) 0 (round p limit n)

  -- two blocks of one number are one
  pub one_number : (a b : Placed) → Mem a all_blocks → Mem b all_blocks → number a ≡ number b → a ≡ b
  one_number a b i j e =
      let x = item_of all_blocks a i in
      let y = item_of all_blocks b j in
      let k = number_item x.0 a x.1 in
      let l = number_item y.0 b y.1 in
      let same : x.0 ≡ y.0 = omega (arith, k, l, e) in
      one_item all_blocks y.0 a b (subst (λ i. Item all_blocks i a) same x.1) y.1

  -- numbers rise with (chare, path)
  pub numbers_rise : (a b : Placed) → Mem a all_blocks → Mem b all_blocks → place_cmp a b ≡ Less → number a < number b
  numbers_rise a b i j less = by_order (cases_lt x.0 y.0) (cases_lt y.0 x.0)
    where
      x : (i : ℕ) × Item all_blocks i a
      x = item_of all_blocks a i

      y : (i : ℕ) × Item all_blocks i b
      y = item_of all_blocks b j

      by_order : (x.0 < y.0) ⊎ (y.0 ≤ x.0) → (y.0 < x.0) ⊎ (x.0 ≤ y.0) → number a < number b
      by_order (inl l) _ = let k = number_item x.0 a x.1 in let q = number_item y.0 b y.1 in omega (arith, k, q, l)
      by_order (inr l) (inl g) = absurd (not_both a b less (item_order (λ a b. place_cmp a b ≡ Less) all_blocks in_order y.0 x.0 b a y.1 x.1 g))
      by_order (inr l) (inr g) =
          let same : x.0 ≡ y.0 = omega (arith, l, g) in
          let one = one_item all_blocks y.0 a b (subst (λ i. Item all_blocks i a) same x.1) y.1 in
          absurd (not_before_itself a b (ap (λ (a : Placed). a.chare) one) (ap (λ (a : Placed). a.block.path.0) one) less)

  -- the row of a number
  pub record HasNumber (rows : List Row) (k : ℕ) (r : Row) : Type 0 where
    pub least : 1 ≤ k
    pub most : k ≤ length rows
    pub is_there : slice_get rows (k - 1) ≡ Some r

  pub has_number : (entries : ℕ) (a : Placed) → Mem a all_blocks → HasNumber (log_of (round p limit n) entries).rows (number a) (row_at (round p limit n) a)
  has_number entries a i = subst (λ rows. HasNumber rows (number a) (row_at (round p limit n) a)) (sym (log_rows entries)) there
    where
      x : (i : ℕ) × Item all_blocks i a
      x = item_of all_blocks a i

      there : HasNumber (map (row_at (round p limit n)) all_blocks) (number a) (row_at (round p limit n) a)
      there =
          let k = number_item x.0 a x.1 in
          let l = item_within all_blocks x.0 a x.1 in
          let len = length-map all_blocks (row_at (round p limit n)) in
          let at : number a - 1 ≡ x.0 = omega (arith, k) in
          record { least = omega (arith, k); most = omega (arith, k, l, len); is_there = ap (slice_get (map (row_at (round p limit n)) all_blocks)) at ∙ item_got (row_at (round p limit n)) all_blocks x.0 a x.1 }

  -- each row is that of a block
  pub record BlockOf (k : ℕ) : Type 0 where
    pub placed : Placed
    pub is_in : Mem placed all_blocks
    pub is : number placed ≡ k

  pub block_of : (entries k : ℕ) → 1 ≤ k → k ≤ length (log_of (round p limit n) entries).rows → BlockOf k
  block_of entries k least most =
      let len = ap length (log_rows entries) in
      let all = length-map all_blocks (row_at (round p limit n)) in
      let x = item_at all_blocks (k - 1) (omega (arith, least, most, len, all)) in
      let is = number_item (k - 1) x.0 x.1 in
      record { placed = x.0; is_in = item_in all_blocks (k - 1) x.0 x.1; is = omega (arith, is, least) }
