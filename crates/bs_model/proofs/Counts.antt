-- No more blocks are started than the limit: they are different blocks of the histories.
use Rattle.std.proofs.Common.{◌≡◌, ◌≤◌, inl, inr, ℕ, zero, suc, ◌+◌, List, [], ◌∷◌, length, map, refl, sym, ap, ap₂, subst, ◌∙◌, arith}
use Rattle.std.specs.Cmp.{IsTotalOrder}
use Rattle.std.specs.declared.cmp.Ordering.TheVariants.{Equal}
use Rattle.std.proofs.lemmas.List.{length-append, length-map}
use Rattle.std.proofs.lemmas.Cmp.{nat_cmp_total, nat_list_cmp_total, on_total, then_total, tied_itself}
use Rattle.bs_tree.specs.declared.tree.Program.{Program}
use Rattle.bs_log.specs.declared.history.Block.{Block}
use Rattle.bs_log.specs.declared.history.History.{History}
use Rattle.bs_log.specs.Lists.{Mem, InOrder}
use Rattle.bs_semantics.specs.Run.{Lookup, history}
use Rattle.bs_semantics.specs.Rounds.{CleanAt, from_to, mail_to}
use Rattle.bs_semantics.specs.Depth.{all_blocks}
use Rattle.bs_semantics.specs.Serial.{Machine, Started, messages, histories_at, started_cmp}
use Rattle.bs_semantics.specs.Reached.{IsReached, Placed, blocks_from, placed}
use Rattle.bs_semantics.proofs.Members.{mem_left, mem_right, mem_map, map_of, MapOf, in_order_map}
use Rattle.bs_semantics.proofs.Reached.{apart, reached_blocks, reached_clean}
use Rattle.bs_semantics.proofs.Sizes.{count_all}

-- a list without a member
record Without {A : Type 0} (x : A) (ys : List A) : Type 0 where
  rest : List A
  count : length ys ≡ suc (length rest)
  others : (y : A) → Mem y ys → (x ≡ y → ⊥) → Mem y rest

without : {A : Type 0} (x : A) (ys : List A) → Mem x ys → Without x ys
without x [] i = absurd i
without x (z ∷ ys) (inl e) = record { rest = ys; count = refl; others = λ y i n. other y n i }
  where
    other : (y : _) → (x ≡ y → ⊥) → Mem y (z ∷ ys) → Mem y ys
    other y n (inl f) = absurd (n (e ∙ sym f))
    other y n (inr i) = i
without x (z ∷ ys) (inr i) = more (without x ys i)
  where
    other : (w : Without x ys) (y : _) → (x ≡ y → ⊥) → Mem y (z ∷ ys) → Mem y (z ∷ w.rest)
    other w y n (inl f) = inl f
    other w y n (inr j) = inr (w.others y j n)

    more : Without x ys → Without x (z ∷ ys)
    more w = record { rest = z ∷ w.rest; count = ap (λ k. suc k) w.count; others = λ y j n. other w y n j }

-- different members of a list are no more than it has
fits : {A : Type 0} (xs ys : List A) → InOrder (λ x y. x ≡ y → ⊥) xs → ((x : A) → Mem x xs → Mem x ys) → length xs ≤ length ys
fits [] ys h f = omega arith
fits (x ∷ xs) ys h f =
    let w = without x ys (f x (inl refl)) in
    let more = fits xs w.rest h.1 (λ y i. w.others y (f y (inr i)) (h.0 y i)) in
    let count = w.count in
    omega (arith, more, count)

place_in : (p : Program) (limit : ℕ) (f : ℕ → Lookup) (n c : ℕ) (a : Placed) → Mem a.chare (from_to c n) → Mem a.block (history p limit a.chare (f a.chare)).blocks → Mem a (blocks_from c (map (λ c. history p limit c (f c)) (from_to c n)))
place_in p limit f zero c a i j = absurd i
place_in p limit f (suc n) c a (inl e) j =
    mem_left a (map (λ x. record { chare = c; block = x }) (history p limit c (f c)).blocks) (blocks_from (c + 1) (map (λ c. history p limit c (f c)) (from_to (c + 1) n)))
    (subst (λ c. Mem a (map (λ x. record { chare = c; block = x }) (history p limit c (f c)).blocks)) e (mem_map (λ x. record { chare = a.chare; block = x }) a.block (history p limit a.chare (f a.chare)).blocks j))
place_in p limit f (suc n) c a (inr i) j =
    mem_right a (map (λ x. record { chare = c; block = x }) (history p limit c (f c)).blocks) (blocks_from (c + 1) (map (λ c. history p limit c (f c)) (from_to (c + 1) n))) (place_in p limit f n (c + 1) a i j)

abbrev place_at : ℕ → Block → Placed
place_at c x = record { chare = c; block = x }

count_from : (c : ℕ) (hs : List History) → length (blocks_from c hs) ≡ length (all_blocks hs)
count_from c [] = refl
count_from c (h ∷ hs) =
    let more = count_from (c + 1) hs in
    let one = length-append (map (place_at c) h.blocks) (blocks_from (c + 1) hs) in
    let two = length-append h.blocks (all_blocks hs) in
    let made = place_at c in
    let three = length-map h.blocks made in
    omega (arith, more, one, two, three)

module _ (p : Program) (limit : ℕ) (m : Machine) (n : ℕ) (clean : CleanAt p limit n) (bs : List Started) (r : IsReached p limit m bs) where
  alike : (x y : Started) → placed x ≡ placed y → started_cmp m x y ≡ started_cmp m y y
  alike x y e = ap₂ (λ c (d : Block). started_cmp m (record { chare = c; block = d; start = 0 }) y) (ap (λ (a : Placed). a.chare) e) (ap (λ (a : Placed). a.block) e)

  its_place : (a : Placed) → MapOf placed bs a → Mem a (blocks_from 0 (histories_at p limit bs))
  its_place a o =
      let b = reached_blocks p limit m bs r o.from o.is_in in
      subst (λ a. Mem a (blocks_from 0 (histories_at p limit bs))) (sym o.is) (place_in p limit (mail_to (messages bs)) p.chares 0 (placed o.from) b.0 b.1)

  order_total : IsTotalOrder (started_cmp m)
  order_total = then_total (on_total (λ (b : Started). b.chare) nat_cmp_total) (on_total (λ (b : Started). b.block.path.0) nat_list_cmp_total)

  pub few : length bs ≤ limit
  few =
      let differ = in_order_map placed (λ x y. started_cmp m x y ≡ Equal → ⊥) (λ (a b : Placed). a ≡ b → ⊥) (λ x y h e. h (alike x y e ∙ tied_itself order_total y)) bs (apart p limit m bs r) in
      let count = fits (map placed bs) (blocks_from 0 (histories_at p limit bs)) differ (λ a i. its_place a (map_of placed bs a i)) in
      let one = length-map bs placed in
      let two = count_from 0 (histories_at p limit bs) in
      let three = count_all (histories_at p limit bs) in
      let size = (reached_clean p limit m n clean bs r).size in
      omega (arith, count, one, two, three, size)
