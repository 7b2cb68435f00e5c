-- No two messages that histories send come from one place.
use Rattle.std.proofs.Common.{◌≡◌, ◌⊎◌, ◌<◌, ◌≤◌, inl, inr, ℕ, zero, suc, ◌+◌, List, [], ◌∷◌, ◌++◌, refl, sym, ap, subst, ◌∙◌, arith, le_refl, Ordering, Less, Equal}
use Rattle.std.specs.Cmp.Lexicographic.{slice_cmp}
use Rattle.std.specs.Ordering.{nat_cmp}
use Rattle.std.proofs.lemmas.Cmp.{tied_itself, nat_list_cmp_total}
use Rattle.bs_tree.specs.declared.tree.Program.{Program}
use Rattle.bs_log.specs.declared.history.Block.{Block}
use Rattle.bs_log.specs.declared.history.Message.{Message}
use Rattle.bs_log.specs.Lists.{Mem, InOrder}
use Rattle.bs_log.specs.Messages.{sends_of, sent}
use Rattle.bs_log.specs.Paths.{IsBelow}
use Rattle.bs_log.specs.Rising.{Rising}
use Rattle.bs_semantics.specs.Acts.{Parcel}
use Rattle.bs_semantics.specs.Run.{Lookup, signed, run, history}
use Rattle.bs_semantics.specs.Rounds.{from_to}
use Rattle.bs_semantics.proofs.Members.{mem_left, mem_cases, in_order_both}
use Rattle.bs_semantics.proofs.Rising.{run_rising}
use Rattle.bs_semantics.proofs.Signed.{Signed, run_signed}
use Rattle.bs_semantics.proofs.Sets.{under, from_block}

abbrev pub Differ : Message → Message → Type 0
Differ a b = a.origin ≡ b.origin → ⊥

signed_from : (c : ℕ) (path : List ℕ) (d k : ℕ) (ps : List Parcel) (m : Message) → Mem m (signed c path d k ps) → k ≤ m.origin.index
signed_from c path d k [] m i = absurd i
signed_from c path d k (p ∷ ps) m (inl e) = subst (λ (m : Message). k ≤ m.origin.index) (sym e) (le_refl k)
signed_from c path d k (p ∷ ps) m (inr i) = let more = signed_from c path d (k + 1) ps m i in omega (arith, more)

signed_path : (c : ℕ) (path : List ℕ) (d k : ℕ) (ps : List Parcel) (m : Message) → Mem m (signed c path d k ps) → (m.origin.chare ≡ c) × (m.origin.path.0 ≡ path)
signed_path c path d k [] m i = absurd i
signed_path c path d k (p ∷ ps) m (inl e) = (ap (λ m. m.origin.chare) e, ap (λ m. m.origin.path.0) e)
signed_path c path d k (p ∷ ps) m (inr i) = signed_path c path d (k + 1) ps m i

signed_differ : (c : ℕ) (path : List ℕ) (d k : ℕ) (ps : List Parcel) → InOrder Differ (signed c path d k ps)
signed_differ c path d k [] = tt
signed_differ c path d k (p ∷ ps) = ((λ y i e. let more = signed_from c path d (k + 1) ps y i in let q = ap (λ o. o.index) e in omega (arith, more, q)), signed_differ c path d (k + 1) ps)

-- a message of blocks is one of a block
record OfBlock (xs : List Block) (m : Message) : Type 0 where
  block : Block
  is_block : Mem block xs
  is_sent : Mem m block.sends

of_block : (xs : List Block) (m : Message) → Mem m (sends_of xs) → OfBlock xs m
of_block [] m i = absurd i
of_block (x ∷ xs) m i = by_side (mem_cases m x.sends (sends_of xs) i) (of_block xs m)
  where
    by_side : Mem m x.sends ⊎ Mem m (sends_of xs) → (Mem m (sends_of xs) → OfBlock xs m) → OfBlock (x ∷ xs) m
    by_side (inl i) f = record { block = x; is_block = inl refl; is_sent = i }
    by_side (inr i) f = let h = f i in record { block = h.block; is_block = inr h.is_block; is_sent = h.is_sent }

block_path : (c : ℕ) (x : Block) → Signed c x → (m : Message) → Mem m x.sends → (m.origin.chare ≡ c) × (m.origin.path.0 ≡ x.path.0)
block_path c x s m i = signed_path c x.path.0 x.depth 1 s.parcels m (subst (Mem m) s.sends i)

not_below : (a : List ℕ) → IsBelow a a → ⊥
not_below a e = let q : Equal ≡ Less = sym (tied_itself nat_list_cmp_total a) ∙ e in absurd (cc)

blocks_differ : (c : ℕ) (xs : List Block) → Rising xs → ((x : Block) → Mem x xs → Signed c x) → InOrder Differ (sends_of xs)
blocks_differ c [] r s = tt
blocks_differ c (x ∷ xs) r s = in_order_both Differ x.sends (sends_of xs) (subst (InOrder Differ) (sym first.sends) (signed_differ c x.path.0 x.depth 1 first.parcels)) (blocks_differ c xs r.1 (λ y i. s y (inr i))) apart
  where
    first : Signed c x
    first = s x (inl refl)

    apart : (a b : Message) → Mem a x.sends → Mem b (sends_of xs) → Differ a b
    apart a b i j e =
        let h = of_block xs b j in
        let one : a.origin.path.0 ≡ x.path.0 = (block_path c x first a i).1 in
        let two : b.origin.path.0 ≡ (h.block).path.0 = (block_path c h.block (s h.block (inr h.is_block)) b h.is_sent).1 in
        let same : (h.block).path.0 ≡ x.path.0 = sym two ∙ (sym (ap (λ o. o.path.0) e) ∙ one) in
        not_below x.path.0 (subst (λ q. IsBelow x.path.0 q) same (r.0 h.block h.is_block))

chare_from : (n k c : ℕ) → Mem c (from_to k n) → k ≤ c
chare_from zero k c i = absurd i
chare_from (suc n) k c (inl e) = omega (arith, e)
chare_from (suc n) k c (inr i) = let more = chare_from n (k + 1) c i in omega (arith, more)

module _ (p : Program) (limit : ℕ) (f : ℕ → Lookup) where
  blocks_of : (c : ℕ) → InOrder Differ (sends_of (history p limit c (f c)).blocks)
  blocks_of c = blocks_differ c (run p limit c (f c)).blocks (run_rising p limit c (f c)) (run_signed p limit c (f c))

  pub origins_differ : (n k : ℕ) → InOrder Differ (sent (under p limit f (from_to k n)))
  origins_differ zero k = tt
  origins_differ (suc n) k = in_order_both Differ (sends_of (history p limit k (f k)).blocks) (sent (under p limit f (from_to (k + 1) n))) (blocks_of k) (origins_differ n (k + 1)) apart
    where
      apart : (a b : Message) → Mem a (sends_of (history p limit k (f k)).blocks) → Mem b (sent (under p limit f (from_to (k + 1) n))) → Differ a b
      apart a b i j e =
          let g = of_block (run p limit k (f k)).blocks a i in
          let h = from_block p limit f (from_to (k + 1) n) b j in
          let one : a.origin.chare ≡ k = (block_path k g.block (run_signed p limit k (f k) g.block g.is_block) a g.is_sent).0 in
          let two : b.origin.chare ≡ h.chare = (block_path h.chare h.block (run_signed p limit h.chare (f h.chare) h.block h.is_block) b h.is_sent).0 in
          let above = chare_from n (k + 1) h.chare h.is_chare in
          let same = ap (λ o. o.chare) e in
          omega (arith, one, two, above, same)

-- so where two come from one place, they are one
pub one_place : (ms : List Message) → InOrder Differ ms → (a b : Message) → Mem a ms → Mem b ms → a.origin ≡ b.origin → a ≡ b
one_place [] h a b i j e = absurd i
one_place (x ∷ xs) h a b (inl p) (inl q) e = p ∙ sym q
one_place (x ∷ xs) h a b (inl p) (inr j) e = absurd (h.0 b j (sym (ap (λ m. m.origin) p) ∙ e))
one_place (x ∷ xs) h a b (inr i) (inl q) e = absurd (h.0 a i (sym (ap (λ m. m.origin) q) ∙ sym e))
one_place (x ∷ xs) h a b (inr i) (inr j) e = one_place xs h.1 a b i j e
