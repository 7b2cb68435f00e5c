-- The serial machine model gives one answer: each step has one next block, and a state that has one isn't at its end.
use Rattle.std.proofs.Common.{◌≡◌, ◌<◌, ◌≤◌, ℕ, List, ◌∷◌, refl, sym, ◌∙◌, subst, arith, inl, inr}
use Rattle.std.specs.Prelude.{◌⊎◌}
use Rattle.std.specs.Ordering.{nat_cmp}
use Rattle.std.specs.Cmp.Lexicographic.{slice_cmp}
use Rattle.std.specs.declared.cmp.Ordering.TheVariants.{Less}
use Rattle.std.proofs.lemmas.Cmp.{nat_list_cmp_total}
use Rattle.bs_tree.specs.declared.tree.Program.{Program}
use Rattle.bs_log.specs.declared.history.Block.{Block}
use Rattle.bs_semantics.specs.Serial.{Machine, Started, Simulated, Gives, stops, ends, starts, IsCandidate, IsNext, Earlier, would_start}

not_both_less : (a b : List ℕ) → slice_cmp nat_cmp a b ≡ Less → slice_cmp nat_cmp b a ≡ Less → ⊥
not_both_less a b l m = let e = nat_list_cmp_total.antisymm a b in cc

module _ (p : Program) (limit : ℕ) (m : Machine) where
  -- no two blocks come before one another
  pub not_both : (bs : List Started) (c d : ℕ) (x y : Block) → Earlier m bs c x d y → Earlier m bs d y c x → ⊥
  not_both bs c d x y (inl l) (inl k) = omega (arith, l, k)
  not_both bs c d x y (inl l) (inr k) = omega (arith, l, k.0)
  not_both bs c d x y (inr l) (inl k) = omega (arith, l.0, k)
  not_both bs c d x y (inr l) (inr k) = go l.1 k.1
    where
      go : (c < d) ⊎ ((c ≡ d) × (slice_cmp nat_cmp x.path.0 y.path.0 ≡ Less)) → (d < c) ⊎ ((d ≡ c) × (slice_cmp nat_cmp y.path.0 x.path.0 ≡ Less)) → ⊥
      go (inl a) (inl b) = omega (arith, a, b)
      go (inl a) (inr b) = omega (arith, a, b.0)
      go (inr a) (inl b) = omega (arith, a.0, b)
      go (inr a) (inr b) = not_both_less x.path.0 y.path.0 a.1 b.1

  same_candidate : (bs : List Started) (q c d : ℕ) (x y : Block) → IsCandidate m p limit bs q c x → IsCandidate m p limit bs q d y → (c ≡ d) × (x ≡ y)
  same_candidate bs q c d x y a b = go (a.least d y b.enabled b.home) (b.least c x a.enabled a.home)
    where
      go : ((c ≡ d) × (x ≡ y)) ⊎ Earlier m bs c x d y → ((d ≡ c) × (y ≡ x)) ⊎ Earlier m bs d y c x → (c ≡ d) × (x ≡ y)
      go (inl same) _ = same
      go (inr l) (inl same) = (sym same.0, sym same.1)
      go (inr l) (inr k) = absurd (not_both bs c d x y l k)

  same_home : (bs : List Started) (b c : Started) → IsNext m p limit bs b → IsNext m p limit bs c → m.home b.chare ≡ m.home c.chare
  same_home bs b c i j = go (i.least (m.home c.chare) c.chare c.block j.candidate) (j.least (m.home b.chare) b.chare b.block i.candidate) i.start j.start
    where
      go : (b.start < would_start m bs c.chare c.block) ⊎ ((b.start ≡ would_start m bs c.chare c.block) × (m.home b.chare ≤ m.home c.chare))
          → (c.start < would_start m bs b.chare b.block) ⊎ ((c.start ≡ would_start m bs b.chare b.block) × (m.home c.chare ≤ m.home b.chare))
          → b.start ≡ would_start m bs b.chare b.block → c.start ≡ would_start m bs c.chare c.block → m.home b.chare ≡ m.home c.chare
      go (inl l) (inl k) e f = absurd (omega (arith, l, k, e, f))
      go (inl l) (inr k) e f = absurd (omega (arith, l, k.0, e, f))
      go (inr l) (inl k) e f = absurd (omega (arith, l.0, k, e, f))
      go (inr l) (inr k) e f = omega (arith, l.1, k.1)

  pub one_next : (bs : List Started) (b c : Started) → IsNext m p limit bs b → IsNext m p limit bs c → b ≡ c
  one_next bs b c i j =
      let home = same_home bs b c i j in
      let same = same_candidate bs (m.home b.chare) b.chare c.chare b.block c.block i.candidate (subst (λ q. IsCandidate m p limit bs q c.chare c.block) (sym home) j.candidate) in
      let chare = same.0 in
      let block = same.1 in
      let start : b.start ≡ c.start = i.start ∙ (λ k. would_start m bs (chare k) (block k)) ∙ sym j.start in
      λ k. record { chare = chare k; block = block k; start = start k }

  -- a state that has a next block isn't at its end
  pub one_answer : (bs : List Started) (r s : Simulated) → Gives p limit m bs r → Gives p limit m bs s → r ≡ s
  one_answer _ _ _ (stops bs not_clean) (stops _ _) = refl
  one_answer _ _ _ (stops bs not_clean) (ends _ clean _) = absurd (not_clean clean)
  one_answer _ _ _ (stops bs not_clean) (starts _ _ _ clean _ _) = absurd (not_clean clean)
  one_answer _ _ _ (ends bs clean none) (stops _ not_clean) = absurd (not_clean clean)
  one_answer _ _ _ (ends bs clean none) (ends _ _ _) = refl
  one_answer _ _ _ (ends bs clean none) (starts _ b _ _ next _) = absurd (none b.chare b.block next.candidate.enabled)
  one_answer _ _ _ (starts bs b r clean next rest) (stops _ not_clean) = absurd (not_clean clean)
  one_answer _ _ _ (starts bs b r clean next rest) (ends _ _ none) = absurd (none b.chare b.block next.candidate.enabled)
  one_answer _ _ _ (starts bs b r clean next rest) (starts _ c s _ other more) =
      one_answer (b ∷ bs) r s rest (subst (λ x. Gives p limit m (x ∷ bs) s) (sym (one_next bs b c next other)) more)
