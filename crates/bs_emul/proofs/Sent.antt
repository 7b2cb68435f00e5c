-- What histories send, chare by chare.
use Rattle.std.proofs.Common.{◌≡◌, ◌⊎◌, ◌<◌, ◌≤◌, inl, inr, ℕ, zero, suc, ◌+◌, List, [], ◌∷◌, ◌++◌, refl, ap, subst, ◌∙◌, sym, arith}
use Rattle.std.proofs.lemmas.List.Sums.{sum_by-cons}
use Rattle.bs_tree.specs.declared.tree.Program.{Program}
use Rattle.bs_log.specs.declared.history.Message.{Message}
use Rattle.bs_log.specs.declared.history.History.{History}
use Rattle.bs_log.specs.Size.{size, size_all}
use Rattle.bs_log.specs.Lists.{Mem, Each, InOrder}
use Rattle.bs_log.specs.Messages.{sends_of, sent}
use Rattle.bs_semantics.specs.Acts.{Parcel}
use Rattle.bs_semantics.specs.Run.{Lookup, signed, history}
use Rattle.bs_semantics.specs.Rounds.{from_to, chares, histories, mail_to}
use Rattle.bs_semantics.specs.Growth.{Subsequence, none, keep, skip}
use Rattle.bs_semantics.proofs.Distinct.{Distinct}
use Rattle.bs_semantics.proofs.Members.{mem_left, mem_cases}
use Rattle.bs_semantics.proofs.Proper.{run_proper}
use Rattle.bs_semantics.proofs.Sets.{under, from_block, into}
use Rattle.bs_semantics.proofs.Signed.{run_signed}
use Rattle.bs_semantics.proofs.Subsequences.{member, whole, longer}
use Rattle.bs_rounds.proofs.OneOrigin.{Differ, origins_differ}

-- ---- lists whose items differ

-- no two messages that differ by their origins are the same
pub distinct_of : (ms : List Message) → InOrder Differ ms → Distinct ms
distinct_of [] h = tt
distinct_of (m ∷ ms) h = ((λ y i e. h.0 y i (ap (λ m. m.origin) e)), distinct_of ms h.1)

-- a list with gaps has no two that are the same, where the larger one has none
pub distinct_part : (xs ys : List Message) → Subsequence Message xs ys → Distinct ys → Distinct xs
distinct_part _ _ none k = tt
distinct_part _ _ (keep x xs ys h) k = ((λ y m. k.0 y (member y xs ys h m)), distinct_part xs ys h k.1)
distinct_part _ _ (skip y xs ys h) k = distinct_part xs ys h k.1

-- ---- the chares' numbers

pub chare_in : (k n c : ℕ) → c < n → Mem (k + c) (from_to k n)
chare_in k zero c h = absurd (omega (arith, h))
chare_in k (suc n) zero h = inl (omega arith)
chare_in k (suc n) (suc c) h = inr (subst (λ d. Mem d (from_to (k + 1) n)) (omega arith) (chare_in (k + 1) n c (omega (arith, h))))

pub is_chare : (p : Program) (c : ℕ) → c < p.chares → Mem c (chares p)
is_chare p c l = let e : 0 + c ≡ c = omega arith in subst (λ d. Mem d (chares p)) e (chare_in 0 p.chares c l)

-- ---- one chare among all

signed_chare : (c : ℕ) (path : List ℕ) (d k : ℕ) (ps : List Parcel) (m : Message) → Mem m (signed c path d k ps) → m.origin.chare ≡ c
signed_chare c path d k [] m i = absurd i
signed_chare c path d k (p ∷ ps) m (inl e) = ap (λ m. m.origin.chare) e
signed_chare c path d k (p ∷ ps) m (inr i) = signed_chare c path d (k + 1) ps m i

module _ (p : Program) (limit : ℕ) (f : ℕ → Lookup) where
  only : (c : ℕ) (m : Message) → Mem m (sent (under p limit f (c ∷ []))) → Mem m (sends_of (history p limit c (f c)).blocks)
  only c m i = by_side (mem_cases m (sends_of (history p limit c (f c)).blocks) [] i)
    where
      by_side : Mem m (sends_of (history p limit c (f c)).blocks) ⊎ Mem m [] → Mem m (sends_of (history p limit c (f c)).blocks)
      by_side (inl i) = i
      by_side (inr i) = absurd i

  -- a chare that sends it
  pub record IsFrom (cs : List ℕ) (m : Message) : Type 0 where
    pub chare : ℕ
    pub is_chare : Mem chare cs
    pub sends : Mem m (sends_of (history p limit chare (f chare)).blocks)
    pub origin : m.origin.chare ≡ chare

  pub is_from : (cs : List ℕ) (m : Message) → Mem m (sent (under p limit f cs)) → IsFrom cs m
  is_from cs m i =
      let h = from_block p limit f cs m i in
      let s = run_signed p limit h.chare (f h.chare) h.block h.is_block in
      record {
        chare = h.chare;
        is_chare = h.is_chare;
        sends = only h.chare m (into p limit f (h.chare ∷ []) m h.chare h.block (inl refl) h.is_block h.is_sent);
        origin = signed_chare h.chare h.block.path.0 h.block.depth 1 s.parcels m (subst (Mem m) s.sends h.is_sent);
      }

  pub sent_in : (cs : List ℕ) (c : ℕ) (m : Message) → Mem c cs → Mem m (sends_of (history p limit c (f c)).blocks) → Mem m (sent (under p limit f cs))
  sent_in cs c m j i =
      let h = from_block p limit f (c ∷ []) m (mem_left m (sends_of (history p limit c (f c)).blocks) [] i) in
      let at : h.chare ≡ c = by_side h.is_chare in
      into p limit f cs m h.chare h.block (subst (λ d. Mem d cs) (sym at) j) h.is_block h.is_sent
    where
      by_side : {d : ℕ} → Mem d (c ∷ []) → d ≡ c
      by_side (inl e) = e
      by_side (inr i) = absurd i

  pub chare_of : (c : ℕ) (m : Message) → Mem m (sends_of (history p limit c (f c)).blocks) → m.origin.chare ≡ c
  chare_of c m i = let h = is_from (c ∷ []) m (mem_left m (sends_of (history p limit c (f c)).blocks) [] i) in h.origin ∙ by_side h.is_chare
    where
      by_side : {d : ℕ} → Mem d (c ∷ []) → d ≡ c
      by_side (inl e) = e
      by_side (inr i) = absurd i

  pub one_distinct : (c : ℕ) → Distinct (sends_of (history p limit c (f c)).blocks)
  one_distinct c =
      let sends = sends_of (history p limit c (f c)).blocks in
      distinct_part sends (sends ++ []) (longer sends sends [] (whole sends)) (distinct_of (sends ++ []) (origins_differ p limit f 1 c))

  pub size_in : (cs : List ℕ) (c : ℕ) → Mem c cs → size (history p limit c (f c)) ≤ size_all (under p limit f cs)
  size_in [] c i = absurd i
  size_in (d ∷ cs) c (inl e) =
      let all = sum_by-cons size (history p limit d (f d)) (under p limit f cs) in
      let one : size (history p limit c (f c)) ≡ size (history p limit d (f d)) = ap (λ c. size (history p limit c (f c))) e in
      omega (arith, all, one)
  size_in (d ∷ cs) c (inr i) =
      let all = sum_by-cons size (history p limit d (f d)) (under p limit f cs) in
      let more = size_in cs c i in
      omega (arith, all, more)

  pub each_in : (P : History → Type 0) (cs : List ℕ) (c : ℕ) → Mem c cs → Each P (under p limit f cs) → P (history p limit c (f c))
  each_in P [] c i h = absurd i
  each_in P (d ∷ cs) c (inl e) h = subst (λ c. P (history p limit c (f c))) (sym e) h.0
  each_in P (d ∷ cs) c (inr i) h = each_in P cs c i h.1

-- ---- the histories under what was served

module _ (p : Program) (limit : ℕ) (ms : List Message) where
  pub all_distinct : Distinct (sent (histories p limit ms))
  all_distinct = distinct_of (sent (histories p limit ms)) (origins_differ p limit (mail_to ms) p.chares 0)

  pub target : 1 ≤ p.chares → (m : Message) → Mem m (sent (histories p limit ms)) → m.sent.to < p.chares
  target some m i =
      let h = from_block p limit (mail_to ms) (chares p) m i in
      let t = (((run_proper p limit h.chare (mail_to ms h.chare) h.block h.is_block).sends m h.is_sent)).target in
      omega (arith, t, some)
