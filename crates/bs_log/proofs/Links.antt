-- In histories that look closed, the blocks that are named as causes are there.
use Rattle.std.proofs.Common.{◌≡◌, ◌≤◌, ◌⊎◌, inl, inr, ℕ, zero, suc, ◌+◌, true, List, [], ◌∷◌, refl, sym, ap, subst, ◌∙◌, length, sum_by, arith}
use Rattle.std.proofs.lemmas.List.Sums.{sum_by-cons, sum_by-le-sum_by}
use Rattle.bs_tree.specs.declared.tree.Path.{Path}
use Rattle.bs_log.specs.declared.history.Origin.{Origin}
use Rattle.bs_log.specs.declared.history.Message.{Message}
use Rattle.bs_log.specs.declared.history.Block.{Block}
use Rattle.bs_log.specs.declared.history.History.{History}
use Rattle.bs_log.specs.Size.{block_size, size, size_all}
use Rattle.bs_log.specs.Messages.{same_path}
use Rattle.bs_log.specs.Checks.{has_path}
use Rattle.bs_log.specs.ClosedTest.{LooksClosed}
use Rattle.bs_log.specs.Collected.{blocks_in}
use Rattle.bs_log.specs.Linked.{IsAt, HasBlock, AllHave, AllCame, IsLinked, AreLinked, AllLinked}
use Rattle.bs_log.specs.Lists.{Mem}
use Rattle.bs_log.specs.Sound.{CausesBefore, Numbered, SentTo, IsSound, AreSound}
use Rattle.bs_log.proofs.Decided.{any_some}
use Rattle.bs_log.proofs.ClosedTests.{same_path_is, rising_is, its_block, its_history}

-- there are no more blocks than their size

blocks_fit : (bs : List Block) → length bs ≤ sum_by block_size bs
blocks_fit [] = omega arith
blocks_fit (x ∷ xs) = let s = sum_by-cons block_size x xs in let r = blocks_fit xs in omega (arith, s, r)

pub few_blocks : (hs : List History) → size_all hs ≤ 262144 → blocks_in hs ≤ 262144
few_blocks hs h =
    let s = sum_by-le-sum_by (λ (h : History). length h.blocks) size hs (λ x. let b = blocks_fit x.blocks in omega (arith, b)) in
    omega (arith, s)

-- a history among others

pub place_of_member : (xs : List History) (h : History) → Mem h xs → (j : ℕ) × IsAt xs j h
place_of_member [] h i = absurd i
place_of_member (x ∷ xs) h (inl e) = (0, sym e)
place_of_member (x ∷ xs) h (inr i) = let r = place_of_member xs h i in (suc r.0, r.1)

sound_at : (all : List History) (xs : List History) (k j c : ℕ) (h : History) → c ≡ k + j → AreSound all k xs → IsAt xs j h → IsSound all c h
sound_at all [] k j c h q s i = absurd i
sound_at all (x ∷ xs) k zero c h q s i =
    let e : k ≡ c = omega arith in
    subst (λ z. IsSound all c z) i (subst (λ z. IsSound all z x) e s.0)
sound_at all (x ∷ xs) k (suc j) c h q s i = sound_at all xs (k + 1) j c h (omega arith) s.1 i

pub has_member : (bs : List Block) (b : Block) (q : Path) → Mem b bs → b.path ≡ q → has_path bs q ≡ true
has_member bs b q m e = (any_some (λ x. same_path x.path q) (λ x. x.path ≡ q) (λ x. same_path_is x.path q) bs).1 (record { one = b; is_in = m; holds = e })

cause_is_there : (P : Path → Type 0) (xs all : List Block) → CausesBefore P xs → ((q : Path) → P q → has_path all q ≡ true) → ((b : Block) → Mem b xs → Mem b all) → (x : Block) → Mem x xs → (q : Path) → Mem q x.after → has_path all q ≡ true
cause_is_there P [] all h f g x i q m = absurd i
cause_is_there P (y ∷ ys) all h f g x (inl e) q m = f q (h.0 q (subst (λ (z : Block). Mem q z.after) e m))
cause_is_there P (y ∷ ys) all h f g x (inr i) q m = cause_is_there (λ r. (r ≡ y.path) ⊎ P r) ys all h.1 more (λ b k. g b (inr k)) x i q m
  where
    more : (r : Path) → (r ≡ y.path) ⊎ P r → has_path all r ≡ true
    more r (inl e) = has_member all y r (g y (inl refl)) (sym e)
    more r (inr p) = f r p

signed_by : (c : ℕ) (x : Block) (k : ℕ) (ms : List Message) → Numbered c x k ms → (m : Message) → Mem m ms → (c ≡ m.origin.chare) × (x.path ≡ m.origin.path)
signed_by c x k [] n m i = absurd i
signed_by c x k (y ∷ ys) n m (inl e) = (sym (ap (λ (z : Message). z.origin.chare) e ∙ ap (λ o. o.chare) n.0), sym (ap (λ (z : Message). z.origin.path) e ∙ ap (λ o. o.path) n.0))
signed_by c x k (y ∷ ys) n m (inr i) = signed_by c x (k + 1) ys n.1 m i

module _ (all : List History) (sound : AreSound all 0 all) where
  pub sound_here : (c : ℕ) (h : History) → IsAt all c h → IsSound all c h
  sound_here c h i = sound_at all all 0 c c h (omega arith) sound i

  pub there : (c : ℕ) (h : History) → IsAt all c h → (q : Path) → has_path h.blocks q ≡ true → HasBlock all c q
  there c h i q e = record { history = h; is_at = i; rises = (rising_is h.blocks).1 (sound_here c h i).rising; has = e }

  pub came : (c : ℕ) (o : Origin) → SentTo all c o → HasBlock all o.chare o.path
  came c o s =
      let g = its_history all s.message s.is_sent in
      let j = place_of_member all g.one g.is_in in
      let b = its_block (g.one).blocks s.message g.holds in
      let n = signed_by j.0 b.one 1 (b.one).sends ((sound_here j.0 g.one j.1).sends b.one b.is_in) s.message b.holds in
      let k = there j.0 g.one j.1 o.path (has_member (g.one).blocks b.one o.path b.is_in (n.1 ∙ ap (λ (z : Origin). z.path) s.origin)) in
      subst (λ z. HasBlock all z o.path) (n.0 ∙ ap (λ (z : Origin). z.chare) s.origin) k

  all_have : (c : ℕ) (qs : List Path) → ((q : Path) → Mem q qs → HasBlock all c q) → AllHave all c qs
  all_have c [] f = tt
  all_have c (q ∷ qs) f = (f q (inl refl), all_have c qs (λ r i. f r (inr i)))

  all_came : (os : List Origin) → ((o : Origin) → Mem o os → HasBlock all o.chare o.path) → AllCame all os
  all_came [] f = tt
  all_came (o ∷ os) f = (f o (inl refl), all_came os (λ r i. f r (inr i)))

  are_linked : (c : ℕ) (xs : List Block) → ((x : Block) → Mem x xs → IsLinked all c x) → AreLinked all c xs
  are_linked c [] f = tt
  are_linked c (x ∷ xs) f = (f x (inl refl), are_linked c xs (λ r i. f r (inr i)))

  linked_at : (c : ℕ) (h : History) → IsAt all c h → AreLinked all c h.blocks
  linked_at c h i = let s = sound_here c h i in are_linked c h.blocks (λ x m. record {
    after = all_have c x.after (λ q k. there c h i q (cause_is_there (λ r. ⊥) h.blocks h.blocks s.causes (λ r a. absurd a) (λ b k. k) x m q k));
    mail = all_came x.mail (λ o k. came c o (s.mail x m o k));
  })

  linked_from : (xs : List History) (k : ℕ) → ((j c : ℕ) (h : History) → c ≡ k + j → IsAt xs j h → IsAt all c h) → AllLinked all k xs
  linked_from [] k f = tt
  linked_from (x ∷ xs) k f = (linked_at k x (f 0 k x (omega arith) refl), linked_from xs (k + 1) (λ j c h q i. f (suc j) c h (omega arith) i))

pub linked : (hs : List History) → LooksClosed hs → AllLinked hs 0 hs
linked hs l = linked_from hs l.sound hs 0 (λ j c h q i. let e : j ≡ c = omega arith in subst (λ z. IsAt hs z h) e i)
