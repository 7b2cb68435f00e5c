-- What is sent newly, where the earlier blocks are among the blocks.
use Rattle.std.proofs.Common.{◌≡◌, ◌⊎◌, inl, inr, ℕ, ◌+◌, Bool, true, false, if◌then◌else◌, List, [], ◌∷◌, ◌++◌, refl, sym, ap, ap₂, subst, append_assoc, ◌∙◌, ◌≤◌, ◌<◌, length, get_or, drop, arith}
use Rattle.std.proofs.lemmas.Cmp.{tied_itself, nat_list_cmp_total}
use Rattle.std.proofs.lemmas.List.{drop_more, length-drop, drop-drop}
use Rattle.std.specs.Cmp.Lexicographic.{slice_cmp}
use Rattle.std.specs.Ordering.{nat_cmp}
use Rattle.bs_tree.specs.declared.tree.Program.{Program}
use Rattle.bs_tree.specs.declared.tree.Path.{Path}
use Rattle.bs_log.specs.declared.history.Message.{Message}
use Rattle.bs_log.specs.declared.history.Block.{Block}
use Rattle.bs_log.specs.Messages.{same_path, sends_of}
use Rattle.bs_log.specs.Lists.{Mem}
use Rattle.bs_log.specs.Paths.{IsBelow}
use Rattle.bs_log.specs.Rising.{Rising}
use Rattle.bs_log.proofs.ClosedTests.{same_path_is}
use Rattle.bs_semantics.specs.Acts.{Parcel}
use Rattle.bs_semantics.specs.Run.{Lookup, signed, history}
use Rattle.bs_semantics.specs.Growth.{Subsequence, none, keep, skip, PartOf}
use Rattle.bs_semantics.proofs.Growth.{grows_whole}
use Rattle.bs_semantics.proofs.Rising.{run_rising}
use Rattle.bs_semantics.proofs.Signed.{run_signed}
use Rattle.bs_semantics.proofs.Members.{mem_left, mem_right, mem_cases}
use Rattle.bs_semantics.proofs.Subsequences.{whole, empty, beside, member}
use Rattle.bs_chare.specs.News.{AreNews, is_head, fresh}

-- what a block sends is signed by its path
abbrev pub HasItsPath : Block → Type 0
HasItsPath b = (m : Message) → Mem m b.sends → m.origin.path ≡ b.path

-- one of some blocks sends this message
record SentBy (bs : List Block) (m : Message) : Type 0 where
  block : Block
  is_in : Mem block bs
  sends : Mem m block.sends

sent_later : (b : Block) (bs : List Block) (m : Message) → SentBy bs m → SentBy (b ∷ bs) m
sent_later b bs m s = record { block = s.block; is_in = inr s.is_in; sends = s.sends }

sent_by : (bs : List Block) (m : Message) → Mem m (sends_of bs) → SentBy bs m
sent_by [] m i = absurd i
sent_by (b ∷ bs) m i = by_side (mem_cases m b.sends (sends_of bs) i) (sent_by bs m)
  where
    by_side : Mem m b.sends ⊎ Mem m (sends_of bs) → (Mem m (sends_of bs) → SentBy bs m) → SentBy (b ∷ bs) m
    by_side (inl j) f = record { block = b; is_in = inl refl; sends = j }
    by_side (inr j) f = sent_later b bs m (f j)

not_itself : (p : Path) → IsBelow p.0 p.0 → ⊥
not_itself p h = let e = tied_itself nat_list_cmp_total p.0 in cc

-- a block and later ones send nothing in common
parted : (b : Block) (bs : List Block) → ((c : Block) → Mem c bs → IsBelow b.path.0 c.path.0) → HasItsPath b → ((c : Block) → Mem c bs → HasItsPath c) → (m : Message) → Mem m b.sends → Mem m (sends_of bs) → ⊥
parted b bs low s f m i j = by_sender (sent_by bs m j)
  where
    by_sender : SentBy bs m → ⊥
    by_sender t = let e : t.block.path ≡ b.path = sym (f t.block t.is_in m t.sends) ∙ s m i in not_itself b.path (subst (λ q. IsBelow b.path.0 q.0) e (low t.block t.is_in))

pub none_before : (bs : List Block) → fresh [] bs ≡ sends_of bs
none_before [] = refl
none_before (b ∷ bs) = ap (λ ms. b.sends ++ ms) (none_before bs)

-- the sends of all of one list, with news among those of the rest
module _ (b : Block) (before sent ms : List Message) where
  known : ((m : Message) → Mem m b.sends → Mem m sent → ⊥) → AreNews before sent ms → AreNews (b.sends ++ before) (b.sends ++ sent) ms
  known apart n = record {
    order = beside [] b.sends ms sent (empty b.sends) n.order;
    unsent = λ m i j. by_side m i (mem_cases m b.sends before j);
    all = λ m i. either m (mem_cases m b.sends sent i);
  }
    where
      by_side : (m : Message) → Mem m ms → Mem m b.sends ⊎ Mem m before → ⊥
      by_side m i (inl j) = apart m j (member m ms sent n.order i)
      by_side m i (inr j) = n.unsent m i j

      later : (m : Message) → Mem m before ⊎ Mem m ms → Mem m (b.sends ++ before) ⊎ Mem m ms
      later m (inl j) = inl (mem_right m b.sends before j)
      later m (inr j) = inr j

      either : (m : Message) → Mem m b.sends ⊎ Mem m sent → Mem m (b.sends ++ before) ⊎ Mem m ms
      either m (inl j) = inl (mem_left m b.sends before j)
      either m (inr j) = later m (n.all m j)

  unknown : ((m : Message) → Mem m b.sends → Mem m before → ⊥) → AreNews before sent ms → AreNews before (b.sends ++ sent) (b.sends ++ ms)
  unknown apart n = record {
    order = beside b.sends b.sends ms sent (whole b.sends) n.order;
    unsent = λ m i j. by_side m j (mem_cases m b.sends ms i);
    all = λ m i. either m (mem_cases m b.sends sent i);
  }
    where
      by_side : (m : Message) → Mem m before → Mem m b.sends ⊎ Mem m ms → ⊥
      by_side m j (inl i) = apart m i j
      by_side m j (inr i) = n.unsent m i j

      later : (m : Message) → Mem m before ⊎ Mem m ms → Mem m before ⊎ Mem m (b.sends ++ ms)
      later m (inl j) = inl j
      later m (inr j) = inr (mem_right m b.sends ms j)

      either : (m : Message) → Mem m b.sends ⊎ Mem m sent → Mem m before ⊎ Mem m (b.sends ++ ms)
      either m (inl j) = inr (mem_left m b.sends ms j)
      either m (inr j) = later m (n.all m j)

pub all_are_news : (ms : List Message) → AreNews [] ms ms
all_are_news ms = record { order = whole ms; unsent = λ m i j. j; all = λ m i. inr i }

same_itself : (p : Path) → same_path p p ≡ true
same_itself p = (same_path_is p p).1 refl

not_below : (p q : Path) → IsBelow q.0 p.0 → same_path p q ≡ false
not_below p q h = by_test (same_path p q) refl
  where
    by_test : (t : Bool) → same_path p q ≡ t → t ≡ false
    by_test false e = refl
    by_test true e = absurd (not_itself p (subst (λ r. IsBelow r.0 p.0) (sym ((same_path_is p q).0 e)) h))

-- a subsequence's sends are among the sends
sends_among : (xs ys : List Block) → Subsequence Block xs ys → (m : Message) → Mem m (sends_of xs) → Mem m (sends_of ys)
sends_among _ _ none m i = i
sends_among _ _ (keep x xs ys h) m i = by_side (mem_cases m x.sends (sends_of xs) i) (sends_among xs ys h m)
  where
    by_side : Mem m x.sends ⊎ Mem m (sends_of xs) → (Mem m (sends_of xs) → Mem m (sends_of ys)) → Mem m (x.sends ++ sends_of ys)
    by_side (inl j) f = mem_left m x.sends (sends_of ys) j
    by_side (inr j) f = mem_right m x.sends (sends_of ys) (f j)
sends_among _ _ (skip y xs ys h) m i = mem_right m y.sends (sends_of ys) (sends_among xs ys h m i)

pub fresh_is : (xs ys : List Block) → Subsequence Block xs ys → Rising ys → ((b : Block) → Mem b ys → HasItsPath b) → AreNews (sends_of xs) (sends_of ys) (fresh xs ys)
fresh_is _ _ none r f = all_are_news []
fresh_is _ _ (keep x xs ys h) r f = by_test (same_path x.path x.path) (same_itself x.path) (known x (sends_of xs) (sends_of ys) (fresh xs ys) (parted x ys r.0 (f x (inl refl)) (λ c i. f c (inr i))) (fresh_is xs ys h r.1 (λ c i. f c (inr i))))
  where
    by_test : (t : Bool) → t ≡ true → AreNews (x.sends ++ sends_of xs) (x.sends ++ sends_of ys) (fresh xs ys) → AreNews (x.sends ++ sends_of xs) (x.sends ++ sends_of ys) (if t then fresh xs ys else x.sends ++ fresh (x ∷ xs) ys)
    by_test true e n = n
    by_test false e n = absurd (cc)
fresh_is _ _ (skip y [] ys h) r f = subst (AreNews [] (sends_of (y ∷ ys))) (sym (none_before (y ∷ ys))) (all_are_news (sends_of (y ∷ ys)))
fresh_is _ _ (skip y (x ∷ xs) ys h) r f = by_test (same_path x.path y.path) (not_below x.path y.path (r.0 x (member x (x ∷ xs) ys h (inl refl))))
    (unknown y (sends_of (x ∷ xs)) (sends_of ys) (fresh (x ∷ xs) ys) (λ m i j. parted y ys r.0 (f y (inl refl)) (λ c i. f c (inr i)) m i (sends_among (x ∷ xs) ys h m j)) (fresh_is (x ∷ xs) ys h r.1 (λ c i. f c (inr i))))
  where
    by_test : (t : Bool) → t ≡ false → AreNews (sends_of (x ∷ xs)) (sends_of (y ∷ ys)) (y.sends ++ fresh (x ∷ xs) ys) → AreNews (sends_of (x ∷ xs)) (sends_of (y ∷ ys)) (if t then fresh xs ys else y.sends ++ fresh (x ∷ xs) ys)
    by_test true e n = absurd (cc)
    by_test false e n = n

-- ---- of a chare

signed_path : (this : ℕ) (path : List ℕ) (d k : ℕ) (ps : List Parcel) (m : Message) → Mem m (signed this path d k ps) → m.origin.path ≡ record { 0 = path }
signed_path this path d k [] m i = absurd i
signed_path this path d k (p ∷ ps) m (inl e) = ap (λ m. m.origin.path) e
signed_path this path d k (p ∷ ps) m (inr i) = signed_path this path d (k + 1) ps m i

has_its_path : (this : ℕ) (b : Block) (ps : List Parcel) → b.sends ≡ signed this b.path.0 b.depth 1 ps → HasItsPath b
has_its_path this b ps e m i = signed_path this b.path.0 b.depth 1 ps m (subst (Mem m) e i)

pub history_news : (p : Program) (limit c : ℕ) (a b : Lookup) → PartOf a b → AreNews (sends_of (history p limit c a).blocks) (sends_of (history p limit c b).blocks) (fresh (history p limit c a).blocks (history p limit c b).blocks)
history_news p limit c a b w = fresh_is _ _ (grows_whole p limit c a b w).blocks (run_rising p limit c b) (λ x i. let s = run_signed p limit c b x i in has_its_path c x s.parcels s.sends)

-- ---- the walk in step

-- the loop's item is the head of what is left
pub next_block : (bs : List Block) (i : ℕ) (b : Block) → i < length bs → b ≡ get_or bs i b → drop i bs ≡ b ∷ drop (i + 1) bs
next_block bs i b l e = drop_more bs i b l ∙ ap (λ y. y ∷ drop (i + 1) bs) (sym e)

pub fresh_known : (xs : List Block) (b : Block) (bs : List Block) → is_head xs b ≡ true → fresh xs (b ∷ bs) ≡ fresh (drop 1 xs) bs
fresh_known xs b bs e = by_test (is_head xs b) e
  where
    by_test : (t : Bool) → t ≡ true → (if t then fresh (drop 1 xs) bs else b.sends ++ fresh xs bs) ≡ fresh (drop 1 xs) bs
    by_test true e = refl
    by_test false e = absurd (cc)

pub fresh_unknown : (xs : List Block) (b : Block) (bs : List Block) → is_head xs b ≡ false → fresh xs (b ∷ bs) ≡ b.sends ++ fresh xs bs
fresh_unknown xs b bs e = by_test (is_head xs b) e
  where
    by_test : (t : Bool) → t ≡ false → (if t then fresh (drop 1 xs) bs else b.sends ++ fresh xs bs) ≡ b.sends ++ fresh xs bs
    by_test false e = refl
    by_test true e = absurd (cc)

head_there : (xs : List Block) (b : Block) → is_head xs b ≡ true → 1 ≤ length xs
head_there [] b e = absurd (cc)
head_there (x ∷ xs) b e = omega arith

pub still_within : (xs : List Block) (i : ℕ) (b : Block) → i ≤ length xs → is_head (drop i xs) b ≡ true → i + 1 ≤ length xs
still_within xs i b l e = let h = head_there (drop i xs) b e in let d = length-drop i xs in omega (arith, l, h, d)

module _ (xs : List Block) (b : Block) (left rest : List Block) (sent sent' all : List Message) (k k' : ℕ) (next : left ≡ b ∷ rest) (within : k ≤ length xs) (so_far : sent ++ fresh (drop k xs) left ≡ all) where
  pub step_known : is_head (drop k xs) b ≡ true → k' ≡ k + 1 → sent' ≡ sent → record { within : k' ≤ length xs; so_far : sent' ++ fresh (drop k' xs) rest ≡ all }
  step_known t ke se = record {
    within = subst (λ n. n ≤ length xs) (sym ke) (still_within xs k b within t);
    so_far = ap₂ (λ s n. s ++ fresh (drop n xs) rest) se ke
        ∙ (ap (λ ys. sent ++ fresh ys rest) (sym (drop-drop 1 k xs))
        ∙ (ap (λ ms. sent ++ ms) (sym (fresh_known (drop k xs) b rest t))
        ∙ (ap (λ ys. sent ++ fresh (drop k xs) ys) (sym next) ∙ so_far)));
  }

  pub step_unknown : is_head (drop k xs) b ≡ false → k' ≡ k → (sends : List Message) → sent' ≡ sent ++ sends → sends ≡ b.sends → record { within : k' ≤ length xs; so_far : sent' ++ fresh (drop k' xs) rest ≡ all }
  step_unknown t ke sends se e = record {
    within = subst (λ n. n ≤ length xs) (sym ke) within;
    so_far = ap₂ (λ s n. s ++ fresh (drop n xs) rest) (se ∙ ap (λ ms. sent ++ ms) e) ke
        ∙ (append_assoc sent b.sends (fresh (drop k xs) rest)
        ∙ (ap (λ ms. sent ++ ms) (sym (fresh_unknown (drop k xs) b rest t))
        ∙ (ap (λ ys. sent ++ fresh (drop k xs) ys) (sym next) ∙ so_far)));
  }
