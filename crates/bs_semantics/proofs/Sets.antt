-- Growth and the depth lemma for the histories of many chares.
use Rattle.std.proofs.Common.{◌≤◌, ◌⊎◌, inl, inr, ℕ, List, [], ◌∷◌, refl, subst, map, arith, le_refl}
use Rattle.bs_tree.specs.declared.tree.Program.{Program}
use Rattle.bs_log.specs.declared.history.Block.{Block}
use Rattle.bs_log.specs.declared.history.Message.{Message}
use Rattle.bs_log.specs.declared.history.History.{History}
use Rattle.bs_semantics.specs.Run.{Lookup, run, history}
use Rattle.bs_log.specs.Size.{block_size, size, size_all}
use Rattle.bs_log.specs.Lists.{Mem, Apart, Each}
use Rattle.bs_log.specs.Sound.{Once}
use Rattle.bs_log.specs.Messages.{one_key, one_asked, sends_of, sent}
use Rattle.bs_semantics.specs.Growth.{Subsequence, none, PartOf, HistoryWithin}
use Rattle.bs_semantics.specs.Depth.{HoldsBelow}
use Rattle.bs_semantics.proofs.Subsequences.{beside, not_longer, apart}
use Rattle.bs_semantics.proofs.Sizes.{less}
use Rattle.bs_semantics.proofs.Growth.{grows_whole}
use Rattle.bs_semantics.proofs.Members.{mem_left, mem_right, mem_cases}
use Rattle.bs_semantics.proofs.Depth.{run_deep}
use Rattle.bs_semantics.proofs.Signed.{run_signed}
use Rattle.std.proofs.lemmas.List.Sums.{sum_by-cons}

size_grows : (g h : History) → HistoryWithin g h → size g ≤ size h
size_grows g h b =
    let one = less block_size g.blocks h.blocks b.blocks in
    let two = not_longer g.asked h.asked b.asked in
    let three = not_longer g.traps h.traps b.traps in
    omega (arith, one, two, three)

in_sends : (m : Message) (xs : List Block) → Mem m (sends_of xs) → (x : Block) × Mem x xs × Mem m x.sends
in_sends m [] i = absurd i
in_sends m (x ∷ xs) i = by_side (mem_cases m x.sends (sends_of xs) i) (in_sends m xs)
  where
    by_side : Mem m x.sends ⊎ Mem m (sends_of xs) → (Mem m (sends_of xs) → (y : Block) × Mem y xs × Mem m y.sends) → (y : Block) × Mem y (x ∷ xs) × Mem m y.sends
    by_side (inl i) f = (x, inl refl, i)
    by_side (inr i) f = let h = f i in (h.0, inr h.1, h.2)

into_sends : (m : Message) (x : Block) (xs : List Block) → Mem x xs → Mem m x.sends → Mem m (sends_of xs)
into_sends m x [] i j = absurd i
into_sends m x (y ∷ xs) (inl e) j = mem_left m y.sends (sends_of xs) (subst (λ y. Mem m y.sends) e j)
into_sends m x (y ∷ xs) (inr i) j = mem_right m y.sends (sends_of xs) (into_sends m x xs i j)

module _ (p : Program) (limit : ℕ) where
  abbrev pub under : (ℕ → Lookup) → List ℕ → List History
  under f cs = map (λ c. history p limit c (f c)) cs

  pub record From (f : ℕ → Lookup) (cs : List ℕ) (m : Message) : Type 0 where
    pub chare : ℕ
    pub is_chare : Mem chare cs
    pub block : Block
    pub is_block : Mem block (run p limit chare (f chare)).blocks
    pub is_sent : Mem m block.sends

  pub from_block : (f : ℕ → Lookup) (cs : List ℕ) (m : Message) → Mem m (sent (under f cs)) → From f cs m
  from_block f [] m i = absurd i
  from_block f (c ∷ cs) m i = by_side (mem_cases m (sends_of (history p limit c (f c)).blocks) (sent (under f cs)) i) (from_block f cs m)
    where
      by_side : Mem m (sends_of (history p limit c (f c)).blocks) ⊎ Mem m (sent (under f cs)) → (Mem m (sent (under f cs)) → From f cs m) → From f (c ∷ cs) m
      by_side (inl i) g = let h = in_sends m _ i in record { chare = c; is_chare = inl refl; block = h.0; is_block = h.1; is_sent = h.2 }
      by_side (inr i) g = let h = g i in record { chare = h.chare; is_chare = inr h.is_chare; block = h.block; is_block = h.is_block; is_sent = h.is_sent }

  pub into : (f : ℕ → Lookup) (cs : List ℕ) (m : Message) (c : ℕ) (x : Block) → Mem c cs → Mem x (run p limit c (f c)).blocks → Mem m x.sends → Mem m (sent (under f cs))
  into f [] m c x h i j = absurd h
  into f (b ∷ cs) m c x (inl e) i j = mem_left m _ (sent (under f cs)) (subst (λ b. Mem m (sends_of (run p limit b (f b)).blocks)) e (into_sends m x _ i j))
  into f (b ∷ cs) m c x (inr h) i j = mem_right m (sends_of (run p limit b (f b)).blocks) _ (into f cs m c x h i j)

  module _ (f g : ℕ → Lookup) (w : (c : ℕ) → PartOf (f c) (g c)) where
    pub sent_grows : (cs : List ℕ) → Subsequence Message (sent (under f cs)) (sent (under g cs))
    sent_grows [] = none
    sent_grows (c ∷ cs) = beside _ _ _ _ (grows_whole p limit c (f c) (g c) (w c)).sends (sent_grows cs)

    pub sizes_grow : (cs : List ℕ) → size_all (under f cs) ≤ size_all (under g cs)
    sizes_grow [] = le_refl 0
    sizes_grow (c ∷ cs) =
        let one = size_grows _ _ (grows_whole p limit c (f c) (g c) (w c)) in
        let more = sizes_grow cs in
        let a = sum_by-cons size (history p limit c (f c)) (under f cs) in
        let b = sum_by-cons size (history p limit c (g c)) (under g cs) in
        omega (arith, one, more, a, b)

    pub asked_grows : (cs : List ℕ) → Each (λ h. Apart one_asked h.asked) (under g cs) → Each (λ h. Apart one_asked h.asked) (under f cs)
    asked_grows [] h = tt
    asked_grows (c ∷ cs) h = (apart one_asked _ _ (grows_whole p limit c (f c) (g c) (w c)).asked h.0, asked_grows cs h.1)

    pub once_grows : (cs : List ℕ) → Once (under g cs) → Once (under f cs)
    once_grows cs h = record { sent = apart one_key _ _ (sent_grows cs) h.sent; asked = asked_grows cs h.asked }

    -- what is sent at a depth of at most d under the larger mails is sent under the smaller ones, if these have all that is less deep than d
    pub sent_near : (d : ℕ) → ((c : ℕ) → HoldsBelow d (f c) (g c)) → (cs : List ℕ) (m : Message) → m.origin.depth ≤ d → Mem m (sent (under g cs)) → Mem m (sent (under f cs))
    sent_near d near cs m l i =
        let h = from_block g cs m i in
        let deep = (run_signed p limit h.chare (g h.chare) h.block h.is_block).depth m h.is_sent in
        into f cs m h.chare h.block h.is_chare ((run_deep d (f h.chare) (g h.chare) (w h.chare) (near h.chare) p limit h.chare).blocks h.block h.is_block (subst (λ j. j ≤ d) deep l)) h.is_sent
