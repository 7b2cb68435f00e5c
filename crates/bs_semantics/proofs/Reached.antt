-- What the serial machine model reaches: blocks of the histories, each once; under a Clean round only clean states; and
-- at its end the Clean round itself.
use Rattle.std.proofs.Common.{◌≡◌, ◌≤◌, ◌⊎◌, inl, inr, ℕ, zero, suc, ◌+◌, List, [], ◌∷◌, Ordering, Less, Equal, Greater, refl, sym, ap, ap₂, subst, ◌∙◌, map, arith, nat_cmp}
use Rattle.std.specs.Ordering.{ordering_then}
use Rattle.std.specs.Cmp.{IsTotalOrder}
use Rattle.std.specs.Cmp.Lexicographic.{slice_cmp}
use Rattle.std.proofs.lemmas.Cmp.{tied_itself, nat_cmp_total, nat_list_cmp_total, on_total, then_total}
use Rattle.std.proofs.lemmas.Map.Lookups.{exact_bytes, exact_unsigned}
use Rattle.bs_tree.specs.declared.tree.Program.{Program}
use Rattle.bs_log.specs.declared.history.Message.{Message}
use Rattle.bs_log.specs.declared.history.Block.{Block}
use Rattle.bs_log.specs.declared.outcome.Outcome.{Outcome}
use Rattle.bs_log.specs.Lists.{Mem, InOrder}
use Rattle.bs_log.specs.Messages.{sent}
use Rattle.bs_log.specs.Collected.{traps_from, waits_from}
use Rattle.bs_semantics.specs.Run.{Lookup, history, put_all}
use Rattle.bs_semantics.specs.Rounds.{mail_to, chares, from_to, round, CleanAt}
use Rattle.bs_semantics.specs.Growth.{PartOf}
use Rattle.bs_semantics.specs.Serial.{Machine, Started, Simulated, timed, unclean, Gives, stops, ends, starts, messages, histories_at, find, IsClean, IsEnabled, started_cmp, outcome}
use Rattle.bs_semantics.specs.Starting.{AreBlocks, NoneEnabled, AllIn}
use Rattle.bs_semantics.specs.Reached.{IsReached, begins, goes_on, Placed, blocks_from, placed, Shows}
use Rattle.bs_semantics.proofs.Options.{none_some}
use Rattle.bs_semantics.proofs.Members.{mem_left, mem_right, mem_cases, mem_map, map_of, in_order_both, in_order_map}
use Rattle.bs_semantics.proofs.Subsequences.{member}
use Rattle.bs_semantics.proofs.Growth.{grows_whole}
use Rattle.bs_semantics.proofs.Mails.{part_among}
use Rattle.bs_semantics.proofs.Sets.{under, into}
use Rattle.bs_semantics.proofs.Sorted.{same_sorted, all_sorted, from_all, into_all}
use Rattle.bs_semantics.proofs.Rising.{run_rising, less_first}
use Rattle.bs_semantics.proofs.Confluence.{closed_clean}
use Rattle.bs_semantics.proofs.Find.{finds}
use Rattle.bs_semantics.proofs.Starting.{all_sent, started, stuck_closed, partly}

either_in : (b : Started) (bs : List Started) (zs : List Message) → AllIn b.block.sends zs → AllIn (messages bs) zs → AllIn (messages (b ∷ bs)) zs
either_in b bs zs f g m i = by_side (mem_cases m b.block.sends (messages bs) i)
  where
    by_side : Mem m b.block.sends ⊎ Mem m (messages bs) → Mem m zs
    by_side (inl j) = f m j
    by_side (inr j) = g m j

module _ (p : Program) (limit : ℕ) (m : Machine) where
  enabled_sent : (bs : List Started) (c : ℕ) (x : Block) → IsEnabled p limit bs c x → AllIn x.sends (sent (histories_at p limit bs))
  enabled_sent bs c x e n j = into p limit (mail_to (messages bs)) (chares p) n c x e.chare e.block j

  -- a further block of the histories: all are blocks of the histories under the larger mail
  blocks_more : (bs : List Started) (b : Started) → IsClean p limit bs → IsEnabled p limit bs b.chare b.block → AreBlocks p limit bs → AreBlocks p limit (b ∷ bs)
  blocks_more bs b clean e are d i = by_place i
    where
      more : (c : ℕ) → PartOf (mail_to (messages bs) c) (mail_to (messages (b ∷ bs)) c)
      more = part_among (messages bs) (messages (b ∷ bs)) (sent (histories_at p limit bs)) (clean.once).sent
          (λ n j. mem_right n b.block.sends (messages bs) j)
          (either_in b bs (sent (histories_at p limit bs)) (enabled_sent bs b.chare b.block e) (all_sent p limit bs are))

      grown : (c : ℕ) (x : Block) → Mem x (history p limit c (mail_to (messages bs) c)).blocks → Mem x (history p limit c (mail_to (messages (b ∷ bs)) c)).blocks
      grown c x j = member x _ _ (grows_whole p limit c (mail_to (messages bs) c) (mail_to (messages (b ∷ bs)) c) (more c)).blocks j

      Fits : Started → Type 0
      Fits d = Mem d.chare (chares p) × Mem d.block (history p limit d.chare (mail_to (messages (b ∷ bs)) d.chare)).blocks

      by_place : Mem d (b ∷ bs) → Fits d
      by_place (inl q) = subst Fits (sym q) (e.chare, grown b.chare b.block e.block)
      by_place (inr j) = let a = are d j in (a.0, grown d.chare d.block a.1)

  pub reached_blocks : (bs : List Started) → IsReached p limit m bs → AreBlocks p limit bs
  reached_blocks _ begins b i = absurd i
  reached_blocks _ (goes_on bs b r clean next) d i = blocks_more bs b clean next.candidate.enabled (reached_blocks bs r) d i

  then_parts : (o u : Ordering) → ordering_then o u ≡ Equal → (o ≡ Equal) × (u ≡ Equal)
  then_parts Less u e = absurd (cc)
  then_parts Equal u e = (refl, e)
  then_parts Greater u e = absurd (cc)

  -- no block is started twice
  pub apart : (bs : List Started) → IsReached p limit m bs → InOrder (λ x y. started_cmp m x y ≡ Equal → ⊥) bs
  apart _ begins = tt
  apart _ (goes_on bs b r clean next) = ((λ d i e. again d i (then_parts (nat_cmp b.chare d.chare) _ e)), apart bs r)
    where
      again : (d : Started) → Mem d bs → (nat_cmp b.chare d.chare ≡ Equal) × (slice_cmp nat_cmp b.block.path.0 d.block.path.0 ≡ Equal) → ⊥
      again d i e =
          let f = finds bs d i in
          let same : find bs b.chare b.block.path.0 ≡ find bs d.chare d.block.path.0 = ap₂ (find bs) (exact_unsigned _ _ e.0) (exact_bytes _ _ e.1) in
          none_some (sym next.candidate.enabled.fresh ∙ same ∙ f.is)

  -- under a Clean round all that is sent is sent in it
  pub reached_sent : (n : ℕ) → CleanAt p limit n → (bs : List Started) → IsReached p limit m bs → AllIn (messages bs) (sent (round p limit n))
  reached_sent n h _ begins k i = absurd i
  reached_sent n h _ (goes_on bs b r clean next) k i =
      let before = reached_sent n h bs r in
      let w = partly p limit n (messages bs) h before in
      either_in b bs (sent (round p limit n)) (λ k j. member k _ _ w.sends (enabled_sent bs b.chare b.block next.candidate.enabled k j)) before k i

  pub reached_clean : (n : ℕ) → CleanAt p limit n → (bs : List Started) → IsReached p limit m bs → IsClean p limit bs
  reached_clean n h bs r = let w = partly p limit n (messages bs) h (reached_sent n h bs r) in record { size = w.size; once = w.once }

  -- the last state of the model
  pub record LastState (r : Simulated) : Type 0 where
    pub state : List Started
    pub reached : IsReached p limit m state
    pub is : ((IsClean p limit state → ⊥) × (r ≡ unclean)) ⊎ (IsClean p limit state × NoneEnabled p limit state × (r ≡ timed (outcome m p limit state)))

  pub last_state : (bs : List Started) (r : Simulated) → IsReached p limit m bs → Gives p limit m bs r → LastState r
  last_state _ _ h (stops bs not_clean) = record { state = bs; reached = h; is = inl (not_clean, refl) }
  last_state _ _ h (ends bs clean none) = record { state = bs; reached = h; is = inr (clean, none, refl) }
  last_state _ _ h (starts bs b r clean next rest) = last_state (b ∷ bs) r (goes_on bs b h clean next) rest

  pub never_unclean : (n : ℕ) → CleanAt p limit n → Gives p limit m [] unclean → ⊥
  never_unclean n h g = by_case l.is
    where
      l : LastState unclean
      l = last_state [] unclean begins g

      by_case : ((IsClean p limit l.state → ⊥) × (unclean ≡ unclean)) ⊎ (IsClean p limit l.state × NoneEnabled p limit l.state × (unclean ≡ timed (outcome m p limit l.state))) → ⊥
      by_case (inl e) = e.0 (reached_clean n h l.state l.reached)
      by_case (inr e) = let q = e.2 in absurd (cc)

-- ---- the blocks of histories in order

abbrev pub placed_cmp : Placed → Placed → Ordering
placed_cmp a b = ordering_then (nat_cmp a.chare b.chare) (slice_cmp nat_cmp a.block.path.0 b.block.path.0)

pub placed_total : IsTotalOrder placed_cmp
placed_total = then_total (on_total (λ (a : Placed). a.chare) nat_cmp_total) (on_total (λ (a : Placed). a.block.path.0) nat_list_cmp_total)

least_of : (c n d : ℕ) → Mem d (from_to c n) → c ≤ d
least_of c zero d i = absurd i
least_of c (suc n) d (inl e) = omega (arith, e)
least_of c (suc n) d (inr i) = let l = least_of (c + 1) n d i in omega (arith, l)

module _ (p : Program) (limit : ℕ) (f : ℕ → Lookup) where
  pub record IsPlaced (c n : ℕ) (a : Placed) : Type 0 where
    pub chare : Mem a.chare (from_to c n)
    pub block : Mem a.block (history p limit a.chare (f a.chare)).blocks

  abbrev blocks_at : ℕ → List Placed
  blocks_at c = map (λ x. record { chare = c; block = x }) (history p limit c (f c)).blocks

  at_one : (c : ℕ) (a : Placed) → Mem a (blocks_at c) → (a.chare ≡ c) × Mem a.block (history p limit c (f c)).blocks
  at_one c a i =
      let m = map_of (λ x. record { chare = c; block = x }) (history p limit c (f c)).blocks a i in
      (ap (λ a. a.chare) m.is, subst (λ x. Mem x (history p limit c (f c)).blocks) (ap (λ a. a.block) (sym m.is)) m.is_in)

  pub is_placed : (n c : ℕ) (a : Placed) → Mem a (blocks_from c (under p limit f (from_to c n))) → IsPlaced c n a
  is_placed zero c a i = absurd i
  is_placed (suc n) c a i = by_side (mem_cases a (blocks_at c) (blocks_from (c + 1) (under p limit f (from_to (c + 1) n))) i) (is_placed n (c + 1) a)
    where
      by_side : Mem a (blocks_at c) ⊎ Mem a (blocks_from (c + 1) (under p limit f (from_to (c + 1) n))) → (Mem a (blocks_from (c + 1) (under p limit f (from_to (c + 1) n))) → IsPlaced (c + 1) n a) → IsPlaced c (suc n) a
      by_side (inl j) g = let o = at_one c a j in record { chare = inl o.0; block = subst (λ c. Mem a.block (history p limit c (f c)).blocks) (sym o.0) o.1 }
      by_side (inr j) g = let h = g j in record { chare = inr h.chare; block = h.block }

  pub place_in : (n c : ℕ) (a : Placed) → Mem a.chare (from_to c n) → Mem a.block (history p limit a.chare (f a.chare)).blocks → Mem a (blocks_from c (under p limit f (from_to c n)))
  place_in zero c a i j = absurd i
  place_in (suc n) c a (inl e) j =
      mem_left a (blocks_at c) (blocks_from (c + 1) (under p limit f (from_to (c + 1) n)))
      (subst (λ c. Mem a (blocks_at c)) e (mem_map (λ x. record { chare = a.chare; block = x }) a.block (history p limit a.chare (f a.chare)).blocks j))
  place_in (suc n) c a (inr i) j = mem_right a (blocks_at c) (blocks_from (c + 1) (under p limit f (from_to (c + 1) n))) (place_in n (c + 1) a i j)

  rise_at : (c : ℕ) → InOrder (λ a b. placed_cmp a b ≡ Less) (blocks_at c)
  rise_at c = in_order_map (λ x. record { chare = c; block = x }) (λ x y. slice_cmp nat_cmp x.path.0 y.path.0 ≡ Less) (λ a b. placed_cmp a b ≡ Less)
      (λ x y e. ap (λ o. ordering_then o (slice_cmp nat_cmp x.path.0 y.path.0)) (tied_itself nat_cmp_total c) ∙ e)
      (history p limit c (f c)).blocks (run_rising p limit c (f c))

  rise_from : (n c : ℕ) → InOrder (λ a b. placed_cmp a b ≡ Less) (blocks_from c (under p limit f (from_to c n)))
  rise_from zero c = tt
  rise_from (suc n) c = in_order_both (λ a b. placed_cmp a b ≡ Less) (blocks_at c) (blocks_from (c + 1) (under p limit f (from_to (c + 1) n))) (rise_at c) (rise_from n (c + 1))
      (λ a b i j.
      let o = (at_one c a i).0 in
      let l = least_of (c + 1) n b.chare (is_placed n (c + 1) b j).chare in
      ap (λ r. ordering_then r (slice_cmp nat_cmp a.block.path.0 b.block.path.0)) (less_first a.chare b.chare (omega (arith, o, l))))

-- ---- at the end

module _ (p : Program) (limit : ℕ) (m : Machine) (bs : List Started) (r : IsReached p limit m bs) where
  abbrev in_order : List Started
  in_order = put_all (started_cmp m) bs []

  pub started_total : IsTotalOrder (started_cmp m)
  started_total = then_total (on_total (λ (b : Started). b.chare) nat_cmp_total) (on_total (λ (b : Started). b.block.path.0) nat_list_cmp_total)

  started_rise : InOrder (λ a b. placed_cmp a b ≡ Less) (map placed in_order)
  started_rise = in_order_map placed (λ a b. started_cmp m a b ≡ Less) (λ a b. placed_cmp a b ≡ Less) (λ a b e. e) in_order (all_sorted (started_cmp m) started_total bs)

  -- each started block is a block of the histories, in its place
  pub in_place : (b : Started) → Mem b bs → Mem (placed b) (blocks_from 0 (histories_at p limit bs))
  in_place b i = let k = reached_blocks p limit m bs r b i in place_in p limit (mail_to (messages bs)) p.chares 0 (placed b) k.0 k.1

  is_block : (a : Placed) → Mem a (map placed in_order) → Mem a (blocks_from 0 (histories_at p limit bs))
  is_block a i =
      let o = map_of placed in_order a i in
      subst (λ a. Mem a (blocks_from 0 (histories_at p limit bs))) (sym o.is) (in_place o.from (from_all (started_cmp m) started_total bs o.from o.is_in))

  -- and where none can be started, each block of the histories is started
  is_begun : NoneEnabled p limit bs → (a : Placed) → Mem a (blocks_from 0 (histories_at p limit bs)) → Mem a (map placed in_order)
  is_begun none a i =
      let q = is_placed p limit (mail_to (messages bs)) p.chares 0 a i in
      let s = started p limit bs (reached_blocks p limit m bs r) none a.chare q.chare a.block q.block in
      let same : placed s.started ≡ a = λ k. record { chare = s.chare k; block = s.block k } in
      subst (λ a. Mem a (map placed in_order)) same (mem_map placed s.started in_order (into_all (started_cmp m) started_total bs (apart p limit m bs r) s.started s.is_in))

  all_placed : NoneEnabled p limit bs → map placed in_order ≡ blocks_from 0 (histories_at p limit bs)
  all_placed none = same_sorted placed_cmp placed_total _ _ started_rise (rise_from p limit (mail_to (messages bs)) p.chares 0) is_block (is_begun none)

  pub shows_round : IsClean p limit bs → NoneEnabled p limit bs → (n : ℕ) × CleanAt p limit n × Shows p limit m n (outcome m p limit bs)
  shows_round clean none =
      let c = closed_clean p limit (histories_at p limit bs) (stuck_closed p limit bs (reached_blocks p limit m bs r) none clean) in (
        c.0,
        c.1,
        record {
          started = in_order;
          blocks = all_placed none ∙ ap (blocks_from 0) c.2;
          rows = refl;
          traps = ap (traps_from 0) c.2;
          waits = ap (waits_from 0) c.2;
        },
      )

pub timed_shows : (p : Program) (limit : ℕ) (m : Machine) (o : Outcome) → Gives p limit m [] (timed o) → (n : ℕ) × CleanAt p limit n × Shows p limit m n o
timed_shows p limit m o g = by_case l.is
  where
    l : LastState p limit m (timed o)
    l = last_state p limit m [] (timed o) begins g

    by_case : ((IsClean p limit l.state → ⊥) × (timed o ≡ unclean)) ⊎ (IsClean p limit l.state × NoneEnabled p limit l.state × (timed o ≡ timed (outcome m p limit l.state))) → (n : ℕ) × CleanAt p limit n × Shows p limit m n o
    by_case (inl e) = let q = e.1 in absurd (cc)
    by_case (inr e) = let q = e.2 in let same : outcome m p limit l.state ≡ o = cc in
        subst (λ o. (n : ℕ) × CleanAt p limit n × Shows p limit m n o) same (shows_round p limit m l.state l.reached e.0 e.1)
