-- Where no block can be started, the histories are a closed set; and under messages of the Clean round nothing is too
-- long, or sent or asked twice.
use Rattle.std.proofs.Common.{◌≡◌, ◌≤◌, ◌⊎◌, inl, inr, ℕ, List, [], ◌∷◌, Option, Some, None, refl, sym, ap, subst, ◌∙◌, arith}
use Rattle.bs_tree.specs.declared.tree.Program.{Program}
use Rattle.bs_tree.specs.declared.tree.Path.{Path}
use Rattle.bs_log.specs.declared.history.Message.{Message}
use Rattle.bs_log.specs.declared.history.Block.{Block}
use Rattle.bs_log.specs.Size.{size_all}
use Rattle.bs_log.specs.Lists.{Mem}
use Rattle.bs_log.specs.Sound.{Once}
use Rattle.bs_log.specs.Messages.{sent}
use Rattle.bs_semantics.specs.Run.{run, history}
use Rattle.bs_semantics.specs.Rounds.{mail_to, chares, histories, round, SameMessages, CleanAt, Closed}
use Rattle.bs_semantics.specs.Growth.{Subsequence}
use Rattle.bs_semantics.specs.Orderly.{EachRestsOn}
use Rattle.bs_semantics.specs.Serial.{Started, messages, histories_at, find, IsClean}
use Rattle.bs_semantics.specs.Starting.{AreBlocks, NoneEnabled, AllIn, IsWithinRound}
use Rattle.bs_semantics.proofs.Members.{mem_left, mem_right, mem_cases}
use Rattle.bs_semantics.proofs.Growth.{grows_whole}
use Rattle.bs_semantics.proofs.Mails.{part_in}
use Rattle.bs_semantics.proofs.Sets.{from_block, into, sent_grows, sizes_grow, once_grows}
use Rattle.bs_semantics.proofs.Rising.{run_rising}
use Rattle.bs_semantics.proofs.Sorted.{one_at}
use Rattle.bs_semantics.proofs.Rests.{run_earlier}
use Rattle.bs_semantics.proofs.ClosedSets.{path_of, any_order}
use Rattle.bs_semantics.proofs.Confluence.{clean_closed}
use Rattle.bs_semantics.proofs.Find.{found_at, Finds, finds}

pub in_messages : (b : Started) (bs : List Started) (m : Message) → Mem b bs → Mem m b.block.sends → Mem m (messages bs)
in_messages b [] m i j = absurd i
in_messages b (x ∷ bs) m (inl e) j = mem_left m x.block.sends (messages bs) (subst (λ x. Mem m x.block.sends) e j)
in_messages b (x ∷ bs) m (inr i) j = mem_right m x.block.sends (messages bs) (in_messages b bs m i j)

pub record SentBy (bs : List Started) (m : Message) : Type 0 where
  pub started : Started
  pub is_in : Mem started bs
  pub is_sent : Mem m started.block.sends

pub sent_by : (bs : List Started) (m : Message) → Mem m (messages bs) → SentBy bs m
sent_by [] m i = absurd i
sent_by (b ∷ bs) m i = by_side (mem_cases m b.block.sends (messages bs) i) (sent_by bs m)
  where
    by_side : Mem m b.block.sends ⊎ Mem m (messages bs) → (Mem m (messages bs) → SentBy bs m) → SentBy (b ∷ bs) m
    by_side (inl i) f = record { started = b; is_in = inl refl; is_sent = i }
    by_side (inr i) f = let h = f i in record { started = h.started; is_in = inr h.is_in; is_sent = h.is_sent }

-- a block of a chare was started
pub record IsStarted (bs : List Started) (c : ℕ) (x : Block) : Type 0 where
  pub started : Started
  pub is_in : Mem started bs
  pub chare : started.chare ≡ c
  pub block : started.block ≡ x

module _ (p : Program) (limit : ℕ) (bs : List Started) (are : AreBlocks p limit bs) where
  -- what the started blocks send is sent by the histories
  pub all_sent : AllIn (messages bs) (sent (histories_at p limit bs))
  all_sent m i =
      let b = sent_by bs m i in
      let a = are b.started b.is_in in
      into p limit (mail_to (messages bs)) (chares p) m b.started.chare b.started.block a.0 a.1 b.is_sent

  -- a block of a history that is found is that block
  found_block : (c : ℕ) (x : Block) → Mem x (history p limit c (mail_to (messages bs) c)).blocks → (b : Started) → find bs c x.path.0 ≡ Some b → IsStarted bs c x
  found_block c x m b e =
      let f = found_at bs c x.path.0 b e in
      let i : Mem b.block (history p limit c (mail_to (messages bs) c)).blocks = subst (λ c. Mem b.block (history p limit c (mail_to (messages bs) c)).blocks) f.chare (are b f.is_in).1 in
      record { started = b; is_in = f.is_in; chare = f.chare; block = one_at _ (run_rising p limit c (mail_to (messages bs) c)) b.block x i m f.is_there }

  module _ (none : NoneEnabled p limit bs) where
    -- a block whose block causes are started is started
    no_more : (c : ℕ) → Mem c (chares p) → (x : Block) → Mem x (history p limit c (mail_to (messages bs) c)).blocks → ((q : Path) → Mem q x.after → Finds bs c q.0) → IsStarted bs c x
    no_more c i x m causes = by_find (find bs c x.path.0) refl
      where
        by_find : (o : Option Started) → find bs c x.path.0 ≡ o → IsStarted bs c x
        by_find None e = absurd (none c x (record { chare = i; block = m; fresh = e; causes = λ q n. let f = causes q n in (f.started, f.is) }))
        by_find (Some b) e = found_block c x m b e

    -- from the first block on: each one's block causes are started, so it is
    all_started : (c : ℕ) → Mem c (chares p) → (P : Block → Type 0) → ((b : Block) → P b → IsStarted bs c b) → (xs : List Block) → ((x : Block) → Mem x xs → Mem x (history p limit c (mail_to (messages bs) c)).blocks) → EachRestsOn P xs → (x : Block) → Mem x xs → IsStarted bs c x
    all_started c i P f [] g h x m = absurd m
    all_started c i P f (y ∷ xs) g h x m = by_place m (all_started c i (λ b. (b ≡ y) ⊎ P b) step xs (λ z n. g z (inr n)) h.1 x)
      where
        first : IsStarted bs c y
        first = no_more c i y (g y (inl refl)) (λ q n.
            let at = path_of (h.0).causes q (subst (Mem q) (h.0).after n) in
            let s = f at.block ((h.0).known at.block at.is_in) in
            let d = finds bs s.started s.is_in in
            record { started = d.started; is = subst (λ q. find bs c q ≡ Some d.started) (ap (λ b. b.path.0) s.block ∙ ap (λ q. q.0) (sym at.is)) (subst (λ c. find bs c s.started.block.path.0 ≡ Some d.started) s.chare d.is) })

        step : (b : Block) → (b ≡ y) ⊎ P b → IsStarted bs c b
        step b (inl e) = subst (IsStarted bs c) (sym e) first
        step b (inr m) = f b m

        by_place : Mem x (y ∷ xs) → (Mem x xs → IsStarted bs c x) → IsStarted bs c x
        by_place (inl e) r = subst (IsStarted bs c) (sym e) first
        by_place (inr n) r = r n

    pub started : (c : ℕ) → Mem c (chares p) → (x : Block) → Mem x (run p limit c (mail_to (messages bs) c)).blocks → IsStarted bs c x
    started c i x m = all_started c i (λ b. ⊥) (λ b n. absurd n) _ (λ z n. n) (run_earlier p limit c (mail_to (messages bs) c)) x m

    same_sent : SameMessages (messages bs) (sent (histories_at p limit bs))
    same_sent = record {
      of_a = all_sent;
      of_b = λ m i.
          let f = from_block p limit (mail_to (messages bs)) (chares p) m i in
          let s = started f.chare f.is_chare f.block f.is_block in
          in_messages s.started bs m s.is_in (subst (λ x. Mem m x.sends) (sym s.block) f.is_sent);
    }

pub stuck_closed : (p : Program) (limit : ℕ) (bs : List Started) → AreBlocks p limit bs → NoneEnabled p limit bs → IsClean p limit bs → Closed p limit (histories_at p limit bs)
stuck_closed p limit bs are none clean = any_order p limit (messages bs) (histories_at p limit bs) refl clean.once clean.size (same_sent p limit bs are none)

pub partly : (p : Program) (limit n : ℕ) (ms : List Message) → CleanAt p limit n → AllIn ms (sent (round p limit n)) → IsWithinRound p limit n ms
partly p limit n ms h f =
    let all = sent (round p limit n) in
    let c = clean_closed p limit n h in
    let w = part_in ms all (h.once).sent f in
    record {
      each = λ c. grows_whole p limit c (mail_to ms c) (mail_to all c) (w c);
      sends = subst (λ hs. Subsequence Message (sent (histories p limit ms)) (sent hs)) (sym c.same) (sent_grows p limit (mail_to ms) (mail_to all) w (chares p));
      once = once_grows p limit (mail_to ms) (mail_to all) w (chares p) (subst Once c.same h.once);
      size = let one = sizes_grow p limit (mail_to ms) (mail_to all) w (chares p) in let two = subst (λ hs. size_all hs ≤ limit) c.same h.size in omega (arith, one, two);
    }
