-- The causes and the depths of the rows of closed histories.
use Rattle.std.proofs.Common.{◌≡◌, ◌⊎◌, inl, inr, ℕ, zero, suc, ◌+◌, List, [], ◌∷◌, Some, refl, sym, ap, subst, ◌∙◌, length, map, max, arith}
use Rattle.std.specs.List.{fold}
use Rattle.bs_log.specs.declared.history.Sent.{Sent}
use Rattle.bs_log.specs.declared.history.Origin.{Origin}
use Rattle.bs_log.specs.declared.history.Message.{Message}
use Rattle.bs_log.specs.declared.history.Block.{Block}
use Rattle.bs_log.specs.declared.history.History.{History}
use Rattle.bs_log.specs.declared.log.MailRef.{MailRef}
use Rattle.bs_log.specs.declared.log.Row.{Row}
use Rattle.bs_log.specs.declared.log.Log.{Log}
use Rattle.bs_log.specs.ClosedTest.{LooksClosed}
use Rattle.bs_log.specs.Collected.{number_of, mail_ref, row_of, rows_from, traps_from, waits_from}
use Rattle.bs_log.specs.Linked.{IsAt, HasBlock}
use Rattle.bs_log.specs.Valid.{numbered, Holds, row_depth, deepest, IsBlockCause, IsMailCause}
use Rattle.bs_log.specs.Lists.{Mem}
use Rattle.bs_log.specs.Paths.{IsBelow}
use Rattle.bs_log.specs.Rising.{Rising}
use Rattle.bs_log.specs.Sound.{Numbered, SentTo}
use Rattle.bs_log.proofs.ClosedTests.{its_history, its_block}
use Rattle.bs_log.proofs.Links.{has_member, place_of_member, sound_here, there}
use Rattle.bs_log.proofs.Order.{earlier_path, map_member}
use Rattle.bs_semantics.specs.Run.{greatest}
use Rattle.bs_semantics.specs.Orderly.{EachRestsOn}
use Rattle.bs_logtext.proofs.Rows.{At, numbered_at, row_is}

-- the log of histories, with its parts in sight
abbrev pub log_here : List History → ℕ → Log
log_here hs entries = record { chares = length hs; entries = entries; rows = rows_from hs 0 hs; traps = traps_from 0 hs; waits = waits_from 0 hs }

-- the block causes of a block, which are earlier blocks, and its depth
pub record Caused (bs : List Block) (x : Block) : Type 0 where
  pub causes : List Block
  pub known : (b : Block) → Mem b causes → Mem b bs × IsBelow b.path.0 x.path.0
  pub after : x.after ≡ map (λ b. b.path) causes
  pub depth : x.depth ≡ suc (max (greatest (λ b. b.depth) causes) (greatest (λ o. o.depth) x.mail))

pub caused : (P : Block → Type 0) (xs all : List Block) → EachRestsOn P xs → Rising xs → ((b : Block) → P b → Mem b all × ((y : Block) → Mem y xs → IsBelow b.path.0 y.path.0)) → ((b : Block) → Mem b xs → Mem b all)
    → (x : Block) → Mem x xs → Caused all x
caused P [] all e r f g x m = absurd m
caused P (y ∷ ys) all e r f g x (inl q) = subst (Caused all) (sym q) (record {
  causes = (e.0).causes;
  known = λ b m. let k = f b ((e.0).known b m) in (k.0, k.1 y (inl refl));
  after = (e.0).after;
  depth = (e.0).depth;
})
caused P (y ∷ ys) all e r f g x (inr m) = caused (λ b. (b ≡ y) ⊎ P b) ys all e.1 r.1 step (λ b k. g b (inr k)) x m
  where
    step : (b : Block) → (b ≡ y) ⊎ P b → Mem b all × ((z : Block) → Mem z ys → IsBelow b.path.0 z.path.0)
    step b (inl q) = subst (λ (w : Block). Mem w all × ((z : Block) → Mem z ys → IsBelow w.path.0 z.path.0)) (sym q) (g y (inl refl), (λ z k. r.0 z k))
    step b (inr p) = let k = f b p in (k.0, (λ z i. k.1 z (inr i)))

-- the greatest of a list, by a fold
greatest_fold : {A B : Type 0} (f : B → ℕ) (g : A → B) (e : A → ℕ) (xs : List A) (d : ℕ) → ((a : A) → Mem a xs → f (g a) ≡ e a) → fold (λ d b. max d (f b)) d (map g xs) ≡ max d (greatest e xs)
greatest_fold f g e [] d h = omega arith
greatest_fold f g e (x ∷ xs) d h =
    let more = greatest_fold f g e xs (max d (f (g x))) (λ a m. h a (inr m)) in
    let here = h x (inl refl) in
    omega (arith, more, here)

map_twice : {A B C : Type 0} (f : B → C) (g : A → B) (xs : List A) → map f (map g xs) ≡ map (λ x. f (g x)) xs
map_twice f g [] = refl
map_twice f g (x ∷ xs) = ap (λ ys. f (g x) ∷ ys) (map_twice f g xs)

map_at : {A B : Type 0} (f : A → B) (xs : List A) (i : ℕ) (y : A) → At xs i y → At (map f xs) i (f y)
map_at f [] i y a = absurd a
map_at f (x ∷ xs) zero y a = ap f a
map_at f (x ∷ xs) (suc i) y a = map_at f xs i y a

-- a message of a block by its place
record Placed (c : ℕ) (x : Block) (k : ℕ) (ms : List Message) (m : Message) : Type 0 where
  place : ℕ
  is_at : At ms place m
  chare : c ≡ m.origin.chare
  path : x.path ≡ m.origin.path
  index : m.origin.index ≡ k + place
  depth : x.depth ≡ m.origin.depth

placed : (c : ℕ) (x : Block) (k : ℕ) (ms : List Message) → Numbered c x k ms → (m : Message) → Mem m ms → Placed c x k ms m
placed c x k [] n m i = absurd i
placed c x k (y ∷ ys) n m (inl e) =
    let o = ap (λ (z : Message). z.origin) e ∙ n.0 in
    let number = ap (λ (z : Origin). z.index) o in
    record { place = 0; is_at = sym e; chare = sym (ap (λ (z : Origin). z.chare) o); path = sym (ap (λ (z : Origin). z.path) o); index = omega (arith, number); depth = sym (ap (λ (z : Origin). z.depth) o) }
placed c x k (y ∷ ys) n m (inr i) =
    let r = placed c x (k + 1) ys n.1 m i in
    let number = r.index in
    record { place = suc r.place; is_at = r.is_at; chare = r.chare; path = r.path; index = omega (arith, number); depth = r.depth }

-- the sender of a message cause
record Mailed (hs : List History) (c : ℕ) (o : Origin) : Type 0 where
  history : History
  is_at : IsAt hs o.chare history
  block : Block
  is_in : Mem block history.blocks
  path : block.path ≡ o.path
  depth : block.depth ≡ o.depth
  message : Message
  place : ℕ
  index : o.index ≡ 1 + place
  sends : At block.sends place message
  to : message.sent.to ≡ c

row_facts_depth : (hs : List History) (c : ℕ) (x : Block) → row_depth (Some (row_of hs c x)) ≡ x.depth
unfolding row_of
row_facts_depth hs c x = refl

row_facts_chare : (hs : List History) (c : ℕ) (x : Block) → (row_of hs c x).chare ≡ c
unfolding row_of
row_facts_chare hs c x = refl

row_facts_sends : (hs : List History) (c : ℕ) (x : Block) → (row_of hs c x).sends ≡ map (λ m. m.sent) x.sends
unfolding row_of
row_facts_sends hs c x = refl

module _ (hs : List History) (looks : LooksClosed hs) where
  pub rising_here : (c : ℕ) (h : History) → IsAt hs c h → Rising h.blocks
  rising_here c h t = (sound_here hs looks.sound c h t).rising

  mailed : (c : ℕ) (o : Origin) → SentTo hs c o → Mailed hs c o
  mailed c o s =
      let g = its_history hs s.message s.is_sent in
      let j = place_of_member hs g.one g.is_in in
      let b = its_block (g.one).blocks s.message g.holds in
      let n = placed j.0 b.one 1 (b.one).sends ((sound_here hs looks.sound j.0 g.one j.1).sends b.one b.is_in) s.message b.holds in
      let number = n.index in
      let same = ap (λ (z : Origin). z.index) s.origin in
      record {
        history = g.one;
        is_at = subst (λ z. IsAt hs z g.one) (n.chare ∙ ap (λ (z : Origin). z.chare) s.origin) j.1;
        block = b.one;
        is_in = b.is_in;
        path = n.path ∙ ap (λ (z : Origin). z.path) s.origin;
        depth = n.depth ∙ ap (λ (z : Origin). z.depth) s.origin;
        message = s.message;
        place = n.place;
        index = omega (arith, number, same);
        sends = n.is_at;
        to = s.to;
      }

  sender_row : (c : ℕ) (o : Origin) (m : Mailed hs c o) → numbered (rows_from hs 0 hs) (number_of hs o.chare o.path) ≡ Some (row_of hs o.chare m.block)
  sender_row c o m = subst (λ p. numbered (rows_from hs 0 hs) (number_of hs o.chare p) ≡ Some (row_of hs o.chare m.block)) m.path (row_is hs o.chare m.history m.block m.is_at (rising_here o.chare m.history m.is_at) m.is_in)

  pub mail_cause : (entries c : ℕ) (o : Origin) → SentTo hs c o → IsMailCause (log_here hs entries) c (mail_ref hs o)
  mail_cause entries c o s =
      let m = mailed c o s in
      let number = m.index in
      let at = map_at (λ (z : Message). z.sent) m.block.sends m.place m.message m.sends in
      let found = numbered_at (map (λ (z : Message). z.sent) m.block.sends) o.index m.place m.message.sent (omega (arith, number)) at in
      let here = ap (λ ss. numbered ss o.index) (row_facts_sends hs o.chare m.block) ∙ found in
      let inner = subst (Holds (λ (z : Sent). z.to ≡ c)) (sym here) m.to in
      subst (Holds (λ (r : Row). Holds (λ (z : Sent). z.to ≡ c) (numbered r.sends o.index))) (sym (sender_row c o m)) inner

  mail_depth : (c : ℕ) (o : Origin) → SentTo hs c o → row_depth (numbered (rows_from hs 0 hs) (number_of hs o.chare o.path)) ≡ o.depth
  mail_depth c o s = let m = mailed c o s in ap row_depth (sender_row c o m) ∙ row_facts_depth hs o.chare m.block ∙ m.depth

  module _ (c : ℕ) (h : History) (t : IsAt hs c h) where
    has : (b : Block) → Mem b h.blocks → HasBlock hs c b.path
    has b m = there hs looks.sound c h t b.path (has_member h.blocks b b.path m refl)

    row_here : (b : Block) → Mem b h.blocks → numbered (rows_from hs 0 hs) (number_of hs c b.path) ≡ Some (row_of hs c b)
    row_here b m = row_is hs c h b t (rising_here c h t) m

    pub block_cause : (entries : ℕ) (x : Block) → Mem x h.blocks → Caused h.blocks x → (n : ℕ) → Mem n (map (number_of hs c) x.after) → IsBlockCause (log_here hs entries) (number_of hs c x.path) c n
    block_cause entries x i k n m =
        let s = map_member (λ (b : Block). number_of hs c b.path) k.causes n (subst (Mem n) (ap (map (number_of hs c)) k.after ∙ map_twice (number_of hs c) (λ (b : Block). b.path) k.causes) m) in
        let b = k.known s.one s.is_in in
        subst (IsBlockCause (log_here hs entries) (number_of hs c x.path) c) (sym s.holds) (record {
          earlier = earlier_path hs c (s.one).path x.path (has s.one b.0) (has x i) b.1;
          same_chare = subst (Holds (λ (r : Row). r.chare ≡ c)) (sym (row_here s.one b.0)) (row_facts_chare hs c s.one);
        })

    pub depth_is : (entries : ℕ) (x : Block) → Mem x h.blocks → Caused h.blocks x → x.depth ≡ suc (deepest (log_here hs entries) (row_of hs c x))
    unfolding row_of
    depth_is entries x i k =
        let rows = rows_from hs 0 hs in
        let blocks = greatest_fold (λ n. row_depth (numbered rows n)) (λ (b : Block). number_of hs c b.path) (λ b. b.depth) k.causes 0
        (λ b m. ap row_depth (row_here b (k.known b m).0) ∙ row_facts_depth hs c b) in
        let same = ap (λ ns. fold (λ d n. max d (row_depth (numbered rows n))) 0 ns) (ap (map (number_of hs c)) k.after ∙ map_twice (number_of hs c) (λ (b : Block). b.path) k.causes) in
        let mails = greatest_fold (λ (m : MailRef). row_depth (numbered rows m.row)) (mail_ref hs) (λ o. o.depth) x.mail (fold (λ d n. max d (row_depth (numbered rows n))) 0 (map (number_of hs c) x.after))
        (λ o m. mail_depth c o ((sound_here hs looks.sound c h t).mail x i o m)) in
        let own = k.depth in
        omega (arith, blocks, same, mails, own)
