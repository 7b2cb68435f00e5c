-- The states that the serial machine model reaches, where the verdict is Clean: which blocks can be started in them.
use Rattle.std.proofs.Common.{◌≡◌, ◌≤◌, inl, inr, ℕ, suc, ◌+◌, ◌-◌, true, if◌then◌else◌, List, [], ◌∷◌, Some, None, sym, ap, ap₂, subst, ◌∙◌, slice_get, arith}
use Rattle.bs_tree.specs.declared.tree.Program.{Program}
use Rattle.bs_log.specs.declared.history.Origin.{Origin}
use Rattle.bs_log.specs.declared.history.Key.{Key}
use Rattle.bs_log.specs.declared.history.Message.{Message}
use Rattle.bs_log.specs.declared.history.Block.{Block}
use Rattle.bs_log.specs.Lists.{Mem}
use Rattle.bs_log.specs.Messages.{is_for, sent}
use Rattle.bs_semantics.specs.Acts.{Parcel}
use Rattle.bs_semantics.specs.Run.{Lookup, signed, history}
use Rattle.bs_semantics.specs.Rounds.{mail_to, chares, histories, round, CleanAt}
use Rattle.bs_semantics.specs.Serial.{Machine, Started, messages, find, IsEnabled}
use Rattle.bs_semantics.specs.Reached.{IsReached, begins, goes_on}
use Rattle.bs_semantics.proofs.Subsequences.{member}
use Rattle.bs_semantics.proofs.Mails.{found, is_for_is, part_in, part_among}
use Rattle.bs_semantics.proofs.Signed.{run_signed}
use Rattle.bs_semantics.proofs.Sets.{From, from_block}
use Rattle.bs_semantics.proofs.Sorted.{one_at}
use Rattle.bs_semantics.proofs.Rising.{run_rising}
use Rattle.bs_semantics.proofs.Rests.{run_came}
use Rattle.bs_semantics.proofs.Find.{found_at, finds}
use Rattle.bs_semantics.proofs.Confluence.{clean_closed}
use Rattle.bs_semantics.proofs.Starting.{in_messages, sent_by, partly}
use Rattle.bs_semantics.proofs.Reached.{reached_blocks, reached_sent}
use Rattle.bs_serial.specs.Times.{IsBegun}
use Rattle.bs_serial.proofs.Caused.{Ready, ready_there}

-- ---- the messages of a block

-- a message of a block of the chare
pub record IsOf (c : ℕ) (x : Block) (m : Message) : Type 0 where
  pub chare : m.origin.chare ≡ c
  pub path : m.origin.path.0 ≡ x.path.0
  pub depth : m.origin.depth ≡ x.depth
  pub least : 1 ≤ m.origin.index
  pub is_there : slice_get x.sends (m.origin.index - 1) ≡ Some m

record AtPlace (this : ℕ) (at : List ℕ) (deep k : ℕ) (ps : List Parcel) (m : Message) : Type 0 where
  chare : m.origin.chare ≡ this
  path : m.origin.path.0 ≡ at
  depth : m.origin.depth ≡ deep
  least : k ≤ m.origin.index
  is_there : slice_get (signed this at deep k ps) (m.origin.index - k) ≡ Some m

at_place : (this : ℕ) (path : List ℕ) (depth k : ℕ) (ps : List Parcel) (m : Message) → Mem m (signed this path depth k ps) → AtPlace this path depth k ps m
at_place this path depth k [] m i = absurd i
at_place this path depth k (p ∷ ps) m (inl e) =
    let index : m.origin.index ≡ k = ap (λ (m : Message). m.origin.index) e in
    let zero : m.origin.index - k ≡ 0 = omega (arith, index) in
    record {
      chare = ap (λ (m : Message). m.origin.chare) e;
      path = ap (λ (m : Message). m.origin.path.0) e;
      depth = ap (λ (m : Message). m.origin.depth) e;
      least = omega (arith, index);
      is_there = ap (slice_get (signed this path depth k (p ∷ ps))) zero ∙ ap Some (sym e);
    }
at_place this path depth k (p ∷ ps) m (inr i) = later (at_place this path depth (k + 1) ps m i)
  where
    later : AtPlace this path depth (k + 1) ps m → AtPlace this path depth k (p ∷ ps) m
    later h =
        let l = h.least in
        let more : m.origin.index - k ≡ suc (m.origin.index - (k + 1)) = omega (arith, l) in
        record {
          chare = h.chare;
          path = h.path;
          depth = h.depth;
          least = omega (arith, l);
          is_there = ap (slice_get (signed this path depth k (p ∷ ps))) more ∙ h.is_there;
        }

pub is_of : (p : Program) (limit c : ℕ) (a : Lookup) (x : Block) → Mem x (history p limit c a).blocks → (m : Message) → Mem m x.sends → IsOf c x m
is_of p limit c a x i m j =
    let s = run_signed p limit c a x i in
    let h = at_place c x.path.0 x.depth 1 s.parcels m (subst (Mem m) s.sends j) in
    record { chare = h.chare; path = h.path; depth = h.depth; least = h.least; is_there = ap (λ ms. slice_get ms (m.origin.index - 1)) s.sends ∙ h.is_there }

-- ---- what was started

pub known : (bs : List Started) (b : Started) (c : ℕ) (path : List ℕ) → Mem b bs → b.chare ≡ c → b.block.path.0 ≡ path → IsBegun bs c path
known bs b c path m e f = let h = finds bs b m in (h.started, ap₂ (find bs) (sym e) (sym f) ∙ h.is)

known_more : (bs : List Started) (d : Started) (c : ℕ) (path : List ℕ) → IsBegun bs c path → IsBegun (d ∷ bs) c path
known_more bs d c path k = let f = found_at bs c path k.0 k.1 in known (d ∷ bs) k.0 c path (inr f.is_in) f.chare f.is_there

-- all causes of a block of the chare were started
abbrev pub AreBegun : List Started → ℕ → Block → Type 0
AreBegun bs c = Ready (λ o. IsBegun bs o.chare o.path.0) (λ q. IsBegun bs c q)

are_more : (bs : List Started) (d : Started) (c : ℕ) (x : Block) → AreBegun bs c x → AreBegun (d ∷ bs) c x
are_more bs d c x k = record { after = λ q i. known_more bs d c q.0 (k.after q i); mail = λ o i. known_more bs d o.chare o.path.0 (k.mail o i) }

module _ (p : Program) (limit n : ℕ) (m : Machine) (clean : CleanAt p limit n) where
  abbrev pub all_sent : List Message
  all_sent = sent (round p limit n)

  -- the blocks of a chare in the Clean round
  abbrev pub blocks_at : ℕ → List Block
  blocks_at c = (history p limit c (mail_to all_sent c)).blocks

  pub same_round : round p limit n ≡ histories p limit all_sent
  same_round = (clean_closed p limit n clean).same

  pub one_block : (c d : ℕ) (x y : Block) → Mem x (blocks_at c) → Mem y (blocks_at d) → c ≡ d → x.path.0 ≡ y.path.0 → x ≡ y
  one_block c d x y i j e f = one_at (blocks_at d) (run_rising p limit d (mail_to all_sent d)) x y (subst (λ c. Mem x (blocks_at c)) e i) j f

  -- where a message comes from
  pub record Comes (c : ℕ) (o : Origin) : Type 0 where
    pub message : Message
    pub chare : Mem o.chare (chares p)
    pub block : Block
    pub is_block : Mem block (blocks_at o.chare)
    pub is_sent : Mem message block.sends
    pub of_block : IsOf o.chare block message
    pub origin : message.origin ≡ o
    pub to : message.sent.to ≡ c

  sender : (m : Message) → Mem m all_sent → From p limit (mail_to all_sent) (chares p) m
  sender m i = from_block p limit (mail_to all_sent) (chares p) m (subst (λ hs. Mem m (sent hs)) same_round i)

  pub comes : (c : ℕ) (x : Block) → Mem x (blocks_at c) → (o : Origin) → Mem o x.mail → Comes c o
  comes c x i o j =
      let k = run_came (mail_to all_sent c) p limit c x i o j in
      let f = found all_sent c k.key k.message k.is_held in
      let s = sender k.message f.0 in
      let of_it = is_of p limit s.chare (mail_to all_sent s.chare) s.block s.is_block k.message s.is_sent in
      let there : s.chare ≡ o.chare = sym of_it.chare ∙ ap (λ (o : Origin). o.chare) k.is_from in
      record {
        message = k.message;
        chare = subst (λ c. Mem c (chares p)) there s.is_chare;
        block = s.block;
        is_block = subst (λ c. Mem s.block (blocks_at c)) there s.is_block;
        is_sent = s.is_sent;
        of_block = subst (λ c. IsOf c s.block k.message) there of_it;
        origin = k.is_from;
        to = (is_for_is c k.key k.message f.1).0;
      }

  module _ (bs : List Started) (r : IsReached p limit m bs) where
    -- started blocks are blocks of the Clean round
    pub in_round : (b : Started) → Mem b bs → Mem b.chare (chares p) × Mem b.block (blocks_at b.chare)
    in_round b i =
        let k = reached_blocks p limit m bs r b i in
        let w = partly p limit n (messages bs) clean (reached_sent p limit m n clean bs r) in
        (k.0, member b.block _ _ (w.each b.chare).blocks k.1)

    -- and so is each block that can be started
    pub enabled_in_round : (c : ℕ) (x : Block) → IsEnabled p limit bs c x → Mem x (blocks_at c)
    enabled_in_round c x e =
        let w = partly p limit n (messages bs) clean (reached_sent p limit m n clean bs r) in
        member x _ _ (w.each c).blocks e.block

    -- all its causes were started
    pub enabled_known : (c : ℕ) (x : Block) → IsEnabled p limit bs c x → AreBegun bs c x
    enabled_known c x e = record { after = λ q i. e.causes q i; mail = mail }
      where
        mail : (o : Origin) → Mem o x.mail → IsBegun bs o.chare o.path.0
        mail o i =
            let k = run_came (mail_to (messages bs) c) p limit c x e.block o i in
            let f = found (messages bs) c k.key k.message k.is_held in
            let s = sent_by bs k.message f.0 in
            let at = reached_blocks p limit m bs r s.started s.is_in in
            let of_it = is_of p limit s.started.chare (mail_to (messages bs) s.started.chare) s.started.block at.1 k.message s.is_sent in
            known bs s.started o.chare o.path.0 s.is_in (sym of_it.chare ∙ ap (λ (o : Origin). o.chare) k.is_from) (sym of_it.path ∙ ap (λ (o : Origin). o.path.0) k.is_from)

  -- the causes of a started block were started
  pub started_known : (bs : List Started) → IsReached p limit m bs → (b : Started) → Mem b bs → AreBegun bs b.chare b.block
  started_known _ begins b i = absurd i
  started_known _ (goes_on bs d r is next) b (inl e) = are_more bs d b.chare b.block (subst (λ (b : Started). AreBegun bs b.chare b.block) (sym e) (enabled_known bs r d.chare d.block next.candidate.enabled))
  started_known _ (goes_on bs d r is next) b (inr i) = are_more bs d b.chare b.block (started_known bs r b i)

  module _ (bs : List Started) (r : IsReached p limit m bs) where
    -- the started block that is found at the place of a block of the Clean round is that block
    pub found_block : (c : ℕ) (x : Block) → Mem x (blocks_at c) → (b : Started) → find bs c x.path.0 ≡ Some b → b.block ≡ x
    found_block c x i b e = let f = found_at bs c x.path.0 b e in one_block b.chare c b.block x (in_round bs r b f.is_in).1 i f.chare f.is_there

    all_ready : (c : ℕ) (x : Block) → Mem x (blocks_at c) → IsBegun bs c x.path.0 → AreBegun bs c x
    all_ready c x i k =
        let f = found_at bs c x.path.0 k.0 k.1 in
        let one : AreBegun bs c k.0.block = subst (λ c. AreBegun bs c k.0.block) f.chare (started_known bs r k.0 f.is_in) in
        subst (AreBegun bs c) (found_block c x i k.0 k.1) one

    held_alone : (c : ℕ) (k : Key) (y : Message) → is_for c k y ≡ true → mail_to (y ∷ []) c k ≡ Some y
    held_alone c k y e = ap (λ b. if b then Some y else None) e

    -- a message whose sender was started is in the mail
    near : (c : ℕ) (k : Key) (y : Message) → mail_to all_sent c k ≡ Some y → IsBegun bs y.origin.chare y.origin.path.0 → mail_to (messages bs) c k ≡ Some y
    near c k y e h =
        let f = found all_sent c k y e in
        let s = sender y f.0 in
        let of_it = is_of p limit s.chare (mail_to all_sent s.chare) s.block s.is_block y s.is_sent in
        let found_here : find bs s.chare s.block.path.0 ≡ Some h.0 = ap₂ (find bs) (sym of_it.chare) (sym of_it.path) ∙ h.1 in
        let same = found_block s.chare s.block s.is_block h.0 found_here in
        let in_mail = in_messages h.0 bs y (found_at bs s.chare s.block.path.0 h.0 found_here).is_in (subst (λ (x : Block). Mem y x.sends) (sym same) s.is_sent) in
        part_among (y ∷ []) (messages bs) all_sent (clean.once).sent (single y in_mail) (reached_sent p limit m n clean bs r) c k y (held_alone c k y f.1)
      where
        single : (y : Message) → Mem y (messages bs) → (z : Message) → Mem z (y ∷ []) → Mem z (messages bs)
        single y i z (inl e) = subst (λ z. Mem z (messages bs)) (sym e) i
        single y i z (inr j) = absurd j

    -- a block of the Clean round that wasn't started, and whose causes were, can be started
    pub enabled_there : (c : ℕ) (x : Block) → Mem c (chares p) → Mem x (blocks_at c) → find bs c x.path.0 ≡ None → AreBegun bs c x → IsEnabled p limit bs c x
    enabled_there c x i j e k = record {
      chare = i;
      block = ready_there (λ o. IsBegun bs o.chare o.path.0) (λ q. IsBegun bs c q) (mail_to (messages bs) c) (mail_to all_sent c)
          (part_in (messages bs) all_sent (clean.once).sent (reached_sent p limit m n clean bs r) c) (near c)
          p limit c (all_ready c) x j k;
      fresh = e;
      causes = λ q m. k.after q m;
    }
