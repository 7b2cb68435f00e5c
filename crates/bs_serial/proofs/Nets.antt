-- The net of the log of the Clean round: what it says of the row of a block, and that its causes come earlier.
use Rattle.std.proofs.Common.{◌≡◌, ◌≤◌, ◌<◌, ◌⊎◌, inl, inr, ℕ, ◌-◌, if◌then◌else◌, List, [], ◌∷◌, Some, None, refl, sym, ap, ap₂, subst, ◌∙◌, map, slice_get, ◌^◌, arith}
use Rattle.std.specs.Option.{unwrap_or, option_map}
use Rattle.std.proofs.lemmas.Bool.{ne_eqb}
use Rattle.std.proofs.lemmas.Option.{slice_get-map}
use Rattle.bs_tree.specs.declared.tree.Program.{Program}
use Rattle.bs_tree.specs.declared.tree.Path.{Path}
use Rattle.bs_log.specs.declared.history.Origin.{Origin}
use Rattle.bs_log.specs.declared.history.Message.{Message}
use Rattle.bs_log.specs.declared.history.Sent.{Sent}
use Rattle.bs_log.specs.declared.history.Block.{Block}
use Rattle.bs_log.specs.declared.log.MailRef.{MailRef}
use Rattle.bs_log.specs.declared.log.Row.{Row}
use Rattle.bs_log.specs.declared.log.Log.{Log}
use Rattle.bs_log.specs.Valid.{numbered}
use Rattle.bs_log.specs.Collected.{number_of, mail_ref, log_of}
use Rattle.bs_log.specs.Collected as log
use Rattle.bs_log.specs.Lists.{Mem}
use Rattle.bs_semantics.specs.Run.{greatest}
use Rattle.bs_semantics.specs.Rounds.{mail_to, round, CleanAt}
use Rattle.bs_semantics.specs.Orderly.{RestsOn, EachRestsOn}
use Rattle.bs_semantics.specs.Serial.{Machine}
use Rattle.bs_semantics.specs.Reached.{Placed}
use Rattle.bs_semantics.proofs.Members.{MapOf, map_of}
use Rattle.bs_semantics.proofs.Proper.{run_proper}
use Rattle.bs_semantics.proofs.Rests.{run_earlier}
use Rattle.bs_semantics.proofs.ClosedSets.{path_of}
use Rattle.bs_times.specs.Machine.{IsTimely}
use Rattle.bs_times.specs.Net.{Net, HasRow, Causal, no_row, no_send, row_of, sent_of, net_of}
use Rattle.bs_serial.proofs.States.{all_sent, blocks_at, Comes, comes}
use Rattle.bs_serial.proofs.Rows.{row_at, all_blocks, number, into_blocks, is_block, has_number, BlockOf, block_of}

-- ---- an item that has a number

numbered_from : {A : Type 0} (xs : List A) (k : ℕ) (a d : A) → 1 ≤ k → slice_get xs (k - 1) ≡ Some a → unwrap_or (numbered xs k) d ≡ a
numbered_from xs k a d l e =
    ap (λ b. unwrap_or (if b then None else slice_get xs (k - 1)) d) (ne_eqb k 0 (λ z. omega (arith, z, l)))
    ∙ ap (λ o. unwrap_or o d) e

-- ---- causes of blocks

-- a block of a list, or one before it
pub record CauseIn (P : Block → Type 0) (xs : List Block) (x : Block) (q : Path) : Type 0 where
  pub block : Block
  pub is_in : Mem block xs ⊎ P block
  pub is : q ≡ block.path
  pub deeper : block.depth < x.depth

greatest_least : (bs : List Block) (b : Block) → Mem b bs → b.depth ≤ greatest (λ (b : Block). b.depth) bs
greatest_least [] b m = absurd m
greatest_least (x ∷ bs) b (inl e) = let d = ap (λ (b : Block). b.depth) e in omega (arith, d)
greatest_least (x ∷ bs) b (inr m) = let l = greatest_least bs b m in omega (arith, l)

origin_least : (os : List Origin) (o : Origin) → Mem o os → o.depth ≤ greatest (λ (o : Origin). o.depth) os
origin_least [] o m = absurd m
origin_least (x ∷ os) o (inl e) = let d = ap (λ (o : Origin). o.depth) e in omega (arith, d)
origin_least (x ∷ os) o (inr m) = let l = origin_least os o m in omega (arith, l)

rest_cause : (P : Block → Type 0) (xs : List Block) (x : Block) (q : Path) → RestsOn P x → Mem q x.after → CauseIn P xs x q
rest_cause P xs x q r m =
    let at = path_of r.causes q (subst (Mem q) r.after m) in
    let l = greatest_least r.causes at.block at.is_in in
    let d = r.depth in
    record { block = at.block; is_in = inr (r.known at.block at.is_in); is = at.is; deeper = omega (arith, l, d) }

cause_in : (P : Block → Type 0) (xs : List Block) → EachRestsOn P xs → (x : Block) → Mem x xs → (q : Path) → Mem q x.after → CauseIn P xs x q
cause_in P [] h x i q m = absurd i
cause_in P (y ∷ xs) h x (inl e) q m = rest_cause P (y ∷ xs) x q (subst (RestsOn P) (sym e) h.0) m
cause_in P (y ∷ xs) h x (inr i) q m = later (cause_in (λ b. (b ≡ y) ⊎ P b) xs h.1 x i q m)
  where
    side : (b : Block) → Mem b xs ⊎ ((b ≡ y) ⊎ P b) → Mem b (y ∷ xs) ⊎ P b
    side b (inl i) = inl (inr i)
    side b (inr (inl e)) = inl (inl e)
    side b (inr (inr k)) = inr k

    later : CauseIn (λ b. (b ≡ y) ⊎ P b) xs x q → CauseIn P (y ∷ xs) x q
    later c = record { block = c.block; is_in = side c.block c.is_in; is = c.is; deeper = c.deeper }

mail_depth : (P : Block → Type 0) (xs : List Block) → EachRestsOn P xs → (x : Block) → Mem x xs → (o : Origin) → Mem o x.mail → o.depth < x.depth
mail_depth P [] h x i o m = absurd i
mail_depth P (y ∷ xs) h x (inl e) o m =
    let l = origin_least y.mail o (subst (λ (x : Block). Mem o x.mail) e m) in
    let d = (h.0).depth in
    let same = ap (λ (x : Block). x.depth) e in
    omega (arith, l, d, same)
mail_depth P (y ∷ xs) h x (inr i) o m = mail_depth (λ b. (b ≡ y) ⊎ P b) xs h.1 x i o m

path_is : (q r : Path) → q.0 ≡ r.0 → q ≡ r
path_is q r e = λ j. record { 0 = e j }

module _ (p : Program) (limit n : ℕ) (m : Machine) (clean : CleanAt p limit n) where
  -- a block cause of a block of the Clean round
  pub record Before (c : ℕ) (x : Block) (q : Path) : Type 0 where
    pub block : Block
    pub is_in : Mem block (blocks_at p limit n m clean c)
    pub is : q ≡ block.path
    pub deeper : block.depth < x.depth

  pub before : (c : ℕ) (x : Block) → Mem x (blocks_at p limit n m clean c) → (q : Path) → Mem q x.after → Before c x q
  before c x i q j = from_cause (cause_in (λ b. ⊥) (blocks_at p limit n m clean c) (run_earlier p limit c (mail_to (all_sent p limit n m clean) c)) x i q j)
    where
      only : (b : Block) → Mem b (blocks_at p limit n m clean c) ⊎ ⊥ → Mem b (blocks_at p limit n m clean c)
      only b (inl i) = i
      only b (inr k) = absurd k

      from_cause : CauseIn (λ b. ⊥) (blocks_at p limit n m clean c) x q → Before c x q
      from_cause k = record { block = k.block; is_in = only k.block k.is_in; is = k.is; deeper = k.deeper }

  pub mail_before : (c : ℕ) (x : Block) → Mem x (blocks_at p limit n m clean c) → (o : Origin) → Mem o x.mail → o.depth < x.depth
  mail_before c x i o j = mail_depth (λ b. ⊥) (blocks_at p limit n m clean c) (run_earlier p limit c (mail_to (all_sent p limit n m clean) c)) x i o j

  -- the number of the row of a path, where the block there is known
  pub path_number : (c : ℕ) (q : Path) (a : Placed) → a.chare ≡ c → a.block.path.0 ≡ q.0 → number_of (round p limit n) c q ≡ number p limit n m clean a
  path_number c q a e f = ap₂ (number_of (round p limit n)) (sym e) (sym (path_is a.block.path q f))

  module _ (entries : ℕ) where
    abbrev pub the_log : Log
    the_log = log_of (round p limit n) entries

    abbrev pub net : Net
    net = net_of the_log m

    pub has_row : (a : Placed) → Mem a (all_blocks p limit n m clean) → HasRow net (number p limit n m clean a)
    has_row a i = let h = has_number p limit n m clean entries a i in (h.least, h.most)

    pub row_is : (a : Placed) → Mem a (all_blocks p limit n m clean) → row_of the_log (number p limit n m clean a) ≡ row_at (round p limit n) a
    row_is a i = let h = has_number p limit n m clean entries a i in numbered_from (the_log).rows (number p limit n m clean a) (row_at (round p limit n) a) no_row h.least h.is_there

    -- what the row of a block says
    pub record RowIs (a : Placed) : Type 0 where
      pub chare : (row_of the_log (number p limit n m clean a)).chare ≡ a.chare
      pub home : net.home (number p limit n m clean a) ≡ m.home a.chare
      pub duration : net.duration (number p limit n m clean a) ≡ m.duration a.block.cost
      pub depth : net.depth (number p limit n m clean a) ≡ a.block.depth
      pub after : net.after (number p limit n m clean a) ≡ map (number_of (round p limit n) a.chare) a.block.after
      pub mail : net.mail (number p limit n m clean a) ≡ map (mail_ref (round p limit n)) a.block.mail
      pub sends : (row_of the_log (number p limit n m clean a)).sends ≡ map (λ (m : Message). m.sent) a.block.sends

    pub row_says : (a : Placed) → Mem a (all_blocks p limit n m clean) → RowIs a
    unfolding log.row_of
    row_says a i =
        let e = row_is a i in
        record {
          chare = ap (λ (r : Row). r.chare) e;
          home = ap (λ (r : Row). m.home r.chare) e;
          duration = ap (λ (r : Row). m.duration r.cost) e;
          depth = ap (λ (r : Row). r.depth) e;
          after = ap (λ (r : Row). r.after) e;
          mail = ap (λ (r : Row). r.mail) e;
          sends = ap (λ (r : Row). r.sends) e;
        }

    -- the block that sends a message
    abbrev pub sender_of : (c : ℕ) (o : Origin) → Comes p limit n m clean c o → Placed
    sender_of c o k = record { chare = o.chare; block = k.block }

    pub sender_in : (c : ℕ) (o : Origin) (k : Comes p limit n m clean c o) → Mem (sender_of c o k) (all_blocks p limit n m clean)
    sender_in c o k = into_blocks p limit n m clean (sender_of c o k) k.chare k.is_block

    pub sender_number : (c : ℕ) (o : Origin) (k : Comes p limit n m clean c o) → (mail_ref (round p limit n) o).row ≡ number p limit n m clean (sender_of c o k)
    sender_number c o k = path_number o.chare o.path (sender_of c o k) refl (sym ((k.of_block).path) ∙ ap (λ (o : Origin). o.path.0) k.origin)

    -- what a message cause names
    pub sent_is : (c : ℕ) (o : Origin) (k : Comes p limit n m clean c o) → sent_of the_log (mail_ref (round p limit n) o) ≡ (k.message).sent
    sent_is c o k =
        let row = sender_number c o k in
        let says = row_says (sender_of c o k) (sender_in c o k) in
        let index = ap (λ (o : Origin). o.index) k.origin in
        let least = (k.of_block).least in
        let sends : (row_of the_log (mail_ref (round p limit n) o).row).sends ≡ map (λ (m : Message). m.sent) (k.block).sends = ap (λ i. (row_of the_log i).sends) row ∙ says.sends in
        let got : slice_get (map (λ (m : Message). m.sent) (k.block).sends) (o.index - 1) ≡ Some (k.message).sent =
        slice_get-map (λ (m : Message). m.sent) (k.block).sends (o.index - 1)
        ∙ ap (option_map (λ (m : Message). m.sent)) (ap (λ i. slice_get (k.block).sends (i - 1)) (sym index) ∙ (k.of_block).is_there) in
        ap (λ (ss : List Sent). unwrap_or (numbered ss o.index) no_send) sends
        ∙ numbered_from (map (λ (m : Message). m.sent) (k.block).sends) o.index (k.message).sent no_send (omega (arith, index, least)) got

    -- ---- causes come earlier

    pub some_block : (i : ℕ) → HasRow net i → BlockOf p limit n m clean i
    some_block i h = block_of p limit n m clean entries i h.0 h.1

    module _ (timely : IsTimely m) where
      abbrev AfterFine : ℕ → Type 0
      AfterFine i = (x : ℕ) → Mem x (net.after i) → HasRow net x × (net.home x ≡ net.home i) × (net.depth x < net.depth i)

      abbrev MailFine : ℕ → Type 0
      MailFine i = (r : MailRef) → Mem r (net.mail i) → HasRow net r.row × (net.depth r.row < net.depth i) × (net.goes_to r ≡ net.home i)

      duration_fine : (a : Placed) → Mem a (all_blocks p limit n m clean) → 1 ≤ net.duration (number p limit n m clean a)
      duration_fine a i =
          let is = is_block p limit n m clean a i in
          let proper = run_proper p limit a.chare (mail_to (all_sent p limit n m clean) a.chare) a.block is.block in
          let long = (timely.duration a.block.cost proper.least proper.most).0 in
          let d = (row_says a i).duration in
          omega (arith, long, d)

      after_fine : (a : Placed) → Mem a (all_blocks p limit n m clean) → AfterFine (number p limit n m clean a)
      after_fine a i x j = by_path (map_of (number_of (round p limit n) a.chare) a.block.after x (subst (Mem x) (row_says a i).after j))
        where
          by_path : (k : MapOf (number_of (round p limit n) a.chare) a.block.after x) → HasRow net x × (net.home x ≡ net.home (number p limit n m clean a)) × (net.depth x < net.depth (number p limit n m clean a))
          by_path k =
              let is = is_block p limit n m clean a i in
              let b = before a.chare a.block is.block k.from k.is_in in
              let d : Placed = record { chare = a.chare; block = b.block } in
              let d_in = into_blocks p limit n m clean d is.chare b.is_in in
              let num : x ≡ number p limit n m clean d = k.is ∙ path_number a.chare k.from d refl (ap (λ (q : Path). q.0) (sym b.is)) in
              let says = row_says d d_in in
              let own = row_says a i in
              let far = b.deeper in
              let one = says.depth in
              let two = own.depth in
              subst (λ x. HasRow net x × (net.home x ≡ net.home (number p limit n m clean a)) × (net.depth x < net.depth (number p limit n m clean a))) (sym num)
              (has_row d d_in, says.home ∙ sym own.home, omega (arith, one, two, far))

      mail_fine : (a : Placed) → Mem a (all_blocks p limit n m clean) → MailFine (number p limit n m clean a)
      mail_fine a i r j = by_origin (map_of (mail_ref (round p limit n)) a.block.mail r (subst (Mem r) (row_says a i).mail j))
        where
          by_origin : (k : MapOf (mail_ref (round p limit n)) a.block.mail r) → HasRow net r.row × (net.depth r.row < net.depth (number p limit n m clean a)) × (net.goes_to r ≡ net.home (number p limit n m clean a))
          by_origin k =
              let is = is_block p limit n m clean a i in
              let o = k.from in
              let come = comes p limit n m clean a.chare a.block is.block o k.is_in in
              let d = sender_of a.chare o come in
              let d_in = sender_in a.chare o come in
              let row : r.row ≡ number p limit n m clean d = ap (λ (r : MailRef). r.row) k.is ∙ sender_number a.chare o come in
              let says = row_says d d_in in
              let own = row_says a i in
              let far = mail_before a.chare a.block is.block o k.is_in in
              let deep = ap (λ (o : Origin). o.depth) (come.origin) in
              let block = (come.of_block).depth in
              let one : net.depth r.row ≡ come.block.depth = ap net.depth row ∙ says.depth in
              let two = own.depth in
              let goes : net.goes_to r ≡ m.home a.chare = ap (λ r. m.home (sent_of the_log r).to) k.is ∙ ap (λ (s : Sent). m.home s.to) (sent_is a.chare o come) ∙ ap m.home come.to in
              (subst (HasRow net) (sym row) (has_row d d_in), omega (arith, one, two, far, deep, block), goes ∙ sym own.home)

      travel_fine : (a : Placed) → Mem a (all_blocks p limit n m clean) → (r : MailRef) → Mem r (net.mail (number p limit n m clean a)) → 1 ≤ net.travel r
      travel_fine a i r j = by_origin (map_of (mail_ref (round p limit n)) a.block.mail r (subst (Mem r) (row_says a i).mail j))
        where
          by_origin : (k : MapOf (mail_ref (round p limit n)) a.block.mail r) → 1 ≤ net.travel r
          by_origin k =
              let is = is_block p limit n m clean a i in
              let o = k.from in
              let come = comes p limit n m clean a.chare a.block is.block o k.is_in in
              let proper = run_proper p limit o.chare (mail_to (all_sent p limit n m clean) o.chare) come.block come.is_block in
              let sent : sent_of the_log r ≡ (come.message).sent = ap (sent_of the_log) k.is ∙ sent_is a.chare o come in
              let bytes = (proper.sends come.message come.is_sent).bytes in
              let same = ap (λ (s : Sent). s.bytes) sent in
              let long = (timely.latency (m.home (row_of the_log r.row).chare) (m.home (sent_of the_log r).to) (sent_of the_log r).bytes (subst (λ b. b ≤ 2 ^ 30) (sym same) bytes)).0 in
              omega (arith, long)

      -- what holds of the rows of blocks, holds of all rows
      each_row : (P : ℕ → Type 0) → ((a : Placed) → Mem a (all_blocks p limit n m clean) → P (number p limit n m clean a)) → (i : ℕ) → HasRow net i → P i
      each_row P f i h = let b = some_block i h in subst P b.is (f b.placed b.is_in)

      pub causal : Causal net
      causal = record {
        duration = each_row (λ i. 1 ≤ net.duration i) duration_fine;
        travel = λ i r h. each_row (λ i. (r : MailRef) → Mem r (net.mail i) → 1 ≤ net.travel r) travel_fine i h r;
        after = λ i x h. each_row AfterFine after_fine i h x;
        mail = λ i r h. each_row MailFine mail_fine i h r;
      }
