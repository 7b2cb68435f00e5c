-- A state of the serial machine model and the rows that were started: the same blocks can be started in both, with the
-- same ready ticks, and processors become free at the same ticks.
use Rattle.std.proofs.Common.{◌≡◌, inl, inr, ℕ, ◌+◌, ◌-◌, ◌==◌, Bool, if◌then◌else◌, List, [], ◌∷◌, Option, Some, None, refl, sym, ap, ap₂, subst, ◌∙◌, map, max, slice_get, arith}
use Rattle.bs_tree.specs.declared.tree.Program.{Program}
use Rattle.bs_tree.specs.declared.tree.Path.{Path}
use Rattle.bs_log.specs.declared.history.Origin.{Origin}
use Rattle.bs_log.specs.declared.history.Sent.{Sent}
use Rattle.bs_log.specs.declared.history.Block.{Block}
use Rattle.bs_log.specs.declared.log.MailRef.{MailRef}
use Rattle.bs_log.specs.Collected.{number_of, mail_ref}
use Rattle.bs_log.specs.Lists.{Mem}
use Rattle.bs_semantics.specs.Run.{greatest}
use Rattle.bs_semantics.specs.Rounds.{round, CleanAt}
use Rattle.bs_semantics.specs.Serial.{Machine, Started, find, end_found, arrival_of, arrival_found}
use Rattle.bs_semantics.specs.Serial as model
use Rattle.bs_semantics.specs.Reached.{IsReached, Placed, placed}
use Rattle.bs_semantics.proofs.Options.{none_some}
use Rattle.bs_semantics.proofs.Members.{mem_map, map_of}
use Rattle.bs_semantics.proofs.Find.{found_at}
use Rattle.bs_times.specs.Net.{Starts, row_of, sent_of}
use Rattle.bs_times.specs.Times.{end_of, arrival}
use Rattle.bs_times.specs.Times as times
use Rattle.bs_times.specs.Serial.{free, due, IsEnabled}
use Rattle.bs_serial.specs.Times.{IsBegun}
use Rattle.bs_serial.proofs.States.{blocks_at, known, AreBegun, comes, in_round, enabled_in_round, enabled_known, found_block, enabled_there}
use Rattle.bs_serial.proofs.Rows.{all_blocks, number, into_blocks, is_block, one_number}
use Rattle.bs_serial.proofs.Nets.{before, path_number, the_log, net, has_row, row_says, sender_of, sender_in, sender_number, sent_is, some_block}

-- two greatest, with the same numbers
same_greatest : {A B : Type 0} (f : B → ℕ) (g : A → B) (h : A → ℕ) (xs : List A) → ((x : A) → Mem x xs → f (g x) ≡ h x) → times.greatest (map f (map g xs)) ≡ greatest h xs
same_greatest f g h [] k = refl
same_greatest f g h (x ∷ xs) k = ap₂ max (k x (inl refl)) (same_greatest f g h xs (λ y m. k y (inr m)))

module _ (p : Program) (limit n : ℕ) (m : Machine) (clean : CleanAt p limit n) (entries : ℕ) where
  -- the number of a started block
  abbrev pub row : Started → ℕ
  row b = number p limit n m clean (placed b)

  -- these starts are those of the started blocks
  abbrev pub Tells : Starts → List Started → Type 0
  Tells s bs = (b : Started) → Mem b bs → s (row b) ≡ b.start

  module _ (bs : List Started) (r : IsReached p limit m bs) where
    pub started_in : (b : Started) → Mem b bs → Mem (placed b) (all_blocks p limit n m clean)
    started_in b i = let k = in_round p limit n m clean bs r b i in into_blocks p limit n m clean (placed b) k.0 k.1

    pub known_number : (c : ℕ) (q : Path) (b : Started) → find bs c q.0 ≡ Some b → number_of (round p limit n) c q ≡ row b
    known_number c q b e = let f = found_at bs c q.0 b e in path_number p limit n m clean c q (placed b) f.chare f.is_there

    module _ (s : Starts) (tells : Tells s bs) where
      end_same : (b : Started) → Mem b bs → end_of (net p limit n m clean entries) s (row b) ≡ b.start + m.duration b.block.cost
      end_same b i =
          let one = tells b i in
          let two = (row_says p limit n m clean entries (placed b) (started_in b i)).duration in
          omega (arith, one, two)

      -- a block cause that was started ends at the same tick
      end_known : (c : ℕ) (q : Path) → IsBegun bs c q.0 → end_of (net p limit n m clean entries) s (number_of (round p limit n) c q) ≡ end_found m (find bs c q.0)
      end_known c q k =
          ap (end_of (net p limit n m clean entries) s) (known_number c q k.0 k.1)
          ∙ end_same k.0 (found_at bs c q.0 k.0 k.1).is_in
          ∙ ap (end_found m) (sym k.1)

      -- and a message cause whose sender was started arrives at the same tick
      arrival_known : (c : ℕ) (x : Block) → Mem x (blocks_at p limit n m clean c) → (o : Origin) → Mem o x.mail → IsBegun bs o.chare o.path.0 → arrival (net p limit n m clean entries) s (mail_ref (round p limit n) o) ≡ arrival_found m c o (find bs o.chare o.path.0)
      arrival_known c x i o j k =
          let come = comes p limit n m clean c x i o j in
          let f = found_at bs o.chare o.path.0 k.0 k.1 in
          let path : (come.block).path.0 ≡ o.path.0 = sym ((come.of_block).path) ∙ ap (λ (o : Origin). o.path.0) come.origin in
          let block : (k.0).block ≡ come.block = found_block p limit n m clean bs r o.chare come.block come.is_block k.0 (ap (find bs o.chare) path ∙ k.1) in
          let got : slice_get (k.0).block.sends (o.index - 1) ≡ Some come.message = ap (λ (x : Block). slice_get x.sends (o.index - 1)) block ∙ ap (λ i. slice_get (come.block).sends (i - 1)) (sym (ap (λ (o : Origin). o.index) come.origin)) ∙ (come.of_block).is_there in
          let num = known_number o.chare o.path k.0 k.1 in
          let start : s (number_of (round p limit n) o.chare o.path) ≡ (k.0).start = ap s num ∙ tells k.0 f.is_in in
          let sent = sent_is p limit n m clean entries c o come in
          let chare : (row_of (the_log p limit n m clean entries) (number_of (round p limit n) o.chare o.path)).chare ≡ (k.0).chare =
          ap (λ i. (row_of (the_log p limit n m clean entries) i).chare) num ∙ (row_says p limit n m clean entries (placed k.0) (started_in k.0 f.is_in)).chare in
          let offset : m.duration (sent_of (the_log p limit n m clean entries) (mail_ref (round p limit n) o)).offset ≡ m.duration (come.message).sent.offset = ap (λ (s : Sent). m.duration s.offset) sent in
          let latency : m.latency (m.home (row_of (the_log p limit n m clean entries) (number_of (round p limit n) o.chare o.path)).chare) (m.home (sent_of (the_log p limit n m clean entries) (mail_ref (round p limit n) o)).to) (sent_of (the_log p limit n m clean entries) (mail_ref (round p limit n) o)).bytes ≡ m.latency (m.home (k.0).chare) (m.home c) (come.message).sent.bytes =
          ap₂ (λ d (s : Sent). m.latency (m.home d) (m.home s.to) s.bytes) chare sent ∙ ap (λ d. m.latency (m.home (k.0).chare) (m.home d) (come.message).sent.bytes) come.to in
          let found : arrival_found m c o (find bs o.chare o.path.0) ≡ (k.0).start + m.duration (come.message).sent.offset + m.latency (m.home (k.0).chare) (m.home c) (come.message).sent.bytes =
          ap (arrival_found m c o) k.1 ∙ ap (arrival_of m c k.0) got in
          omega (arith, start, offset, latency, found)

      -- a block whose causes were started has the same ready tick
      pub due_same : (a : Placed) → Mem a (all_blocks p limit n m clean) → AreBegun bs a.chare a.block → due (net p limit n m clean entries) s (number p limit n m clean a) ≡ model.ready m bs a.chare a.block
      due_same a i k =
          let is = is_block p limit n m clean a i in
          let says = row_says p limit n m clean entries a i in
          ap₂ (λ xs ys. max (times.greatest (map (end_of (net p limit n m clean entries) s) xs)) (times.greatest (map (arrival (net p limit n m clean entries) s) ys))) says.after says.mail
          ∙ ap₂ max
          (same_greatest (end_of (net p limit n m clean entries) s) (number_of (round p limit n) a.chare) (λ q. end_found m (find bs a.chare q.0)) a.block.after (λ q j. end_known a.chare q (k.after q j)))
          (same_greatest (arrival (net p limit n m clean entries) s) (mail_ref (round p limit n)) (λ o. arrival_found m a.chare o (find bs o.chare o.path.0)) a.block.mail (λ o j. arrival_known a.chare a.block is.block o j (k.mail o j)))

    -- ---- what can be started

    -- a block whose number is among those of the started ones was started
    known_of : (a : Placed) → Mem a (all_blocks p limit n m clean) → Mem (number p limit n m clean a) (map row bs) → IsBegun bs a.chare a.block.path.0
    known_of a i j =
        let o = map_of row bs (number p limit n m clean a) j in
        let one : placed o.from ≡ a = sym (one_number p limit n m clean a (placed o.from) i (started_in o.from o.is_in) o.is) in
        known bs o.from a.chare a.block.path.0 o.is_in (ap (λ (a : Placed). a.chare) one) (ap (λ (a : Placed). a.block.path.0) one)

    known_row : (c : ℕ) (q : Path) → IsBegun bs c q.0 → Mem (number_of (round p limit n) c q) (map row bs)
    known_row c q k = subst (λ i. Mem i (map row bs)) (sym (known_number c q k.0 k.1)) (mem_map row k.0 bs (found_at bs c q.0 k.0 k.1).is_in)

    -- a block that the model can start is an enabled row
    pub to_row : (a : Placed) → model.IsEnabled p limit bs a.chare a.block → IsEnabled (net p limit n m clean entries) (map row bs) (number p limit n m clean a)
    to_row a e =
        let i = into_blocks p limit n m clean a e.chare (enabled_in_round p limit n m clean bs r a.chare a.block e) in
        let k = enabled_known p limit n m clean bs r a.chare a.block e in
        let says = row_says p limit n m clean entries a i in
        record {
          row = has_row p limit n m clean entries a i;
          fresh = λ j. none_some (sym e.fresh ∙ (known_of a i j).1);
          causes = record {
            after = λ x j.
                let o = map_of (number_of (round p limit n) a.chare) a.block.after x (subst (Mem x) says.after j) in
                subst (λ x. Mem x (map row bs)) (sym o.is) (known_row a.chare o.from (k.after o.from o.is_in));
            mail = λ x j.
                let o = map_of (mail_ref (round p limit n)) a.block.mail x (subst (Mem x) says.mail j) in
                subst (λ (x : MailRef). Mem x.row (map row bs)) (sym o.is) (known_row o.from.chare o.from.path (k.mail o.from o.is_in));
          };
        }

    pub record Startable (k : ℕ) : Type 0 where
      pub block : Placed
      pub is_in : Mem block (all_blocks p limit n m clean)
      pub is : number p limit n m clean block ≡ k
      pub enabled : model.IsEnabled p limit bs block.chare block.block

    fresh_of : (a : Placed) → Mem a (all_blocks p limit n m clean) → (Mem (number p limit n m clean a) (map row bs) → ⊥) → find bs a.chare a.block.path.0 ≡ None
    fresh_of a i f = by_find (find bs a.chare a.block.path.0) refl
      where
        by_find : (o : Option Started) → find bs a.chare a.block.path.0 ≡ o → o ≡ None
        by_find None e = refl
        by_find (Some b) e = absurd (f (known_row a.chare a.block.path (b, e)))

    startable : (a : Placed) → Mem a (all_blocks p limit n m clean) → IsEnabled (net p limit n m clean entries) (map row bs) (number p limit n m clean a) → model.IsEnabled p limit bs a.chare a.block
    startable a i e =
        let is = is_block p limit n m clean a i in
        let says = row_says p limit n m clean entries a i in
        enabled_there p limit n m clean bs r a.chare a.block is.chare is.block (fresh_of a i e.fresh) (record {
          after = λ q j.
              let b = before p limit n m clean a.chare a.block is.block q j in
              let d : Placed = record { chare = a.chare; block = b.block } in
              let there = (e.causes).after (number_of (round p limit n) a.chare q) (subst (Mem (number_of (round p limit n) a.chare q)) (sym says.after) (mem_map (number_of (round p limit n) a.chare) q a.block.after j)) in
              let num = path_number p limit n m clean a.chare q d refl (sym (ap (λ (q : Path). q.0) b.is)) in
              subst (IsBegun bs a.chare) (sym (ap (λ (q : Path). q.0) b.is)) (known_of d (into_blocks p limit n m clean d is.chare b.is_in) (subst (λ i. Mem i (map row bs)) num there));
          mail = λ o j.
              let come = comes p limit n m clean a.chare a.block is.block o j in
              let there = (e.causes).mail (mail_ref (round p limit n) o) (subst (Mem (mail_ref (round p limit n) o)) (sym says.mail) (mem_map (mail_ref (round p limit n)) o a.block.mail j)) in
              let num = sender_number p limit n m clean entries a.chare o come in
              let path : (come.block).path.0 ≡ o.path.0 = sym ((come.of_block).path) ∙ ap (λ (o : Origin). o.path.0) come.origin in
              subst (IsBegun bs o.chare) path (known_of (sender_of p limit n m clean entries a.chare o come) (sender_in p limit n m clean entries a.chare o come) (subst (λ i. Mem i (map row bs)) num there));
        })

    -- an enabled row is that of a block that the model can start
    pub of_row : (k : ℕ) → IsEnabled (net p limit n m clean entries) (map row bs) k → Startable k
    of_row k e =
        let b = some_block p limit n m clean entries k e.row in
        record {
          block = b.placed;
          is_in = b.is_in;
          is = b.is;
          enabled = startable b.placed b.is_in (subst (IsEnabled (net p limit n m clean entries) (map row bs)) (sym b.is) e);
        }

  -- ---- when processors become free

  free_if : (t u : Bool) → t ≡ u → (x y z w : ℕ) → x ≡ y → z ≡ w → (if t then x else z) ≡ (if u then y else w)
  free_if t u e x y z w f g = λ j. if e j then f j else g j

  free_from : (s : Starts) (all bs : List Started) (r : IsReached p limit m all) → Tells s all → ((b : Started) → Mem b bs → Mem b all) → (q : ℕ) → free (net p limit n m clean entries) s (map row bs) q ≡ model.free m bs q
  free_from s all [] r tells f q = refl
  free_from s all (b ∷ bs) r tells f q =
      let home = (row_says p limit n m clean entries (placed b) (started_in all r b (f b (inl refl)))).home in
      free_if _ _ (ap (λ h. h == q) home) _ _ _ _ (end_same all r s tells b (f b (inl refl))) (free_from s all bs r tells (λ d i. f d (inr i)) q)

  pub free_same : (s : Starts) (bs : List Started) → IsReached p limit m bs → Tells s bs → (q : ℕ) → free (net p limit n m clean entries) s (map row bs) q ≡ model.free m bs q
  free_same s bs r tells q = free_from s bs bs r tells (λ b i. i) q
