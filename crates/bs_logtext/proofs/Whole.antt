-- The log of closed histories is valid.
use Rattle.std.proofs.Common.{◌≡◌, ◌≤◌, ◌<◌, inl, inr, ℕ, zero, suc, ◌+◌, ◌==◌, Bool, true, false, ◌&&◌, List, [], ◌∷◌, ◌++◌, refl, sym, ap, subst, ◌∙◌, length, map, arith}
use Rattle.std.proofs.lemmas.Bool.Decides.{nat_tests}
use Rattle.bs_tree.specs.declared.tree.Program.{Program}
use Rattle.bs_tree.specs.Count.{statements_in}
use Rattle.bs_log.specs.declared.history.Sent.{Sent}
use Rattle.bs_log.specs.declared.history.Origin.{Origin}
use Rattle.bs_log.specs.declared.history.Message.{Message}
use Rattle.bs_log.specs.declared.history.Block.{Block}
use Rattle.bs_log.specs.declared.history.Asked.{Asked}
use Rattle.bs_log.specs.declared.history.WaitAt.{WaitAt}
use Rattle.bs_log.specs.declared.history.TrapAt.{TrapAt}
use Rattle.bs_log.specs.declared.history.History.{History}
use Rattle.bs_log.specs.declared.log.Row.{Row}
use Rattle.bs_log.specs.declared.log.TrapRow.{TrapRow}
use Rattle.bs_log.specs.declared.log.WaitRow.{WaitRow}
use Rattle.bs_log.specs.Messages.{same_key, sends_of, sent, one_asked}
use Rattle.bs_log.specs.ClosedTest.{LooksClosed}
use Rattle.bs_log.specs.Collected.{number_of, mail_ref, row_of, rows_from, trap_row, traps_from, wait_row, waits_from, log_of}
use Rattle.bs_log.specs.Linked.{IsAt}
use Rattle.bs_log.specs.Rising.{CausesRise}
use Rattle.bs_log.specs.Valid.{IsFrom, SendFits, RowFits, TrapFits, WaitFits, TrapIsLower, WaitIsUpTo, one_wait, is_awaited, RowIsInRange, IsValid, IsMailCause}
use Rattle.bs_log.specs.Lists.{Mem, Apart, Each, InOrder}
use Rattle.bs_log.proofs.ClosedTests.{key_symm, in_front, behind}
use Rattle.bs_log.proofs.Links.{linked, sound_here}
use Rattle.bs_log.proofs.Numbers.{at_within}
use Rattle.bs_log.proofs.Order.{map_member, order_map, rows_rise}
use Rattle.bs_semantics.specs.Run.{Lookup, history}
use Rattle.bs_semantics.specs.Rounds.{Closed, mail_to, from_to, histories}
use Rattle.bs_semantics.specs.Orderly.{IsNumbered, IsStatement}
use Rattle.bs_semantics.specs.Proper.{IsProper}
use Rattle.bs_semantics.specs.Depth.{all_blocks}
use Rattle.bs_semantics.proofs.Members.{mem_left, mem_right}
use Rattle.bs_semantics.proofs.Subsequences.{not_longer, apart}
use Rattle.bs_semantics.proofs.Sizes.{count_all}
use Rattle.bs_semantics.proofs.Proper.{run_proper}
use Rattle.bs_semantics.proofs.Rising.{run_rising}
use Rattle.bs_semantics.proofs.Rests.{run_earlier}
use Rattle.bs_semantics.proofs.Numbering as numbering
use Rattle.bs_semantics.proofs.ClosedSets.{passes}
use Rattle.bs_semantics.proofs.Chains.{closed_shallow}
use Rattle.bs_semantics.proofs.SortedCauses.{closed_sorted}
use Rattle.bs_semantics.proofs.LooksClosed.{looks_closed}
use Rattle.bs_logtext.specs.Declared.{AreDeclared}
use Rattle.bs_logtext.proofs.Asking.{Among, keys_asked, keys_waited, run_waits}
use Rattle.bs_logtext.proofs.Rows.{each_row}
use Rattle.bs_logtext.proofs.Causes.{log_here, Caused, caused, block_cause, mail_cause, depth_is, rising_here}
use Rattle.bs_logtext.proofs.Gathered.{rows_gather, traps_gather, waits_gather, comes_from, gather_order, gather_apart, all_lines, sends_are, sent_apart}

-- the histories are those of the definition

pub at_under : (f : ℕ → History) (n k j : ℕ) (h : History) → IsAt (map f (from_to k n)) j h → f (k + j) ≡ h
at_under f zero k j h a = absurd a
at_under f (suc n) k zero h a = let e : k + 0 ≡ k = omega arith in ap f e ∙ a
at_under f (suc n) k (suc j) h a = let e : k + suc j ≡ k + 1 + j = omega arith in ap f e ∙ at_under f n (k + 1) j h a

member_of : (hs : List History) (j : ℕ) (h : History) → IsAt hs j h → Mem h hs
member_of [] j h a = absurd a
member_of (x ∷ xs) zero h a = inl (sym a)
member_of (x ∷ xs) (suc j) h a = inr (member_of xs j h a)

pub place_of : (hs : List History) (h : History) → Mem h hs → (j : ℕ) × IsAt hs j h
place_of [] h m = absurd m
place_of (x ∷ xs) h (inl e) = (0, sym e)
place_of (x ∷ xs) h (inr m) = let r = place_of xs h m in (suc r.0, r.1)

block_among : (hs : List History) (h : History) (x : Block) → Mem h hs → Mem x h.blocks → Mem x (all_blocks hs)
block_among [] h x m i = absurd m
block_among (y ∷ ys) h x (inl e) i = mem_left x y.blocks (all_blocks ys) (subst (λ (z : History). Mem x z.blocks) e i)
block_among (y ∷ ys) h x (inr m) i = mem_right x y.blocks (all_blocks ys) (block_among ys h x m i)

pub each_at : (P : History → Type 0) (hs : List History) → Each P hs → (j : ℕ) (h : History) → IsAt hs j h → P h
each_at P [] e j h a = absurd a
each_at P (x ∷ xs) e zero h a = subst P a e.0
each_at P (x ∷ xs) e (suc j) h a = each_at P xs e.1 j h a

-- what the chare, the statement or the key of a wait says

other_chare : (c d : ℕ) (b : Bool) → c < d → ((d == c) && b) ≡ false
other_chare c d b l = let e : (d == c) ≡ false = grind (arith, nat_tests) in ap (λ z. z && b) e

same_chare : (c : ℕ) (b : Bool) → ((c == c) && b) ≡ b
same_chare c b = let e : (c == c) ≡ true = grind (arith, nat_tests) in ap (λ z. z && b) e

keys_apart : (as' : List _) → Apart one_asked as' → Apart same_key (keys_asked as')
keys_apart [] h = tt
keys_apart (a ∷ as') h = ((λ k m. let s = map_member (λ b. b.key) as' k m in subst (λ z. same_key a.key z ≡ false) (sym s.holds) (h.0 s.one s.is_in)), keys_apart as' h.1)

same_length : {A B : Type 0} (f : A → B) (xs : List A) → length (map f xs) ≡ length xs
same_length f [] = refl
same_length f (x ∷ xs) = ap suc (same_length f xs)

key_among : (ws : List WaitAt) (w : WaitAt) → Mem w ws → Mem w.key (keys_waited ws)
key_among [] w m = absurd m
key_among (v ∷ vs) w (inl e) = inl (ap (λ (z : WaitAt). z.key) e)
key_among (v ∷ vs) w (inr m) = inr (key_among vs w m)

waits_apart : (c : ℕ) (ws : List WaitAt) → Apart same_key (keys_waited ws) → Apart one_wait (map (wait_row c) ws)
waits_apart c [] h = tt
waits_apart c (w ∷ ws) h = (first, waits_apart c ws h.1)
  where
    first : (y : WaitRow) → Mem y (map (wait_row c) ws) → one_wait (wait_row c w) y ≡ false
    first y m =
        let s = map_member (wait_row c) ws y m in
        subst (λ z. one_wait (wait_row c w) z ≡ false) (sym s.holds)
        (same_chare c (same_key (s.one).key w.key) ∙ key_symm (s.one).key w.key ∙ h.0 (s.one).key (key_among ws s.one s.is_in))

-- rows of one chare
one_order : (hs : List History) (c : ℕ) (xs : List Block) → InOrder (λ (a b : Row). a.chare ≤ b.chare) (map (row_of hs c) xs)
unfolding row_of
one_order hs c [] = tt
one_order hs c (x ∷ xs) = (first, one_order hs c xs)
  where
    first : (y : Row) → Mem y (map (row_of hs c) xs) → (row_of hs c x).chare ≤ y.chare
    first y m =
        let s = map_member (row_of hs c) xs y m in
        let e = ap (λ (z : Row). z.chare) s.holds in
        omega (arith, e)

chares_far : (hs : List History) (c d : ℕ) (a b : Block) → c < d → (row_of hs c a).chare ≤ (row_of hs d b).chare
unfolding row_of
chares_far hs c d a b l = omega arith

pub map_mem : {A B : Type 0} (f : A → B) (xs : List A) (x : A) → Mem x xs → Mem (f x) (map f xs)
map_mem f [] x m = absurd m
map_mem f (y ∷ ys) x (inl e) = inl (ap f e)
map_mem f (y ∷ ys) x (inr m) = inr (map_mem f ys x m)

pub row_member : (all hs : List History) (k j c : ℕ) (h : History) (x : Block) → c ≡ k + j → IsAt hs j h → Mem x h.blocks → Mem (row_of all c x) (rows_from all k hs)
row_member all [] k j c h x e t m = absurd t
row_member all (y ∷ ys) k zero c h x e t m =
    let here : k ≡ c = omega arith in
    subst (λ z. Mem (row_of all z x) (map (row_of all k) y.blocks ++ rows_from all (k + 1) ys)) here
    (in_front (row_of all k x) (map (row_of all k) y.blocks) (rows_from all (k + 1) ys) (map_mem (row_of all k) y.blocks x (subst (λ (z : History). Mem x z.blocks) (sym t) m)))
row_member all (y ∷ ys) k (suc j) c h x e t m = behind (row_of all c x) (map (row_of all k) y.blocks) (rows_from all (k + 1) ys) (row_member all ys (k + 1) j c h x (omega arith) t m)

sends_among : (bs : List Block) (x : Block) (m : Message) → Mem x bs → Mem m x.sends → Mem m (sends_of bs)
sends_among [] x m i k = absurd i
sends_among (b ∷ bs) x m (inl e) k = in_front m b.sends (sends_of bs) (subst (λ (z : Block). Mem m z.sends) e k)
sends_among (b ∷ bs) x m (inr i) k = behind m b.sends (sends_of bs) (sends_among bs x m i k)

sent_among : (hs : List History) (h : History) (m : Message) → Mem h hs → Mem m (sends_of h.blocks) → Mem m (sent hs)
sent_among [] h m i k = absurd i
sent_among (g ∷ gs) h m (inl e) k = in_front m (sends_of g.blocks) (sent gs) (subst (λ (z : History). Mem m (sends_of z.blocks)) e k)
sent_among (g ∷ gs) h m (inr i) k = behind m (sends_of g.blocks) (sent gs) (sent_among gs h m i k)

module _ (p : Program) (limit : ℕ) (hs : List History) (small : limit ≤ 262144) (some : 1 ≤ p.chares) (few : p.chares ≤ 65536) (entries : length p.entries ≤ 1000) (stmts : statements_in p.body ≤ 10000)
    (names : AreDeclared (length p.entries) hs) (closed : Closed p limit hs) where
  abbrev mail_here : ℕ → Lookup
  mail_here c = mail_to (sent hs) c

  looks : LooksClosed hs
  looks = looks_closed p limit hs small some few closed

  history_is : (c : ℕ) (h : History) → IsAt hs c h → history p limit c (mail_here c) ≡ h
  history_is c h t =
      let e : 0 + c ≡ c = omega arith in
      subst (λ z. history p limit z (mail_here z) ≡ h) e (at_under (λ d. history p limit d (mail_here d)) p.chares 0 c h (subst (λ z. IsAt z c h) closed.same t))

  numbers : (c : ℕ) (h : History) → IsAt hs c h → IsNumbered p h
  numbers c h t = subst (IsNumbered p) (history_is c h t) (numbering.numbered p limit c (mail_here c))

  proper : (c : ℕ) (h : History) → IsAt hs c h → (x : Block) → Mem x h.blocks → IsProper p x
  proper c h t x m = subst (λ (z : History). (x : Block) → Mem x z.blocks → IsProper p x) (history_is c h t) (run_proper p limit c (mail_here c)) x m

  causes : (c : ℕ) (h : History) → IsAt hs c h → (x : Block) → Mem x h.blocks → Caused h.blocks x
  causes c h t = subst (λ (z : History). (x : Block) → Mem x z.blocks → Caused z.blocks x) (history_is c h t)
      (caused (λ b. ⊥) (history p limit c (mail_here c)).blocks (history p limit c (mail_here c)).blocks (run_earlier p limit c (mail_here c)) (run_rising p limit c (mail_here c)) (λ b a. absurd a) (λ b m. m))

  asks : (c : ℕ) (h : History) → IsAt hs c h → Among h.waits h.asked
  asks c h t = subst (λ (z : History). Among z.waits z.asked) (history_is c h t) (run_waits p limit c (mail_here c))

  chares_are : length hs ≡ p.chares
  chares_are = (passes p limit hs closed).count

  stmt_is : (n : ℕ) → IsStatement p n → IsFrom 1 10000 n
  stmt_is n s = let a = s.0 in let b = s.1 in record { least_is = a; most_is = omega (arith, b) }

  range : (c : ℕ) (h : History) (x : Block) → IsAt hs c h → Mem x h.blocks → RowIsInRange (row_of hs c x)
  unfolding row_of
  range c h x t m =
      let k = causes c h t x m in
      let deep = k.depth in
      let shallow = closed_shallow p limit hs closed x (block_among hs h x (member_of hs c h t) m) in
      let count = count_all hs in
      let size = closed.size in
      let own = proper c h t x m in
      record {
        stmt = stmt_is x.stmt ((numbers c h t).blocks x m);
        depth = record { least_is = omega (arith, deep); most_is = omega (arith, shallow, count, size) };
        cost = record { least_is = own.least; most_is = own.most };
        emits = names.emitted h (member_of hs c h t) x m;
      }

  send_fits : (c : ℕ) (h : History) (x : Block) → IsAt hs c h → Mem x h.blocks → (s : Sent) → Mem s (map (λ (m : Message). m.sent) x.sends) → SendFits (log_here hs (length p.entries)) x.cost s
  send_fits c h x t m s i =
      let o = map_member (λ (n : Message). n.sent) x.sends s i in
      let own = proper c h t x m in
      let one = own.sends o.one o.is_in in
      let key = names.sent o.one (sent_among hs h o.one (member_of hs c h t) (sends_among h.blocks x o.one m o.is_in)) in
      let target = one.target in
      let count = chares_are in
      let most = one.most in
      let cost = own.most in
      subst (SendFits (log_here hs (length p.entries)) x.cost) (sym o.holds) (record {
        target = omega (arith, target, count, some);
        entry = key.entry;
        reference = key.reference;
        bytes = one.bytes;
        offset = record { least_is = one.least; most_is = omega (arith, most, cost) };
        within = one.most;
      })

  rises : (h : History) → Mem h hs → (x : Block) → Mem x h.blocks → CausesRise x
  rises h i x m = closed_sorted p limit hs closed x (block_among hs h x i m)

  row_fits : (c : ℕ) (h : History) (x : Block) → IsAt hs c h → Mem x h.blocks → RowFits (log_here hs (length p.entries)) (number_of hs c x.path) (row_of hs c x)
  unfolding row_of
  row_fits c h x t m =
      let k = causes c h t x m in
      record {
        ranges = range c h x t m;
        chare = at_within hs c h t;
        after = block_cause hs looks c h t (length p.entries) x m k;
        mail = λ r i. let o = map_member (mail_ref hs) x.mail r i in
            subst (IsMailCause (log_here hs (length p.entries)) c) (sym o.holds) (mail_cause hs looks (length p.entries) c o.one ((sound_here hs looks.sound c h t).mail x m o.one o.is_in));
        rises = rows_rise hs 0 hs (linked hs looks) rises (row_of hs c x) (row_member hs hs 0 c c h x (omega arith) t m);
        depth = depth_is hs looks c h t (length p.entries) x m k;
        sends = send_fits c h x t m;
        offsets = order_map (λ (a b : Message). a.sent.offset ≤ b.sent.offset) (λ (a b : Sent). a.offset ≤ b.offset) (λ (n : Message). n.sent) x.sends (λ a b i j r. r) (proper c h t x m).offsets;
      }

  at_place : (c j : ℕ) (h : History) → c ≡ 0 + j → IsAt hs j h → IsAt hs c h
  at_place c j h q t = let e : j ≡ c = omega arith in subst (λ z. IsAt hs z h) e t

  trap_fits : (t : TrapRow) → Mem t (traps_from 0 hs) → TrapFits (log_here hs (length p.entries)) t
  trap_fits t m =
      let f = comes_from trap_row (λ h. h.traps) 0 hs t (subst (Mem t) (traps_gather 0 hs) m) in
      let at = at_place f.chare f.place f.history f.counted f.is_at in
      subst (TrapFits (log_here hs (length p.entries))) (sym f.is) (record {
        chare = at_within hs f.chare f.history at;
        stmt = stmt_is (f.item).stmt ((numbers f.chare f.history at).traps f.item f.is_in);
      })

  wait_fits : (w : WaitRow) → Mem w (waits_from 0 hs) → WaitFits (log_here hs (length p.entries)) w
  wait_fits w m =
      let f = comes_from wait_row (λ h. h.waits) 0 hs w (subst (Mem w) (waits_gather 0 hs) m) in
      let at = at_place f.chare f.place f.history f.counted f.is_at in
      let key = names.waited f.history (member_of hs f.chare f.history at) f.item f.is_in in
      subst (WaitFits (log_here hs (length p.entries))) (sym f.is) (record {
        chare = at_within hs f.chare f.history at;
        stmt = stmt_is (f.item).stmt ((numbers f.chare f.history at).waits f.item f.is_in);
        entry = key.entry;
        reference = key.reference;
        lacks = λ s i. let o = map_member (λ (n : Message). n.sent) (sent hs) s (subst (Mem s) (sends_are hs 0 hs) i) in
            subst (λ z. is_awaited (wait_row f.chare f.item) z ≡ false) (sym o.holds) ((sound_here hs looks.sound f.chare f.history at).waits f.item f.is_in o.one o.is_in);
      })

  rows_in_order : InOrder (λ (a b : Row). a.chare ≤ b.chare) (rows_from hs 0 hs)
  rows_in_order = subst (InOrder (λ (a b : Row). a.chare ≤ b.chare)) (sym (rows_gather hs 0 hs))
      (gather_order (row_of hs) (λ h. h.blocks) (λ (a b : Row). a.chare ≤ b.chare) 0 hs (λ c j h q t. one_order hs c h.blocks) (chares_far hs))

  traps_in_order : InOrder TrapIsLower (traps_from 0 hs)
  traps_in_order = subst (InOrder TrapIsLower) (sym (traps_gather 0 hs))
      (gather_order trap_row (λ h. h.traps) TrapIsLower 0 hs
      (λ c j h q t. order_map (λ (x y : TrapAt). x.stmt < y.stmt) TrapIsLower (trap_row c) h.traps (λ a b i k r. inr (refl, r)) (numbers j h t).trap_order)
      (λ c d a b l. inl l))

  waits_in_order : InOrder WaitIsUpTo (waits_from 0 hs)
  waits_in_order = subst (InOrder WaitIsUpTo) (sym (waits_gather 0 hs))
      (gather_order wait_row (λ h. h.waits) WaitIsUpTo 0 hs
      (λ c j h q t. order_map (λ (x y : WaitAt). x.stmt ≤ y.stmt) WaitIsUpTo (wait_row c) h.waits (λ a b i k r. inr (refl, r)) (numbers j h t).wait_order)
      (λ c d a b l. inl l))

  waits_once : Apart one_wait (waits_from 0 hs)
  waits_once = subst (Apart one_wait) (sym (waits_gather 0 hs))
      (gather_apart wait_row (λ h. h.waits) one_wait 0 hs
      (λ c j h q t. waits_apart c h.waits (apart same_key _ _ (asks j h t) (keys_apart h.asked (each_at (λ (z : History). Apart one_asked z.asked) hs (looks.once).asked j h t))))
      (λ c d a b l. other_chare c d (same_key b.key a.key) l))

  few_waits : (h : History) → Mem h hs → length h.waits ≤ length h.asked
  few_waits h m =
      let t = place_of hs h m in
      let n = not_longer _ _ (asks t.0 h t.1) in
      let a = same_length (λ (w : WaitAt). w.key) h.waits in
      let b = same_length (λ (w : Asked). w.key) h.asked in
      omega (arith, n, a, b)

  pub whole : IsValid (log_of hs (length p.entries))
  unfolding log_of
  whole =
      let lines = all_lines hs 0 hs few_waits in
      let size = closed.size in
      record {
        chares = record { least_is = looks.some; most_is = looks.count };
        entries = entries;
        lines = omega (arith, lines, size);
        rows = each_row (RowFits (log_here hs (length p.entries))) hs (rising_here hs looks) row_fits;
        row_order = rows_in_order;
        traps = trap_fits;
        trap_order = traps_in_order;
        waits = wait_fits;
        wait_order = waits_in_order;
        sent_once = sent_apart hs (looks.once).sent;
        awaited_once = waits_once;
      }
