-- Where each message of a mail is sent by the histories under it, each depth below a block's depth is some block's, so no
-- depth is above the number of blocks.
use Rattle.std.proofs.Common.{◌≡◌, ◌≤◌, ◌<◌, ◌⊎◌, inl, inr, ℕ, zero, suc, max, Bool, List, [], ◌∷◌, ◌++◌, Option, Some, None, Ok, refl, sym, ap, subst, map, length, arith, le_refl, zero-le}
use Rattle.std.proofs.lemmas.Bool.{cases_lt}
use Rattle.bs_tree.specs.declared.tree.Program.{Program}
use Rattle.bs_log.specs.declared.history.Key.{Key}
use Rattle.bs_log.specs.declared.history.Block.{Block}
use Rattle.bs_log.specs.declared.history.Message.{Message}
use Rattle.bs_log.specs.declared.history.History.{History}
use Rattle.bs_semantics.specs.Value.{Cells}
use Rattle.bs_semantics.specs.Acts.{Tally}
use Rattle.bs_semantics.specs.Run.{Lookup, Run, State, Causes, serial, from_end, after, recelled, both, held, held_and, go_on, with_mail, alone, depth_of, run, start}
use Rattle.bs_semantics.specs.Rounds.{mail_to, chares, histories, Closed}
use Rattle.bs_log.specs.Size.{size_all}
use Rattle.bs_log.specs.Lists.{Mem}
use Rattle.bs_log.specs.Messages.{sent}
use Rattle.bs_semantics.specs.Depth.{all_blocks}
use Rattle.bs_semantics.specs.Starting.{AllIn}
use Rattle.bs_semantics.proofs.Options.{none_some, some_same}
use Rattle.bs_semantics.proofs.Members.{mem_left, mem_right, mem_cases, mem_map}
use Rattle.bs_semantics.proofs.CauseDepths.{union_depth, with_mail_depth, depth_in}
use Rattle.bs_semantics.proofs.Kept.{Closure, list_kept}
use Rattle.bs_semantics.proofs.Mails.{found}
use Rattle.bs_semantics.proofs.Signed.{run_signed}
use Rattle.bs_semantics.proofs.Sets.{under, from_block}
use Rattle.bs_semantics.proofs.Sizes.{count_all}
use Rattle.bs_semantics.proofs.Distinct.{without}

-- no depth, or one that occurs
abbrev pub Good : (ℕ → Type 0) → ℕ → Type 0
Good D n = (n ≡ 0) ⊎ D n

good_max : (D : ℕ → Type 0) (m n : ℕ) → Good D m → Good D n → Good D (max m n)
good_max D m n h k = by_cases (cases_lt m n)
  where
    by_cases : (m < n) ⊎ (n ≤ m) → Good D (max m n)
    by_cases (inl l) = let e : n ≡ max m n = omega (arith, l) in subst (Good D) e k
    by_cases (inr l) = let e : m ≡ max m n = omega (arith, l) in subst (Good D) e h

-- one more than none, or than one that occurs
pub record Rests (D : ℕ → Type 0) (n : ℕ) : Type 0 where
  pub below : ℕ
  pub is : n ≡ suc below
  pub good : Good D below

module _ (D : ℕ → Type 0) where
  abbrev pub Occur : List Block → Type 0
  Occur xs = (x : Block) → Mem x xs → D x.depth

  record Rest (xs : List Block) (end : Option State) : Type 0 where
    blocks : (x : Block) → Mem x xs → Rests D x.depth
    ends : (e : State) → end ≡ Some e → Good D (depth_of e.causes)

  abbrev Justified : Causes → Run → Run → Type 0
  Justified k r q = Good D (depth_of k) → Occur q.blocks → Rest q.blocks q.end

  none_rest : Rest [] None
  none_rest = record { blocks = λ x m. absurd m; ends = λ e z. absurd (none_some z) }

  good_end : (s t : State) → Good D (depth_of s.causes) → Some s ≡ Some t → Good D (depth_of t.causes)
  good_end s t g e = subst (λ t. Good D (depth_of t.causes)) (some_same e) g

  side : (x : Block) (xs ys : List Block) → ((x : Block) → Mem x xs → Rests D x.depth) → ((x : Block) → Mem x ys → Rests D x.depth) → Mem x xs ⊎ Mem x ys → Rests D x.depth
  side x xs ys h k (inl m) = h x m
  side x xs ys h k (inr m) = k x m

  after_rest : (r : Run) (f : State → Run) → (Occur r.blocks → Rest r.blocks r.end) → ((s : State) → Good D (depth_of s.causes) → Occur (f s).blocks → Rest (f s).blocks (f s).end) → (o : Option State) → r.end ≡ o → Occur (after r (from_end o f)).blocks → Rest (after r (from_end o f)).blocks (after r (from_end o f)).end
  after_rest r f h i None p occ = h occ
  after_rest r f h i (Some s) p occ =
      let one = h (λ x m. occ x (mem_left x r.blocks (f s).blocks m)) in
      let two = i s (one.ends s p) (λ x m. occ x (mem_right x r.blocks (f s).blocks m)) in
      record { blocks = λ x m. side x r.blocks (f s).blocks one.blocks two.blocks (mem_cases x r.blocks (f s).blocks m); ends = two.ends }

  cells_rest : (f : Cells → Cells) (r : Run) (o : Option State) → r.end ≡ o → Rest r.blocks r.end → Rest r.blocks (recelled f o)
  cells_rest f r None p h = record { blocks = h.blocks; ends = λ e z. absurd (none_some z) }
  cells_rest f r (Some s) p h = record { blocks = h.blocks; ends = λ e z. good_end _ e (h.ends s p) z }

  join_rest : (w : ℕ → Bool) (r q : Run) → (Occur r.blocks → Rest r.blocks r.end) → (Occur q.blocks → Rest q.blocks q.end) → Occur (r.blocks ++ q.blocks) → Rest (r.blocks ++ q.blocks) (both w r.end q.end)
  join_rest w r q h i occ =
      let one = h (λ x m. occ x (mem_left x r.blocks q.blocks m)) in
      let two = i (λ x m. occ x (mem_right x r.blocks q.blocks m)) in
      record { blocks = λ x m. side x r.blocks q.blocks one.blocks two.blocks (mem_cases x r.blocks q.blocks m); ends = λ e z. by_ends r.end q.end one.ends two.ends e z }
    where
      by_ends : (x y : Option State) → ((e : State) → x ≡ Some e → Good D (depth_of e.causes)) → ((e : State) → y ≡ Some e → Good D (depth_of e.causes)) → (e : State) → both w x y ≡ Some e → Good D (depth_of e.causes)
      by_ends None y g h e z = absurd (none_some z)
      by_ends (Some s) None g h e z = absurd (none_some z)
      by_ends (Some s) (Some t) g h e z = good_end _ e (subst (Good D) (sym (union_depth s.causes t.causes)) (good_max D _ _ (g s refl) (h t refl))) z

  made_rest : (this n : ℕ) (path : List ℕ) (s : State) (t : Tally) → Good D (depth_of s.causes) → Occur (serial this n path s (Ok t)).blocks → Rest (serial this n path s (Ok t)).blocks (serial this n path s (Ok t)).end
  made_rest this n path s t g occ = record { blocks = blocks; ends = λ e z. good_end _ e (inr last) z }
    where
      blocks : (x : Block) → Mem x (serial this n path s (Ok t)).blocks → Rests D x.depth
      blocks x (inl e) = record { below = depth_of s.causes; is = ap (λ x. x.depth) e; good = g }
      blocks x (inr m) = absurd m

      last : D (depth_of (alone path s.causes))
      last = let e : suc (depth_of s.causes) ≡ depth_of (alone path s.causes) = omega arith in subst D e (occ _ (inl refl))

  module _ (a : Lookup) (known : (k : Key) (m : Message) → a k ≡ Some m → D m.origin.depth) where
    held_good : (ks : List Key) (ms : List Message) → held a ks ≡ Some ms → Good D (depth_in ms)
    held_good [] ms e = subst (λ ms. Good D (depth_in ms)) (some_same e) (inl refl)
    held_good (k ∷ ks) ms e = by_key (a k) (held a ks) (known k) (held_good ks) e
      where
        by_key : (x : Option Message) (y : Option (List Message)) → ((m : Message) → x ≡ Some m → D m.origin.depth) → ((ns : List Message) → y ≡ Some ns → Good D (depth_in ns)) → held_and x y ≡ Some ms → Good D (depth_in ms)
        by_key None y p q z = absurd (none_some z)
        by_key (Some m) None p q z = absurd (none_some z)
        by_key (Some m) (Some ns) p q z = subst (λ ms. Good D (depth_in ms)) (some_same z) (good_max D _ _ (inr (p m refl)) (q ns refl))

    ask_rest : (k : Causes) (ks : List Key) (as' : _) (ws : _) (g : List Message → Run) → Good D (depth_of k) → ((ms : List Message) → Good D (depth_of (with_mail ms k)) → Occur (g ms).blocks → Rest (g ms).blocks (g ms).end) → (o : Option (List Message)) → held a ks ≡ o → Occur (go_on o as' ws g).blocks → Rest (go_on o as' ws g).blocks (go_on o as' ws g).end
    ask_rest k ks as' ws g d h None p occ = none_rest
    ask_rest k ks as' ws g d h (Some ms) p occ = h ms (subst (Good D) (sym (with_mail_depth ms k)) (good_max D _ _ (held_good ks ms p) d)) occ

    justified_closed : (p : Program) (this : ℕ) → Closure p this a a Justified
    justified_closed p this = record {
      ended = λ s g occ. record { blocks = λ x m. absurd m; ends = λ e z. good_end s e g z };
      halted = λ k ts g occ. none_rest;
      made = λ n path s acts t is g occ. made_rest this n path s t g occ;
      asked = λ n path k ks f g h d occ. ask_rest k ks _ _ g d h (held a ks) refl occ;
      followed = λ k r q f g h i d occ. after_rest q g (h d) i q.end refl occ;
      recelled = λ k f r q h d occ. cells_rest f q q.end refl (h d occ);
      joined = λ k w r q r' q' h i d occ. join_rest w q q' (h d) (i d) occ;
    }

    pub run_rest : (p : Program) (limit c : ℕ) → Occur (run p limit c a).blocks → (x : Block) → Mem x (run p limit c a).blocks → Rests D x.depth
    run_rest p limit c occ = (list_kept p limit c a a Justified (justified_closed p c) p.body 0 1 [] (start p) (inl refl) occ).blocks

-- a list that holds each number from 1 to d is at least d long
pub long : (d : ℕ) (ns : List ℕ) → ((e : ℕ) → e < d → Mem (suc e) ns) → d ≤ length ns
long zero ns h = zero-le
long (suc d) ns h =
    let w = without (suc d) ns (h d (le_refl (suc d))) in
    let more = long d w.rest (λ e l. w.others (suc e) (λ q. absurd (omega (arith, q, l))) (h e (omega (arith, l)))) in
    let one = w.count in
    omega (arith, more, one)

length_map : (xs : List Block) → length (map (λ x. x.depth) xs) ≡ length xs
length_map [] = refl
length_map (x ∷ xs) = ap suc (length_map xs)

module _ (p : Program) (limit : ℕ) where
  in_all : (f : ℕ → Lookup) (cs : List ℕ) (c : ℕ) (x : Block) → Mem c cs → Mem x (run p limit c (f c)).blocks → Mem x (all_blocks (under p limit f cs))
  in_all f [] c x h i = absurd h
  in_all f (b ∷ cs) c x (inl e) i = mem_left x _ (all_blocks (under p limit f cs)) (subst (λ b. Mem x (run p limit b (f b)).blocks) e i)
  in_all f (b ∷ cs) c x (inr h) i = mem_right x (run p limit b (f b)).blocks _ (in_all f cs c x h i)

  pub record Of (f : ℕ → Lookup) (cs : List ℕ) (x : Block) : Type 0 where
    pub chare : ℕ
    pub is_chare : Mem chare cs
    pub is_block : Mem x (run p limit chare (f chare)).blocks

  pub of_all : (f : ℕ → Lookup) (cs : List ℕ) (x : Block) → Mem x (all_blocks (under p limit f cs)) → Of f cs x
  of_all f [] x i = absurd i
  of_all f (c ∷ cs) x i = by_side (mem_cases x (run p limit c (f c)).blocks (all_blocks (under p limit f cs)) i) (of_all f cs x)
    where
      by_side : Mem x (run p limit c (f c)).blocks ⊎ Mem x (all_blocks (under p limit f cs)) → (Mem x (all_blocks (under p limit f cs)) → Of f cs x) → Of f (c ∷ cs) x
      by_side (inl i) g = record { chare = c; is_chare = inl refl; is_block = i }
      by_side (inr i) g = let h = g i in record { chare = h.chare; is_chare = inr h.is_chare; is_block = h.is_block }

  module _ (all : List Message) (are_sent : AllIn all (sent (histories p limit all))) where
    abbrev Occurs : ℕ → Type 0
    Occurs j = (x : Block) × Mem x (all_blocks (histories p limit all)) × (x.depth ≡ j)

    known : (c : ℕ) (k : Key) (m : Message) → mail_to all c k ≡ Some m → Occurs m.origin.depth
    known c k m e =
        let h = from_block p limit (mail_to all) (chares p) m (are_sent m (found all c k m e).0) in
        (h.block, in_all (mail_to all) (chares p) h.chare h.block h.is_chare h.is_block, sym ((run_signed p limit h.chare (mail_to all h.chare) h.block h.is_block).depth m h.is_sent))

    rests : (x : Block) → Mem x (all_blocks (histories p limit all)) → Rests Occurs x.depth
    rests x i =
        let h = of_all (mail_to all) (chares p) x i in
        run_rest Occurs (mail_to all h.chare) (known h.chare) p limit h.chare (λ y j. (y, in_all (mail_to all) (chares p) h.chare y h.is_chare j, refl)) x h.is_block

    one_down : (d : ℕ) → Occurs (suc (suc d)) → Occurs (suc d)
    one_down d h = by_good r.good
      where
        r : Rests Occurs (h.0).depth
        r = rests h.0 h.1

        at : r.below ≡ suc d
        at = let e = r.is in let q = h.2 in omega (arith, e, q)

        by_good : Good Occurs r.below → Occurs (suc d)
        by_good (inl z) = absurd (let q = at in omega (arith, z, q))
        by_good (inr o) = subst Occurs at o

    down : (d : ℕ) → Occurs (suc d) → (e : ℕ) → e < suc d → Occurs (suc e)
    down zero h e l = let z : zero ≡ e = omega (arith, l) in subst (λ e. Occurs (suc e)) z h
    down (suc d) h e l = by_cases (cases_lt e (suc d)) (down d (one_down d h) e)
      where
        by_cases : (e < suc d) ⊎ (suc d ≤ e) → (e < suc d → Occurs (suc e)) → Occurs (suc e)
        by_cases (inl i) f = f i
        by_cases (inr i) f = let z : suc d ≡ e = omega (arith, i, l) in subst (λ e. Occurs (suc e)) z h

    pub shallow : (x : Block) → Mem x (all_blocks (histories p limit all)) → x.depth ≤ length (all_blocks (histories p limit all))
    shallow x i =
        let r = rests x i in
        let is = r.is in
        let n = long (suc r.below) (map (λ x. x.depth) (all_blocks (histories p limit all)))
        (λ e l. let o = down r.below (x, i, is) e l in subst (λ j. Mem j (map (λ x. x.depth) (all_blocks (histories p limit all)))) o.2 (mem_map (λ x. x.depth) o.0 _ o.1)) in
        let m = length_map (all_blocks (histories p limit all)) in
        omega (arith, is, n, m)

    pub low : size_all (histories p limit all) ≤ limit → (m : Message) → Mem m (sent (histories p limit all)) → m.origin.depth ≤ limit
    low l m i =
        let h = from_block p limit (mail_to all) (chares p) m i in
        let one = (run_signed p limit h.chare (mail_to all h.chare) h.block h.is_block).depth m h.is_sent in
        let two = shallow h.block (in_all (mail_to all) (chares p) h.chare h.block h.is_chare h.is_block) in
        let three = count_all (histories p limit all) in
        omega (arith, l, one, two, three)

  all_sent : (hs : List History) → Closed p limit hs → AllIn (sent hs) (sent (histories p limit (sent hs)))
  all_sent hs h m i = subst (λ hs. Mem m (sent hs)) h.same i

  pub closed_shallow : (hs : List History) → Closed p limit hs → (x : Block) → Mem x (all_blocks hs) → x.depth ≤ length (all_blocks hs)
  closed_shallow hs h = subst (λ hs. (x : Block) → Mem x (all_blocks hs) → x.depth ≤ length (all_blocks hs)) (sym h.same) (shallow (sent hs) (all_sent hs h))

  pub closed_low : (hs : List History) → Closed p limit hs → (m : Message) → Mem m (sent hs) → m.origin.depth ≤ limit
  closed_low hs h m i = low (sent hs) (all_sent hs h) (subst (λ hs. size_all hs ≤ limit) h.same h.size) m (all_sent hs h m i)
