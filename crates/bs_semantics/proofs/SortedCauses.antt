-- The causes of each block rise: those of its own chare by path, and messages by (chare, path, place of the send).
use Rattle.std.proofs.Common.{◌≡◌, ◌⊎◌, inl, inr, ℕ, ◌+◌, Bool, List, [], ◌∷◌, ◌++◌, Option, Some, None, Ok, refl, sym, ap, subst, ◌∙◌, map, Ordering, Less, Equal, Greater, nat_cmp}
use Rattle.std.specs.Ordering.{ordering_then, ordering_reverse}
use Rattle.std.specs.Cmp.{IsTotalOrder}
use Rattle.std.specs.Cmp.Lexicographic.{slice_cmp}
use Rattle.std.proofs.lemmas.Cmp.{tied_itself, nat_cmp_total, nat_list_cmp_total, on_total, then_total}
use Rattle.std.proofs.lemmas.Map.Lookups.{exact_bytes, exact_unsigned}
use Rattle.bs_tree.specs.declared.tree.Program.{Program}
use Rattle.bs_tree.specs.declared.tree.Path.{Path}
use Rattle.bs_log.specs.declared.history.Key.{Key}
use Rattle.bs_log.specs.declared.history.Origin.{Origin}
use Rattle.bs_log.specs.declared.history.Message.{Message}
use Rattle.bs_log.specs.declared.history.Block.{Block}
use Rattle.bs_log.specs.declared.history.History.{History}
use Rattle.bs_log.specs.Lists.{Mem, InOrder}
use Rattle.bs_log.specs.Messages.{sent}
use Rattle.bs_log.specs.Paths.{IsBelow}
use Rattle.bs_log.specs.Rising.{Rising, IsBefore, CausesRise}
use Rattle.bs_semantics.specs.Value.{Cells}
use Rattle.bs_semantics.specs.Acts.{Tally, Parcel}
use Rattle.bs_semantics.specs.Run.{Lookup, Run, State, Cause, Causes, cause_cmp, origin_cmp, place_by, put, put_all, union, signed, serial, made, alone, from_end, after, recelled, both, held, go_on, with_mail, run, start}
use Rattle.bs_semantics.specs.Rounds.{mail_to, chares, histories, Closed}
use Rattle.bs_semantics.specs.Depth.{all_blocks}
use Rattle.bs_semantics.specs.Orderly.{CameBy, PlacesHaveOneDepth}
use Rattle.bs_semantics.proofs.Options.{none_some, some_same}
use Rattle.bs_semantics.proofs.Members.{mem_left, mem_right, mem_cases, in_order_map}
use Rattle.bs_semantics.proofs.Sorted.{put_member, put_all_member, one_at}
use Rattle.bs_semantics.proofs.Kept.{Closure, list_kept}
use Rattle.bs_semantics.proofs.Mails.{found}
use Rattle.bs_semantics.proofs.Signed.{run_signed}
use Rattle.bs_semantics.proofs.Sets.{from_block}
use Rattle.bs_semantics.proofs.Rests.{Stood, came_all}
use Rattle.bs_semantics.proofs.Rising.{run_rising}
use Rattle.bs_semantics.proofs.Chains.{of_all}

-- ---- a set that is put together by an order finer than one in which it rises

module _ {A : Type 0} (cmp : A → A → Ordering) (K : A → A → Type 0) (trans : (x y z : A) → K x y → K y z → K x z) (P : A → Type 0) (less : (x y : A) → P x → P y → cmp x y ≡ Less → K x y) (greater : (x y : A) → P x → P y → cmp x y ≡ Greater → K y x) where
  abbrev AllOf : List A → Type 0
  AllOf xs = (x : A) → Mem x xs → P x

  put_in_order : (x : A) (ys : List A) → P x → AllOf ys → InOrder K ys → InOrder K (put cmp x ys)
  put_in_order x [] p q h = ((λ y m. absurd m), tt)
  put_in_order x (y ∷ ys) p q h = by_order (cmp x y) refl (put_in_order x ys p (λ z m. q z (inr m)) h.1)
    where
      later : K x y → (z : A) → Mem z (y ∷ ys) → K x z
      later l z (inl e) = subst (K x) (sym e) l
      later l z (inr m) = trans x y z l (h.0 z m)

      behind : K y x → (z : A) → (z ≡ x) ⊎ Mem z ys → K y z
      behind l z (inl e) = subst (K y) (sym e) l
      behind l z (inr m) = h.0 z m

      by_order : (r : Ordering) → cmp x y ≡ r → InOrder K (put cmp x ys) → InOrder K (place_by r x y ys (put cmp x ys))
      by_order Less e k = (later (less x y p (q y (inl refl)) e), h)
      by_order Equal e k = h
      by_order Greater e k = ((λ z m. behind (greater x y p (q y (inl refl)) e) z (put_member cmp x z ys m)), k)

  either_of : (xs ys : List A) → AllOf xs → AllOf ys → (x : A) → Mem x xs ⊎ Mem x ys → P x
  either_of xs ys h k x (inl m) = h x m
  either_of xs ys h k x (inr m) = k x m

  all_in_order : (xs ys : List A) → AllOf xs → AllOf ys → InOrder K ys → InOrder K (put_all cmp xs ys)
  all_in_order [] ys p q h = h
  all_in_order (x ∷ xs) ys p q h = put_in_order x (put_all cmp xs ys) (p x (inl refl)) (λ z m. either_of xs ys (λ z m. p z (inr m)) q z (put_all_member cmp z xs ys m)) (all_in_order xs ys (λ z m. p z (inr m)) q h)

less_of : (o d : Ordering) → (o ≡ Equal → d ≡ Equal) → ordering_then o d ≡ Less → o ≡ Less
less_of Less d f e = refl
less_of Equal d f e = let q : Equal ≡ Less = sym (f refl) ∙ e in absurd (cc)
less_of Greater d f e = absurd (cc)

greater_of : (o d : Ordering) → (o ≡ Equal → d ≡ Equal) → ordering_then o d ≡ Greater → o ≡ Greater
greater_of Less d f e = absurd (cc)
greater_of Equal d f e = let q : Equal ≡ Greater = sym (f refl) ∙ e in absurd (cc)
greater_of Greater d f e = refl

then_then : (a b c : Ordering) → ordering_then a (ordering_then b c) ≡ ordering_then (ordering_then a b) c
then_then Less b c = refl
then_then Equal b c = refl
then_then Greater b c = refl

equal_both : (a b : Ordering) → ordering_then a b ≡ Equal → (a ≡ Equal) × (b ≡ Equal)
equal_both Less b e = absurd (cc)
equal_both Equal b e = (refl, e)
equal_both Greater b e = absurd (cc)

same_tied : (m n : ℕ) → m ≡ n → nat_cmp m n ≡ Equal
same_tied m n e = subst (λ n. nat_cmp m n ≡ Equal) e (tied_itself nat_cmp_total m)

-- ---- places of messages

abbrev place_cmp : Origin → Origin → Ordering
place_cmp a b = ordering_then (nat_cmp a.chare b.chare) (ordering_then (slice_cmp nat_cmp a.path.0 b.path.0) (nat_cmp a.index b.index))

place_total : IsTotalOrder place_cmp
place_total = then_total (on_total (λ (o : Origin). o.chare) nat_cmp_total) (then_total (on_total (λ (o : Origin). o.path.0) nat_list_cmp_total) (on_total (λ (o : Origin). o.index) nat_cmp_total))

finer : (a b : Origin) → origin_cmp a b ≡ ordering_then (place_cmp a b) (nat_cmp a.depth b.depth)
finer a b =
    ap (ordering_then (nat_cmp a.chare b.chare)) (then_then (slice_cmp nat_cmp a.path.0 b.path.0) (nat_cmp a.index b.index) (nat_cmp a.depth b.depth))
    ∙ then_then (nat_cmp a.chare b.chare) (ordering_then (slice_cmp nat_cmp a.path.0 b.path.0) (nat_cmp a.index b.index)) (nat_cmp a.depth b.depth)

-- ---- runs, all of whose blocks are among some that rise

module _ (all : List Block) (rise : Rising all) (mail : Lookup) (one : PlacesHaveOneDepth mail) where
  tie : (a b : Cause) → Stood all a → Stood all b → slice_cmp nat_cmp a.path b.path ≡ Equal → nat_cmp a.depth b.depth ≡ Equal
  tie a b s t e =
      let path = exact_bytes a.path b.path e in
      let block = one_at all rise s.block t.block s.is_in t.is_in (s.path ∙ path ∙ sym t.path) in
      same_tied a.depth b.depth (sym s.depth ∙ ap (λ x. x.depth) block ∙ t.depth)

  less_cause : (a b : Cause) → Stood all a → Stood all b → cause_cmp a b ≡ Less → IsBelow a.path b.path
  less_cause a b s t e = less_of _ _ (tie a b s t) e

  greater_cause : (a b : Cause) → Stood all a → Stood all b → cause_cmp a b ≡ Greater → IsBelow b.path a.path
  greater_cause a b s t e = nat_list_cmp_total.antisymm b.path a.path ∙ ap ordering_reverse (greater_of _ _ (tie a b s t) e)

  tie_mail : (a b : Origin) → CameBy mail a → CameBy mail b → place_cmp a b ≡ Equal → nat_cmp a.depth b.depth ≡ Equal
  tie_mail a b s t e =
      let c = equal_both _ _ e in
      let q = equal_both _ _ c.1 in
      same_tied a.depth b.depth (one a b s t (exact_unsigned _ _ c.0) (exact_bytes _ _ q.0) (exact_unsigned _ _ q.1))

  less_mail : (a b : Origin) → CameBy mail a → CameBy mail b → origin_cmp a b ≡ Less → IsBefore a b
  less_mail a b s t e = less_of (place_cmp a b) _ (tie_mail a b s t) (sym (finer a b) ∙ e)

  greater_mail : (a b : Origin) → CameBy mail a → CameBy mail b → origin_cmp a b ≡ Greater → IsBefore b a
  greater_mail a b s t e = place_total.antisymm b a ∙ ap ordering_reverse (greater_of (place_cmp a b) _ (tie_mail a b s t) (sym (finer a b) ∙ e))

  record Good (k : Causes) : Type 0 where
    known : (c : Cause) → Mem c k.after → Stood all c
    after : InOrder (λ (a b : Cause). IsBelow a.path b.path) k.after
    came : (o : Origin) → Mem o k.mail → CameBy mail o
    messages : InOrder IsBefore k.mail

  record Sound (xs : List Block) (end : Option State) : Type 0 where
    blocks : (x : Block) → Mem x xs → CausesRise x
    ends : (e : State) → end ≡ Some e → Good e.causes

  abbrev Among : List Block → Type 0
  Among xs = (x : Block) → Mem x xs → Mem x all

  abbrev Sorting : Causes → Run → Run → Type 0
  Sorting k r q = Good k → Among q.blocks → Sound q.blocks q.end

  good_end : (s e : State) → Good s.causes → Some s ≡ Some e → Good e.causes
  good_end s e h z = subst (λ e. Good e.causes) (some_same z) h

  nothing : Sound [] None
  nothing = record { blocks = λ x m. absurd m; ends = λ e z. absurd (none_some z) }

  made_sorted : (this n : ℕ) (path : List ℕ) (s : State) (t : Tally) → Good s.causes → Among (serial this n path s (Ok t)).blocks → Sound (serial this n path s (Ok t)).blocks (serial this n path s (Ok t)).end
  made_sorted this n path s t g f = record { blocks = blocks; ends = λ e z. good_end (record { cells = t.cells; causes = alone path s.causes }) e last z }
    where
      block : Block
      block = made this n path s.causes t

      sorted : CausesRise (made this n path s.causes t)
      sorted = record {
        after = in_order_map {B = Path} (λ c. record { 0 = c.path }) (λ (a b : Cause). IsBelow a.path b.path) (λ q r. IsBelow q.0 r.0) (λ a b l. l) s.causes.after g.after;
        mail = g.messages;
      }

      blocks : (x : Block) → Mem x (serial this n path s (Ok t)).blocks → CausesRise x
      blocks x (inl e) = subst CausesRise (sym e) sorted
      blocks x (inr m) = absurd m

      known : (c : Cause) → Mem c (alone path s.causes).after → Stood all c
      known c (inl e) = record { block = made this n path s.causes t; is_in = f _ (inl refl); path = ap (λ c. c.path) (sym e); depth = ap (λ c. c.depth) (sym e) }
      known c (inr m) = absurd m

      last : Good (alone path s.causes)
      last = record { known = known; after = ((λ y m. absurd m), tt); came = λ o m. absurd m; messages = tt }

  side : (xs ys : List Block) → ((x : Block) → Mem x xs → CausesRise x) → ((x : Block) → Mem x ys → CausesRise x) → (x : Block) → Mem x xs ⊎ Mem x ys → CausesRise x
  side xs ys h k x (inl m) = h x m
  side xs ys h k x (inr m) = k x m

  after_sorted : (r : Run) (f : State → Run) → (Among r.blocks → Sound r.blocks r.end) → ((s : State) → Good s.causes → Among (f s).blocks → Sound (f s).blocks (f s).end) → (o : Option State) → r.end ≡ o → Among (after r (from_end o f)).blocks → Sound (after r (from_end o f)).blocks (after r (from_end o f)).end
  after_sorted r f h i None e m = h m
  after_sorted r f h i (Some s) e m =
      let a = h (λ x j. m x (mem_left x r.blocks (f s).blocks j)) in
      let b = i s (a.ends s e) (λ x j. m x (mem_right x r.blocks (f s).blocks j)) in
      record { blocks = λ x j. side r.blocks (f s).blocks a.blocks b.blocks x (mem_cases x r.blocks (f s).blocks j); ends = b.ends }

  cells_sorted : (xs : List Block) (f : Cells → Cells) (o : Option State) → Sound xs o → Sound xs (recelled f o)
  cells_sorted xs f None h = record { blocks = h.blocks; ends = λ e z. absurd (none_some z) }
  cells_sorted xs f (Some s) h = record { blocks = h.blocks; ends = λ e z. good_end _ e (h.ends s refl) z }

  either : {A : Type 0} (P : A → Type 0) (xs ys : List A) → ((x : A) → Mem x xs → P x) → ((x : A) → Mem x ys → P x) → (x : A) → Mem x xs ⊎ Mem x ys → P x
  either P xs ys h k x (inl m) = h x m
  either P xs ys h k x (inr m) = k x m

  mail_in_order : (xs ys : List Origin) → ((o : Origin) → Mem o xs → CameBy mail o) → ((o : Origin) → Mem o ys → CameBy mail o) → InOrder IsBefore ys → InOrder IsBefore (put_all origin_cmp xs ys)
  mail_in_order = all_in_order origin_cmp IsBefore place_total.trans (CameBy mail) less_mail greater_mail

  after_in_order : (xs ys : List Cause) → ((c : Cause) → Mem c xs → Stood all c) → ((c : Cause) → Mem c ys → Stood all c) → InOrder (λ (a b : Cause). IsBelow a.path b.path) ys → InOrder (λ (a b : Cause). IsBelow a.path b.path) (put_all cause_cmp xs ys)
  after_in_order = all_in_order cause_cmp (λ a b. IsBelow a.path b.path) (λ a b c. nat_list_cmp_total.trans a.path b.path c.path) (Stood all) less_cause greater_cause

  good_union : (a b : Causes) → Good a → Good b → Good (union a b)
  good_union a b g h = record {
    known = λ c m. either (Stood all) a.after b.after g.known h.known c (put_all_member cause_cmp c a.after b.after m);
    after = after_in_order a.after b.after g.known h.known h.after;
    came = λ o m. either (CameBy mail) a.mail b.mail g.came h.came o (put_all_member origin_cmp o a.mail b.mail m);
    messages = mail_in_order a.mail b.mail g.came h.came h.messages;
  }

  join_sorted : (w : ℕ → Bool) (r q : Run) → (Among r.blocks → Sound r.blocks r.end) → (Among q.blocks → Sound q.blocks q.end) → Among (r.blocks ++ q.blocks) → Sound (r.blocks ++ q.blocks) (both w r.end q.end)
  join_sorted w r q h i m =
      let a = h (λ x j. m x (mem_left x r.blocks q.blocks j)) in
      let b = i (λ x j. m x (mem_right x r.blocks q.blocks j)) in
      record { blocks = λ x j. side r.blocks q.blocks a.blocks b.blocks x (mem_cases x r.blocks q.blocks j); ends = λ e z. by_ends r.end q.end a.ends b.ends e z }
    where
      by_ends : (x y : Option State) → ((e : State) → x ≡ Some e → Good e.causes) → ((e : State) → y ≡ Some e → Good e.causes) → (e : State) → both w x y ≡ Some e → Good e.causes
      by_ends None y g h e z = absurd (none_some z)
      by_ends (Some s) None g h e z = absurd (none_some z)
      by_ends (Some s) (Some t) g h e z = good_end _ e (good_union s.causes t.causes (g s refl) (h t refl)) z

  good_mail : (ks : List Key) (ms : List Message) (k : Causes) → held mail ks ≡ Some ms → Good k → Good (with_mail ms k)
  good_mail ks ms k p g = record {
    known = g.known;
    after = g.after;
    came = λ o m. either (CameBy mail) (map (λ m. m.origin) ms) k.mail (came_all mail ks ms p) g.came o (put_all_member origin_cmp o (map (λ m. m.origin) ms) k.mail m);
    messages = mail_in_order (map (λ m. m.origin) ms) k.mail (came_all mail ks ms p) g.came g.messages;
  }

  ask_sorted : (ks : List Key) (k : Causes) (as' : _) (ws : _) (f : List Message → Run) → Good k → ((ms : List Message) → Good (with_mail ms k) → Among (f ms).blocks → Sound (f ms).blocks (f ms).end) → (o : Option (List Message)) → held mail ks ≡ o → Among (go_on o as' ws f).blocks → Sound (go_on o as' ws f).blocks (go_on o as' ws f).end
  ask_sorted ks k as' ws f g h None p m = nothing
  ask_sorted ks k as' ws f g h (Some ms) p m = h ms (good_mail ks ms k p g) m

  sorting_closed : (p : Program) (this : ℕ) → Closure p this mail mail Sorting
  sorting_closed p this = record {
    ended = λ s g m. record { blocks = λ x j. absurd j; ends = λ e z. good_end s e g z };
    halted = λ k ts g m. nothing;
    made = λ n path s acts t is g m. made_sorted this n path s t g m;
    asked = λ n path k ks f g h d m. ask_sorted ks k _ _ g d h (held mail ks) refl m;
    followed = λ k r q f g h i d m. after_sorted q g (h d) i q.end refl m;
    recelled = λ k f r q h d m. cells_sorted q.blocks f q.end (h d m);
    joined = λ k w r q r' q' h i d m. join_sorted w q q' (h d) (i d) m;
  }

pub run_sorted : (p : Program) (limit c : ℕ) (mail : Lookup) → PlacesHaveOneDepth mail → (x : Block) → Mem x (run p limit c mail).blocks → CausesRise x
run_sorted p limit c mail one =
    let all = (run p limit c mail).blocks in
    let rise = run_rising p limit c mail in
    (list_kept p limit c mail mail (Sorting all rise mail one) (sorting_closed all rise mail one p c) p.body 0 1 [] (start p)
    (record { known = λ c m. absurd m; after = tt; came = λ o m. absurd m; messages = tt }) (λ x m. m)).blocks

-- ---- closed sets

signed_at : (this : ℕ) (path : List ℕ) (d k : ℕ) (ps : List Parcel) (m : Message) → Mem m (signed this path d k ps) → (m.origin.chare ≡ this) × (m.origin.path.0 ≡ path)
signed_at this path d k [] m i = absurd i
signed_at this path d k (p ∷ ps) m (inl e) = (ap (λ m. m.origin.chare) e, ap (λ m. m.origin.path.0) e)
signed_at this path d k (p ∷ ps) m (inr i) = signed_at this path d (k + 1) ps m i

module _ (p : Program) (limit : ℕ) (all : List Message) (fixed : all ≡ sent (histories p limit all)) where
  -- the block that an origin names
  record Sender (o : Origin) : Type 0 where
    block : Block
    is_block : Mem block (run p limit o.chare (mail_to all o.chare)).blocks
    path : o.path.0 ≡ block.path.0
    depth : o.depth ≡ block.depth

  sender : (c : ℕ) (o : Origin) → CameBy (mail_to all c) o → Sender o
  sender c o h =
      let f = from_block p limit (mail_to all) (chares p) h.message (subst (Mem h.message) fixed (found all c h.key h.message h.is_held).0) in
      let s = run_signed p limit f.chare (mail_to all f.chare) f.block f.is_block in
      let at = signed_at f.chare f.block.path.0 f.block.depth 1 s.parcels h.message (subst (Mem h.message) s.sends f.is_sent) in
      let chare : f.chare ≡ o.chare = sym at.0 ∙ ap (λ o. o.chare) h.is_from in
      record {
        block = f.block;
        is_block = subst (λ c. Mem f.block (run p limit c (mail_to all c)).blocks) chare f.is_block;
        path = ap (λ o. o.path.0) (sym h.is_from) ∙ at.1;
        depth = ap (λ o. o.depth) (sym h.is_from) ∙ s.depth h.message f.is_sent;
      }

  one_depth : (c : ℕ) → PlacesHaveOneDepth (mail_to all c)
  one_depth c o u h k chare path index =
      let s = sender c o h in
      let t = sender c u k in
      let there : Mem t.block (run p limit o.chare (mail_to all o.chare)).blocks = subst (λ c. Mem t.block (run p limit c (mail_to all c)).blocks) (sym chare) t.is_block in
      let block = one_at _ (run_rising p limit o.chare (mail_to all o.chare)) s.block t.block s.is_block there (sym s.path ∙ path ∙ t.path) in
      s.depth ∙ ap (λ x. x.depth) block ∙ sym t.depth

  all_sorted : (x : Block) → Mem x (all_blocks (histories p limit all)) → CausesRise x
  all_sorted x i = let o = of_all p limit (mail_to all) (chares p) x i in run_sorted p limit o.chare (mail_to all o.chare) (one_depth o.chare) x o.is_block

pub closed_sorted : (p : Program) (limit : ℕ) (hs : List History) → Closed p limit hs → (x : Block) → Mem x (all_blocks hs) → CausesRise x
closed_sorted p limit hs h = subst (λ hs. (x : Block) → Mem x (all_blocks hs) → CausesRise x) (sym h.same) (all_sorted p limit (sent hs) (ap sent h.same))
