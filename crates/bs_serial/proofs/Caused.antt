-- A block whose causes have all come is a block under each part of the mail that holds them.
use Rattle.std.proofs.Common.{◌≡◌, ◌⊎◌, inl, inr, ℕ, Bool, List, [], ◌∷◌, ◌++◌, Option, Some, None, Ok, Ordering, Less, Equal, Greater, refl, sym, ap, ap₂, subst, ◌∙◌, map, nat_cmp}
use Rattle.std.specs.Ordering.{ordering_then}
use Rattle.std.specs.Cmp.Lexicographic.{slice_cmp}
use Rattle.std.proofs.lemmas.Cmp.{ranked}
use Rattle.std.proofs.lemmas.Map.Lookups.{exact_bytes}
use Rattle.bs_tree.specs.declared.tree.Program.{Program}
use Rattle.bs_tree.specs.declared.tree.Path.{Path}
use Rattle.bs_log.specs.declared.history.Block.{Block}
use Rattle.bs_log.specs.declared.history.Origin.{Origin}
use Rattle.bs_log.specs.declared.history.Key.{Key}
use Rattle.bs_log.specs.declared.history.Message.{Message}
use Rattle.bs_log.specs.declared.history.Asked.{Asked}
use Rattle.bs_log.specs.declared.history.WaitAt.{WaitAt}
use Rattle.bs_log.specs.Lists.{Mem}
use Rattle.bs_semantics.specs.Value.{Cells}
use Rattle.bs_semantics.specs.Acts.{Tally}
use Rattle.bs_semantics.specs.Run.{Lookup, Run, State, Cause, Causes, cause_cmp, origin_cmp, place_by, put, put_all, serial, made, alone, after, from_end, then_do, with_cells, recelled, both, join, held, held_and, missing, go_on, ask, all_asked, all_waits, with_mail, union, run, start}
use Rattle.bs_semantics.specs.Growth.{PartOf, RunWithin}
use Rattle.bs_semantics.proofs.Options.{none_some, some_same}
use Rattle.bs_semantics.proofs.Growth.{itself, then_grows, cells_grow, join_grows, ask_grows, held_more}
use Rattle.bs_semantics.proofs.Kept.{Closure, list_kept}
use Rattle.bs_semantics.proofs.Members.{mem_left, mem_right, mem_cases, mem_map}

-- ---- what is put into a set is in it

then_equal : (o u : Ordering) → ordering_then o u ≡ Equal → (o ≡ Equal) × (u ≡ Equal)
then_equal Less u e = absurd (cc)
then_equal Equal u e = (refl, e)
then_equal Greater u e = absurd (cc)

nat_equal : (x y : ℕ) → nat_cmp x y ≡ Equal → x ≡ y
nat_equal x y e = ranked x y Equal (sym e)

abbrev Tells : {A : Type 0} → (A → A → Ordering) → Type 0
Tells cmp = (x y : _) → cmp x y ≡ Equal → x ≡ y

cause_tells : Tells cause_cmp
cause_tells x y e =
    let one = then_equal (slice_cmp nat_cmp x.path y.path) (nat_cmp x.depth y.depth) e in
    let path : x.path ≡ y.path = exact_bytes _ _ one.0 in
    let depth : x.depth ≡ y.depth = nat_equal _ _ one.1 in
    λ j. record { path = path j; depth = depth j }

origin_tells : Tells origin_cmp
origin_tells x y e =
    let one = then_equal (nat_cmp x.chare y.chare) _ e in
    let two = then_equal (slice_cmp nat_cmp x.path.0 y.path.0) _ one.1 in
    let three = then_equal (nat_cmp x.index y.index) _ two.1 in
    let chare : x.chare ≡ y.chare = nat_equal _ _ one.0 in
    let path : x.path.0 ≡ y.path.0 = exact_bytes _ _ two.0 in
    let index : x.index ≡ y.index = nat_equal _ _ three.0 in
    let depth : x.depth ≡ y.depth = nat_equal _ _ three.1 in
    λ j. record { chare = chare j; path = record { 0 = path j }; index = index j; depth = depth j }

module _ {A : Type 0} (cmp : A → A → Ordering) where
  stays : (x y : A) (ys : List A) → Mem y ys → Mem y (put cmp x ys)
  stays x y [] m = absurd m
  stays x y (z ∷ ys) m = by_order (cmp x z) m (stays x y ys)
    where
      by_order : (r : Ordering) → Mem y (z ∷ ys) → (Mem y ys → Mem y (put cmp x ys)) → Mem y (place_by r x z ys (put cmp x ys))
      by_order Less m f = inr m
      by_order Equal m f = m
      by_order Greater (inl e) f = inl e
      by_order Greater (inr m) f = inr (f m)

  all_stay : (xs : List A) (y : A) (ys : List A) → Mem y ys → Mem y (put_all cmp xs ys)
  all_stay [] y ys m = m
  all_stay (x ∷ xs) y ys m = stays x y (put_all cmp xs ys) (all_stay xs y ys m)

  module _ (tells : Tells cmp) where
    comes_in : (x : A) (ys : List A) → Mem x (put cmp x ys)
    comes_in x [] = inl refl
    comes_in x (z ∷ ys) = by_order (cmp x z) refl (comes_in x ys)
      where
        by_order : (r : Ordering) → cmp x z ≡ r → Mem x (put cmp x ys) → Mem x (place_by r x z ys (put cmp x ys))
        by_order Less e m = inl refl
        by_order Equal e m = inl (tells x z e)
        by_order Greater e m = inr m

    all_come : (xs : List A) (x : A) (ys : List A) → Mem x xs → Mem x (put_all cmp xs ys)
    all_come [] x ys m = absurd m
    all_come (z ∷ xs) x ys (inl e) = subst (λ x. Mem x (put_all cmp (z ∷ xs) ys)) (sym e) (comes_in z (put_all cmp xs ys))
    all_come (z ∷ xs) x ys (inr m) = stays z x (put_all cmp xs ys) (all_come xs x ys m)

-- ---- runs under two mails

-- H says which messages have come, by their origins, and G which blocks, by their paths
module _ (H : Origin → Type 0) (G : List ℕ → Type 0) where
  -- all of these causes have come
  record Come (k : Causes) : Type 0 where
    after : (c : Cause) → Mem c k.after → G c.path
    mail : (o : Origin) → Mem o k.mail → H o

  -- all causes of this block have come
  pub record Ready (x : Block) : Type 0 where
    pub after : (q : Path) → Mem q x.after → G q.0
    pub mail : (o : Origin) → Mem o x.mail → H o

  -- where a block has come, its causes have
  abbrev pub AllReady : List Block → Type 0
  AllReady xs = (x : Block) → Mem x xs → G x.path.0 → Ready x

  -- the run q under the larger mail: what is ready there, rests on causes at its start that have come, and is in r
  record Meets (k : Causes) (r q : Run) : Type 0 where
    early : (x : Block) → Mem x q.blocks → Ready x → Come k
    early_end : (e : State) → q.end ≡ Some e → Come e.causes → Come k
    blocks : (x : Block) → Mem x q.blocks → Ready x → Mem x r.blocks
    end : (e : State) → q.end ≡ Some e → Come e.causes → r.end ≡ Some e

  record Follows (k : Causes) (r q : Run) : Type 0 where
    before : RunWithin r q
    meets : AllReady q.blocks → Meets k r q

  -- ---- one run after another

  after_meets : (k : Causes) (r q : Run) (f g : State → Run) → RunWithin r q → Meets k r q → ((s : State) → AllReady (g s).blocks → Meets s.causes (f s) (g s)) → (x y : Option State) → r.end ≡ x → q.end ≡ y → AllReady (after q (from_end y g)).blocks → Meets k (after r (from_end x f)) (after q (from_end y g))
  after_meets k r q f g w h i None None p z a = h
  after_meets k r q f g w h i (Some e) None p z a = absurd (none_some (sym z ∙ ap (λ r. r.end) (sym (w.same e p)) ∙ p))
  after_meets k r q f g w h i None (Some t) p z a = record {
    early = λ x m d. early x d (mem_cases x q.blocks (g t).blocks m);
    early_end = λ e u d. absurd (far (then_t.early_end e u d));
    blocks = λ x m d. blocks x d (mem_cases x q.blocks (g t).blocks m);
    end = λ e u d. absurd (far (then_t.early_end e u d));
  }
    where
      then_t : Meets t.causes (f t) (g t)
      then_t = i t (λ x m. a x (mem_right x q.blocks (g t).blocks m))

      far : Come t.causes → ⊥
      far d = none_some (sym p ∙ h.end t z d)

      early : (x : Block) → Ready x → Mem x q.blocks ⊎ Mem x (g t).blocks → Come k
      early x d (inl m) = h.early x m d
      early x d (inr m) = absurd (far (then_t.early x m d))

      blocks : (x : Block) → Ready x → Mem x q.blocks ⊎ Mem x (g t).blocks → Mem x r.blocks
      blocks x d (inl m) = h.blocks x m d
      blocks x d (inr m) = absurd (far (then_t.early x m d))
  after_meets k r q f g w h i (Some s) (Some t) p z a = record {
    early = λ x m d. early x d (mem_cases x q.blocks (g t).blocks m);
    early_end = λ e u d. h.early_end t z (then_t.early_end e u d);
    blocks = λ x m d. blocks x d (mem_cases x q.blocks (g t).blocks m);
    end = λ e u d. rw eq (then_t.end e u d);
  }
    where
      eq : s ≡ t
      eq = some_same (sym p ∙ (ap (λ r. r.end) (w.same s p) ∙ z))

      then_t : Meets t.causes (f t) (g t)
      then_t = i t (λ x m. a x (mem_right x q.blocks (g t).blocks m))

      early : (x : Block) → Ready x → Mem x q.blocks ⊎ Mem x (g t).blocks → Come k
      early x d (inl m) = h.early x m d
      early x d (inr m) = h.early_end t z (then_t.early x m d)

      blocks : (x : Block) → Ready x → Mem x q.blocks ⊎ Mem x (g t).blocks → Mem x (r.blocks ++ (f s).blocks)
      blocks x d (inl m) = mem_left x r.blocks (f s).blocks (h.blocks x m d)
      blocks x d (inr m) = mem_right x r.blocks (f s).blocks (subst (λ u. Mem x (f u).blocks) (sym eq) (then_t.blocks x m d))

  first_ready : (q : Run) (g : State → Run) (y : Option State) → AllReady (after q (from_end y g)).blocks → AllReady q.blocks
  first_ready q g None a = a
  first_ready q g (Some t) a = λ x m. a x (mem_left x q.blocks (g t).blocks m)

  then_follows : (k : Causes) (r q : Run) (f g : State → Run) → Follows k r q → ((s : State) → Follows s.causes (f s) (g s)) → Follows k (then_do r f) (then_do q g)
  then_follows k r q f g h i = record {
    before = then_grows r q f g h.before (λ s. (i s).before);
    meets = λ a. after_meets k r q f g h.before (h.meets (first_ready q g q.end a)) (λ s. (i s).meets) r.end q.end refl refl a;
  }

  -- ---- cells that change

  cells_follow : (k : Causes) (f : Cells → Cells) (r q : Run) → Follows k r q → Follows k (with_cells f r) (with_cells f q)
  cells_follow k f r q h = record { before = cells_grow f r q h.before; meets = λ a. meets (h.meets a) }
    where
      meets : Meets k r q → Meets k (with_cells f r) (with_cells f q)
      meets h = record { early = h.early; early_end = λ e u d. early_end q.end refl e u d; blocks = h.blocks; end = λ e u d. end q.end refl e u d }
        where
          early_end : (y : Option State) → q.end ≡ y → (e : State) → recelled f y ≡ Some e → Come e.causes → Come k
          early_end None p e u d = absurd (none_some u)
          early_end (Some t) p e u d = h.early_end t p (subst Come (ap (λ e. e.causes) (sym (some_same u))) d)

          end : (y : Option State) → q.end ≡ y → (e : State) → recelled f y ≡ Some e → Come e.causes → recelled f r.end ≡ Some e
          end None p e u d = absurd (none_some u)
          end (Some t) p e u d = ap (recelled f) (h.end t p (subst Come (ap (λ e. e.causes) (sym (some_same u))) d)) ∙ u

  -- ---- one run beside another

  union_first : (a b : Causes) → Come (union a b) → Come a
  union_first a b d = record {
    after = λ c m. d.after c (all_come cause_cmp cause_tells a.after c b.after m);
    mail = λ o m. d.mail o (all_come origin_cmp origin_tells a.mail o b.mail m);
  }

  union_second : (a b : Causes) → Come (union a b) → Come b
  union_second a b d = record {
    after = λ c m. d.after c (all_stay cause_cmp a.after c b.after m);
    mail = λ o m. d.mail o (all_stay origin_cmp a.mail o b.mail m);
  }

  join_meets : (k : Causes) (w : ℕ → Bool) (r q r' q' : Run) → Meets k r q → Meets k r' q' → Meets k (join w r r') (join w q q')
  join_meets k w r q r' q' h i = record {
    early = λ x m d. early x d (mem_cases x q.blocks q'.blocks m);
    early_end = λ e u d. early_end q.end q'.end refl refl e u d;
    blocks = λ x m d. blocks x d (mem_cases x q.blocks q'.blocks m);
    end = λ e u d. end q.end q'.end refl refl e u d;
  }
    where
      early : (x : Block) → Ready x → Mem x q.blocks ⊎ Mem x q'.blocks → Come k
      early x d (inl m) = h.early x m d
      early x d (inr m) = i.early x m d

      blocks : (x : Block) → Ready x → Mem x q.blocks ⊎ Mem x q'.blocks → Mem x (r.blocks ++ r'.blocks)
      blocks x d (inl m) = mem_left x r.blocks r'.blocks (h.blocks x m d)
      blocks x d (inr m) = mem_right x r.blocks r'.blocks (i.blocks x m d)

      early_end : (y y' : Option State) → q.end ≡ y → q'.end ≡ y' → (e : State) → both w y y' ≡ Some e → Come e.causes → Come k
      early_end None y' p p' e u d = absurd (none_some u)
      early_end (Some t) None p p' e u d = absurd (none_some u)
      early_end (Some t) (Some t') p p' e u d =
          h.early_end t p (union_first t.causes t'.causes (subst Come (ap (λ e. e.causes) (sym (some_same u))) d))

      end : (y y' : Option State) → q.end ≡ y → q'.end ≡ y' → (e : State) → both w y y' ≡ Some e → Come e.causes → both w r.end r'.end ≡ Some e
      end None y' p p' e u d = absurd (none_some u)
      end (Some t) None p p' e u d = absurd (none_some u)
      end (Some t) (Some t') p p' e u d =
          let all : Come (union t.causes t'.causes) = subst Come (ap (λ e. e.causes) (sym (some_same u))) d in
          ap₂ (both w) (h.end t p (union_first t.causes t'.causes all)) (i.end t' p' (union_second t.causes t'.causes all)) ∙ u

  join_follows : (k : Causes) (w : ℕ → Bool) (r q r' q' : Run) → Follows k r q → Follows k r' q' → Follows k (join w r r') (join w q q')
  join_follows k w r q r' q' h i = record {
    before = join_grows w r q r' q' h.before i.before;
    meets = λ a. join_meets k w r q r' q' (h.meets (λ x m. a x (mem_left x q.blocks q'.blocks m))) (i.meets (λ x m. a x (mem_right x q.blocks q'.blocks m)));
  }

  -- ---- a block

  made_meets : (this n : ℕ) (path : List ℕ) (s : State) (t : Tally) → AllReady (serial this n path s (Ok t)).blocks → Meets s.causes (serial this n path s (Ok t)) (serial this n path s (Ok t))
  made_meets this n path s t a = record {
    early = λ x m d. early x m d;
    early_end = λ e u d. early (made this n path s.causes t) (inl refl) (a (made this n path s.causes t) (inl refl) (own (subst Come (ap (λ e. e.causes) (sym (some_same u))) d)));
    blocks = λ x m d. m;
    end = λ e u d. u;
  }
    where
      early : (x : Block) → Mem x (serial this n path s (Ok t)).blocks → Ready x → Come s.causes
      early x (inl e) d = record {
        after = λ c m. d.after (record { 0 = c.path }) (subst (λ (x : Block). Mem (record { 0 = c.path }) x.after) (sym e) (mem_map (λ (c : Cause). record { 0 = c.path }) c s.causes.after m));
        mail = λ o m. d.mail o (subst (λ (x : Block). Mem o x.mail) (sym e) m);
      }
      early x (inr m) d = absurd m

      own : Come (alone path s.causes) → G path
      own d = d.after (record { path = path; depth = _ }) (inl refl)

  -- ---- messages that are asked for

  module _ (a b : Lookup) (w : PartOf a b) (near : (k : Key) (m : Message) → b k ≡ Some m → H m.origin → a k ≡ Some m) where
    held_near : (ks : List Key) (ms : List Message) → held b ks ≡ Some ms → ((m : Message) → Mem m ms → H m.origin) → held a ks ≡ Some ms
    held_near [] ms e l = e
    held_near (k ∷ ks) ms e l = by_key (b k) (held b ks) (near k) (held_near ks) e
      where
        by_key : (x : Option Message) (y : Option (List Message)) → ((m : Message) → x ≡ Some m → H m.origin → a k ≡ Some m) → ((ns : List Message) → y ≡ Some ns → ((m : Message) → Mem m ns → H m.origin) → held a ks ≡ Some ns) → held_and x y ≡ Some ms → held_and (a k) (held a ks) ≡ Some ms
        by_key None y p q z = absurd (none_some z)
        by_key (Some m) None p q z = absurd (none_some z)
        by_key (Some m) (Some ns) p q z =
            let all : (n : Message) → Mem n (m ∷ ns) → H n.origin = subst (λ ms. (n : Message) → Mem n ms → H n.origin) (sym (some_same z)) l in
            ap₂ held_and (p m refl (all m (inl refl))) (q ns refl (λ n i. all n (inr i))) ∙ z

    own_mail : (ms : List Message) (k : Causes) → Come (with_mail ms k) → (m : Message) → Mem m ms → H m.origin
    own_mail ms k d m i = d.mail m.origin (all_come origin_cmp origin_tells (map (λ m. m.origin) ms) m.origin k.mail (mem_map (λ (m : Message). m.origin) m ms i))

    without_mail : (ms : List Message) (k : Causes) → Come (with_mail ms k) → Come k
    without_mail ms k d = record { after = d.after; mail = λ o m. d.mail o (all_stay origin_cmp (map (λ m. m.origin) ms) o k.mail m) }

    ask_meets : (qs : List Asked) (wa wb : List WaitAt) (k : Causes) (ks : List Key) (f g : List Message → Run) → ((ms : List Message) → AllReady (g ms).blocks → Meets (with_mail ms k) (f ms) (g ms)) → (x y : Option (List Message)) → held a ks ≡ x → held b ks ≡ y → AllReady (go_on y qs wb g).blocks → Meets k (go_on x qs wa f) (go_on y qs wb g)
    ask_meets qs wa wb k ks f g h None None p z c = record { early = λ x m d. absurd m; early_end = λ e u d. absurd (none_some u); blocks = λ x m d. m; end = λ e u d. u }
    ask_meets qs wa wb k ks f g h (Some ms) None p z c = absurd (none_some (sym z ∙ held_more a b w ks ms p))
    ask_meets qs wa wb k ks f g h None (Some ms) p z c = record {
      early = λ x m d. absurd (far ((h ms c).early x m d));
      early_end = λ e u d. absurd (far ((h ms c).early_end e u d));
      blocks = λ x m d. absurd (far ((h ms c).early x m d));
      end = λ e u d. absurd (far ((h ms c).early_end e u d));
    }
      where
        far : Come (with_mail ms k) → ⊥
        far d = none_some (sym p ∙ held_near ks ms z (own_mail ms k d))
    ask_meets qs wa wb k ks f g h (Some ms) (Some ns) p z c = record {
      early = λ x m d. without_mail ns k ((h ns c).early x m d);
      early_end = λ e u d. without_mail ns k ((h ns c).early_end e u d);
      blocks = λ x m d. subst (λ ms. Mem x (f ms).blocks) (sym eq) ((h ns c).blocks x m d);
      end = λ e u d. ap (λ ms. (f ms).end) eq ∙ (h ns c).end e u d;
    }
      where
        eq : ms ≡ ns
        eq = some_same (sym (held_more a b w ks ms p) ∙ z)

    ask_follows : (n : ℕ) (path : List ℕ) (k : Causes) (ks : List Key) (f g : List Message → Run) → ((ms : List Message) → Follows (with_mail ms k) (f ms) (g ms)) → Follows k (ask a n path ks f) (ask b n path ks g)
    ask_follows n path k ks f g h = record {
      before = ask_grows a b w n path ks f g (λ ms. (h ms).before);
      meets = λ c. ask_meets (all_asked n path ks) (all_waits n path (missing a ks)) (all_waits n path (missing b ks)) k ks f g (λ ms. (h ms).meets) (held a ks) (held b ks) refl refl c;
    }

    follows_closed : (p : Program) (this : ℕ) → Closure p this a b Follows
    follows_closed p this = record {
      ended = λ s. record { before = itself _; meets = λ c. record { early = λ x m d. absurd m; early_end = λ e u d. subst Come (ap (λ e. e.causes) (sym (some_same u))) d; blocks = λ x m d. m; end = λ e u d. u } };
      halted = λ k ts. record { before = itself _; meets = λ c. record { early = λ x m d. absurd m; early_end = λ e u d. absurd (none_some u); blocks = λ x m d. m; end = λ e u d. u } };
      made = λ n path s acts t is. record { before = itself _; meets = λ c. made_meets this n path s t c };
      asked = λ n path k ks f g h. ask_follows n path k ks f g h;
      followed = λ k r q f g h i. then_follows k r q f g h i;
      recelled = λ k f r q h. cells_follow k f r q h;
      joined = λ k w r q r' q' h i. join_follows k w r q r' q' h i;
    }

    pub ready_there : (p : Program) (limit c : ℕ) → AllReady (run p limit c b).blocks → (x : Block) → Mem x (run p limit c b).blocks → Ready x → Mem x (run p limit c a).blocks
    ready_there p limit c all x m d = ((list_kept p limit c a b Follows (follows_closed p c) p.body 0 1 [] (start p)).meets all).blocks x m d
