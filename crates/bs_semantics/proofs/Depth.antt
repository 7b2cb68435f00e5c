-- Where a mail has all of a larger one that is less deep than d, a run has all blocks of the larger one's up to d.
use Rattle.std.proofs.Common.{◌≡◌, ◌≤◌, ◌<◌, ◌⊎◌, inl, inr, ℕ, Bool, List, [], ◌∷◌, ◌++◌, Option, Some, None, Ok, refl, sym, ap, ap₂, subst, ◌∙◌, arith}
use Rattle.std.proofs.lemmas.Bool.{cases_lt}
use Rattle.bs_tree.specs.declared.tree.Program.{Program}
use Rattle.bs_tree.specs.declared.tree.Stmt.{Stmt}
use Rattle.bs_log.specs.declared.history.Block.{Block}
use Rattle.bs_log.specs.declared.history.Key.{Key}
use Rattle.bs_log.specs.declared.history.Message.{Message}
use Rattle.bs_log.specs.declared.history.Asked.{Asked}
use Rattle.bs_log.specs.declared.history.WaitAt.{WaitAt}
use Rattle.bs_log.specs.Lists.{Mem}
use Rattle.bs_semantics.specs.Value.{Cells}
use Rattle.bs_semantics.specs.Acts.{Tally}
use Rattle.bs_semantics.specs.Run.{Lookup, Run, State, Causes, serial, after, from_end, then_do, with_cells, recelled, both, join, held, held_and, missing, go_on, ask, all_asked, all_waits, with_mail, union, depth_of, meant, run, start}
use Rattle.bs_semantics.specs.Growth.{PartOf, RunWithin}
use Rattle.bs_semantics.specs.Depth.{HoldsBelow}
use Rattle.bs_semantics.proofs.Options.{none_some, some_same}
use Rattle.bs_semantics.proofs.Growth.{itself, then_grows, cells_grow, join_grows, ask_grows, held_more}
use Rattle.bs_semantics.proofs.CauseDepths.{union_depth, with_mail_depth, depth_in}
use Rattle.bs_semantics.proofs.Kept.{Closure, statement_kept, list_kept}
use Rattle.bs_semantics.proofs.Members.{mem_left, mem_right, mem_cases}

-- r under the smaller mail, q under the larger
pub record Deep (d : ℕ) (k : Causes) (r q : Run) : Type 0 where
  pub before : RunWithin r q
  pub above : (x : Block) → Mem x q.blocks → depth_of k < x.depth
  pub end_above : (e : State) → q.end ≡ Some e → depth_of k ≤ depth_of e.causes
  pub blocks : (x : Block) → Mem x q.blocks → x.depth ≤ d → Mem x r.blocks
  pub end : (e : State) → q.end ≡ Some e → depth_of e.causes < d → r.end ≡ Some e

module _ (d : ℕ) where
  after_deep : (k : Causes) (r q : Run) (f g : State → Run) → Deep d k r q → ((s : State) → Deep d s.causes (f s) (g s)) → (x y : Option State) → r.end ≡ x → q.end ≡ y → RunWithin (after r (from_end x f)) (after q (from_end y g)) → Deep d k (after r (from_end x f)) (after q (from_end y g))
  after_deep k r q f g h i None None p z w = h
  after_deep k r q f g h i (Some e) None p z w = absurd (none_some (sym z ∙ ap (λ r. r.end) (sym (h.before.same e p)) ∙ p))
  after_deep k r q f g h i None (Some t) p z w = record {
    before = w;
    above = λ x m. above x (mem_cases x q.blocks (g t).blocks m);
    end_above = λ e u. let one = (i t).end_above e u in let two = h.end_above t z in omega (arith, one, two);
    blocks = λ x m l. blocks x l (mem_cases x q.blocks (g t).blocks m);
    end = λ e u l. let one = (i t).end_above e u in let two = far in absurd (omega (arith, one, two, l));
  }
    where
      far : d ≤ depth_of t.causes
      far = by_cases (cases_lt (depth_of t.causes) d)
        where
          by_cases : (depth_of t.causes < d) ⊎ (d ≤ depth_of t.causes) → d ≤ depth_of t.causes
          by_cases (inl l) = absurd (none_some (sym p ∙ h.end t z l))
          by_cases (inr l) = l

      above : (x : Block) → Mem x q.blocks ⊎ Mem x (g t).blocks → depth_of k < x.depth
      above x (inl m) = h.above x m
      above x (inr m) = let one = (i t).above x m in let two = h.end_above t z in omega (arith, one, two)

      blocks : (x : Block) → x.depth ≤ d → Mem x q.blocks ⊎ Mem x (g t).blocks → Mem x r.blocks
      blocks x l (inl m) = h.blocks x m l
      blocks x l (inr m) = let one = (i t).above x m in let two = far in absurd (omega (arith, one, two, l))
  after_deep k r q f g h i (Some s) (Some t) p z w = record {
    before = w;
    above = λ x m. above x (mem_cases x q.blocks (g t).blocks m);
    end_above = λ e u. let one = (i t).end_above e u in let two = h.end_above t z in omega (arith, one, two);
    blocks = λ x m l. blocks x l (mem_cases x q.blocks (g t).blocks m);
    end = λ e u l. rw eq ((i t).end e u l);
  }
    where
      eq : s ≡ t
      eq = some_same (sym p ∙ (ap (λ r. r.end) (h.before.same s p) ∙ z))

      above : (x : Block) → Mem x q.blocks ⊎ Mem x (g t).blocks → depth_of k < x.depth
      above x (inl m) = h.above x m
      above x (inr m) = let one = (i t).above x m in let two = h.end_above t z in omega (arith, one, two)

      blocks : (x : Block) → x.depth ≤ d → Mem x q.blocks ⊎ Mem x (g t).blocks → Mem x (r.blocks ++ (f s).blocks)
      blocks x l (inl m) = mem_left x r.blocks (f s).blocks (h.blocks x m l)
      blocks x l (inr m) = mem_right x r.blocks (f s).blocks (subst (λ u. Mem x (f u).blocks) (sym eq) ((i t).blocks x m l))

  then_deep : (k : Causes) (r q : Run) (f g : State → Run) → Deep d k r q → ((s : State) → Deep d s.causes (f s) (g s)) → Deep d k (then_do r f) (then_do q g)
  then_deep k r q f g h i = after_deep k r q f g h i r.end q.end refl refl (then_grows r q f g h.before (λ s. (i s).before))

  cells_deep : (k : Causes) (f : Cells → Cells) (r q : Run) → Deep d k r q → Deep d k (with_cells f r) (with_cells f q)
  cells_deep k f r q h = record {
    before = cells_grow f r q h.before;
    above = h.above;
    end_above = λ e u. above q.end refl e u;
    blocks = h.blocks;
    end = λ e u l. end q.end refl e u l;
  }
    where
      above : (y : Option State) → q.end ≡ y → (e : State) → recelled f y ≡ Some e → depth_of k ≤ depth_of e.causes
      above None p e u = absurd (none_some u)
      above (Some t) p e u = subst (λ c. depth_of k ≤ depth_of c) (ap (λ e. e.causes) (some_same u)) (h.end_above t p)

      end : (y : Option State) → q.end ≡ y → (e : State) → recelled f y ≡ Some e → depth_of e.causes < d → recelled f r.end ≡ Some e
      end None p e u l = absurd (none_some u)
      end (Some t) p e u l = ap (recelled f) (h.end t p (subst (λ c. depth_of c < d) (ap (λ e. e.causes) (sym (some_same u))) l)) ∙ u

  join_deep : (k : Causes) (w : ℕ → Bool) (r q r' q' : Run) → Deep d k r q → Deep d k r' q' → Deep d k (join w r r') (join w q q')
  join_deep k w r q r' q' h i = record {
    before = join_grows w r q r' q' h.before i.before;
    above = λ x m. above x (mem_cases x q.blocks q'.blocks m);
    end_above = λ e u. end_above q.end q'.end refl refl e u;
    blocks = λ x m l. blocks x l (mem_cases x q.blocks q'.blocks m);
    end = λ e u l. end q.end q'.end refl refl e u l;
  }
    where
      above : (x : Block) → Mem x q.blocks ⊎ Mem x q'.blocks → depth_of k < x.depth
      above x (inl m) = h.above x m
      above x (inr m) = i.above x m

      blocks : (x : Block) → x.depth ≤ d → Mem x q.blocks ⊎ Mem x q'.blocks → Mem x (r.blocks ++ r'.blocks)
      blocks x l (inl m) = mem_left x r.blocks r'.blocks (h.blocks x m l)
      blocks x l (inr m) = mem_right x r.blocks r'.blocks (i.blocks x m l)

      end_above : (y y' : Option State) → q.end ≡ y → q'.end ≡ y' → (e : State) → both w y y' ≡ Some e → depth_of k ≤ depth_of e.causes
      end_above None y' p p' e u = absurd (none_some u)
      end_above (Some t) None p p' e u = absurd (none_some u)
      end_above (Some t) (Some t') p p' e u =
          let one = h.end_above t p in
          let two = union_depth t.causes t'.causes in
          subst (λ e. depth_of k ≤ depth_of e.causes) (some_same u) (omega (arith, one, two))

      end : (y y' : Option State) → q.end ≡ y → q'.end ≡ y' → (e : State) → both w y y' ≡ Some e → depth_of e.causes < d → both w r.end r'.end ≡ Some e
      end None y' p p' e u l = absurd (none_some u)
      end (Some t) None p p' e u l = absurd (none_some u)
      end (Some t) (Some t') p p' e u l =
          let two = union_depth t.causes t'.causes in
          let low : depth_of (union t.causes t'.causes) < d = subst (λ e. depth_of e.causes < d) (sym (some_same u)) l in
          ap₂ (both w) (h.end t p (omega (arith, two, low))) (i.end t' p' (omega (arith, two, low))) ∙ u

  module _ (a b : Lookup) (w : PartOf a b) (near : HoldsBelow d a b) where
    held_near : (ks : List Key) (ms : List Message) → held b ks ≡ Some ms → depth_in ms < d → held a ks ≡ Some ms
    held_near [] ms e l = e
    held_near (k ∷ ks) ms e l = by_key (b k) (held b ks) (near k) (held_near ks) e
      where
        by_key : (x : Option Message) (y : Option (List Message)) → ((m : Message) → x ≡ Some m → m.origin.depth < d → a k ≡ Some m) → ((ns : List Message) → y ≡ Some ns → depth_in ns < d → held a ks ≡ Some ns) → held_and x y ≡ Some ms → held_and (a k) (held a ks) ≡ Some ms
        by_key None y p q z = absurd (none_some z)
        by_key (Some m) None p q z = absurd (none_some z)
        by_key (Some m) (Some ns) p q z =
            let low : depth_in (m ∷ ns) < d = subst (λ ms. depth_in ms < d) (sym (some_same z)) l in
            ap₂ held_and (p m refl (omega (arith, low))) (q ns refl (omega (arith, low))) ∙ z

    ask_deep : (n : ℕ) (path : List ℕ) (k : Causes) (ks : List Key) (f g : List Message → Run) → ((ms : List Message) → Deep d (with_mail ms k) (f ms) (g ms)) → Deep d k (ask a n path ks f) (ask b n path ks g)
    ask_deep n path k ks f g h = by_held (held a ks) (held b ks) refl refl (ask_grows a b w n path ks f g (λ ms. (h ms).before))
      where
        wa : List WaitAt
        wa = all_waits n path (missing a ks)

        wb : List WaitAt
        wb = all_waits n path (missing b ks)

        qs : List Asked
        qs = all_asked n path ks

        by_held : (x y : Option (List Message)) → held a ks ≡ x → held b ks ≡ y → RunWithin (go_on x qs wa f) (go_on y qs wb g) → Deep d k (go_on x qs wa f) (go_on y qs wb g)
        by_held None None p z v = record { before = v; above = λ x m. absurd m; end_above = λ e u. absurd (none_some u); blocks = λ x m l. m; end = λ e u l. u }
        by_held (Some ms) None p z v = absurd (none_some (sym z ∙ held_more a b w ks ms p))
        by_held None (Some ms) p z v =
            let deep = with_mail_depth ms k in
            let far : d ≤ depth_in ms = by_cases (cases_lt (depth_in ms) d) in
            record {
              before = v;
              above = λ x m. let one = (h ms).above x m in omega (arith, one, deep);
              end_above = λ e u. let one = (h ms).end_above e u in omega (arith, one, deep);
              blocks = λ x m l. let one = (h ms).above x m in absurd (omega (arith, one, deep, far, l));
              end = λ e u l. let one = (h ms).end_above e u in absurd (omega (arith, one, deep, far, l));
            }
          where
            by_cases : (depth_in ms < d) ⊎ (d ≤ depth_in ms) → d ≤ depth_in ms
            by_cases (inl l) = absurd (none_some (sym p ∙ held_near ks ms z l))
            by_cases (inr l) = l
        by_held (Some ms) (Some ns) p z v =
            let deep = with_mail_depth ns k in
            let eq : ms ≡ ns = some_same (sym (held_more a b w ks ms p) ∙ z) in
            record {
              before = v;
              above = λ x m. let one = (h ns).above x m in omega (arith, one, deep);
              end_above = λ e u. let one = (h ns).end_above e u in omega (arith, one, deep);
              blocks = λ x m l. subst (λ ms. Mem x (f ms).blocks) (sym eq) ((h ns).blocks x m l);
              end = λ e u l. ap (λ ms. (f ms).end) eq ∙ (h ns).end e u l;
            }

    made_deep : (this n : ℕ) (path : List ℕ) (s : State) (t : Tally) → Deep d s.causes (serial this n path s (Ok t)) (serial this n path s (Ok t))
    made_deep this n path s t = record {
      before = itself _;
      above = λ x m. above x m;
      end_above = λ e u. end_above e u;
      blocks = λ x m l. m;
      end = λ e u l. u;
    }
      where
        above : (x : Block) → Mem x (serial this n path s (Ok t)).blocks → depth_of s.causes < x.depth
        above x (inl e) = subst (λ j. depth_of s.causes < j) (ap (λ x. x.depth) (sym e)) (omega arith)
        above x (inr m) = absurd m

        end_above : (e : State) → (serial this n path s (Ok t)).end ≡ Some e → depth_of s.causes ≤ depth_of e.causes
        end_above e u = subst (λ e. depth_of s.causes ≤ depth_of e.causes) (some_same u) (omega arith)

    deep_closed : (p : Program) (this : ℕ) → Closure p this a b (Deep d)
    deep_closed p this = record {
      ended = λ s. record { before = itself _; above = λ x m. absurd m; end_above = λ e u. subst (λ e. depth_of s.causes ≤ depth_of e.causes) (some_same u) (omega arith); blocks = λ x m l. m; end = λ e u l. u };
      halted = λ k ts. record { before = itself _; above = λ x m. absurd m; end_above = λ e u. absurd (none_some u); blocks = λ x m l. m; end = λ e u l. u };
      made = λ n path s acts t is. made_deep this n path s t;
      asked = λ n path k ks f g h. ask_deep n path k ks f g h;
      followed = λ k r q f g h i. then_deep k r q f g h i;
      recelled = λ k f r q h. cells_deep k f r q h;
      joined = λ k w r q r' q' h i. join_deep k w r q r' q' h i;
    }

    pub statement_deep : (p : Program) (limit c n : ℕ) (path : List ℕ) (st : Stmt) (s : State) → Deep d s.causes ((meant p limit c st).does a n path s) ((meant p limit c st).does b n path s)
    statement_deep p limit c n path st s = statement_kept p limit c a b (Deep d) (deep_closed p c) st n path s

    pub run_deep : (p : Program) (limit c : ℕ) → Deep d (start p).causes (run p limit c a) (run p limit c b)
    run_deep p limit c = list_kept p limit c a b (Deep d) (deep_closed p c) p.body 0 1 [] (start p)
