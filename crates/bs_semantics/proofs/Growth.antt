-- With more mail a run has no less, and where it ended it is the same.
use Rattle.std.proofs.Common.{◌≡◌, ℕ, List, [], ◌∷◌, Option, Some, None, refl, sym, ap, ap₂, subst, ◌∙◌, Bool, true, is_some}
use Rattle.bs_tree.specs.declared.tree.Program.{Program}
use Rattle.bs_tree.specs.declared.tree.Stmt.{Stmt}
use Rattle.bs_log.specs.declared.history.Block.{Block}
use Rattle.bs_log.specs.declared.history.Key.{Key}
use Rattle.bs_log.specs.declared.history.Message.{Message}
use Rattle.bs_log.specs.declared.history.Asked.{Asked}
use Rattle.bs_log.specs.declared.history.WaitAt.{WaitAt}
use Rattle.bs_log.specs.Messages.{sends_of}
use Rattle.bs_semantics.specs.Value.{Cells}
use Rattle.bs_semantics.specs.Run.{Lookup, Run, State, after, from_end, then_do, with_cells, recelled, both, join, held, held_and, missing, go_on, ask, after_asking, all_asked, all_waits, meant, run, start, to_history}
use Rattle.bs_semantics.specs.Growth.{Subsequence, none, keep, skip, PartOf, RunWithin, RunGrows, HistoryWithin, HistoryGrows}
use Rattle.bs_semantics.proofs.Subsequences.{whole, empty, beside, longer}
use Rattle.bs_semantics.proofs.Options.{none_some}
use Rattle.bs_semantics.proofs.Kept.{Closure, statement_kept, list_kept}

pub itself : (r : Run) → RunWithin r r
itself r = record { blocks = whole r.blocks; asked = whole r.asked; traps = whole r.traps; same = λ e h. refl }

after_grows : (r s : Run) (f g : State → Run) → RunWithin r s → ((e : State) → RunWithin (f e) (g e)) → (x y : Option State) → r.end ≡ x → s.end ≡ y → RunWithin (after r (from_end x f)) (after s (from_end y g))
after_grows r s f g h k None None p q = h
after_grows r s f g h k None (Some t) p q = record {
  blocks = longer r.blocks s.blocks (g t).blocks h.blocks;
  asked = longer r.asked s.asked (g t).asked h.asked;
  traps = longer r.traps s.traps (g t).traps h.traps;
  same = λ e z. absurd (none_some (sym p ∙ z));
}
after_grows r s f g h k (Some e) None p q = absurd (none_some (sym q ∙ ap (λ r. r.end) (sym (h.same e p)) ∙ p))
after_grows r s f g h k (Some e) (Some t) p q =
    let rs : r ≡ s = h.same e p in
    let one : Some e ≡ Some t = sym p ∙ (ap (λ r. r.end) rs ∙ q) in
    let eq : e ≡ t = cc in
    let inner : RunWithin (f e) (g t) = subst (λ u. RunWithin (f e) (g u)) eq (k e) in
    record {
      blocks = beside r.blocks s.blocks (f e).blocks (g t).blocks h.blocks inner.blocks;
      asked = beside r.asked s.asked (f e).asked (g t).asked h.asked inner.asked;
      traps = beside r.traps s.traps (f e).traps (g t).traps h.traps inner.traps;
      same = λ u z. ap₂ (λ r q. after r (Some q)) rs (inner.same u z);
    }

pub then_grows : (r s : Run) (f g : State → Run) → RunWithin r s → ((e : State) → RunWithin (f e) (g e)) → RunWithin (then_do r f) (then_do s g)
then_grows r s f g h k = after_grows r s f g h k r.end s.end refl refl

pub cells_grow : (f : Cells → Cells) (r s : Run) → RunWithin r s → RunWithin (with_cells f r) (with_cells f s)
cells_grow f r s h = record { blocks = h.blocks; asked = h.asked; traps = h.traps; same = λ e z. by_end r.end refl e z }
  where
    by_end : (x : Option State) → r.end ≡ x → (e : State) → recelled f x ≡ Some e → with_cells f r ≡ with_cells f s
    by_end None p e z = absurd (none_some z)
    by_end (Some u) p e z = ap (with_cells f) (h.same u p)

pub join_grows : (w : ℕ → Bool) (r s r' s' : Run) → RunWithin r s → RunWithin r' s' → RunWithin (join w r r') (join w s s')
join_grows w r s r' s' h k = record {
  blocks = beside r.blocks s.blocks r'.blocks s'.blocks h.blocks k.blocks;
  asked = beside r.asked s.asked r'.asked s'.asked h.asked k.asked;
  traps = beside r.traps s.traps r'.traps s'.traps h.traps k.traps;
  same = λ e z. by_ends r.end r'.end refl refl e z;
}
  where
    by_ends : (x y : Option State) → r.end ≡ x → r'.end ≡ y → (e : State) → both w x y ≡ Some e → join w r r' ≡ join w s s'
    by_ends None y p q e z = absurd (none_some z)
    by_ends (Some u) None p q e z = absurd (none_some z)
    by_ends (Some u) (Some v) p q e z = ap₂ (join w) (h.same u p) (k.same v q)

-- what a holds, b holds alike
pub held_more : (a b : Lookup) → PartOf a b → (ks : List Key) (ms : List Message) → held a ks ≡ Some ms → held b ks ≡ Some ms
held_more a b w [] ms e = e
held_more a b w (k ∷ ks) ms e = by_key (a k) (held a ks) (w k) (held_more a b w ks) e
  where
    by_key : (x : Option Message) (y : Option (List Message)) → ((m : Message) → x ≡ Some m → b k ≡ Some m) → ((ns : List Message) → y ≡ Some ns → held b ks ≡ Some ns) → held_and x y ≡ Some ms → held b (k ∷ ks) ≡ Some ms
    by_key None y p q z = absurd (none_some z)
    by_key (Some m) None p q z = absurd (none_some z)
    by_key (Some m) (Some ns) p q z = rw (p m refl, q ns refl) z

prefix : (as' : List Asked) (r : Run) → Subsequence Asked as' (after_asking as' r).asked
prefix as' r = longer as' as' r.asked (whole as')

asking_grows : (as' : List Asked) (r s : Run) → RunWithin r s → RunWithin (after_asking as' r) (after_asking as' s)
asking_grows as' r s h = record { blocks = h.blocks; asked = beside as' as' r.asked s.asked (whole as') h.asked; traps = h.traps; same = λ e z. ap (after_asking as') (h.same e z) }

pub ask_grows : (a b : Lookup) → PartOf a b → (n : ℕ) (path : List ℕ) (ks : List Key) (f g : List Message → Run) → ((ms : List Message) → RunWithin (f ms) (g ms)) → RunWithin (ask a n path ks f) (ask b n path ks g)
ask_grows a b w n path ks f g h = by_held (held a ks) (held b ks) refl refl
  where
    wa : List WaitAt
    wa = all_waits n path (missing a ks)

    wb : List WaitAt
    wb = all_waits n path (missing b ks)

    qs : List Asked
    qs = all_asked n path ks

    by_held : (x y : Option (List Message)) → held a ks ≡ x → held b ks ≡ y → RunWithin (go_on x qs wa f) (go_on y qs wb g)
    by_held None None p q = record { blocks = none; asked = whole qs; traps = none; same = λ e z. absurd (none_some z) }
    by_held None (Some ms) p q = record { blocks = empty _; asked = prefix qs (g ms); traps = empty _; same = λ e z. absurd (none_some z) }
    by_held (Some ms) None p q = absurd (none_some (sym q ∙ held_more a b w ks ms p))
    by_held (Some ms) (Some ns) p q =
        let one : Some ms ≡ Some ns = sym (held_more a b w ks ms p) ∙ q in
        let eq : ms ≡ ns = cc in
        subst (λ ns. RunWithin (after_asking qs (f ms)) (after_asking qs (g ns))) eq (asking_grows qs (f ms) (g ms) (h ms))

pub growth_closed : (p : Program) (this : ℕ) (a b : Lookup) → PartOf a b → Closure p this a b (λ k. RunWithin)
growth_closed p this a b w = record {
  ended = λ s. itself _;
  halted = λ k ts. itself _;
  made = λ n path s acts t is. itself _;
  asked = λ n path k ks f g h. ask_grows a b w n path ks f g h;
  followed = λ k r q f g h i. then_grows r q f g h i;
  recelled = λ k f r q h. cells_grow f r q h;
  joined = λ k w r q r' q' h i. join_grows w r q r' q' h i;
}

pub grows : (p : Program) (limit c : ℕ) (s : Stmt) → RunGrows (meant p limit c s).does
grows p limit c s a b w = statement_kept p limit c a b (λ k. RunWithin) (growth_closed p c a b w) s

pub run_grows : (p : Program) (limit c : ℕ) (a b : Lookup) → PartOf a b → RunWithin (run p limit c a) (run p limit c b)
run_grows p limit c a b w = list_kept p limit c a b (λ k. RunWithin) (growth_closed p c a b w) p.body 0 1 [] (start p)

pub sends_grow : (xs ys : List Block) → Subsequence Block xs ys → Subsequence Message (sends_of xs) (sends_of ys)
sends_grow _ _ none = none
sends_grow _ _ (keep x xs ys h) = beside x.sends x.sends (sends_of xs) (sends_of ys) (whole x.sends) (sends_grow xs ys h)
sends_grow _ _ (skip y xs ys h) = beside [] y.sends (sends_of xs) (sends_of ys) (empty y.sends) (sends_grow xs ys h)

to_history_grows : (r s : Run) → RunWithin r s → HistoryWithin (to_history r) (to_history s)
to_history_grows r s h = record { blocks = h.blocks; sends = sends_grow r.blocks s.blocks h.blocks; asked = h.asked; traps = h.traps; same = by_end r.end refl }
  where
    by_end : (x : Option State) → r.end ≡ x → is_some x ≡ true → to_history r ≡ to_history s
    by_end None p e = cc
    by_end (Some u) p e = ap to_history (h.same u p)

pub grows_whole : (p : Program) (limit c : ℕ) → HistoryGrows p limit c
grows_whole p limit c a b w = to_history_grows _ _ (run_grows p limit c a b w)
