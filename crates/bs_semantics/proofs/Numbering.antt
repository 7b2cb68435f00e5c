-- The statement numbers in a run are those of its statements, and its traps and waits rise by them.
use Rattle.std.proofs.Common.{◌≡◌, ◌≤◌, ◌<◌, ◌⊎◌, inl, inr, ℕ, zero, suc, ◌+◌, List, [], ◌∷◌, ◌++◌, Option, Some, None, Result, Ok, Err, refl, sym, ap, ap₂, subst, subst₂, map, arith, ℤ, pos, negsuc, le_refl}
use Rattle.std.specs.Prelude.{sum}
use Rattle.std.proofs.lemmas.List.Sums.{sum_by-cons}
use Rattle.bs_tree.specs.declared.tree.Program.{Program}
use Rattle.bs_tree.specs.declared.tree.Stmt.{Stmt}
use Rattle.bs_tree.specs.declared.tree.Stmt.TheOpen.{Stmt-F}
use Rattle.bs_tree.specs.declared.tree.Stmt.TheFolds.{fold-roll-Stmt, ind-Stmt, map-Stmt}
use Rattle.bs_tree.specs.Count.{statements_step, statements_of, statements_in}
use Rattle.bs_log.specs.declared.history.Key.{Key}
use Rattle.bs_log.specs.declared.history.Message.{Message}
use Rattle.bs_log.specs.declared.history.Block.{Block}
use Rattle.bs_log.specs.declared.history.Asked.{Asked}
use Rattle.bs_log.specs.declared.history.WaitAt.{WaitAt}
use Rattle.bs_log.specs.declared.history.TrapAt.{TrapAt}
use Rattle.bs_log.specs.declared.history.TrapKind.{TrapKind}
use Rattle.bs_log.specs.Lists.{Mem, InOrder}
use Rattle.bs_semantics.specs.Layout.{place_of}
use Rattle.bs_semantics.specs.Value.{Value, value_of}
use Rattle.bs_semantics.specs.Acts.{Tally, block_of}
use Rattle.bs_semantics.specs.Run.{Lookup, Run, State, Does, Meant, ends, halts, trapped, after, from_end, with, branch, serial, in_turn, both, join, parts, no_part, overlap, turns, assign, no_step, held, missing, all_asked, all_waits, go_on, took, keys_of, set_cell, counts, count_step, does_step, meant_step, meant, run, start, history}
use Rattle.bs_semantics.specs.Orderly.{IsNumbered}
use Rattle.bs_semantics.proofs.Options.{none_some}
use Rattle.bs_semantics.proofs.Members.{mem_cases, in_order_both}

-- a number of n or more, and less than m
abbrev Within : ℕ → ℕ → ℕ → Type 0
Within n m i = (n ≤ i) × (i < m)

record Spread (n m : ℕ) (r : Run) : Type 0 where
  blocks : (x : Block) → Mem x r.blocks → Within n m x.stmt
  asked : (a : Asked) → Mem a r.asked → Within n m a.stmt
  traps : (t : TrapAt) → Mem t r.traps → Within n m t.stmt
  waits : (w : WaitAt) → Mem w r.waits → Within n m w.stmt
  trap_order : InOrder (λ (x y : TrapAt). x.stmt < y.stmt) r.traps
  wait_order : InOrder (λ (x y : WaitAt). x.stmt ≤ y.stmt) r.waits
  quiet : (e : State) → r.end ≡ Some e → (r.traps ≡ []) × (r.waits ≡ [])

all_both : {A : Type 0} (P : A → Type 0) (xs ys : List A) → ((x : A) → Mem x xs → P x) → ((x : A) → Mem x ys → P x) → (x : A) → Mem x (xs ++ ys) → P x
all_both {A} P xs ys h k x m = by_side (mem_cases x xs ys m)
  where
    by_side : Mem x xs ⊎ Mem x ys → P x
    by_side (inl i) = h x i
    by_side (inr i) = k x i

ending : (n m : ℕ) (s : State) → Spread n m (ends s)
ending n m s = record { blocks = λ x i. absurd i; asked = λ x i. absurd i; traps = λ x i. absurd i; waits = λ x i. absurd i; trap_order = tt; wait_order = tt; quiet = λ e z. (refl, refl) }

halting : (n m : ℕ) → Spread n m (halts [])
halting n m = record { blocks = λ x i. absurd i; asked = λ x i. absurd i; traps = λ x i. absurd i; waits = λ x i. absurd i; trap_order = tt; wait_order = tt; quiet = λ e z. absurd (none_some z) }

trapping : (n m : ℕ) (path : List ℕ) (k : TrapKind) → n < m → Spread n m (trapped n path k)
trapping n m path k l = record { blocks = λ x i. absurd i; asked = λ x i. absurd i; traps = one; waits = λ x i. absurd i; trap_order = ((λ y i. absurd i), tt); wait_order = tt; quiet = λ e z. absurd (none_some z) }
  where
    one : (t : TrapAt) → Mem t (trapped n path k).traps → Within n m t.stmt
    one t (inl e) = subst (λ (t : TrapAt). Within n m t.stmt) (sym e) (le_refl n, l)
    one t (inr i) = absurd i

wide : (n n' m m' : ℕ) → n' ≤ n → m ≤ m' → (i : ℕ) → Within n m i → Within n' m' i
wide n n' m m' k l i w = let a = w.0 in let b = w.1 in (omega (arith, a, k), omega (arith, b, l))

widen : (n n' m m' : ℕ) → n' ≤ n → m ≤ m' → (r : Run) → Spread n m r → Spread n' m' r
widen n n' m m' k l r h = record {
  blocks = λ x i. wide n n' m m' k l x.stmt (h.blocks x i);
  asked = λ x i. wide n n' m m' k l x.stmt (h.asked x i);
  traps = λ x i. wide n n' m m' k l x.stmt (h.traps x i);
  waits = λ x i. wide n n' m m' k l x.stmt (h.waits x i);
  trap_order = h.trap_order;
  wait_order = h.wait_order;
  quiet = h.quiet;
}

none_both : {A : Type 0} (xs ys : List A) → xs ≡ [] → ys ≡ [] → xs ++ ys ≡ []
none_both xs ys p q = ap₂ (λ xs ys. xs ++ ys) p q

after_spread : (n m : ℕ) (r : Run) (f : State → Run) (o : Option State) → r.end ≡ o → Spread n m r → ((s : State) → Spread n m (f s)) → Spread n m (after r (from_end o f))
after_spread n m r f None e h i = h
after_spread n m r f (Some s) e h i =
    let q = h.quiet s e in
    let k = i s in
    record {
      blocks = all_both (λ (x : Block). Within n m x.stmt) r.blocks (f s).blocks h.blocks k.blocks;
      asked = all_both (λ (x : Asked). Within n m x.stmt) r.asked (f s).asked h.asked k.asked;
      traps = all_both (λ (x : TrapAt). Within n m x.stmt) r.traps (f s).traps h.traps k.traps;
      waits = all_both (λ (x : WaitAt). Within n m x.stmt) r.waits (f s).waits h.waits k.waits;
      trap_order = subst (λ ts. InOrder (λ (x y : TrapAt). x.stmt < y.stmt) (ts ++ (f s).traps)) (sym q.0) k.trap_order;
      wait_order = subst (λ ws. InOrder (λ (x y : WaitAt). x.stmt ≤ y.stmt) (ws ++ (f s).waits)) (sym q.1) k.wait_order;
      quiet = λ t z. let u = k.quiet t z in (none_both _ _ q.0 u.0, none_both _ _ q.1 u.1);
    }

with_spread : {A : Type 0} (n m : ℕ) (path : List ℕ) (v : Result A TrapKind) (f : A → Run) → n < m → ((x : A) → Spread n m (f x)) → Spread n m (with n path v f)
with_spread n m path (Err k) f l h = trapping n m path k l
with_spread n m path (Ok v) f l h = h v

branch_spread : (n m : ℕ) (v : ℤ) (f g : State → Run) (s : State) → Spread n m (f s) → Spread n m (g s) → Spread n m (branch v f g s)
branch_spread n m (pos zero) f g s h k = k
branch_spread n m (pos (suc v)) f g s h k = h
branch_spread n m (negsuc v) f g s h k = h

serial_spread : (this n : ℕ) (path : List ℕ) (s : State) (d : Result Tally TrapKind) → Spread n (n + 1) (serial this n path s d)
serial_spread this n path s (Err k) = trapping n (n + 1) path k (omega arith)
serial_spread this n path s (Ok t) = record { blocks = one; asked = λ x i. absurd i; traps = λ x i. absurd i; waits = λ x i. absurd i; trap_order = tt; wait_order = tt; quiet = λ e z. (refl, refl) }
  where
    one : (x : Block) → Mem x (serial this n path s (Ok t)).blocks → Within n (n + 1) x.stmt
    one x (inl e) = subst (λ (x : Block). Within n (n + 1) x.stmt) (sym e) (let a : n ≤ n = omega arith in let b : n < n + 1 = omega arith in (a, b))
    one x (inr i) = absurd i

-- the keys of one `when` have its number
asked_number : (n : ℕ) (path : List ℕ) (ks : List Key) (a : Asked) → Mem a (all_asked n path ks) → a.stmt ≡ n
asked_number n path [] a i = absurd i
asked_number n path (k ∷ ks) a (inl e) = ap (λ a. a.stmt) e
asked_number n path (k ∷ ks) a (inr i) = asked_number n path ks a i

waits_number : (n : ℕ) (path : List ℕ) (ks : List Key) (w : WaitAt) → Mem w (all_waits n path ks) → w.stmt ≡ n
waits_number n path [] w i = absurd i
waits_number n path (k ∷ ks) w (inl e) = ap (λ w. w.stmt) e
waits_number n path (k ∷ ks) w (inr i) = waits_number n path ks w i

waits_level : (n : ℕ) (path : List ℕ) (ks : List Key) → InOrder (λ (x y : WaitAt). x.stmt ≤ y.stmt) (all_waits n path ks)
waits_level n path [] = tt
waits_level n path (k ∷ ks) = ((λ w i. let e = waits_number n path ks w i in omega (arith, e)), waits_level n path ks)

at_number : (n m i : ℕ) → n < m → i ≡ n → Within n m i
at_number n m i l e = (omega (arith, e), omega (arith, l, e))

go_on_spread : (n m : ℕ) (path : List ℕ) (ks ls : List Key) (o : Option (List Message)) (f : List Message → Run) → n < m → ((ms : List Message) → Spread n m (f ms)) → Spread n m (go_on o (all_asked n path ks) (all_waits n path ls) f)
go_on_spread n m path ks ls None f l h = record {
  blocks = λ x i. absurd i;
  asked = λ a i. at_number n m a.stmt l (asked_number n path ks a i);
  traps = λ x i. absurd i;
  waits = λ w i. at_number n m w.stmt l (waits_number n path ls w i);
  trap_order = tt;
  wait_order = waits_level n path ls;
  quiet = λ e z. absurd (none_some z);
}
go_on_spread n m path ks ls (Some ms) f l h = record {
  blocks = (h ms).blocks;
  asked = all_both (λ (a : Asked). Within n m a.stmt) (all_asked n path ks) (f ms).asked (λ a i. at_number n m a.stmt l (asked_number n path ks a i)) (h ms).asked;
  traps = (h ms).traps;
  waits = (h ms).waits;
  trap_order = (h ms).trap_order;
  wait_order = (h ms).wait_order;
  quiet = (h ms).quiet;
}

-- a statement from the number n on
abbrev Spreads : ℕ → Does → Type 0
Spreads count d = (mail : Lookup) (n : ℕ) (path : List ℕ) (s : State) → Spread n (n + count) (d mail n path s)

abbrev AllSpread : List Meant → Type 0
AllSpread [] = Unit {0}
AllSpread (d ∷ ds) = Spreads d.count d.does × AllSpread ds

in_turn_spread : (ds : List Meant) (k : ℕ) → AllSpread ds → Spreads (counts ds) (in_turn ds k)
in_turn_spread [] k h mail n path s = ending _ _ s
in_turn_spread (d ∷ ds) k h mail n path s =
    after_spread n (n + (d.count + counts ds)) _ _ _ refl
    (widen n n (n + d.count) (n + (d.count + counts ds)) (le_refl n) (omega arith) _ (h.0 mail n (path ++ k ∷ []) s))
    (λ t. widen (n + d.count) n (n + d.count + counts ds) (n + (d.count + counts ds)) (omega arith) (omega arith) _ (in_turn_spread ds (k + 1) h.1 mail (n + d.count) path t))

-- the parts before the number n, and the part from it on
join_spread : (lo n m : ℕ) → lo ≤ n → n ≤ m → (w : ℕ → _) (r q : Run) → Spread lo n r → Spread n m q → Spread lo m (join w r q)
join_spread lo n m a b w r q h i = record {
  blocks = all_both (λ (x : Block). Within lo m x.stmt) r.blocks q.blocks (λ x j. wide lo lo n m (le_refl lo) b x.stmt (h.blocks x j)) (λ x j. wide n lo m m a (le_refl m) x.stmt (i.blocks x j));
  asked = all_both (λ (x : Asked). Within lo m x.stmt) r.asked q.asked (λ x j. wide lo lo n m (le_refl lo) b x.stmt (h.asked x j)) (λ x j. wide n lo m m a (le_refl m) x.stmt (i.asked x j));
  traps = all_both (λ (x : TrapAt). Within lo m x.stmt) r.traps q.traps (λ x j. wide lo lo n m (le_refl lo) b x.stmt (h.traps x j)) (λ x j. wide n lo m m a (le_refl m) x.stmt (i.traps x j));
  waits = all_both (λ (x : WaitAt). Within lo m x.stmt) r.waits q.waits (λ x j. wide lo lo n m (le_refl lo) b x.stmt (h.waits x j)) (λ x j. wide n lo m m a (le_refl m) x.stmt (i.waits x j));
  trap_order = in_order_both (λ (x y : TrapAt). x.stmt < y.stmt) r.traps q.traps h.trap_order i.trap_order (λ x y j k. let u = (h.traps x j).1 in let v = (i.traps y k).0 in omega (arith, u, v));
  wait_order = in_order_both (λ (x y : WaitAt). x.stmt ≤ y.stmt) r.waits q.waits h.wait_order i.wait_order (λ x y j k. let u = (h.waits x j).1 in let v = (i.waits y k).0 in omega (arith, u, v));
  quiet = λ e z. by_ends r.end q.end refl refl e z;
}
  where
    by_ends : (x y : Option State) → r.end ≡ x → q.end ≡ y → (e : State) → both w x y ≡ Some e → (r.traps ++ q.traps ≡ []) × (r.waits ++ q.waits ≡ [])
    by_ends None y c d e z = absurd (none_some z)
    by_ends (Some s) None c d e z = absurd (none_some z)
    by_ends (Some s) (Some t) c d e z = let one = h.quiet s c in let two = i.quiet t d in (none_both _ _ one.0 two.0, none_both _ _ one.1 two.1)

parts_spread : (lo : ℕ) (r : Run) (ds : List Meant) (k : ℕ) → AllSpread ds → (mail : Lookup) (n : ℕ) (path : List ℕ) (s : State) → lo ≤ n → Spread lo n r → Spread lo (n + counts ds) (parts r ds k mail n path s)
parts_spread lo r [] k h mail n path s l i = widen lo lo n (n + 0) (le_refl lo) (omega arith) r i
parts_spread lo r (d ∷ ds) k h mail n path s l i =
    widen lo lo (n + d.count + counts ds) (n + (d.count + counts ds)) (le_refl lo) (omega arith) _
    (parts_spread lo (join d.writes r (d.does mail n (path ++ k ∷ []) s)) ds (k + 1) h.1 mail (n + d.count) path s (omega (arith, l))
    (join_spread lo n (n + d.count) l (omega arith) d.writes r _ i (h.0 mail n (path ++ k ∷ []) s)))

overlap_spread : (ds : List Meant) → AllSpread ds → Spreads (counts ds) (overlap ds)
overlap_spread [] h mail n path s = ending _ _ s
overlap_spread (d ∷ ds) h mail n path s = parts_spread n (no_part s) (d ∷ ds) 0 h mail n path s (le_refl n) (ending _ _ _)

abbrev StepSpreads : (ℕ → List ℕ → (State → Run) → State → Run) → Type 0
StepSpreads step = (n m : ℕ) (path : List ℕ) (f : State → Run) → n < m → ((s : State) → Spread n m (f s)) → (s : State) → Spread n m (step n path f s)

turns_spread : (m : ℕ) (test : State → Value) (step : ℕ → List ℕ → (State → Run) → State → Run) (ds : List Meant) (k : ℕ) → StepSpreads step → AllSpread ds → Spreads (1 + counts ds) (turns m test step ds k)
turns_spread zero test step ds k t h mail n path s = with_spread n (n + (1 + counts ds)) path (test s) _ (omega arith) (λ v. branch_spread _ _ v _ _ s (halting _ _) (ending _ _ s))
turns_spread (suc m) test step ds k t h mail n path s =
    with_spread n (n + (1 + counts ds)) path (test s) _ (omega arith) (λ v. branch_spread _ _ v _ _ s
    (after_spread n (n + (1 + counts ds)) _ _ _ refl
    (widen (n + 1) n (n + 1 + counts ds) (n + (1 + counts ds)) (omega arith) (omega arith) _ (in_turn_spread ds 0 h mail (n + 1) (path ++ k ∷ []) s))
    (t n (n + (1 + counts ds)) path _ (omega arith) (turns_spread m test step ds (k + 1) t h mail n path)))
    (ending _ _ s))

assign_spreads : (value : State → Value) (at : ℕ) → StepSpreads (assign value at)
assign_spreads value at n m path f l h s = with_spread n m path (value s) _ l (λ v. h _)

-- a list inside a statement
inner_spread : (ds : List Meant) (more : ℕ) → AllSpread ds → (mail : Lookup) (n : ℕ) (path : List ℕ) (s : State) → Spread n (n + (1 + counts ds + more)) (in_turn ds 0 mail (n + 1) path s)
inner_spread ds more h mail n path s = widen (n + 1) n (n + 1 + counts ds) (n + (1 + counts ds + more)) (omega arith) (omega arith) _ (in_turn_spread ds 0 h mail (n + 1) path s)

body_spread : (ds : List Meant) → AllSpread ds → (mail : Lookup) (n : ℕ) (path : List ℕ) (s : State) → Spread n (n + (1 + counts ds)) (in_turn ds 0 mail (n + 1) path s)
body_spread ds h mail n path s = widen (n + 1) n (n + 1 + counts ds) (n + (1 + counts ds)) (omega arith) (omega arith) _ (in_turn_spread ds 0 h mail (n + 1) path s)

module _ (p : Program) (limit this : ℕ) where
  -- what the count is, and that the numbers are of it
  abbrev Fine : Stmt → Type 0
  Fine s = ((meant p limit this s).count ≡ statements_of s) × Spreads (meant p limit this s).count (meant p limit this s).does

  abbrev Those : Type 0
  Those = List ((s : Stmt) × Fine s)

  abbrev meant_in : Those → List Meant
  meant_in es = map (meant p limit this) (map (λ e. e.0) es)

  all_spread : (es : Those) → AllSpread (meant_in es)
  all_spread [] = tt
  all_spread (e ∷ es) = (e.1.1, all_spread es)

  all_counted : (es : Those) → counts (meant_in es) ≡ sum (map statements_of (map (λ e. e.0) es))
  all_counted [] = refl
  all_counted (e ∷ es) =
      let one = e.1.0 in
      let more = all_counted es in
      let both = sum_by-cons (λ n. n) (statements_of e.0) (map statements_of (map (λ e. e.0) es)) in
      omega (arith, one, more, both)

  step_spreads : (y : Stmt-F ((s : Stmt) × Fine s)) → Spreads (count_step (map-Stmt Stmt Meant (meant p limit this) (map-Stmt _ Stmt (λ e. e.0) y))) (does_step p limit this (map-Stmt Stmt Meant (meant p limit this) (map-Stmt _ Stmt (λ e. e.0) y)))
  step_spreads (Stmt-F.Serial acts) mail n path s = serial_spread this n path s (block_of p this acts s.cells)
  step_spreads (Stmt-F.When waits body) mail n path s =
      with_spread n (n + (1 + counts (meant_in body))) path (keys_of p this waits s.cells) _ (omega arith)
      (λ ks. go_on_spread n (n + (1 + counts (meant_in body))) path ks (missing mail ks) (held mail ks) _ (omega arith) (λ ms. body_spread (meant_in body) (all_spread body) mail n path (took p waits s ms)))
  step_spreads (Stmt-F.Overlap body) mail n path s =
      widen (n + 1) n (n + 1 + counts (meant_in body)) (n + (1 + counts (meant_in body))) (omega arith) (omega arith) _ (overlap_spread (meant_in body) (all_spread body) mail (n + 1) path s)
  step_spreads (Stmt-F.For x first test y step body) mail n path s =
      with_spread n (n + (1 + counts (meant_in body))) path (value_of p this first s.cells) _ (omega arith)
      (λ v. turns_spread (suc limit) (λ s. value_of p this test s.cells) (assign (λ s. value_of p this step s.cells) (place_of p y).from) (meant_in body) 0 (assign_spreads (λ s. value_of p this step s.cells) (place_of p y).from) (all_spread body) mail n path (set_cell (place_of p x).from s v))
  step_spreads (Stmt-F.While test body) mail n path s =
      turns_spread (suc limit) (λ s. value_of p this test s.cells) no_step (meant_in body) 0 (λ n m path f l h s. h s) (all_spread body) mail n path s
  step_spreads (Stmt-F.If test body None) mail n path s =
      with_spread n (n + (1 + counts (meant_in body) + 0)) path (value_of p this test s.cells) _ (omega arith)
      (λ v. branch_spread _ _ v _ _ s (inner_spread (meant_in body) 0 (all_spread body) mail n (path ++ 0 ∷ []) s) (ending _ _ s))
  step_spreads (Stmt-F.If test body (Some other)) mail n path s =
      with_spread n (n + (1 + counts (meant_in body) + counts (meant_in other))) path (value_of p this test s.cells) _ (omega arith)
      (λ v. branch_spread _ _ v _ _ s (inner_spread (meant_in body) (counts (meant_in other)) (all_spread body) mail n (path ++ 0 ∷ []) s)
      (widen (n + 1 + counts (meant_in body)) n (n + 1 + counts (meant_in body) + counts (meant_in other)) (n + (1 + counts (meant_in body) + counts (meant_in other))) (omega arith) (omega arith) _
      (in_turn_spread (meant_in other) 0 (all_spread other) mail (n + 1 + counts (meant_in body)) (path ++ 1 ∷ []) s)))
  step_spreads (Stmt-F.Seq body) mail n path s = body_spread (meant_in body) (all_spread body) mail n path s

  step_counted : (y : Stmt-F ((s : Stmt) × Fine s)) → count_step (map-Stmt Stmt Meant (meant p limit this) (map-Stmt _ Stmt (λ e. e.0) y)) ≡ statements_step (map-Stmt Stmt ℕ statements_of (map-Stmt _ Stmt (λ e. e.0) y))
  step_counted (Stmt-F.Serial acts) = refl
  step_counted (Stmt-F.When waits body) = ap (λ n. 1 + n) (all_counted body)
  step_counted (Stmt-F.Overlap body) = ap (λ n. 1 + n) (all_counted body)
  step_counted (Stmt-F.For x first test y step body) = ap (λ n. 1 + n) (all_counted body)
  step_counted (Stmt-F.While test body) = ap (λ n. 1 + n) (all_counted body)
  step_counted (Stmt-F.If test body None) = ap (λ n. 1 + n + 0) (all_counted body)
  step_counted (Stmt-F.If test body (Some other)) = ap₂ (λ m n. 1 + m + n) (all_counted body) (all_counted other)
  step_counted (Stmt-F.Seq body) = ap (λ n. 1 + n) (all_counted body)

  abbrev FineSo : Meant → ℕ → Type 0
  FineSo d n = (d.count ≡ n) × Spreads d.count d.does

  statement_fine : (s : Stmt) → Fine s
  statement_fine = ind-Stmt Fine (λ x y is.
      subst₂ FineSo (sym (fold-roll-Stmt Meant (meant_step p limit this) x)) (sym (fold-roll-Stmt ℕ statements_step x))
      (subst (λ z. FineSo (meant_step p limit this (map-Stmt Stmt Meant (meant p limit this) z)) (statements_step (map-Stmt Stmt ℕ statements_of z))) is (step_counted y, step_spreads y)))

  statements_spread : (ss : List Stmt) → AllSpread (map (meant p limit this) ss)
  statements_spread [] = tt
  statements_spread (s ∷ ss) = ((statement_fine s).1, statements_spread ss)

  statements_counted : (ss : List Stmt) → counts (map (meant p limit this) ss) ≡ statements_in ss
  statements_counted [] = refl
  statements_counted (s ∷ ss) =
      let one = (statement_fine s).0 in
      let more = statements_counted ss in
      let both = sum_by-cons (λ n. n) (statements_of s) (map statements_of ss) in
      omega (arith, one, more, both)

  pub numbered : (mail : Lookup) → IsNumbered p (history p limit this mail)
  numbered mail = record {
    blocks = λ x i. fits x.stmt (all.blocks x i);
    asked = λ x i. fits x.stmt (all.asked x i);
    traps = λ x i. fits x.stmt (all.traps x i);
    waits = λ x i. fits x.stmt (all.waits x i);
    trap_order = all.trap_order;
    wait_order = all.wait_order;
  }
    where
      all : Spread 1 (1 + counts (map (meant p limit this) p.body)) (run p limit this mail)
      all = in_turn_spread (map (meant p limit this) p.body) 0 (statements_spread p.body) mail 1 [] (start p)

      fits : (i : ℕ) → Within 1 (1 + counts (map (meant p limit this) p.body)) i → (1 ≤ i) × (i ≤ statements_in p.body)
      fits i w = let e = statements_counted p.body in let l = w.1 in (w.0, omega (arith, e, l))
