-- Within the limit, a greater bound on turns changes nothing.
use Rattle.std.proofs.Common.{◌≡◌, ◌≤◌, ◌<◌, ℕ, zero, suc, ◌+◌, Bool, true, false, ◌&&◌, ◌||◌, List, [], ◌∷◌, ◌++◌, Option, Some, None, Result, Ok, Err, refl, sym, ap, ap₂, subst, subst₂, ◌∙◌, map, length, length-append, arith, ℤ, pos, negsuc}
use Rattle.std.proofs.lemmas.Bool.{and_parts}
use Rattle.bs_tree.specs.declared.tree.Program.{Program}
use Rattle.bs_tree.specs.declared.tree.Stmt.{Stmt}
use Rattle.bs_tree.specs.declared.tree.Stmt.TheOpen.{Stmt-F}
use Rattle.bs_tree.specs.declared.tree.Stmt.TheFolds.{fold-roll-Stmt, ind-Stmt, map-Stmt}
use Rattle.bs_log.specs.declared.history.Message.{Message}
use Rattle.bs_log.specs.declared.history.TrapKind.{TrapKind}
use Rattle.bs_semantics.specs.Layout.{place_of, owns}
use Rattle.bs_semantics.specs.Value.{Value, value_of}
use Rattle.bs_semantics.specs.Run.{Lookup, Run, State, Meant, set_cell, after, from_end, then_do, with, branch, in_turn, join, parts, no_part, overlap, turns, assign, no_step, held, go_on, after_asking, took, keys_of, counts, any_part, waits_own, meant_step, meant, run, start, to_history}
use Rattle.bs_semantics.specs.Spending.{Spending, any_spends, all_busy, spending_step, spending, HasNoIdleLoop, IsUncut}
use Rattle.bs_semantics.proofs.Spends.{Costs, body_spends}
use Rattle.bs_semantics.proofs.Sizes.{count_blocks}

module _ (limit : ℕ) where
  abbrev Agree : Run → Run → Type 0
  Agree r q = length r.blocks ≤ limit → r ≡ q

  front : (r : Run) (f : State → Run) (o : Option State) → length (after r (from_end o f)).blocks ≤ limit → length r.blocks ≤ limit
  front r f None l = l
  front r f (Some s) l = let e = length-append r.blocks (f s).blocks in omega (arith, e, l)

  rest : (r : Run) (f g : State → Run) (o : Option State) → r.end ≡ o → ((s : State) → r.end ≡ Some s → Agree (f s) (g s)) → length (after r (from_end o f)).blocks ≤ limit → after r (from_end o f) ≡ after r (from_end o g)
  rest r f g None p h l = refl
  rest r f g (Some s) p h l = let e = length-append r.blocks (f s).blocks in ap (λ q. after r (Some q)) (h s p (omega (arith, e, l)))

  then_agree : (r q : Run) (f g : State → Run) → Agree r q → ((s : State) → r.end ≡ Some s → Agree (f s) (g s)) → Agree (then_do r f) (then_do q g)
  then_agree r q f g h i l = rest r f g r.end refl i l ∙ ap (λ r. then_do r g) (h (front r f r.end l))

  join_agree : (w : ℕ → Bool) (r q r' q' : Run) → Agree r q → Agree r' q' → Agree (join w r r') (join w q q')
  join_agree w r q r' q' h k l = let e = length-append r.blocks r'.blocks in ap₂ (join w) (h (omega (arith, e, l))) (k (omega (arith, e, l)))

  with_agree : {A : Type 0} (n : ℕ) (path : List ℕ) (v : Result A TrapKind) (f g : A → Run) → ((x : A) → Agree (f x) (g x)) → Agree (with n path v f) (with n path v g)
  with_agree n path (Err k) f g h l = refl
  with_agree n path (Ok v) f g h l = h v l

  branch_agree : (v : ℤ) (f g f' g' : State → Run) (s : State) → Agree (f s) (f' s) → Agree (g s) (g' s) → Agree (branch v f g s) (branch v f' g' s)
  branch_agree (pos zero) f g f' g' s h k = k
  branch_agree (pos (suc n)) f g f' g' s h k = h
  branch_agree (negsuc n) f g f' g' s h k = h

  go_on_agree : (o : Option (List Message)) (as' : _) (ws : _) (f g : List Message → Run) → ((ms : List Message) → Agree (f ms) (g ms)) → Agree (go_on o as' ws f) (go_on o as' ws g)
  go_on_agree None as' ws f g h l = refl
  go_on_agree (Some ms) as' ws f g h l = ap (after_asking as') (h ms l)

module _ (limit : ℕ) where
  -- d within the limit is as d'
  record Alike (d d' : Meant) : Type 0 where
    count : d.count ≡ d'.count
    writes : d.writes ≡ d'.writes
    does : (mail : Lookup) (n : ℕ) (path : List ℕ) (s : State) → Agree limit (d.does mail n path s) (d'.does mail n path s)

  abbrev AllAlike : List Meant → List Meant → Type 0
  AllAlike [] [] = Unit {0}
  AllAlike [] (y ∷ ys) = ⊥
  AllAlike (x ∷ xs) [] = ⊥
  AllAlike (x ∷ xs) (y ∷ ys) = Alike x y × AllAlike xs ys

  in_turn_agree : (ds es : List Meant) (k : ℕ) → AllAlike ds es → (mail : Lookup) (n : ℕ) (path : List ℕ) (s : State) → Agree limit (in_turn ds k mail n path s) (in_turn es k mail n path s)
  in_turn_agree [] [] k h mail n path s l = refl
  in_turn_agree [] (e ∷ es) k h mail n path s l = absurd h
  in_turn_agree (d ∷ ds) [] k h mail n path s l = absurd h
  in_turn_agree (d ∷ ds) (e ∷ es) k h mail n path s l =
      subst (λ c. Agree limit (in_turn (d ∷ ds) k mail n path s) (then_do (e.does mail n (path ++ k ∷ []) s) (in_turn es (k + 1) mail (n + c) path))) (h.0).count
      (then_agree limit _ _ _ _ ((h.0).does mail n (path ++ k ∷ []) s) (λ t z. in_turn_agree ds es (k + 1) h.1 mail (n + d.count) path t)) l

  parts_agree : (r q : Run) (ds es : List Meant) (k : ℕ) → AllAlike ds es → (mail : Lookup) (n : ℕ) (path : List ℕ) (s : State) → Agree limit r q → Agree limit (parts r ds k mail n path s) (parts q es k mail n path s)
  parts_agree r q [] [] k h mail n path s i l = i l
  parts_agree r q [] (e ∷ es) k h mail n path s i l = absurd h
  parts_agree r q (d ∷ ds) [] k h mail n path s i l = absurd h
  parts_agree r q (d ∷ ds) (e ∷ es) k h mail n path s i l =
      subst₂ (λ c w. Agree limit (parts r (d ∷ ds) k mail n path s) (parts (join w q (e.does mail n (path ++ k ∷ []) s)) es (k + 1) mail (n + c) path s)) (h.0).count (h.0).writes
      (parts_agree (join d.writes r (d.does mail n (path ++ k ∷ []) s)) (join d.writes q (e.does mail n (path ++ k ∷ []) s)) ds es (k + 1) h.1 mail (n + d.count) path s (join_agree limit d.writes r q _ _ i ((h.0).does mail n (path ++ k ∷ []) s))) l

  overlap_agree : (ds es : List Meant) → AllAlike ds es → (mail : Lookup) (n : ℕ) (path : List ℕ) (s : State) → Agree limit (overlap ds mail n path s) (overlap es mail n path s)
  overlap_agree [] [] h mail n path s l = refl
  overlap_agree [] (e ∷ es) h mail n path s l = absurd h
  overlap_agree (d ∷ ds) [] h mail n path s l = absurd h
  overlap_agree (d ∷ ds) (e ∷ es) h mail n path s l = parts_agree (no_part s) (no_part s) (d ∷ ds) (e ∷ es) 0 h mail n path s (λ l. refl) l

  -- what is done after a turn makes no block of its own
  abbrev Steady : (ℕ → List ℕ → (State → Run) → State → Run) → Type 0
  Steady step = (n : ℕ) (path : List ℕ) (f g : State → Run) (j : ℕ) → ((s : State) → length (f s).blocks < j → f s ≡ g s) → (s : State) → length (step n path f s).blocks < j → step n path f s ≡ step n path g s

  assign_steady : (value : State → Value) (at : ℕ) → Steady (assign value at)
  assign_steady value at n path f g j h s l = by_value (value s) l
    where
      by_value : (v : Value) → length (with n path v (λ v. f (set_cell at s v))).blocks < j → with n path v (λ v. f (set_cell at s v)) ≡ with n path v (λ v. g (set_cell at s v))
      by_value (Err k) l = refl
      by_value (Ok v) l = h _ l

  turn_rest : (m : ℕ) (r : Run) (f g : State → Run) (o : Option State) → r.end ≡ o → Costs r → ((s : State) → length (f s).blocks < m → f s ≡ g s) → length (after r (from_end o f)).blocks ≤ m → after r (from_end o f) ≡ after r (from_end o g)
  turn_rest m r f g None p c h l = refl
  turn_rest m r f g (Some s) p c h l =
      let e = length-append r.blocks (f s).blocks in
      let one = c s p in
      ap (λ q. after r (Some q)) (h s (omega (arith, e, one, l)))

  turn_agree : (m : ℕ) → m ≤ limit → (r q : Run) (f g : State → Run) → Agree limit r q → Costs r → ((s : State) → length (f s).blocks < m → f s ≡ g s) → Agree m (then_do r f) (then_do q g)
  turn_agree m le r q f g h c i l =
      let short = front m r f r.end l in
      turn_rest m r f g r.end refl c i l ∙ ap (λ r. then_do r g) (h (omega (arith, short, le)))

  -- fewer blocks than turns that may be done: more turns change nothing
  turns_agree : (m m' : ℕ) → m ≤ m' → m ≤ suc limit → (test : State → Value) (step : ℕ → List ℕ → (State → Run) → State → Run) → Steady step → (ds es : List Meant) → AllAlike ds es → ((k : ℕ) (mail : Lookup) (n : ℕ) (path : List ℕ) (s : State) → Costs (in_turn ds k mail n path s)) →
      (k : ℕ) (mail : Lookup) (n : ℕ) (path : List ℕ) (s : State) → length (turns m test step ds k mail n path s).blocks < m → turns m test step ds k mail n path s ≡ turns m' test step es k mail n path s
  turns_agree zero m' le low test step t ds es h c k mail n path s j = absurd (omega (arith, j))
  turns_agree (suc m) zero le low test step t ds es h c k mail n path s j = absurd (omega (arith, le))
  turns_agree (suc m) (suc m') le low test step t ds es h c k mail n path s j =
      with_agree m n path (test s) _ _ (λ v. branch_agree m v _ _ _ _ s
      (turn_agree m (omega (arith, low)) _ _ _ _ (in_turn_agree ds es 0 h mail (n + 1) (path ++ k ∷ []) s) (c 0 mail (n + 1) (path ++ k ∷ []) s)
      (t n path _ _ m (turns_agree m m' (omega (arith, le)) (omega (arith, low)) test step t ds es h c (k + 1) mail n path)))
      (λ l. refl)) (omega (arith, j))

  counts_same : (ds es : List Meant) → AllAlike ds es → counts ds ≡ counts es
  counts_same [] [] h = refl
  counts_same [] (e ∷ es) h = absurd h
  counts_same (d ∷ ds) [] h = absurd h
  counts_same (d ∷ ds) (e ∷ es) h = ap₂ (λ m n. m + n) (h.0).count (counts_same ds es h.1)

  any_same : (ds es : List Meant) → AllAlike ds es → (i : ℕ) → any_part ds i ≡ any_part es i
  any_same [] [] h i = refl
  any_same [] (e ∷ es) h i = absurd h
  any_same (d ∷ ds) [] h i = absurd h
  any_same (d ∷ ds) (e ∷ es) h i = ap₂ (λ f b. f i || b) (h.0).writes (any_same ds es h.1 i)

  module _ (p : Program) (more this : ℕ) (le : limit ≤ more) where
    abbrev Fit : Stmt → Type 0
    Fit s = (spending s).busy ≡ true → Alike (meant p limit this s) (meant p more this s)

    abbrev Those : Type 0
    Those = List ((s : Stmt) × Fit s)

    abbrev plain : Those → List Stmt
    plain es = map (λ e. e.0) es

    abbrev low : Those → List Meant
    low es = map (meant p limit this) (plain es)

    abbrev high : Those → List Meant
    high es = map (meant p more this) (plain es)

    all_alike : (es : Those) → all_busy (map spending (plain es)) ≡ true → AllAlike (low es) (high es)
    all_alike [] h = tt
    all_alike (x ∷ es) h = let b = and_parts _ _ h in (x.1 b.0, all_alike es b.1)

    loop_agree : (test : State → Value) (step : ℕ → List ℕ → (State → Run) → State → Run) → Steady step → (es : Those) → (any_spends (map spending (plain es)) && all_busy (map spending (plain es))) ≡ true → (mail : Lookup) (n : ℕ) (path : List ℕ) (s : State) →
        Agree limit (turns (suc limit) test step (low es) 0 mail n path s) (turns (suc more) test step (high es) 0 mail n path s)
    loop_agree test step t es h mail n path s l =
        let b = and_parts _ _ h in
        turns_agree (suc limit) (suc more) (omega (arith, le)) (omega arith) test step t (low es) (high es) (all_alike es b.1) (λ k mail n path s. body_spends p limit this (plain es) k b.0 mail n path s) 0 mail n path s (omega (arith, l))

    step_alike : (y : Stmt-F ((s : Stmt) × Fit s)) → (spending_step (map-Stmt Stmt Spending spending (map-Stmt _ Stmt (λ e. e.0) y))).busy ≡ true →
        Alike (meant_step p limit this (map-Stmt Stmt Meant (meant p limit this) (map-Stmt _ Stmt (λ e. e.0) y))) (meant_step p more this (map-Stmt Stmt Meant (meant p more this) (map-Stmt _ Stmt (λ e. e.0) y)))
    step_alike (Stmt-F.Serial acts) h = record { count = refl; writes = refl; does = λ mail n path s l. refl }
    step_alike (Stmt-F.When waits body) h = let a = all_alike body h in record {
      count = ap (λ n. 1 + n) (counts_same (low body) (high body) a);
      writes = λ j i. waits_own p waits i || any_same (low body) (high body) a i j;
      does = λ mail n path s. with_agree limit n path (keys_of p this waits s.cells) _ _ (λ ks. go_on_agree limit (held mail ks) _ _ _ _ (λ ms. in_turn_agree (low body) (high body) 0 a mail (n + 1) path (took p waits s ms)));
    }
    step_alike (Stmt-F.Overlap body) h = let a = all_alike body h in record {
      count = ap (λ n. 1 + n) (counts_same (low body) (high body) a);
      writes = λ j i. any_same (low body) (high body) a i j;
      does = λ mail n path s. overlap_agree (low body) (high body) a mail (n + 1) path s;
    }
    step_alike (Stmt-F.For x first test y step body) h = let a = all_alike body (and_parts (any_spends (map spending (plain body))) _ h).1 in record {
      count = ap (λ n. 1 + n) (counts_same (low body) (high body) a);
      writes = λ j i. owns p x i || owns p y i || any_same (low body) (high body) a i j;
      does = λ mail n path s. with_agree limit n path (value_of p this first s.cells) _ _ (λ v. loop_agree (λ s. value_of p this test s.cells) (assign (λ s. value_of p this step s.cells) (place_of p y).from) (assign_steady (λ s. value_of p this step s.cells) (place_of p y).from) body h mail n path (set_cell (place_of p x).from s v));
    }
    step_alike (Stmt-F.While test body) h = let a = all_alike body (and_parts (any_spends (map spending (plain body))) _ h).1 in record {
      count = ap (λ n. 1 + n) (counts_same (low body) (high body) a);
      writes = λ j i. any_same (low body) (high body) a i j;
      does = λ mail n path s. loop_agree (λ s. value_of p this test s.cells) no_step (λ n path f g j h s l. h s l) body h mail n path s;
    }
    step_alike (Stmt-F.If test body None) h = let a = all_alike body h in record {
      count = ap (λ n. 1 + n + 0) (counts_same (low body) (high body) a);
      writes = λ j i. any_same (low body) (high body) a i j || false;
      does = λ mail n path s. with_agree limit n path (value_of p this test s.cells) _ _ (λ v. branch_agree limit v _ _ _ _ s (in_turn_agree (low body) (high body) 0 a mail (n + 1) (path ++ 0 ∷ []) s) (λ l. refl));
    }
    step_alike (Stmt-F.If test body (Some other)) h =
        let hs = and_parts (all_busy (map spending (plain body))) _ h in
        let a = all_alike body hs.0 in
        let b = all_alike other hs.1 in
        let c = counts_same (low body) (high body) a in
        record {
          count = ap₂ (λ m n. 1 + m + n) c (counts_same (low other) (high other) b);
          writes = λ j i. any_same (low body) (high body) a i j || any_same (low other) (high other) b i j;
          does = λ mail n path s. with_agree limit n path (value_of p this test s.cells) _ _ (λ v. branch_agree limit v _ _ _ _ s (in_turn_agree (low body) (high body) 0 a mail (n + 1) (path ++ 0 ∷ []) s)
              (subst (λ c. Agree limit (in_turn (low other) 0 mail (n + 1 + counts (low body)) (path ++ 1 ∷ []) s) (in_turn (high other) 0 mail (n + 1 + c) (path ++ 1 ∷ []) s)) c
              (in_turn_agree (low other) (high other) 0 b mail (n + 1 + counts (low body)) (path ++ 1 ∷ []) s)));
        }
    step_alike (Stmt-F.Seq body) h = let a = all_alike body h in record {
      count = ap (λ n. 1 + n) (counts_same (low body) (high body) a);
      writes = λ j i. any_same (low body) (high body) a i j;
      does = λ mail n path s. in_turn_agree (low body) (high body) 0 a mail (n + 1) path s;
    }

    abbrev FitSo : Spending → Meant → Meant → Type 0
    FitSo b d e = b.busy ≡ true → Alike d e

    fit_by : (b b' : Spending) (d d' e e' : Meant) → b' ≡ b → d' ≡ d → e' ≡ e → FitSo b d e → FitSo b' d' e'
    fit_by b b' d d' e e' p q r h = subst (λ b. FitSo b d' e') (sym p) (subst₂ (FitSo b) (sym q) (sym r) h)

    statement_fits : (s : Stmt) → Fit s
    statement_fits = ind-Stmt Fit (λ x y is.
        fit_by _ _ _ _ _ _ (fold-roll-Stmt Spending spending_step x) (fold-roll-Stmt Meant (meant_step p limit this) x) (fold-roll-Stmt Meant (meant_step p more this) x)
        (subst (λ z. FitSo (spending_step (map-Stmt Stmt Spending spending z)) (meant_step p limit this (map-Stmt Stmt Meant (meant p limit this) z)) (meant_step p more this (map-Stmt Stmt Meant (meant p more this) z))) is (step_alike y)))

    body_fits : (ss : List Stmt) → all_busy (map spending ss) ≡ true → AllAlike (map (meant p limit this) ss) (map (meant p more this) ss)
    body_fits [] h = tt
    body_fits (s ∷ ss) h = let b = and_parts _ _ h in (statement_fits s b.0, body_fits ss b.1)

    run_fits : HasNoIdleLoop p → (mail : Lookup) → Agree limit (run p limit this mail) (run p more this mail)
    run_fits h mail = in_turn_agree (map (meant p limit this) p.body) (map (meant p more this) p.body) 0 (body_fits p.body h) mail 1 [] (start p)

pub uncut : (p : Program) → HasNoIdleLoop p → IsUncut p
uncut p h limit more c mail le small =
    let one = count_blocks (run p limit c mail).blocks in
    ap to_history (run_fits limit p more c le h mail (omega (arith, one, small)))
