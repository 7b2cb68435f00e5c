-- Lists of statements and turns of loops, one after the other.
use Rattle.std.proofs.Common.{◌≡◌, ◌≤◌, ◌<◌, ℕ, ◌+◌, ◌-◌, suc, arith, List, [], ◌∷◌, ◌++◌, Option, Some, None, Result, Ok, Err, Bool, true, false, length, get_or, drop, map, refl, sym, ap, ap₂, subst, ◌∙◌}
use Rattle.std.proofs.lemmas.List.{drop_more, drop_all}
use Rattle.bs_tree.specs.declared.tree.Stmt.{Stmt}
use Rattle.bs_tree.specs.Count.{statements_of}
use Rattle.bs_semantics.specs.Value.{Value}
use Rattle.bs_semantics.specs.Run.{Lookup, Run, Meant, State as PlainState, ends, halts, then_do, in_turn, turns, with, branch}
use Rattle.bs_history.specs.declared.trail.Trail.{Trail}
use Rattle.bs_history.specs.declared.ground.Ground.{Ground}
use Rattle.bs_history.specs.declared.ground.State.{State}
use Rattle.bs_history.specs.declared.frame.Frame.{Frame}
use Rattle.bs_history.specs.declared.fault.HistoryFault.{HistoryFault}
use Rattle.bs_history.specs.declared.fault.HistoryFault.TheVariants.{Long, Memory}
use Rattle.bs_history.specs.Control.{is_true}
use Rattle.bs_history.specs.Ground.{Goes, Finds, Steps, Runs, on, state_of, program_of, means, mail_of, stopped}
use Rattle.bs_history.specs.Frames.{Ahead, Leaving, Leaves}
use Rattle.bs_history.proofs.Lefts.{choose, branched, tested, test_err}
use Rattle.bs_history.proofs.Aheads.{as_ahead, ahead_then, then_ended, goes_ahead, leaves_ahead, steps_leaves}
use Rattle.bs_history.proofs.Meanings.{count_is}

pub next_item : {A : Type 0} (xs : List A) (i : ℕ) (x : A) → i < length xs → x ≡ get_or xs i x → drop i xs ≡ x ∷ drop (i + 1) xs
next_item xs i x l e = drop_more xs i x l ∙ ap (λ y. y ∷ drop (i + 1) xs) (sym e)

-- ---- a list

module _ (g : Ground) (xs : List Stmt) (i : ℕ) (x : Stmt) (d : drop i xs ≡ x ∷ drop (i + 1) xs) (whole : Lookup → Run) (old mid new : Trail) (s s' : State) (k n : ℕ) where
  abbrev pub list_rest : ℕ → List ℕ → Lookup → PlainState → Run
  list_rest n path b = in_turn (map (means g) (drop (i + 1) xs)) (k + 1) b n path

  abbrev pub list_one : List ℕ → Lookup → Run
  list_one path b = (means g x).does b n (path ++ k ∷ []) (state_of s)

  -- the next statement of a list, and then the rest
  pub list_on : Ahead g (λ b. in_turn (map (means g) (drop i xs)) k b n mid.path.items (state_of s)) whole old mid s →
      Ahead g (λ b. then_do (list_one mid.path.items b) (list_rest (n + (means g x).count) mid.path.items b)) whole old mid s
  list_on h = as_ahead g (λ b. in_turn (map (means g) (drop i xs)) k b n mid.path.items (state_of s)) _ whole old mid s (λ b. sym (ap (λ ys. in_turn (map (means g) ys) k b n mid.path.items (state_of s)) d)) h

  -- the rest goes on from the next number
  pub rest_is : (n' : ℕ) → n' ≡ n + statements_of x → new.path.items ≡ mid.path.items → (b : Lookup) → list_rest (n + (means g x).count) mid.path.items b ≡ list_rest n' new.path.items b
  rest_is n' e p b = ap₂ (λ n path. list_rest n path b) (ap (λ m. n + m) (count_is (program_of g) g.limit g.this x) ∙ sym e) (sym p)

  -- it ended, and the list goes on
  pub list_next : Ahead g (λ b. in_turn (map (means g) (drop i xs)) k b n mid.path.items (state_of s)) whole old mid s → Leaving g (list_one mid.path.items) mid new s' [] →
      (n' : ℕ) → n' ≡ n + statements_of x → Ahead g (λ b. list_rest n' new.path.items b (state_of s')) whole old new s'
  list_next h l n' e =
      as_ahead g (λ b. list_rest (n + (means g x).count) mid.path.items b (state_of s')) _ whole old new s' (λ b. ap (λ f. f (state_of s')) (sym (rest_is n' e l.ahead.path b)))
      (then_ended g (list_one mid.path.items) (list_rest (n + (means g x).count) mid.path.items) whole old mid new s s' (list_on h) l)

pub list_done : (g : Ground) (xs : List Stmt) (i : ℕ) → length xs ≤ i → (whole : Lookup → Run) (old new : Trail) (s : State) (k n : ℕ) → Ahead g (λ b. in_turn (map (means g) (drop i xs)) k b n new.path.items (state_of s)) whole old new s → Leaving g whole old new s []
list_done g xs i l whole old new s k n h = record {
  ahead = as_ahead g (λ b. in_turn (map (means g) (drop i xs)) k b n new.path.items (state_of s)) (λ b. ends (state_of s)) whole old new s (λ b. sym (ap (λ ys. in_turn (map (means g) ys) k b n new.path.items (state_of s)) (drop_all i xs l))) h;
  fit = tt;
  shows = tt;
}

-- ---- turns

module _ (g : Ground) (end : ℕ) (test : PlainState → Value) (step : ℕ → List ℕ → (PlainState → Run) → PlainState → Run) (ds : List Meant) (n k : ℕ) (l : k < end) where
  abbrev pub later : List ℕ → Lookup → PlainState → Run
  later path b = turns (end - (k + 1)) test step ds (k + 1) b n path

  abbrev pub turn_body : List ℕ → PlainState → Lookup → Run
  turn_body path s b = in_turn ds 0 b (n + 1) (path ++ k ∷ []) s

  abbrev pub this_turn : List ℕ → Lookup → PlainState → Run
  this_turn path b s = then_do (turn_body path s b) (step n path (later path b))

  abbrev pub all_turns : List ℕ → Lookup → PlainState → Run
  all_turns path b s = turns (end - k) test step ds k b n path s

  turn_is : (path : List ℕ) (b : Lookup) (s : PlainState) → all_turns path b s ≡ with n path (test s) (λ v. branch v (this_turn path b) ends s)
  turn_is path b s = let one : end - k ≡ suc (end - (k + 1)) = omega (arith, l) in ap (λ m. turns m test step ds k b n path s) one

  module _ (whole : Lookup → Run) (old mid t : Trail) (s : State) (h : Ahead g (λ b. all_turns mid.path.items b (state_of s)) whole old mid s) where
    abbrev pub TestDone : Option Bool → Type 0
    TestDone v = Goes g Bool (λ next. with n mid.path.items (test (state_of s)) (λ v. next (is_true v))) mid t s v

    abbrev TestDid : Result (Option Bool) HistoryFault → Type 0
    TestDid r = Finds g Bool (λ next. with n mid.path.items (test (state_of s)) (λ v. next (is_true v))) mid t s r

    before : Ahead g (λ b. branched g n (test (state_of s)) mid t s (this_turn mid.path.items b) ends (state_of s)) whole old mid s
    before = as_ahead g (λ b. all_turns mid.path.items b (state_of s)) _ whole old mid s (λ b. sym (turn_is mid.path.items b (state_of s))) h

    -- after the test
    pub turn_tested : (v b : Option Bool) → v ≡ b → TestDone v → Ahead g (λ m. on b (λ b. choose b (this_turn mid.path.items m) ends (state_of s))) whole old t s
    turn_tested v b e r =
        ahead_then g _ _ whole old mid t s s before (record {
          path = r.path;
          run = λ m w. (tested g n (test (state_of s)) mid t s (this_turn mid.path.items m) ends (state_of s) v b e r).run;
          ready = r.ready;
          more = r.more;
        })

    pub turn_test_err : (f : HistoryFault) → TestDid (Err f) → Leaves g whole old t s (Err f)
    turn_test_err f r = leaves_ahead g _ whole old mid t s s (Err f) before (err_leaves f (test_err g n (test (state_of s)) mid t s (this_turn mid.path.items (mail_of g)) ends (state_of s) f r t s))
      where
        err_leaves : (f : HistoryFault) → Runs g (branched g n (test (state_of s)) mid t s (this_turn mid.path.items (mail_of g)) ends (state_of s)) mid t s (Err f) → Leaves g (λ b. branched g n (test (state_of s)) mid t s (this_turn mid.path.items b) ends (state_of s)) mid t s (Err f)
        err_leaves Long h = h
        err_leaves Memory h = tt

    -- the body, and then what comes after the turn
    pub turn_on : (v : Option Bool) → v ≡ Some true → TestDone v → Ahead g (λ b. then_do (turn_body t.path.items (state_of s) b) (step n mid.path.items (later mid.path.items b))) whole old t s
    turn_on v e r = as_ahead g (λ b. this_turn mid.path.items b (state_of s)) _ whole old t s (λ b. ap (λ path. then_do (turn_body path (state_of s) b) (step n mid.path.items (later mid.path.items b))) r.path) (turn_tested v (Some true) e r)

    module _ (v : Option Bool) (e : v ≡ Some true) (r : TestDone v) (u : Trail) (s' : State) (b : Leaving g (turn_body t.path.items (state_of s)) t u s' []) where
      same : u.path.items ≡ mid.path.items
      same = b.ahead.path ∙ r.path

      -- after the body
      pub turn_ended : Ahead g (λ b. step n u.path.items (later mid.path.items b) (state_of s')) whole old u s'
      turn_ended = as_ahead g (λ b. step n mid.path.items (later mid.path.items b) (state_of s')) _ whole old u s' (λ m. ap (λ path. step n path (later mid.path.items m) (state_of s')) same)
          (then_ended g (turn_body t.path.items (state_of s)) (λ b. step n mid.path.items (later mid.path.items b)) whole old t u s s' (turn_on v e r) b)

      module _ (w : Trail) (s'' : State) where
        pub step_err : (f : HistoryFault) → Steps g (λ next. step n u.path.items next (state_of s')) u w s'' (Err f) → Leaves g whole old w s'' (Err f)
        step_err f c = leaves_ahead g _ whole old u w s' s'' (Err f) turn_ended (steps_leaves g (λ next. step n u.path.items next (state_of s')) u w s'' f c (later mid.path.items) w s'')

        -- after the step
        pub turn_stepped : (o : Option PlainState) → Goes g PlainState (λ next. step n u.path.items next (state_of s')) u w s'' o → Ahead g (λ b. on o (later mid.path.items b)) whole old w s''
        turn_stepped o c = ahead_then g _ _ whole old u w s' s'' turn_ended (goes_ahead g PlainState (λ next. step n u.path.items next (state_of s')) u w s'' o c (later mid.path.items))

        -- the next turn
        pub turn_next : Goes g PlainState (λ next. step n u.path.items next (state_of s')) u w s'' (Some (state_of s'')) → Ahead g (λ b. later w.path.items b (state_of s'')) whole old w s''
        turn_next c = as_ahead g (λ b. later mid.path.items b (state_of s'')) _ whole old w s'' (λ b. ap (λ path. later path b (state_of s'')) (c.path ∙ same)) (turn_stepped (Some (state_of s'')) c)

-- the last test
module _ (g : Ground) (end : ℕ) (test : PlainState → Value) (step : ℕ → List ℕ → (PlainState → Run) → PlainState → Run) (ds : List Meant) (n k : ℕ) (l : end ≤ k) (whole : Lookup → Run) (old mid new : Trail) (s : State) (h : Ahead g (λ b. turns (end - k) test step ds k b n mid.path.items (state_of s)) whole old mid s) where
  abbrev last : Run
  last = with n mid.path.items (test (state_of s)) (λ v. branch v (λ (s : PlainState). halts []) ends (state_of s))

  last_is : Ahead g (λ b. last) whole old mid s
  last_is =
      let none : end - k ≡ 0 = omega (arith, l) in
      as_ahead g (λ b. turns (end - k) test step ds k b n mid.path.items (state_of s)) _ whole old mid s (λ b. sym (ap (λ m. turns m test step ds k b n mid.path.items (state_of s)) none)) h

  pub turns_err : (f : HistoryFault) → Runs g last mid new s (Err f) → Leaves g whole old new s (Err f)
  turns_err f r = leaves_ahead g (λ b. last) whole old mid new s s (Err f) last_is (err_leaves f r)
    where
      err_leaves : (f : HistoryFault) → Runs g last mid new s (Err f) → Leaves g (λ b. last) mid new s (Err f)
      err_leaves Long h = h
      err_leaves Memory h = tt

  pub turns_done : (ended : Bool) → Runs g last mid new s (Ok ended) → Ahead g (λ b. stopped ended s) whole old new s
  turns_done ended r = ahead_then g (λ b. stopped ended s) (λ b. last) whole old mid new s s last_is (record { path = r.path; run = λ b w. r.run; ready = r.ready; more = r.more })
