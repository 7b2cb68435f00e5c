-- The branches of an `if`.
use Rattle.std.proofs.Common.{◌≡◌, ◌<◌, ℕ, ◌+◌, List, [], ◌∷◌, ◌++◌, map, Option, Some, None, Result, Ok, Err, Bool, true, false, refl, sym, ap, ap₂, subst, ◌∙◌}
use Rattle.bs_tree.specs.declared.tree.Expr.{Expr}
use Rattle.bs_tree.specs.declared.tree.Stmt.{Stmt}
use Rattle.bs_tree.specs.declared.tree.Stmt.TheVariants as v
use Rattle.bs_tree.specs.Count.{statements_in}
use Rattle.bs_semantics.specs.Value.{Value, value_of}
use Rattle.bs_semantics.specs.Run.{Lookup, Run, State as PlainState, ends, halts, in_turn, with, branch}
use Rattle.bs_history.specs.declared.trail.Trail.{Trail}
use Rattle.bs_history.specs.declared.ground.Ground.{Ground}
use Rattle.bs_history.specs.declared.ground.State.{State}
use Rattle.bs_history.specs.declared.frame.Frame.{Frame}
use Rattle.bs_history.specs.declared.fault.HistoryFault.{HistoryFault}
use Rattle.bs_history.specs.declared.fault.HistoryFault.TheVariants.{Long, Memory}
use Rattle.bs_history.specs.Control.{is_true}
use Rattle.bs_history.specs.Trail.{so_far, run_size}
use Rattle.bs_history.specs.Ground.{Runs, Goes, Finds, on, state_of, program_of, means, mail_of, stopped}
use Rattle.bs_history.specs.Frames.{Ahead, Leaves}
use Rattle.bs_history.proofs.Lefts.{choose, branched, tested, test_err}
use Rattle.bs_history.proofs.Aheads.{as_ahead, leaves_ahead}
use Rattle.bs_history.proofs.Meanings.{if_does, if_alone_does}

module _ (g : Ground) (stmt : Stmt) (test : Expr) (body : List Stmt) (other : Option (List Stmt)) (is : stmt ≡ v.If test body other) (n : ℕ) (old t : Trail) (s : State) where
  abbrev path : List ℕ
  path = old.path.items

  abbrev value : Value
  value = value_of (program_of g) g.this test (state_of s).cells

  abbrev first : Lookup → PlainState → Run
  first b = in_turn (map (means g) body) 0 b (n + 1) (path ++ 0 ∷ [])

  abbrev second : Option (List Stmt) → Lookup → PlainState → Run
  second None b = ends
  second (Some other) b = in_turn (map (means g) other) 0 b (n + 1 + statements_in body) (path ++ 1 ∷ [])

  abbrev pub if_run : Lookup → Run
  if_run b = (means g stmt).does b n path (state_of s)

  does_is : (o : Option (List Stmt)) (b : Lookup) → stmt ≡ v.If test body o → with n path value (λ v. branch v (first b) (second o b) (state_of s)) ≡ if_run b
  does_is None b e = if_alone_does g stmt n path (state_of s) b test body e
  does_is (Some o) b e = if_does g stmt n path (state_of s) b test body o e

  pub if_long : (f : HistoryFault) → Finds g Bool (λ next. with n path value (λ v. next (is_true v))) old t s (Err f) → Leaves g if_run old t s (Err f)
  if_long f h = err_leaves f (test_err g n value old t s (first (mail_of g)) (second other (mail_of g)) (state_of s) f h t s)
    where
      err_leaves : (f : HistoryFault) → Runs g (branched g n value old t s (first (mail_of g)) (second other (mail_of g)) (state_of s)) old t s (Err f) → Leaves g if_run old t s (Err f)
      err_leaves Long h = subst (λ r. g.room < run_size (so_far old r)) (does_is other (mail_of g) is) h
      err_leaves Memory h = tt

  module _ (u : Option Bool) where
    abbrev Tested : Type 0
    Tested = Goes g Bool (λ next. with n path value (λ v. next (is_true v))) old t s u

    after_test : (b : Option Bool) → u ≡ b → Tested → (o : Option (List Stmt)) → stmt ≡ v.If test body o → Ahead g (λ m. on b (λ b. choose b (first m) (second o m) (state_of s))) if_run old t s
    after_test b e h o i = record {
      path = h.path;
      run = λ m w. (tested g n value old t s (first m) (second o m) (state_of s) u b e h).run ∙ ap (so_far old) (does_is o m i);
      ready = h.ready;
      more = h.more;
    }

    pub if_stop : u ≡ None → Tested → Ahead g (λ b. stopped false s) if_run old t s
    if_stop e h = after_test None e h other is

    pub if_first : u ≡ Some true → Tested → (xs : List Stmt) → xs ≡ body → (new : Trail) (s' : State) (res : Result (List Frame) HistoryFault) →
        Leaves g (λ b. in_turn (map (means g) xs) 0 b (n + 1) (t.path.items ++ 0 ∷ []) (state_of s)) t new s' res → Leaves g if_run old new s' res
    if_first e h xs q new s' res r =
        leaves_ahead g (λ b. in_turn (map (means g) xs) 0 b (n + 1) (t.path.items ++ 0 ∷ []) (state_of s)) if_run old t new s s' res
        (as_ahead g (λ b. first b (state_of s)) _ if_run old t s (λ b. ap₂ (λ xs path. in_turn (map (means g) xs) 0 b (n + 1) (path ++ 0 ∷ []) (state_of s)) q h.path) (after_test (Some true) e h other is)) r

    pub if_no_second : u ≡ Some false → Tested → other ≡ None → Ahead g (λ b. stopped true s) if_run old t s
    if_no_second e h o = after_test (Some false) e h None (is ∙ ap (v.If test body) o)

    pub if_second : u ≡ Some false → Tested → (os : List Stmt) → other ≡ Some os → (xs : List Stmt) → xs ≡ os → (m : ℕ) → m ≡ n + 1 + statements_in body → (new : Trail) (s' : State) (res : Result (List Frame) HistoryFault) →
        Leaves g (λ b. in_turn (map (means g) xs) 0 b m (t.path.items ++ 1 ∷ []) (state_of s)) t new s' res → Leaves g if_run old new s' res
    if_second e h os o xs q m c new s' res r =
        leaves_ahead g (λ b. in_turn (map (means g) xs) 0 b m (t.path.items ++ 1 ∷ []) (state_of s)) if_run old t new s s' res
        (as_ahead g (λ b. second (Some os) b (state_of s)) _ if_run old t s
        (λ b. ap₂ (λ xs path. in_turn (map (means g) xs) 0 b m (path ++ 1 ∷ []) (state_of s)) q h.path ∙ ap (λ m. in_turn (map (means g) os) 0 b m (path ++ 1 ∷ []) (state_of s)) c)
        (after_test (Some false) e h (Some os) (is ∙ ap (v.If test body) o))) r
