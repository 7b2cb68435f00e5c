-- One part of a run after the other.
use Rattle.std.proofs.Common.{◌≡◌, ◌≤◌, ◌<◌, ℕ, suc, le_trans, List, [], ◌++◌, append_assoc, append-nil, length-append, le_refl, arith, Option, Some, None, Result, Ok, Err, Bool, true, false, refl, sym, ap, subst, ◌∙◌}
use Rattle.std.proofs.lemmas.List.Sums.{sum_by-append}
use Rattle.bs_log.specs.Size.{block_size}
use Rattle.bs_log.specs.declared.history.Block.{Block}
use Rattle.bs_log.specs.declared.history.Asked.{Asked}
use Rattle.bs_log.specs.declared.history.TrapAt.{TrapAt}
use Rattle.bs_log.specs.declared.history.WaitAt.{WaitAt}
use Rattle.std.specs.Prelude.{ℤ, pos, negsuc, zero, not}
use Rattle.std.specs.Ordering.{int_eq}
use Rattle.std.proofs.lemmas.Bool.Decides.{Decides-int_eq}
use Rattle.bs_semantics.specs.Value.{Value}
use Rattle.bs_history.specs.Control.{is_true}
use Rattle.bs_semantics.specs.Run.{Run, State as PlainState, after, from_end, then_do, with, branch}
use Rattle.bs_history.specs.declared.trail.Trail.{Trail}
use Rattle.bs_history.specs.declared.ground.Ground.{Ground}
use Rattle.bs_history.specs.declared.ground.State.{State}
use Rattle.bs_history.specs.declared.fault.HistoryFault.{HistoryFault}
use Rattle.bs_history.specs.declared.fault.HistoryFault.TheVariants.{Long, Memory}
use Rattle.bs_history.specs.Trail.{so_far, run_size}
use Rattle.bs_history.specs.Ground.{Left, Did, Runs, Goes, IsLong, Finds, Steps, on, reached, stopped, state_of}
use Rattle.bs_history.proofs.Trails.{so_far_size}

module _ (g : Ground) where
  pub then_left : (q r whole : Run) (old mid new : Trail) (s s' : State) → Left g r whole old mid s → Left g q r mid new s' → Left g q whole old new s'
  then_left q r whole old mid new s s' a b = record { path = b.path ∙ a.path; run = b.run ∙ a.run; ready = b.ready; more = le_trans a.more b.more }

  pub long_left : (r whole : Run) (old mid : Trail) (s : State) → Left g r whole old mid s → g.room < run_size (so_far mid r) → g.room < run_size (so_far old whole)
  long_left r whole old mid s a l = subst (λ x. g.room < run_size x) a.run l

  pub runs_left : (r whole : Run) (old mid new : Trail) (s s' : State) (res : Result Bool HistoryFault) → Left g r whole old mid s → Runs g r mid new s' res → Runs g whole old new s' res
  runs_left r whole old mid new s s' (Ok ended) a b = then_left (stopped ended s') r whole old mid new s s' a b
  runs_left r whole old mid new s s' (Err Long) a b = long_left r whole old mid s a b
  runs_left r whole old mid new s s' (Err Memory) a b = tt

  module _ (A : Type 0) (runs : (A → Run) → Run) (old mid : Trail) (s : State) where
    pub goes_left : (v : Option A) → Goes g A runs old mid s v → (next : A → Run) → Left g (on v next) (runs next) old mid s
    goes_left v h next = record { path = h.path; run = h.run next; ready = h.ready; more = h.more }

    -- a value was found, and the run went on from it
    pub runs_on : (v : A) → Goes g A runs old mid s (Some v) → (F : List ℕ → A → Run) (new : Trail) (s' : State) (res : Result Bool HistoryFault) →
        Runs g (F mid.path.items v) mid new s' res → Runs g (runs (F old.path.items)) old new s' res
    runs_on v h F new s' res b =
        runs_left (F old.path.items v) (runs (F old.path.items)) old mid new s s' res (goes_left (Some v) h (F old.path.items)) (subst (λ path. Runs g (F path v) mid new s' res) h.path b)

    pub finds_long : (f : HistoryFault) → Finds g A runs old mid s (Err f) → (next : A → Run) (new : Trail) (s' : State) → Runs g (runs next) old new s' (Err f)
    finds_long Long h next new s' = h next
    finds_long Memory h next new s' = tt

  pub steps_long : (runs : (PlainState → Run) → Run) (old mid : Trail) (s : State) (f : HistoryFault) → Steps g runs old mid s (Err f) → (next : PlainState → Run) (new : Trail) (s' : State) → Runs g (runs next) old new s' (Err f)
  steps_long runs old mid s Long h next new s' = h next
  steps_long runs old mid s Memory h next new s' = tt

-- lists in front of a run
abbrev front : List Block → List Asked → List TrapAt → List WaitAt → Run → Run
front b a t w r = record { blocks = b ++ r.blocks; asked = a ++ r.asked; traps = t ++ r.traps; waits = w ++ r.waits; end = r.end }

front_twice : (r q : Run) (o : Trail) → so_far o (after r (Some q)) ≡ front (so_far o r).blocks (so_far o r).asked (so_far o r).traps (so_far o r).waits q
front_twice r q o = λ i. record {
  blocks = sym (append_assoc o.blocks r.blocks q.blocks) i;
  asked = sym (append_assoc o.asked r.asked q.asked) i;
  traps = sym (append_assoc o.traps r.traps q.traps) i;
  waits = sym (append_assoc o.waits r.waits q.waits) i;
  end = q.end;
}

front_nil : (u : Trail) (q : Run) → front (u.blocks ++ []) (u.asked ++ []) (u.traps ++ []) (u.waits ++ []) q ≡ so_far u q
front_nil u q = λ i. record {
  blocks = append-nil u.blocks i ++ q.blocks;
  asked = append-nil u.asked i ++ q.asked;
  traps = append-nil u.traps i ++ q.traps;
  waits = append-nil u.waits i ++ q.waits;
  end = q.end;
}

-- the first run ended: the rest goes on from what is written now
goes_on : (r : Run) (next : PlainState → Run) (o u : Trail) (s : State) → so_far u (stopped true s) ≡ so_far o r → so_far o (then_do r next) ≡ so_far u (next (state_of s))
goes_on r next o u s e =
    ap (λ x. so_far o (after r (from_end x next))) (sym (ap (λ r. r.end) e))
    ∙ (front_twice r (next (state_of s)) o ∙ (ap (λ x. front x.blocks x.asked x.traps x.waits (next (state_of s))) (sym e) ∙ front_nil u (next (state_of s))))

-- it didn't: that is all
stays : (r : Run) (next : PlainState → Run) (o u : Trail) (s : State) → so_far u (stopped false s) ≡ so_far o r → so_far o (then_do r next) ≡ so_far u (stopped false s)
stays r next o u s e = ap (λ x. so_far o (after r (from_end x next))) (sym (ap (λ r. r.end) e)) ∙ sym e

-- a second run makes it no shorter
pub after_size : (r : Run) (q : Option Run) → run_size r ≤ run_size (after r q)
after_size r None = le_refl (run_size r)
after_size r (Some q) =
    let b = sum_by-append block_size r.blocks q.blocks in
    let a = length-append r.asked q.asked in
    let t = length-append r.traps q.traps in
    omega (arith, b, a, t)

module _ (g : Ground) (r : Run) (old new : Trail) (s : State) where
  pub did_goes : (ended : Bool) → Did g r old new s ended → Goes g PlainState (then_do r) old new s (reached ended s)
  did_goes true h = record { path = h.path; run = λ next. sym (goes_on r next old new s h.run); ready = h.ready; more = h.more }
  did_goes false h = record { path = h.path; run = λ next. sym (stays r next old new s h.run); ready = h.ready; more = h.more }

  pub long_then : g.room < run_size (so_far old r) → IsLong g PlainState (then_do r) old
  long_then h next =
      let a = so_far_size old r in
      let b = so_far_size old (then_do r next) in
      let c = after_size r (from_end r.end next) in
      omega (arith, a, b, c, h)

  pub runs_steps : (res : Result Bool HistoryFault) → Runs g r old new s res → Steps g (then_do r) old new s res
  runs_steps (Ok ended) h = did_goes ended h
  runs_steps (Err Long) h = long_then h
  runs_steps (Err Memory) h = tt

-- what is left after a step, or the whole is too long
abbrev pub Onward : Ground → (PlainState → Run) → Run → Trail → Trail → State → Result Bool HistoryFault → Type 0
Onward g next whole old new s (Ok ended) = Left g (on (reached ended s) next) whole old new s
Onward g next whole old new s (Err Long) = g.room < run_size (so_far old whole)
Onward g next whole old new s (Err Memory) = Unit {0}

module _ (g : Ground) (whole : Run) (old mid new : Trail) (s s' : State) where
  pub steps_onward : (runs : (PlainState → Run) → Run) (next : PlainState → Run) (res : Result Bool HistoryFault) → Left g (runs next) whole old mid s → Steps g runs mid new s' res → Onward g next whole old new s' res
  steps_onward runs next (Ok ended) a h = then_left g (on (reached ended s') next) (runs next) whole old mid new s s' a (goes_left g PlainState runs mid new s' (reached ended s') h next)
  steps_onward runs next (Err Long) a h = long_left g (runs next) whole old mid s a (h next)
  steps_onward runs next (Err Memory) a h = tt

pub onward_err : (g : Ground) (next : PlainState → Run) (whole : Run) (old new : Trail) (s : State) (f : HistoryFault) → Onward g next whole old new s (Err f) → Runs g whole old new s (Err f)
onward_err g next whole old new s Long h = h
onward_err g next whole old new s Memory h = tt

-- ---- tests

abbrev pub choose : Bool → (PlainState → Run) → (PlainState → Run) → PlainState → Run
choose true first second s = first s
choose false first second s = second s

not_zero : (v : ℕ) → int_eq (pos (suc v)) (pos 0) ≡ false
not_zero v = by_case (int_eq (pos (suc v)) (pos 0)) refl
  where
    by_case : (b : Bool) → int_eq (pos (suc v)) (pos 0) ≡ b → int_eq (pos (suc v)) (pos 0) ≡ false
    by_case false e = e
    by_case true e = let h : pos (suc v) ≡ pos 0 = (Decides-int_eq (pos (suc v)) (pos 0)).0 e in absurd (cc)

branch_on : (v : ℤ) (first second : PlainState → Run) (s : PlainState) → branch v first second s ≡ choose (is_true v) first second s
branch_on (pos zero) first second s = refl
branch_on (pos (suc v)) first second s = ap (λ b. choose (not b) first second s) (sym (not_zero v))
branch_on (negsuc v) first second s = refl

module _ (g : Ground) (n : ℕ) (v : Value) (old mid : Trail) (s : State) (first second : PlainState → Run) (at : PlainState) where
  abbrev tests : (Bool → Run) → Run
  tests next = with n old.path.items v (λ v. next (is_true v))

  abbrev pub branched : Run
  branched = with n old.path.items v (λ v. branch v first second at)

  as_test : branched ≡ tests (λ b. choose b first second at)
  as_test = λ i. with n old.path.items v (λ v. branch_on v first second at i)

  pub tested : (t b : Option Bool) → t ≡ b → Goes g Bool tests old mid s t → Left g (on b (λ b. choose b first second at)) branched old mid s
  tested t b e h =
      let k = subst (λ t. Goes g Bool tests old mid s t) e h in
      record { path = k.path; run = k.run (λ b. choose b first second at) ∙ ap (so_far old) (sym as_test); ready = k.ready; more = k.more }

  pub test_err : (f : HistoryFault) → Finds g Bool tests old mid s (Err f) → (new : Trail) (s' : State) → Runs g branched old new s' (Err f)
  test_err f h new s' = subst (λ r. Runs g r old new s' (Err f)) (sym as_test) (finds_long g Bool tests old mid s f h (λ b. choose b first second at) new s')
