-- What is left of a run, under each mail that holds the present one.
use Rattle.std.proofs.Common.{◌≡◌, ◌≤◌, ◌<◌, ℕ, ◌+◌, arith, List, [], ◌∷◌, ◌++◌, append_assoc, Option, Some, None, Result, Ok, Err, Bool, true, false, refl, sym, ap, subst, ◌∙◌, le_refl, le_trans}
use Rattle.bs_tree.specs.declared.tree.Program.{Program}
use Rattle.bs_semantics.specs.Growth.{PartOf}
use Rattle.bs_semantics.specs.Run.{Lookup, Run, State as PlainState, after, from_end, ends, halts, then_do}
use Rattle.bs_history.specs.declared.trail.Trail.{Trail}
use Rattle.bs_history.specs.declared.ground.Ground.{Ground}
use Rattle.bs_history.specs.declared.ground.State.{State}
use Rattle.bs_history.specs.declared.frame.Frame.{Frame}
use Rattle.bs_history.specs.declared.frame.Frame.TheVariants.{Stuck}
use Rattle.bs_history.specs.declared.fault.HistoryFault.{HistoryFault}
use Rattle.bs_history.specs.declared.fault.HistoryFault.TheVariants.{Long, Memory}
use Rattle.bs_history.specs.Trail.{so_far, run_size, lists_run}
use Rattle.bs_history.specs.Ground.{IsReady, Did, Runs, Goes, IsLong, Finds, Steps, on, stopped, state_of, program_of, mail_of}
use Rattle.bs_history.specs.Frames.{Ahead, Leaving, Leaves, IsStill, Shows, AreFit, IsFrameFit, frame_does, unwound, left_of, is_done, stopped_at}
use Rattle.bs_history.proofs.Trails.{so_far_size}
use Rattle.bs_history.proofs.Lefts.{long_then}

pub part_itself : (a : Lookup) → PartOf a a
part_itself a k m e = e

-- what was written stands before a run that goes on
pub so_far_then : (t : Trail) (r : Run) (f : PlainState → Run) → so_far t (then_do r f) ≡ then_do (so_far t r) f
so_far_then t r f = by_end r.end
  where
    by_end : (x : Option PlainState) → so_far t (after r (from_end x f)) ≡ after (so_far t r) (from_end x f)
    by_end None = refl
    by_end (Some s) = λ i. record {
      blocks = sym (append_assoc t.blocks r.blocks (f s).blocks) i;
      asked = sym (append_assoc t.asked r.asked (f s).asked) i;
      traps = sym (append_assoc t.traps r.traps (f s).traps) i;
      waits = sym (append_assoc t.waits r.waits (f s).waits) i;
      end = (f s).end;
    }

-- two runs that are one behind what was written stay one where they go on
pub alike_then : (o u : Trail) (r q : Run) (f : PlainState → Run) → so_far u q ≡ so_far o r → so_far u (then_do q f) ≡ so_far o (then_do r f)
alike_then o u r q f e = so_far_then u q f ∙ (ap (λ x. then_do x f) e ∙ sym (so_far_then o r f))

pub alike_unwound : (g : Ground) (fs : List Frame) (b : Lookup) (o u : Trail) (r q : Run) → so_far u q ≡ so_far o r → so_far u (unwound g fs b q) ≡ so_far o (unwound g fs b r)
alike_unwound g [] b o u r q e = e
alike_unwound g (f ∷ fs) b o u r q e = alike_unwound g fs b o u (then_do r (frame_does g f b)) (then_do q (frame_does g f b)) (alike_then o u r q (frame_does g f b) e)

pub unwound_push : (g : Ground) (fs : List Frame) (f : Frame) (b : Lookup) (r : Run) → unwound g (fs ++ f ∷ []) b r ≡ then_do (unwound g fs b r) (frame_does g f b)
unwound_push g [] f b r = refl
unwound_push g (x ∷ fs) f b r = unwound_push g fs f b (then_do r (frame_does g x b))

pub fit_push : (p : Program) (fs : List Frame) (f : Frame) → AreFit p fs → IsFrameFit p f → AreFit p (fs ++ f ∷ [])
fit_push p [] f h i = (i, tt)
fit_push p (x ∷ fs) f h i = (h.0, fit_push p fs f h.1 i)

still_then : (g : Ground) (r : Run) (t : Trail) (f : PlainState → Run) → IsStill g r t → IsStill g (then_do r f) t
still_then g r t f h = record { shown = ap (λ r. then_do r f) h.shown; size = h.size; fits = h.fits }

pub shows_push : (g : Ground) (x : Frame) (fs : List Frame) (f : Frame) (t : Trail) (s : State) → Shows g (x ∷ fs) t s → Shows g ((x ∷ fs) ++ f ∷ []) t s
shows_push g x fs f t s h = subst (λ r. IsStill g r t) (sym (unwound_push g (x ∷ fs) f (mail_of g) (ends (state_of s)))) (still_then g (left_of g (x ∷ fs) s (mail_of g)) t (frame_does g f (mail_of g)) h)

module _ (g : Ground) where
  -- another way to say what is left
  pub as_ahead : (r r' whole : Lookup → Run) (old new : Trail) (s : State) → ((b : Lookup) → r' b ≡ r b) → Ahead g r whole old new s → Ahead g r' whole old new s
  as_ahead r r' whole old new s e h = record { path = h.path; run = λ b w. ap (so_far new) (e b) ∙ h.run b w; ready = h.ready; more = h.more }

  pub of_whole : (r whole whole' : Lookup → Run) (old new : Trail) (s : State) → ((b : Lookup) → whole b ≡ whole' b) → Ahead g r whole old new s → Ahead g r whole' old new s
  of_whole r whole whole' old new s e h = record { path = h.path; run = λ b w. h.run b w ∙ ap (so_far old) (e b); ready = h.ready; more = h.more }

  pub ahead_itself : (r : Lookup → Run) (t : Trail) (s : State) → IsReady g t s → Ahead g r r t t s
  ahead_itself r t s h = record { path = refl; run = λ b w. refl; ready = h; more = le_refl t.size }

  pub ahead_then : (q r whole : Lookup → Run) (old mid new : Trail) (s s' : State) → Ahead g r whole old mid s → Ahead g q r mid new s' → Ahead g q whole old new s'
  ahead_then q r whole old mid new s s' h k = record { path = k.path ∙ h.path; run = λ b w. k.run b w ∙ h.run b w; ready = k.ready; more = le_trans h.more k.more }

  pub long_ahead : (r whole : Lookup → Run) (old mid : Trail) (s : State) → Ahead g r whole old mid s → g.room < run_size (so_far mid (r (mail_of g))) → g.room < run_size (so_far old (whole (mail_of g)))
  long_ahead r whole old mid s h l = subst (λ x. g.room < run_size x) (h.run (mail_of g) (part_itself (mail_of g))) l

  pub leaves_ahead : (r whole : Lookup → Run) (old mid new : Trail) (s s' : State) (res : Result (List Frame) HistoryFault) → Ahead g r whole old mid s → Leaves g r mid new s' res → Leaves g whole old new s' res
  leaves_ahead r whole old mid new s s' (Ok fs) h k = record { ahead = ahead_then (left_of g fs s') r whole old mid new s s' h k.ahead; fit = k.fit; shows = k.shows }
  leaves_ahead r whole old mid new s s' (Err Long) h k = long_ahead r whole old mid s h k
  leaves_ahead r whole old mid new s s' (Err Memory) h k = tt

  pub whole_is : (whole whole' : Lookup → Run) (old new : Trail) (s : State) (res : Result (List Frame) HistoryFault) → ((b : Lookup) → whole b ≡ whole' b) → Leaves g whole old new s res → Leaves g whole' old new s res
  whole_is whole whole' old new s res e h = subst (λ r. Leaves g r old new s res) (λ i b. e b i) h

  -- a value was found, and the run goes on from it
  pub goes_ahead : (A : Type 0) (runs : (A → Run) → Run) (old mid : Trail) (s : State) (v : Option A) → Goes g A runs old mid s v → (next : Lookup → A → Run) → Ahead g (λ b. on v (next b)) (λ b. runs (next b)) old mid s
  goes_ahead A runs old mid s v h next = record { path = h.path; run = λ b w. h.run (next b); ready = h.ready; more = h.more }

  pub finds_leaves : (A : Type 0) (runs : (A → Run) → Run) (old mid : Trail) (s : State) (f : HistoryFault) → Finds g A runs old mid s (Err f) → (next : Lookup → A → Run) (new : Trail) (s' : State) → Leaves g (λ b. runs (next b)) old new s' (Err f)
  finds_leaves A runs old mid s Long h next new s' = h (next (mail_of g))
  finds_leaves A runs old mid s Memory h next new s' = tt

  pub steps_leaves : (runs : (PlainState → Run) → Run) (old mid : Trail) (s : State) (f : HistoryFault) → Steps g runs old mid s (Err f) → (next : Lookup → PlainState → Run) (new : Trail) (s' : State) → Leaves g (λ b. runs (next b)) old new s' (Err f)
  steps_leaves runs old mid s Long h next new s' = h (next (mail_of g))
  steps_leaves runs old mid s Memory h next new s' = tt

  module _ (one : Lookup → Run) (next : Lookup → PlainState → Run) (whole : Lookup → Run) (old mid new : Trail) (s s' : State) (h : Ahead g (λ b. then_do (one b) (next b)) whole old mid s) where
    -- the first run ended: the next goes on from its end
    pub then_ended : Leaving g one mid new s' [] → Ahead g (λ b. next b (state_of s')) whole old new s'
    then_ended l = record {
      path = l.ahead.path ∙ h.path;
      run = λ b w. alike_then mid new (one b) (ends (state_of s')) (next b) (l.ahead.run b w) ∙ h.run b w;
      ready = l.ahead.ready;
      more = le_trans h.more l.ahead.more;
    }

    -- it didn't: the next is left behind what it left
    then_left : (x : Frame) (fs : List Frame) → Leaving g one mid new s' (x ∷ fs) → (f : Frame) → IsFrameFit (program_of g) f → ((b : Lookup) → next b ≡ frame_does g f b) → Leaving g whole old new s' ((x ∷ fs) ++ f ∷ [])
    then_left x fs l f i e = record {
      ahead = record {
        path = l.ahead.path ∙ h.path;
        run = λ b w.
            ap (so_far new) (unwound_push g (x ∷ fs) f b (ends (state_of s')))
            ∙ (alike_then mid new (one b) (left_of g (x ∷ fs) s' b) (frame_does g f b) (l.ahead.run b w)
            ∙ (ap (λ n. so_far mid (then_do (one b) n)) (sym (e b)) ∙ h.run b w));
        ready = l.ahead.ready;
        more = le_trans h.more l.ahead.more;
      };
      fit = fit_push (program_of g) (x ∷ fs) f l.fit i;
      shows = shows_push g x fs f new s' l.shows;
    }

    pub then_open : (fs : List Frame) → is_done fs ≡ false → Leaving g one mid new s' fs → (f : Frame) → IsFrameFit (program_of g) f → ((b : Lookup) → next b ≡ frame_does g f b) → Leaving g whole old new s' (fs ++ f ∷ [])
    then_open [] d l f i e = absurd (cc)
    then_open (x ∷ fs) d l f i e = then_left x fs l f i e

    pub then_long : g.room < run_size (so_far mid (one (mail_of g))) → g.room < run_size (so_far old (whole (mail_of g)))
    then_long l = long_ahead (λ b. then_do (one b) (next b)) whole old mid s h (long_then g (one (mail_of g)) mid mid s l (next (mail_of g)))

    pub then_err : (f : HistoryFault) → Leaves g one mid new s' (Err f) → (t : Trail) (u : State) → Leaves g whole old t u (Err f)
    then_err Long l t u = then_long l
    then_err Memory l t u = tt

  -- a run that ended, or that a trap has stopped
  pub stopped_leaves : (ended : Bool) (whole : Lookup → Run) (old mid new : Trail) (s : State) → new ≡ record mid { shown = new.shown } → (ended ≡ false → new.shown ≡ record { blocks = []; asked = []; traps = []; waits = []; size = 0 }) → Ahead g (λ b. stopped ended s) whole old mid s → Leaving g whole old new s (stopped_at ended)
  stopped_leaves true whole old mid new s e z h =
      record { ahead = ahead_at e h; fit = tt; shows = tt }
    where
      ahead_at : new ≡ record mid { shown = new.shown } → Ahead g (λ b. ends (state_of s)) whole old mid s → Ahead g (λ b. ends (state_of s)) whole old new s
      ahead_at e h = subst (λ t. Ahead g (λ b. ends (state_of s)) whole old t s) (sym e) (record { path = h.path; run = h.run; ready = record { made = h.ready.made; this = h.ready.this; shallow = h.ready.shallow; within = record { size = h.ready.within.size; most = h.ready.within.most } }; more = h.more })
  stopped_leaves false whole old mid new s e z h =
      record { ahead = ahead_at e h; fit = (tt, tt); shows = shows_at e (z refl) }
    where
      ahead_at : new ≡ record mid { shown = new.shown } → Ahead g (λ b. halts []) whole old mid s → Ahead g (λ b. halts []) whole old new s
      ahead_at e h = subst (λ t. Ahead g (λ b. halts []) whole old t s) (sym e) (record { path = h.path; run = h.run; ready = record { made = h.ready.made; this = h.ready.this; shallow = h.ready.shallow; within = record { size = h.ready.within.size; most = h.ready.within.most } }; more = h.more })

      shows_at : new ≡ record mid { shown = new.shown } → new.shown ≡ record { blocks = []; asked = []; traps = []; waits = []; size = 0 } → IsStill g (halts []) new
      shows_at e z =
          let size : new.size ≡ mid.size = ap (λ t. t.size) e in
          let none : new.shown.size ≡ 0 = ap (λ l. l.size) z in
          let most = h.ready.within.most in
          record { shown = sym (ap lists_run z); size = subst (λ l. l.size ≡ run_size (lists_run l)) (sym z) refl; fits = omega (arith, size, none, most) }

  -- a run without a mail that was done
  pub alone_ahead : (r : Run) (runs : Lookup → Run) (old new : Trail) (s : State) (ended : Bool) → ((b : Lookup) → r ≡ runs b) → Did g r old new s ended → Ahead g (λ b. stopped ended s) runs old new s
  alone_ahead r runs old new s ended k h = record { path = h.path; run = λ b w. h.run ∙ ap (so_far old) (k b); ready = h.ready; more = h.more }

  pub alone_err : (r : Run) (runs : Lookup → Run) (old new : Trail) (s : State) (f : HistoryFault) → ((b : Lookup) → r ≡ runs b) → Runs g r old new s (Err f) → Leaves g runs old new s (Err f)
  alone_err r runs old new s Long k h = subst (λ r. g.room < run_size (so_far old r)) (k (mail_of g)) h
  alone_err r runs old new s Memory k h = tt

pub nothing_left : (fs : List Frame) → is_done fs ≡ true → fs ≡ []
nothing_left [] e = refl
nothing_left (x ∷ fs) e = absurd (cc)
