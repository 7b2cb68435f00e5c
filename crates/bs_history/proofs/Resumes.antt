-- A run that goes on from what is left of it.
use Rattle.std.proofs.Common.{◌≡◌, ◌≤◌, ◌<◌, ℕ, ◌+◌, arith, List, [], ◌∷◌, ◌++◌, Option, Some, None, Result, Ok, Err, Bool, true, false, refl, sym, ap, subst, ◌∙◌, le_refl, le_trans}
use Rattle.bs_semantics.specs.Growth.{PartOf}
use Rattle.bs_semantics.specs.Run.{Lookup, Run, State as PlainState, ends, from_end, then_do}
use Rattle.bs_history.specs.declared.trail.Trail.{Trail}
use Rattle.bs_history.specs.declared.ground.Ground.{Ground}
use Rattle.bs_history.specs.declared.ground.State.{State}
use Rattle.bs_history.specs.declared.frame.Frame.{Frame}
use Rattle.bs_history.specs.declared.fault.HistoryFault.{HistoryFault}
use Rattle.bs_history.specs.declared.fault.HistoryFault.TheVariants.{Long, Memory}
use Rattle.bs_history.specs.Trail.{so_far, run_size}
use Rattle.bs_history.specs.Ground.{IsReady, state_of, program_of, mail_of}
use Rattle.bs_history.specs.Frames.{Leaves, Leaving, Resumes, Resuming, Shows, AreFit, IsFrameFit, frame_does, unwound, left_of, is_done}
use Rattle.bs_history.proofs.Trails.{so_far_size}
use Rattle.bs_history.proofs.Lefts.{after_size}
use Rattle.bs_history.proofs.Aheads.{part_itself, alike_unwound, unwound_push, fit_push, shows_push}

module _ (g : Ground) where
  -- from another path
  pub from_path : (whole : Lookup → Run) (old new : Trail) (path : _) (s : State) (res : Result (List Frame) HistoryFault) → Leaves g whole (record old { path = path }) new s res → Resumes g whole old new s res
  from_path whole old new path s (Ok fs) h = record { run = h.ahead.run; ready = h.ahead.ready; more = h.ahead.more; fit = h.fit; shows = h.shows }
  from_path whole old new path s (Err Long) h = h
  from_path whole old new path s (Err Memory) h = tt

  pub resumes_as : (whole whole' : Lookup → Run) (old new : Trail) (s : State) (res : Result (List Frame) HistoryFault) → ((b : Lookup) → whole b ≡ whole' b) → Resumes g whole old new s res → Resumes g whole' old new s res
  resumes_as whole whole' old new s res e h = subst (λ r. Resumes g r old new s res) (λ i b. e b i) h

  -- where nothing is left before it, one thing is done
  pub past_done : (left : List Frame) → is_done left ≡ true → (f : Frame) (t new : Trail) (s s' : State) (res : Result (List Frame) HistoryFault) → Resumes g (λ b. frame_does g f b (state_of s)) t new s' res → Resumes g (λ b. then_do (left_of g left s b) (frame_does g f b)) t new s' res
  past_done [] e f t new s s' res h = h
  past_done (x ∷ left) e f t new s s' res h = absurd (cc)

  -- otherwise it is left behind the others
  pub past_left : (left : List Frame) → is_done left ≡ false → (f : Frame) (t : Trail) (s : State) → IsReady g t s → AreFit (program_of g) left → IsFrameFit (program_of g) f → Shows g left t s → Resuming g (λ b. then_do (left_of g left s b) (frame_does g f b)) t t s (left ++ f ∷ [])
  past_left [] e f t s ready h i w = absurd (cc)
  past_left (x ∷ left) e f t s ready h i w = record {
    run = λ b k. ap (so_far t) (unwound_push g (x ∷ left) f b (ends (state_of s)));
    ready = ready;
    more = le_refl t.size;
    fit = fit_push (program_of g) (x ∷ left) f h i;
    shows = shows_push g x left f t s w;
  }

  -- more makes it no shorter
  unwound_size : (fs : List Frame) (b : Lookup) (r : Run) → run_size r ≤ run_size (unwound g fs b r)
  unwound_size [] b r = le_refl (run_size r)
  unwound_size (f ∷ fs) b r = le_trans (after_size r (from_end r.end (frame_does g f b))) (unwound_size fs b (then_do r (frame_does g f b)))

  -- some of what was left was done: this is left of it, and the rest comes behind
  pub record Going (whole : Lookup → Run) (old mid : Trail) (s : State) (left rest : List Frame) : Type 0 where
    pub run : (b : Lookup) → PartOf (mail_of g) b → so_far mid (unwound g rest b (left_of g left s b)) ≡ so_far old (whole b)
    pub ready : IsReady g mid s
    pub more : old.size ≤ mid.size
    pub fit : AreFit (program_of g) left
    pub shows : Shows g left mid s
    pub fits : AreFit (program_of g) rest

  module _ (whole : Lookup → Run) (old mid new : Trail) (s s' : State) (left : List Frame) (f : Frame) (rest : List Frame) (h : Going whole old mid s left (f ∷ rest)) where
    abbrev pub one_more : Lookup → Run
    one_more b = then_do (left_of g left s b) (frame_does g f b)

    pub went : (left' : List Frame) → Resuming g one_more mid new s' left' → Going whole old new s' left' rest
    went left' k = record {
      run = λ b w. alike_unwound g rest b mid new (one_more b) (left_of g left' s' b) (k.run b w) ∙ h.run b w;
      ready = k.ready;
      more = le_trans h.more k.more;
      fit = k.fit;
      shows = k.shows;
      fits = h.fits.1;
    }

    pub went_err : (e : HistoryFault) → Resumes g one_more mid new s' (Err e) → (t : Trail) (u : State) → Resumes g whole old t u (Err e)
    went_err Long k t u =
        let a = so_far_size mid (one_more (mail_of g)) in
        let b = so_far_size mid (unwound g rest (mail_of g) (one_more (mail_of g))) in
        let c = unwound_size rest (mail_of g) (one_more (mail_of g)) in
        let d = ap run_size (h.run (mail_of g) (part_itself (mail_of g))) in
        omega (arith, a, b, c, d, k)
    went_err Memory k t u = tt

  pub gone : (whole : Lookup → Run) (old mid : Trail) (s : State) (left : List Frame) → Going whole old mid s left [] → Resuming g whole old mid s left
  gone whole old mid s left h = record { run = h.run; ready = h.ready; more = h.more; fit = h.fit; shows = h.shows }
