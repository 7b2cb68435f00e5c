-- A `when`: its keys, its messages, and what is left where one is missing.
use Rattle.std.proofs.Common.{◌≡◌, ◌≤◌, ℕ, ◌+◌, arith, List, [], ◌∷◌, ◌++◌, map, Option, Some, None, Result, Ok, Err, refl, sym, ap, subst, ◌∙◌, le_refl}
use Rattle.bs_tree.specs.declared.tree.Stmt.{Stmt}
use Rattle.bs_tree.specs.declared.tree.Wait.{Wait}
use Rattle.bs_log.specs.declared.history.Key.{Key}
use Rattle.bs_log.specs.declared.history.Message.{Message}
use Rattle.bs_log.specs.declared.history.TrapKind.{TrapKind}
use Rattle.bs_semantics.specs.Growth.{PartOf}
use Rattle.bs_semantics.specs.Run.{Lookup, Run, State as PlainState, ends, in_turn, with, ask, go_on, held, missing, all_asked, all_waits, after_asking, took}
use Rattle.bs_semantics.proofs.Growth.{held_more}
use Rattle.bs_history.specs.declared.trail.Trail.{Trail}
use Rattle.bs_history.specs.declared.trail.Lists.{Lists}
use Rattle.bs_history.specs.declared.ground.Ground.{Ground}
use Rattle.bs_history.specs.declared.ground.State.{State}
use Rattle.bs_history.specs.declared.frame.Frame.{Frame}
use Rattle.bs_history.specs.Trail.{so_far, run_size, lists_run}
use Rattle.bs_history.specs.declared.fault.HistoryFault.{HistoryFault}
use Rattle.bs_history.specs.Ground.{IsReady, Goes, Finds, on, state_of, program_of, mail_of}
use Rattle.bs_history.specs.Waiting.{Taken, Missing}
use Rattle.bs_history.specs.Frames.{Ahead, Leaving, Leaves, IsStill, IsFrameFit, frame_does, left_of, awaited}
use Rattle.bs_history.proofs.Aheads.{goes_ahead, of_whole, whole_is, finds_leaves}
use Rattle.bs_history.proofs.Asked.{ask_is}

module _ (g : Ground) (n : ℕ) (old t : Trail) (s : State) (v : Result (List Key) TrapKind) (next : Lookup → List Message → Run) where
  abbrev pub asking : (List Key → Run) → Run
  asking next = with n old.path.items v (λ ks. after_asking (all_asked n old.path.items ks) (next ks))

  abbrev pub when_run : Lookup → Run
  when_run b = with n old.path.items v (λ ks. ask b n old.path.items ks (next b))

  -- after the keys were asked
  pub asked_on : (o : Option (List Key)) → Goes g (List Key) asking old t s o → Ahead g (λ b. on o (λ ks. awaited b n old.path.items ks (next b))) when_run old t s
  asked_on o h =
      of_whole g (λ b. on o (λ ks. awaited b n old.path.items ks (next b))) (λ b. asking (λ ks. awaited b n old.path.items ks (next b))) when_run old t s
      (λ b i. with n old.path.items v (λ ks. ask_is b n old.path.items ks (next b) i))
      (goes_ahead g (List Key) asking old t s o h (λ b ks. awaited b n old.path.items ks (next b)))

  pub asked_err : (f : HistoryFault) → Finds g (List Key) asking old t s (Err f) → (new : Trail) (s' : State) → Leaves g when_run old new s' (Err f)
  asked_err f h new s' =
      whole_is g (λ b. asking (λ ks. awaited b n old.path.items ks (next b))) when_run old new s' (Err f) (λ b i. with n old.path.items v (λ ks. ask_is b n old.path.items ks (next b) i))
      (finds_leaves g (List Key) asking old t s f h (λ b ks. awaited b n old.path.items ks (next b)) new s')

module _ (g : Ground) (n : ℕ) (path : List ℕ) (waits : List Wait) (keys : List Key) (old new : Trail) (s s' : State) (next : Lookup → PlainState → Run) where
  abbrev pub awaited_run : Lookup → Run
  awaited_run b = awaited b n path keys (λ ms. next b (took (program_of g) waits (state_of s) ms))

  -- the messages were there
  pub taken_on : Taken g waits keys old new s s' → Ahead g (λ b. next b (state_of s')) awaited_run old new s'
  taken_on h = record {
    path = ap (λ t. t.path.items) h.same;
    run = λ b w.
        ap (λ t. so_far t (next b (state_of s'))) h.same
        ∙ (ap (λ x. so_far old (next b x)) h.state
        ∙ ap (λ o. so_far old (go_on o [] (all_waits n path (missing b keys)) (λ ms. next b (took (program_of g) waits (state_of s) ms)))) (sym (held_more (mail_of g) b w keys h.messages h.held)));
    ready = h.ready;
    more = subst (λ t. old.size ≤ t.size) (sym h.same) (le_refl old.size);
  }

  -- one is missing
  pub missing_left : path ≡ old.path.items → IsReady g old s → Missing g keys n old new s s' → (f : Frame) → IsFrameFit (program_of g) f → ((b : Lookup) → frame_does g f b (state_of s) ≡ awaited_run b) → Leaving g awaited_run old new s' (f ∷ [])
  missing_left p ready h f fit is =
      let same : new ≡ record old { shown = new.shown } = h.shown ∙ ap (λ l. record old { shown = l }) (sym (ap (λ t. t.shown) h.shown)) in
      let size : new.size ≡ old.size = ap (λ t. t.size) h.shown in
      let lists : new.shown ≡ record { blocks = []; asked = []; traps = []; waits = all_waits n old.path.items (missing (mail_of g) keys); size = 0 } = ap (λ t. t.shown) h.shown in
      let none : new.shown.size ≡ 0 = ap (λ l. l.size) lists in
      let most = ready.within.most in
      record {
        ahead = record {
          path = ap (λ t. t.path.items) h.shown;
          run = λ b w. ap (λ t. so_far t (frame_does g f b (state_of s'))) h.shown ∙ (ap (λ s. so_far old (frame_does g f b (state_of s))) h.same ∙ ap (so_far old) (is b));
          ready = ready_now same;
          more = omega (arith, size);
        };
        fit = (fit, tt);
        shows = record {
          shown = ap (λ s. frame_does g f (mail_of g) (state_of s)) h.same
              ∙ (is (mail_of g)
              ∙ (ap (λ o. go_on o [] (all_waits n path (missing (mail_of g) keys)) (λ ms. next (mail_of g) (took (program_of g) waits (state_of s) ms))) h.none
              ∙ (ap (λ path. lists_run (record { blocks = []; asked = []; traps = []; waits = all_waits n path (missing (mail_of g) keys); size = 0 })) p ∙ sym (ap lists_run lists))));
          size = subst (λ (l : Lists). l.size ≡ run_size (lists_run l)) (sym lists) refl;
          fits = omega (arith, size, none, most);
        };
      }
    where
      ready_now : new ≡ record old { shown = new.shown } → IsReady g new s'
      ready_now e = subst (λ t. IsReady g t s') (sym e) (subst (IsReady g (record old { shown = new.shown })) (sym h.same) (record { made = ready.made; this = ready.this; shallow = ready.shallow; within = record { size = ready.within.size; most = ready.within.most } }))
