-- What a chare does next, behind what it wrote.
use Rattle.std.proofs.Common.{◌≡◌, ◌≤◌, ◌<◌, ℕ, ◌+◌, arith, List, [], ◌∷◌, ◌++◌, append_assoc, append-nil, length, length-append, sum_by, map, Option, Some, None, Result, Ok, Err, Bool, true, false, is_some, refl, sym, ap, subst, ◌∙◌}
use Rattle.std.proofs.lemmas.List.Sums.{sum_by-append}
use Rattle.bs_tree.specs.declared.tree.Program.{Program}
use Rattle.bs_log.specs.declared.history.History.{History}
use Rattle.bs_log.specs.Size.{block_size, size}
use Rattle.bs_semantics.specs.Growth.{PartOf}
use Rattle.bs_semantics.specs.Run.{Lookup, Run, State as PlainState, ends, history, run, start, in_turn, meant, to_history, depth_of, no_causes}
use Rattle.bs_block.specs.Env.{MadeFor}
use Rattle.bs_history.specs.declared.trail.Trail.{Trail}
use Rattle.bs_history.specs.declared.trail.Lists.{Lists}
use Rattle.bs_history.specs.declared.ground.Ground.{Ground}
use Rattle.bs_history.specs.declared.ground.State.{State}
use Rattle.bs_history.specs.declared.frame.Frame.{Frame}
use Rattle.bs_history.specs.declared.course.Course.{Course}
use Rattle.bs_history.specs.declared.course.Stage.{Stage}
use Rattle.bs_history.specs.declared.fault.HistoryFault.{HistoryFault}
use Rattle.bs_history.specs.declared.fault.HistoryFault.TheVariants.{Long, Memory}
use Rattle.bs_history.specs.Trail.{so_far, run_size, lists_run, IsWithin}
use Rattle.bs_history.specs.Ground.{IsReady, state_of, program_of, mail_of}
use Rattle.bs_history.specs.Frames.{Resumes, Resuming, Shows, IsFrameFit, does_next, left_of, is_done}
use Rattle.bs_history.specs.Course.{IsCourse, IsStage, GoesOn, behind, nothing, told_by}
use Rattle.bs_history.proofs.Aheads.{part_itself}
use Rattle.bs_history.proofs.Histories.{nothing_before}

behind_size : (k r : Run) → run_size (behind k r) ≡ run_size k + run_size r
behind_size k r =
    let b = sum_by-append block_size k.blocks r.blocks in
    let a = length-append k.asked r.asked in
    let s = length-append k.traps r.traps in
    omega (arith, b, a, s)

part_then : (a b c : Lookup) → PartOf a b → PartOf b c → PartOf a c
part_then a b c f g k m e = g k m (f k m e)

abbrev pub lists_of : Trail → Lists
lists_of t = record { blocks = t.blocks; asked = t.asked; traps = t.traps; waits = t.waits; size = t.size }

-- what a trail holds behind what was written, and a run behind that
behind_trail : (k : Run) (t : Trail) (r : Run) → behind (behind k (lists_run (lists_of t))) r ≡ behind k (so_far t r)
behind_trail k t r = λ i. record {
  blocks = append_assoc k.blocks t.blocks r.blocks i;
  asked = append_assoc k.asked t.asked r.asked i;
  traps = append_assoc k.traps t.traps r.traps i;
  waits = append_assoc k.waits t.waits r.waits i;
  end = r.end;
}

module _ (g : Ground) (k : Run) (a : Lookup) (c : Course) (start : Trail) (h : IsCourse (program_of g) g.limit g.this a k c) (w : PartOf a (mail_of g)) (done : g.done ≡ run_size k)
    (no_blocks : start.blocks ≡ []) (no_asked : start.asked ≡ []) (no_traps : start.traps ≡ []) (no_waits : start.waits ≡ []) where
  abbrev pub left : Lookup → Run
  left = left_of g c.frames c.state

  from_start : (r : Run) → so_far start r ≡ r
  from_start = nothing_before start no_blocks no_asked no_traps no_waits

  -- what is left is ready to go on
  pub course_ready : start.size ≡ 0 → IsReady g start c.state
  course_ready z =
      let b = ap (sum_by block_size) no_blocks in
      let q = ap length no_asked in
      let t = ap length no_traps in
      let s = h.shallow in
      record { made = h.made; this = h.itself; shallow = omega (arith, s, done, z); within = record { size = omega (arith, z, b, q, t); most = omega (arith, z) } }

  module _ (new : Trail) (s : State) (frames : List Frame) (r : Resuming g left start new s frames) where
    run_is : (b : Lookup) → PartOf (mail_of g) b → behind k (so_far new (left_of g frames s b)) ≡ run (program_of g) g.limit g.this b
    run_is b v = ap (behind k) (r.run b v ∙ from_start (left b)) ∙ h.run b (part_then a (mail_of g) b w v)

    written_size : new.size ≡ run_size (lists_run (lists_of new))
    written_size = r.ready.within.size

    next_course : (l : Lists) → l ≡ lists_of new → IsCourse (program_of g) g.limit g.this (mail_of g) (behind k (lists_run l)) (record { state = s; frames = frames })
    next_course l q = subst (λ (l : Lists). IsCourse (program_of g) g.limit g.this (mail_of g) (behind k (lists_run l)) (record { state = s; frames = frames })) (sym q) (record {
      run = λ b v. behind_trail k new (left_of g frames s b) ∙ run_is b v;
      fit = r.fit;
      made = r.ready.made;
      itself = r.ready.this;
      shallow =
          let d = r.ready.shallow in
          let z = written_size in
          let n = behind_size k (lists_run (lists_of new)) in
          omega (arith, d, z, n, done);
    })

    abbrev now : Run
    now = run (program_of g) g.limit g.this (mail_of g)

    -- all is shown
    told : (ended : Bool) (l : Lists) (e : Option PlainState) → is_some e ≡ ended → left_of g frames s (mail_of g) ≡ record { blocks = l.blocks; asked = l.asked; traps = l.traps; waits = l.waits; end = e } → told_by k (lists_of new) l ended ≡ history (program_of g) g.limit g.this (mail_of g)
    told ended l e is q =
        (λ i. record {
          blocks = k.blocks ++ (new.blocks ++ l.blocks);
          asked = k.asked ++ (new.asked ++ l.asked);
          waits = k.waits ++ (new.waits ++ l.waits);
          traps = k.traps ++ (new.traps ++ l.traps);
          ended = sym is i;
        })
        ∙ (ap (λ x. to_history (behind k (so_far new x))) (sym q) ∙ ap to_history (run_is (mail_of g) (part_itself (mail_of g))))

    abbrev stage : Lists → Lists → Bool → Stage
    stage l shown ended = record { written = l; shown = shown; ended = ended; course = record { state = s; frames = frames } }

    stage_of : (l shown : Lists) (ended : Bool) (e : Option PlainState) → l ≡ lists_of new → is_some e ≡ ended → left_of g frames s (mail_of g) ≡ record { blocks = shown.blocks; asked = shown.asked; traps = shown.traps; waits = shown.waits; end = e } →
        shown.size ≡ run_size (lists_run shown) → new.size + shown.size ≤ g.room → IsStage (program_of g) g.limit g.this (mail_of g) k (stage l shown ended)
    stage_of l shown ended e q is all size fits =
        let sizes = g.sizes in
        let n = ap (λ (l : Lists). l.size) q in
        record {
          course = next_course l q;
          history = ap (λ l. told_by k l shown ended) q ∙ told ended shown e is all;
          written = subst (λ (l : Lists). l.size ≡ run_size (lists_run l)) (sym q) written_size;
          shown = size;
          small = omega (arith, fits, done, sizes, n);
        }

  -- the chare went on
  pub went_on : (new : Trail) (s : State) (frames : List Frame) → Resuming g left start new s frames → (l shown : Lists) (ended : Bool) → l ≡ lists_of new → ended ≡ is_done frames →
      (ended ≡ true → shown ≡ record { blocks = []; asked = []; traps = []; waits = []; size = 0 }) → (ended ≡ false → shown ≡ new.shown) →
      IsStage (program_of g) g.limit g.this (mail_of g) k (record { written = l; shown = shown; ended = ended; course = record { state = s; frames = frames } })
  went_on new s [] r l shown ended q d none some =
      let is = none d in
      let z = ap (λ (l : Lists). l.size) is in
      let most = r.ready.within.most in
      stage_of new s [] r l shown ended (Some (state_of s)) q (sym d) (sym (ap (λ (l : Lists). record { blocks = l.blocks; asked = l.asked; traps = l.traps; waits = l.waits; end = Some (state_of s) }) is))
      (subst (λ (l : Lists). l.size ≡ run_size (lists_run l)) (sym is) refl) (omega (arith, z, most))
  went_on new s (x ∷ frames) r l shown ended q d none some =
      let is = some d in
      let z = ap (λ (l : Lists). l.size) is in
      let fits = r.shows.fits in
      stage_of new s (x ∷ frames) r l shown ended None q (sym d) (r.shows.shown ∙ sym (ap lists_run is))
      (subst (λ (l : Lists). l.size ≡ run_size (lists_run l)) (sym is) r.shows.size) (omega (arith, z, fits))

  -- its history is too long
  pub too_long : (f : HistoryFault) (new : Trail) (s : State) → Resumes g left start new s (Err f) → GoesOn (program_of g) g.limit g.this (mail_of g) k (Err f)
  too_long Long new s r =
      let sizes = g.sizes in
      let n = behind_size k (left (mail_of g)) in
      let q = ap run_size (from_start (left (mail_of g))) in
      let e = ap run_size (h.run (mail_of g) w) in
      omega (arith, r, sizes, n, q, e, done)
  too_long Memory new s r = tt

-- a chare that has written nothing does its body
pub first_course : (p : Program) (limit this : ℕ) (mail : Lookup) (s : State) (f : Frame) → state_of s ≡ start p → IsFrameFit p f → MadeFor p s.env → s.env.this ≡ this →
    ((b : Lookup) (st : PlainState) → does_next p limit this f b st ≡ in_turn (map (meant p limit this) p.body) 0 b 1 [] st) → IsCourse p limit this mail nothing (record { state = s; frames = f ∷ [] })
first_course p limit this mail s f e fit made own is =
    let none : depth_of s.causes ≡ depth_of no_causes = ap (λ st. depth_of st.causes) e in
    record {
      run = λ b w. is b (state_of s) ∙ ap (in_turn (map (meant p limit this) p.body) 0 b 1 []) e;
      fit = (fit, tt);
      made = made;
      itself = own;
      shallow = omega (arith, none);
    }
