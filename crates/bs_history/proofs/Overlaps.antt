-- An `overlap`, whose parts write besides what is written.
use Rattle.std.proofs.Common.{◌≡◌, ◌≤◌, ◌<◌, ℕ, ◌+◌, ◌-◌, arith, List, [], ◌∷◌, ◌++◌, append_assoc, append-nil, length, length-append, sum_by, map, Option, Some, None, Result, Ok, Err, Bool, true, false, refl, sym, ap, subst, ◌∙◌}
use Rattle.std.proofs.lemmas.List.Sums.{sum_by-append}
use Rattle.bs_tree.specs.declared.tree.Stmt.{Stmt}
use Rattle.bs_tree.specs.declared.tree.Stmt.TheVariants as v
use Rattle.bs_log.specs.Size.{block_size}
use Rattle.bs_semantics.specs.Growth.{PartOf}
use Rattle.bs_semantics.specs.Run.{Lookup, Run, State as PlainState, ends, halts, overlap, depth_of}
use Rattle.bs_block.specs.Env.{MadeFor}
use Rattle.bs_semantics.proofs.Growth.{grows}
use Rattle.bs_history.specs.declared.trail.Trail.{Trail}
use Rattle.bs_history.specs.declared.trail.Lists.{Lists}
use Rattle.bs_history.specs.declared.ground.Ground.{Ground}
use Rattle.bs_history.specs.declared.ground.State.{State}
use Rattle.bs_history.specs.declared.frame.Frame.{Frame}
use Rattle.bs_history.specs.declared.fault.HistoryFault.{HistoryFault}
use Rattle.bs_history.specs.declared.fault.HistoryFault.TheVariants.{Long, Memory}
use Rattle.bs_history.specs.Trail.{so_far, run_size, lists_run, IsWithin, Added}
use Rattle.bs_history.specs.Ground.{IsReady, Did, Runs, state_of, program_of, mail_of, means, stopped}
use Rattle.bs_history.specs.Frames.{Ahead, Leaving, Leaves, IsStill, IsFrameFit, frame_does, left_of, is_done}
use Rattle.bs_history.proofs.Trails.{so_far_size}
use Rattle.bs_history.proofs.Aheads.{part_itself}
use Rattle.bs_history.proofs.Histories.{nothing_before}
use Rattle.bs_history.proofs.Meanings.{overlap_does}

-- an overlap that has an end is the same under each larger mail
overlap_same : (g : Ground) (body : List Stmt) (n : ℕ) (path : List ℕ) (st : PlainState) (b : Lookup) → PartOf (mail_of g) b → (e : PlainState) → (overlap (map (means g) body) (mail_of g) (n + 1) path st).end ≡ Some e →
    overlap (map (means g) body) (mail_of g) (n + 1) path st ≡ overlap (map (means g) body) b (n + 1) path st
overlap_same g body n path st b w e h =
    let at : (m : Lookup) → overlap (map (means g) body) m (n + 1) path st ≡ (means g (v.Overlap body)).does m n path st = λ m. overlap_does g (v.Overlap body) n path st m body body refl refl in
    at (mail_of g) ∙ ((grows (program_of g) g.limit g.this (v.Overlap body) (mail_of g) b w n path st).same e (ap (λ r. r.end) (sym (at (mail_of g))) ∙ h) ∙ sym (at b))

-- what lists hold stands before the end of a run that has written them
added_end : (u t t' : Trail) (l : Lists) (x : Option PlainState) → l ≡ record { blocks = u.blocks; asked = u.asked; traps = u.traps; waits = u.waits; size = u.size } → Added (lists_run l) l.size t t' →
    so_far t' (record { blocks = []; asked = []; traps = []; waits = []; end = x }) ≡ so_far t (so_far u (record { blocks = []; asked = []; traps = []; waits = []; end = x }))
added_end u t t' l x q a = λ i. record {
  blocks = (ap (λ xs. xs ++ []) (a.blocks ∙ ap (λ (l : Lists). t.blocks ++ l.blocks) q) ∙ append_assoc t.blocks u.blocks []) i;
  asked = (ap (λ xs. xs ++ []) (a.asked ∙ ap (λ (l : Lists). t.asked ++ l.asked) q) ∙ append_assoc t.asked u.asked []) i;
  traps = (ap (λ xs. xs ++ []) (a.traps ∙ ap (λ (l : Lists). t.traps ++ l.traps) q) ∙ append_assoc t.traps u.traps []) i;
  waits = (ap (λ xs. xs ++ []) (a.waits ∙ ap (λ (l : Lists). t.waits ++ l.waits) q) ∙ append_assoc t.waits u.waits []) i;
  end = x;
}

-- with lists behind it a trail is within a limit, if their sizes are
pub added_within : (limit : ℕ) (l : Lists) (t t' : Trail) → IsWithin limit t → Added (lists_run l) l.size t t' → l.size ≡ run_size (lists_run l) → t.size + l.size ≤ limit → IsWithin limit t'
added_within limit l t t' h a z m =
    let b = ap (sum_by block_size) a.blocks ∙ sum_by-append block_size t.blocks l.blocks in
    let k = ap length a.asked ∙ length-append t.asked l.asked in
    let s = ap length a.traps ∙ length-append t.traps l.traps in
    let before = h.size in
    let now = a.size in
    record { size = omega (arith, b, k, s, before, now, z); most = omega (arith, now, m) }

module _ (g : Ground) (body : List Stmt) (n : ℕ) (t u₀ u : Trail) (s s' : State) (room : t.size ≤ g.room)
    (path : u₀.path.items ≡ t.path.items) (no_blocks : u₀.blocks ≡ []) (no_asked : u₀.asked ≡ []) (no_traps : u₀.traps ≡ []) (no_waits : u₀.waits ≡ []) where
  abbrev pub overlap_run : Lookup → Run
  overlap_run b = overlap (map (means g) body) b (n + 1) t.path.items (state_of s)

  -- nothing stands before what the parts write
  behind_nothing : (r : Run) → so_far u₀ r ≡ r
  behind_nothing = nothing_before u₀ no_blocks no_asked no_traps no_waits

  abbrev at_parts : Run
  at_parts = overlap (map (means g) body) (mail_of g) (n + 1) u₀.path.items (state_of s)

  same_run : at_parts ≡ overlap_run (mail_of g)
  same_run = ap (λ path. overlap (map (means g) body) (mail_of g) (n + 1) path (state_of s)) path

  module _ (l : Lists) (q : l ≡ record { blocks = u.blocks; asked = u.asked; traps = u.traps; waits = u.waits; size = u.size }) (size : u.size ≡ sum_by block_size u.blocks + length u.asked + length u.traps) where
    lists_size : l.size ≡ run_size (lists_run l)
    lists_size = subst (λ (l : Lists). l.size ≡ run_size (lists_run l)) (sym q) size

    -- all parts ended
    pub overlap_ended : so_far u (ends (state_of s')) ≡ so_far u₀ at_parts → (t' : Trail) → Added (lists_run l) l.size t t' → IsReady g t' s' → Leaving g overlap_run t t' s' []
    overlap_ended e t' a ready =
        let is : so_far u (ends (state_of s')) ≡ overlap_run (mail_of g) = e ∙ (behind_nothing at_parts ∙ same_run) in
        record {
          ahead = record {
            path = a.path;
            run = λ b w. added_end u t t' l (Some (state_of s')) q a ∙ ap (so_far t) (is ∙ overlap_same g body n t.path.items (state_of s) b w (state_of s') (sym (ap (λ r. r.end) is)));
            ready = ready;
            more = let n = a.size in omega (arith, n);
          };
          fit = tt;
          shows = tt;
        }

    -- one has not
    pub overlap_left : so_far u (halts []) ≡ so_far u₀ at_parts → s' ≡ s → IsReady g t s → t.size + u.size ≤ g.room → (t' : Trail) → t' ≡ record t { shown = l } → (f : Frame) → IsFrameFit (program_of g) f → ((b : Lookup) → frame_does g f b (state_of s) ≡ overlap_run b) → Leaving g overlap_run t t' s' (f ∷ [])
    overlap_left e same ready fits t' added f fit is =
        let all : lists_run l ≡ so_far u (halts []) = ap lists_run q ∙ (λ i. record { blocks = sym (append-nil u.blocks) i; asked = sym (append-nil u.asked) i; traps = sym (append-nil u.traps) i; waits = sym (append-nil u.waits) i; end = None }) in
        let shown : t'.shown ≡ l = ap (λ t. t.shown) added in
        let now : t'.size ≡ t.size = ap (λ t. t.size) added in
        let more : t'.shown.size ≡ u.size = ap (λ (l : Lists). l.size) (shown ∙ q) in
        record {
          ahead = record {
            path = ap (λ t. t.path.items) added;
            run = λ b w. ap (λ t. so_far t (frame_does g f b (state_of s'))) added ∙ (ap (λ s. so_far t (frame_does g f b (state_of s))) same ∙ ap (so_far t) (is b));
            ready = ready_now;
            more = omega (arith, now);
          };
          fit = (fit, tt);
          shows = record {
            shown = ap (λ s. frame_does g f (mail_of g) (state_of s)) same ∙ (is (mail_of g) ∙ (sym (e ∙ (behind_nothing at_parts ∙ same_run)) ∙ (sym all ∙ ap lists_run (sym shown))));
            size = subst (λ (l : Lists). l.size ≡ run_size (lists_run l)) (sym shown) lists_size;
            fits = omega (arith, now, more, fits);
          };
        }
      where
        ready_now : IsReady g t' s'
        ready_now = subst (λ t. IsReady g t s') (sym added) (subst (IsReady g (record t { shown = l })) (sym same) (record { made = ready.made; this = ready.this; shallow = ready.shallow; within = record { size = ready.within.size; most = ready.within.most } }))

    -- the state where all ended
    pub overlap_ready : (t' : Trail) → Added (lists_run l) l.size t t' → MadeFor (program_of g) s'.env → s'.env.this ≡ g.this → depth_of s'.causes ≤ 262144 + (g.done + t.size) + u.size → IsWithin (g.room - t.size) u → IsWithin g.room t → IsReady g t' s'
    overlap_ready t' a made this depth h w =
        let n = a.size in
        let k = ap (λ (l : Lists). l.size) q in
        let m = h.most in
        record { made = made; this = this; shallow = omega (arith, n, k, depth); within = added_within g.room l t t' w a lists_size (omega (arith, k, m, room)) }

  -- the parts are too much
  overlap_long : t.size ≡ sum_by block_size t.blocks + length t.asked + length t.traps → (left : ℕ) → left ≡ g.room - t.size → left < run_size (so_far u₀ at_parts) → g.room < run_size (so_far t (overlap_run (mail_of g)))
  overlap_long size left r h =
      let a = so_far_size t (overlap_run (mail_of g)) in
      let same = ap run_size (behind_nothing at_parts ∙ same_run) in
      omega (arith, size, r, h, a, same, room)

  pub overlap_err : t.size ≡ sum_by block_size t.blocks + length t.asked + length t.traps → (inside : Ground) → inside.room ≡ g.room - t.size → (f : HistoryFault) → Runs inside at_parts u₀ u s' (Err f) → (t' : Trail) (s'' : State) → Leaves g overlap_run t t' s'' (Err f)
  overlap_err size inside r Long h t' s'' = overlap_long size inside.room r h
  overlap_err size inside r Memory h t' s'' = tt

-- what a run shows that hasn't ended is written too
settled_left : (g : Ground) (whole : Lookup → Run) (old mid new : Trail) (s : State) (x : Frame) (fs : List Frame) → Leaving g whole old mid s (x ∷ fs) → Added (lists_run mid.shown) mid.shown.size mid new → Did g (whole (mail_of g)) old new s false
settled_left g whole old mid new s x fs h a =
    let z = h.shows.size in
    let f = h.shows.fits in
    let k = h.ahead.ready.shallow in
    let n = a.size in
    let m = h.ahead.more in
    record {
      path = a.path ∙ h.ahead.path;
      run =
          (λ i. record {
            blocks = (append-nil new.blocks ∙ a.blocks) i;
            asked = (append-nil new.asked ∙ a.asked) i;
            traps = (append-nil new.traps ∙ a.traps) i;
            waits = (append-nil new.waits ∙ a.waits) i;
            end = None;
          })
          ∙ (ap (so_far mid) (sym h.shows.shown) ∙ h.ahead.run (mail_of g) (part_itself (mail_of g)));
      ready = record { made = h.ahead.ready.made; this = h.ahead.ready.this; shallow = omega (arith, k, n); within = added_within g.room mid.shown mid new h.ahead.ready.within a z f };
      more = omega (arith, m, n);
    }

module _ (g : Ground) (whole : Lookup → Run) (old mid new : Trail) (s : State) where
  pub settled : (fs : List Frame) → is_done fs ≡ false → Leaving g whole old mid s fs → Added (lists_run mid.shown) mid.shown.size mid new → Did g (whole (mail_of g)) old new s false
  settled [] d h a = absurd (cc)
  settled (x ∷ fs) d h a = settled_left g whole old mid new s x fs h a

  -- a run that ended
  pub ended_run : (fs : List Frame) → is_done fs ≡ true → Leaving g whole old mid s fs → Did g (whole (mail_of g)) old mid s true
  ended_run [] d h = record { path = h.ahead.path; run = h.ahead.run (mail_of g) (part_itself (mail_of g)); ready = h.ahead.ready; more = h.ahead.more }
  ended_run (x ∷ fs) d h = absurd (cc)

  -- what is shown fits behind what is written
  pub shown_fits : (fs : List Frame) → is_done fs ≡ false → Leaving g whole old mid s fs → mid.size + mid.shown.size ≤ g.room
  shown_fits [] d h = absurd (cc)
  shown_fits (x ∷ fs) d h = h.shows.fits

  pub runs_err : (f : HistoryFault) → Leaves g whole old mid s (Err f) → (t : Trail) (u : State) → Runs g (whole (mail_of g)) old t u (Err f)
  runs_err Long h t u = h
  runs_err Memory h t u = tt
