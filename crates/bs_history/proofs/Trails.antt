-- What is written stands behind what was there.
use Rattle.std.proofs.Common.{◌≡◌, ◌≤◌, ◌<◌, ℕ, ◌+◌, max, arith, List, [], ◌∷◌, ◌++◌, length, map, sum_by, length-append, append_assoc, Some, None, Ok, Err, true, false, refl, sym, suc, le_refl, ap, subst, ◌∙◌}
use Rattle.std.specs.Prelude.{ℤ}
use Rattle.std.proofs.lemmas.List.{length-map}
use Rattle.std.proofs.lemmas.List.Sums.{sum_by-append, sum_by-cons}
use Rattle.bs_tree.specs.declared.tree.Expr.{Expr}
use Rattle.bs_log.specs.declared.history.TrapKind.{TrapKind}
use Rattle.bs_log.specs.Size.{block_size}
use Rattle.bs_semantics.specs.Value.{Value, value_of}
use Rattle.bs_semantics.specs.Acts.{Done, Parcel}
use Rattle.bs_semantics.specs.Run.{Run, Causes, ends, halts, trapped, after, with, serial, alone, signed, depth_of}
use Rattle.bs_semantics.proofs.Sizes.{count_blocks}
use Rattle.bs_block.specs.declared.done.BlockDone.{BlockDone}
use Rattle.bs_block.specs.declared.done.BlockFault.TheVariants.{Trap}
use Rattle.bs_block.specs.Block.{IsBlock}
use Rattle.bs_block.specs.Env.{MadeFor}
use Rattle.bs_block.specs.Progress.{parcel_of}
use Rattle.bs_history.specs.declared.trail.Trail.{Trail}
use Rattle.bs_history.specs.declared.ground.Ground.{Ground}
use Rattle.bs_history.specs.declared.ground.State.{State}
use Rattle.bs_history.specs.Trail.{so_far, run_size, IsWithin, Wrote, a_block}
use Rattle.bs_history.specs.Ground.{program_of, state_of, IsReady, Did, Goes, IsLong}
use Rattle.bs_history.specs.Serial.{made_from}

-- the size of what is written
abbrev pub written : Trail → ℕ
written t = sum_by block_size t.blocks + length t.asked + length t.traps

pub so_far_size : (t : Trail) (r : Run) → run_size (so_far t r) ≡ written t + run_size r
so_far_size t r =
    let b = sum_by-append block_size t.blocks r.blocks in
    let a = length-append t.asked r.asked in
    let s = length-append t.traps r.traps in
    omega (arith, a, b, s)

module _ (limit : ℕ) (r : Run) (old new : Trail) (w : Wrote limit r old new) where
  pub behind : (q : Run) → so_far new q ≡ so_far old (after r (Some q))
  behind q = λ i. record {
    blocks = (ap (λ xs. xs ++ q.blocks) w.blocks ∙ append_assoc old.blocks r.blocks q.blocks) i;
    asked = (ap (λ xs. xs ++ q.asked) w.asked ∙ append_assoc old.asked r.asked q.asked) i;
    traps = (ap (λ xs. xs ++ q.traps) w.traps ∙ append_assoc old.traps r.traps q.traps) i;
    waits = (ap (λ xs. xs ++ q.waits) w.waits ∙ append_assoc old.waits r.waits q.waits) i;
    end = q.end;
  }

  pub longer : IsWithin limit old → new.size ≡ old.size + run_size r
  longer h =
      let b = ap (sum_by block_size) w.blocks ∙ sum_by-append block_size old.blocks r.blocks in
      let a = ap length w.asked ∙ length-append old.asked r.asked in
      let t = ap length w.traps ∙ length-append old.traps r.traps in
      let before = h.size in
      let now = w.within.size in
      omega (arith, b, a, t, before, now)

  pub still_ready : (g : Ground) → g.room ≡ limit → (s : State) → IsReady g old s → IsReady g new s
  still_ready g e s h =
      let l = longer (subst (λ n. IsWithin n old) e h.within) in
      let k = h.shallow in
      record { made = h.made; this = h.this; shallow = omega (arith, l, k); within = subst (λ n. IsWithin n new) (sym e) w.within }

  pub more : IsWithin limit old → old.size ≤ new.size
  more h = let l = longer h in omega (arith, l)

-- ---- values

module _ (g : Ground) (n : ℕ) (t : Trail) (s : State) (e : Expr) (ready : IsReady g t s) where
  abbrev worth : Value
  worth = value_of (program_of g) g.this e s.env.cells

  abbrev Worth : Value → Type 0
  Worth v = v ≡ value_of (program_of g) s.env.this e s.env.cells

  same : (v : Value) → Worth v → v ≡ worth
  same v h = h ∙ ap (λ n. value_of (program_of g) n e s.env.cells) ready.this

  pub value_found : (v : ℤ) → Worth (Ok v) → Goes g ℤ (with n t.path.items worth) t t s (Some v)
  value_found v h = record {
    path = refl;
    run = λ next. ap (λ v. so_far t (with n t.path.items v next)) (same (Ok v) h);
    ready = ready;
    more = le_refl t.size;
  }

  pub value_trapped : (k : TrapKind) → Worth (Err k) → (new : Trail) → Wrote g.room (trapped n t.path.items k) t new → Goes g ℤ (with n t.path.items worth) t new s None
  value_trapped k h new w = record {
    path = w.path;
    run = λ next. behind g.room (trapped n t.path.items k) t new w (halts []) ∙ ap (λ v. so_far t (with n t.path.items v next)) (same (Err k) h);
    ready = still_ready g.room (trapped n t.path.items k) t new w g refl s ready;
    more = more g.room (trapped n t.path.items k) t new w ready.within;
  }

  pub value_long : (k : TrapKind) → Worth (Err k) → g.room < run_size (so_far t (trapped n t.path.items k)) → IsLong g ℤ (with n t.path.items worth) t
  value_long k h l next = subst (λ v. g.room < run_size (so_far t (with n t.path.items v next))) (same (Err k) h) l

-- ---- blocks

module _ (g : Ground) (n : ℕ) (old new : Trail) (s s' : State) (ready : IsReady g old s) (d : Done) where
  abbrev done_run : Run
  done_run = serial g.this n old.path.items (state_of s) d

  pub block_done : (done : BlockDone) → IsBlock d s.env s'.env (Ok done) → MadeFor (program_of g) s'.env → s'.env.this ≡ s.env.this →
      Wrote g.room (a_block (made_from g.this n old.path.items s.causes done)) old new → s'.causes ≡ alone old.path.items s.causes → Did g done_run old new s' true
  block_done done h m e w k =
      let b = made_from g.this n old.path.items s.causes done in
      let l = longer g.room (a_block b) old new w ready.within in
      let one = sum_by-cons block_size b [] in
      let depth : depth_of s'.causes ≡ max (max (suc (depth_of s.causes)) 0) 0 = ap depth_of k in
      let old_depth = ready.shallow in
      record {
        path = w.path;
        run = behind g.room (a_block (made_from g.this n old.path.items s.causes done)) old new w (ends (state_of s'))
            ∙ (ap (λ k. so_far old (after (a_block (made_from g.this n old.path.items s.causes done)) (Some (ends (record { cells = s'.env.cells; causes = k }))))) k
            ∙ ap (λ d. so_far old (serial g.this n old.path.items (state_of s) d)) (sym h.1));
        ready = record { made = m; this = e ∙ ready.this; shallow = omega (arith, l, one, depth, old_depth); within = w.within };
        more = more g.room _ old new w ready.within;
      }

  pub block_long : (done : BlockDone) → IsBlock d s.env s'.env (Ok done) → g.room < run_size (so_far old (a_block (made_from g.this n old.path.items s.causes done))) → g.room < run_size (so_far old done_run)
  block_long done h l = subst (λ d. g.room < run_size (so_far old (serial g.this n old.path.items (state_of s) d))) (sym h.1) l

  pub block_trapped : (kind : TrapKind) → IsBlock d s.env s'.env (Err (Trap kind)) → s'.causes ≡ s.causes → Wrote g.room (trapped n old.path.items kind) old new → Did g done_run old new s' false
  block_trapped kind h k w =
      let l = longer g.room _ old new w ready.within in
      let depth : depth_of s'.causes ≡ depth_of s.causes = ap depth_of k in
      let old_depth = ready.shallow in
      record {
        path = w.path;
        run = behind g.room (trapped n old.path.items kind) old new w (halts []) ∙ ap (λ d. so_far old (serial g.this n old.path.items (state_of s) d)) (sym h.0);
        ready = record { made = subst (MadeFor (program_of g)) (sym h.1) ready.made; this = ap (λ e. e.this) h.1 ∙ ready.this; shallow = omega (arith, l, depth, old_depth); within = w.within };
        more = more g.room _ old new w ready.within;
      }

  pub block_trap_long : (kind : TrapKind) → IsBlock d s.env s'.env (Err (Trap kind)) → g.room < run_size (so_far old (trapped n old.path.items kind)) → g.room < run_size (so_far old done_run)
  block_trap_long kind h l = subst (λ d. g.room < run_size (so_far old (serial g.this n old.path.items (state_of s) d))) (sym h.0) l

pub length_signed : (this : ℕ) (path : List ℕ) (depth k : ℕ) (ms : List Parcel) → length (signed this path depth k ms) ≡ length ms
length_signed this path depth k [] = refl
length_signed this path depth k (m ∷ ms) = ap suc (length_signed this path depth (k + 1) ms)

-- a block with so many sends is too much
pub many_sends : (limit this n : ℕ) (t : Trail) (k : Causes) (done : BlockDone) → limit < length done.sends → limit < run_size (so_far t (a_block (made_from this n t.path.items k done)))
many_sends limit this n t k done l =
    let b = made_from this n t.path.items k done in
    let a = so_far_size t (a_block b) in
    let e = length_signed this t.path.items (suc (depth_of k)) 1 (map parcel_of done.sends) in
    let m = length-map done.sends parcel_of in
    let o = sum_by-cons block_size b [] in
    omega (arith, a, e, m, o, l)
