-- What is written at the end is the history.
use Rattle.std.proofs.Common.{◌≡◌, ◌≤◌, ℕ, arith, [], ◌++◌, append-nil, is_some, Bool, true, false, refl, sym, ap, ◌∙◌}
use Rattle.bs_log.specs.declared.history.History.{History}
use Rattle.bs_log.specs.Size.{size}
use Rattle.bs_semantics.specs.Run.{Run, to_history}
use Rattle.bs_history.specs.declared.trail.Trail.{Trail}
use Rattle.bs_history.specs.declared.ground.State.{State}
use Rattle.bs_history.specs.Trail.{so_far, IsWithin}
use Rattle.bs_history.specs.Ground.{stopped}

ended_is : (b : Bool) (s : State) → b ≡ is_some (stopped b s).end
ended_is true s = refl
ended_is false s = refl

stopped_nothing : (b : Bool) (s : State) (t : Trail) → so_far t (stopped b s) ≡ record { blocks = t.blocks ++ []; asked = t.asked ++ []; traps = t.traps ++ []; waits = t.waits ++ []; end = (stopped b s).end }
stopped_nothing true s t = refl
stopped_nothing false s t = refl

abbrev pub written_history : Trail → Bool → History
written_history t b = record { blocks = t.blocks; asked = t.asked; waits = t.waits; traps = t.traps; ended = b }

pub history_is : (t : Trail) (s : State) (b : Bool) (r : Run) → so_far t (stopped b s) ≡ r → written_history t b ≡ to_history r
history_is t s b r e =
    (λ i. record {
      blocks = sym (append-nil t.blocks) i;
      asked = sym (append-nil t.asked) i;
      waits = sym (append-nil t.waits) i;
      traps = sym (append-nil t.traps) i;
      ended = ended_is b s i;
    })
    ∙ (ap to_history (sym (stopped_nothing b s t)) ∙ ap to_history e)

pub history_fits : (limit : ℕ) (t : Trail) (b : Bool) → IsWithin limit t → size (written_history t b) ≤ limit
history_fits limit t b h = let a = h.size in let c = h.most in omega (arith, a, c)

-- a run behind nothing is that run
pub nothing_before : (t : Trail) → t.blocks ≡ [] → t.asked ≡ [] → t.traps ≡ [] → t.waits ≡ [] → (r : Run) → so_far t r ≡ r
nothing_before t b a k w r = λ i. record { blocks = b i ++ r.blocks; asked = a i ++ r.asked; traps = k i ++ r.traps; waits = w i ++ r.waits; end = r.end }
