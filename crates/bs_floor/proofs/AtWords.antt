-- The steps at a word's number as the code computes it, and what a seat knows between them.
use Rattle.std.proofs.Common.{◌≡◌, ℕ, ◌+◌, ◌%◌, ◌<◌, ◌≤◌, [], ◌∷◌, length, refl, sym, ap, ◌∙◌, subst}
use Rattle.std.specs.Prelude.{Some, slice_get}
use mathlib.Core.Option.{none}
use Rattle.atomic_table.specs.Table.{step, Allows}
use Rattle.bs_floor.specs.declared.cell.Cell.{Cell}
use Rattle.bs_floor.specs.declared.view.Setup.{Setup}
use Rattle.bs_floor.specs.declared.view.Turn.{Turn}
use Rattle.bs_floor.specs.declared.station.Station as Station
use Rattle.bs_floor.specs.FloorRules
use Rattle.bs_floor.specs.Hands
use Rattle.bs_floor.specs.History
use Rattle.bs_floor.specs.SeatSteps
use Rattle.bs_floor.specs.SeatViews
use Rattle.bs_floor.proofs.TurnSteps.{sees_posted, sees_served}
use Rattle.bs_floor.proofs.Lookups.{Some-injective}
use Rattle.bs_floor.proofs.CountSteps.{counts_post, counts_serve}

module _ {S J I : Type 0} (g : Station.Ghosts S J I) (setup : Setup S) where
  abbrev C : Type 0
  C = Cell S J I

  abbrev H : Type 0
  H = Turn S J I

  abbrev M : Type 0
  M = SeatSteps.Standing g

  pub at_posted : (n id k i : ℕ) (m : M) (c : C) → i ≡ n + k → Hands.HasInHand g k c m → Allows (FloorRules.IsFloor g setup) n id m i (λ x. x) (SeatSteps.posted_loaded g (step n i 0 0 none) m)
  at_posted n id k i m c is held = subst (λ (z : ℕ). Allows (FloorRules.IsFloor g setup) n id m z (λ x. x) (SeatSteps.posted_loaded g (step n z 0 0 none) m)) (sym is) (sees_posted g setup n id k m (SeatViews.turn_at k c) held.0 refl)

  pub at_served : (n id k i : ℕ) (m : M) (c : C) → i ≡ n + n + k → Hands.HasInHand g k c m → m.0.setup ≡ Some setup → Allows (FloorRules.IsFloor g setup) n id m i (λ x. x) (SeatSteps.served_loaded g (step n i 0 0 none) m)
  at_served n id k i m c is held live = subst (λ (z : ℕ). Allows (FloorRules.IsFloor g setup) n id m z (λ x. x) (SeatSteps.served_loaded g (step n z 0 0 none) m)) (sym is) (sees_served g setup n id k m (SeatViews.turn_at k c) held.0 refl setup live)

  -- two cells that a seat holds at one station are one
  pub one_cell : (k : ℕ) (m : M) (c d : C) → Hands.HasInHand g k c m → Hands.HasInHand g k d m → c ≡ d
  one_cell k m c d a b = ap (λ (h : H). h.cell) (Some-injective (SeatViews.turn_at k c) (SeatViews.turn_at k d) (sym a.0 ∙ b.0))

  -- of the cell in hand no more items are served than posted
  pub few_served : (k : ℕ) (m : M) (c : C) → Hands.HasStation g setup k m → Hands.HasInHand g k c m → c.served ≤ length c.posted
  few_served k m c h held = subst (λ (z : C). z.served ≤ length z.posted) (one_cell k m h.cell c h.held held) h.good.few

  pub had_cell : (number k : ℕ) (m m' : M) → Hands.HoldsNothing g setup number m → SeatSteps.GetsTurn g setup k m m' → Hands.HasStation g setup k m' × (m'.0.setup ≡ Some setup) × (m'.0.number ≡ number)
  had_cell number k m m' free got = subst (λ (x : M). Hands.HasStation g setup k x × (x.0.setup ≡ Some setup) × (x.0.number ≡ number)) (sym got.now) (record { cell = got.cell; good = got.good; held = (refl, ap (λ l. (k, got.cell) ∷ l) free.3) }, free.0, free.2)

  pub still_free : (number k by : ℕ) (m m' : M) → Hands.HoldsNothing g setup number m → SeatSteps.FindsHeld g setup k by m m' → Hands.HoldsNothing g setup number m'
  still_free number k by m m' free missed = subst (Hands.HoldsNothing g setup number) (sym missed.now) (free.0, free.1, free.2, free.3)

  pub at_count_post : (n id k i : ℕ) (m : M) (c : C) (x : I) → i ≡ n + k → k < n → m.0.held ≡ Some (SeatViews.turn_at k c) → m.1 ≡ (k, History.with_item g c x) ∷ [] → g.fits (History.job_of g setup) k x → length c.posted + 1 < 18446744073709551616
      → Allows (FloorRules.IsFloor g setup) n id m i (λ y. (y + 1) % 18446744073709551616) (SeatSteps.post_added g (step n i 1 0 none) m)
  at_count_post n id k i m c x is low holds hand fit small = subst (λ (z : ℕ). Allows (FloorRules.IsFloor g setup) n id m z (λ y. (y + 1) % 18446744073709551616) (SeatSteps.post_added g (step n z 1 0 none) m)) (sym is)
      (counts_post g setup n id k m (SeatViews.turn_at k c) x holds refl low (ap (SeatSteps.posted_in_hand g) hand) fit small)

  module _ (stays_sound : (j : J) (p : ℕ) (s : S) (x : I) → g.job s ≡ j → g.place s ≡ p → g.sound j p s → g.fits j p x → g.sound j p (g.next s x))
      (stays_there : (s : S) (x : I) → (g.job (g.next s x) ≡ g.job s) × (g.place (g.next s x) ≡ g.place s)) where
    pub at_count_serve : (n id k i : ℕ) (m : M) (c : C) (x : I) → i ≡ n + n + k → k < n → m.0.held ≡ Some (SeatViews.turn_at k c) → slice_get c.posted c.served ≡ Some x → length c.posted < 18446744073709551616
        → Allows (FloorRules.IsFloor g setup) n id m i (λ y. (y + 1) % 18446744073709551616) (SeatSteps.serve_added g (step n i 1 0 none) m)
    at_count_serve n id k i m c x is low holds item small = subst (λ (z : ℕ). Allows (FloorRules.IsFloor g setup) n id m z (λ y. (y + 1) % 18446744073709551616) (SeatSteps.serve_added g (step n z 1 0 none) m)) (sym is)
        (counts_serve g setup stays_sound stays_there n id k m (SeatViews.turn_at k c) x holds refl low item small)
