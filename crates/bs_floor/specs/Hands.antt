-- What is done while a seat has the turn of a station, and its cell in hand.
use Rattle.std.specs.Prelude.{◌≡◌, ℕ, ◌<◌, ◌≤◌, List, [], ◌∷◌, length, Some, None, slice_get}
use Rattle.bs_floor.specs.declared.station.Bound.{Bound}
use Rattle.bs_floor.specs.declared.cell.Cell.{Cell}
use Rattle.bs_floor.specs.declared.view.Setup.{Setup}
use Rattle.bs_floor.specs.declared.view.Look.{Look}
use Rattle.bs_floor.specs.declared.view.Look.TheVariants.{Counts}
use Rattle.bs_floor.specs.declared.answers.ServeFault.{ServeFault}
use Rattle.bs_floor.specs.declared.answers.ServeFault.TheVariants.{Busy, Idle, Memory}
use Rattle.bs_floor.specs.declared.station.Station as Station
use Rattle.bs_floor.specs.SeatViews.{turn_at, with_look}
use Rattle.bs_floor.specs.History.{IsCellOf, with_item, with_served}
use Rattle.bs_floor.specs.SeatSteps.{Standing, with_post, with_serve}

module _ {S J I : Type 0} (g : Station.Ghosts S J I) where
  -- the seat has the turn of the station k, and its cell c in hand
  abbrev pub HasInHand : ℕ → Cell S J I → Standing g → Type 0
  HasInHand k c m = (m.0.held ≡ Some (turn_at k c)) × (m.1 ≡ (k, c) ∷ [])

  -- the seat has the turn of the station k, and its cell in hand
  pub record HasStation (setup : Setup S) (k : ℕ) (m : Standing g) : Type 0 where
    pub cell : Cell S J I
    pub good : IsCellOf g setup k cell
    pub held : HasInHand k cell m

  abbrev pub counts_look : ℕ → Cell S J I → Look
  counts_look k c = Counts k (length c.posted) c.served

  -- the two counts were read
  abbrev pub HasLooked : ℕ → Standing g → Standing g → Type 0
  HasLooked k before after = (c : Cell S J I) → HasInHand k c before → after ≡ (with_look before.0 (counts_look k c), before.1)

  -- the two counts were read, and the item x was posted at the place n
  abbrev pub HasPosted : ℕ → I → ℕ → Standing g → Standing g → Type 0
  HasPosted k x n before after = (c : Cell S J I) → HasInHand k c before
      → (n ≡ length c.posted) × (c.served ≤ length c.posted) × (after ≡ (with_post g (with_look before.0 (counts_look k c)) (turn_at k c) x, (k, with_item g c x) ∷ []))

  -- the two counts were read, and the item of number n was served
  abbrev pub HasServed : ℕ → ℕ → List (Bound I) → Standing g → Standing g → Type 0
  HasServed k n sends before after = (c : Cell S J I) → HasInHand k c before
      → (x : I) × (n ≡ c.served) × (slice_get c.posted c.served ≡ Some x) × (sends ≡ g.sends c.station x) × (after ≡ (with_serve g (with_look before.0 (counts_look k c)) (turn_at k c) x, (k, with_served g c x) ∷ []))

  -- the seat has this number and this floor's setup, and no turn
  abbrev pub HoldsNothing : Setup S → ℕ → Standing g → Type 0
  HoldsNothing setup number m = (m.0.setup ≡ Some setup) × (m.0.held ≡ None) × (m.0.number ≡ number) × (m.1 ≡ [])

  -- the cell c in hand was served, and its count isn't changed yet
  pub record ServedInHand (k : ℕ) (c : Cell S J I) (sends : List (Bound I)) (before after : Standing g) : Type 0 where
    pub item : I
    pub item_is : slice_get c.posted c.served ≡ Some item
    pub sends_are : sends ≡ g.sends c.station item
    pub now : after ≡ (before.0, (k, with_served g c item) ∷ [])

  -- Idle tells the two counts, which are equal; Memory comes where they aren't
  abbrev pub IsServeFault : ℕ → ℕ → ServeFault → Type 0
  IsServeFault posted served (Busy by) = ⊥
  IsServeFault posted served (Idle p n) = (p ≡ posted) × (n ≡ served) × (posted ≡ served)
  IsServeFault posted served Memory = served < posted

  abbrev pub HasServeFault : ℕ → Standing g → ServeFault → Type 0
  HasServeFault k before e = (c : Cell S J I) → HasInHand k c before → IsServeFault (length c.posted) c.served e
