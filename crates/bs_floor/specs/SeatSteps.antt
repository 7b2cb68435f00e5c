-- What each kind of step tells the seat that makes it.
use Rattle.std.specs.Prelude.{◌≡◌, ℕ, suc, ◌<◌, List, [], ◌∷◌, ◌++◌, length, Some, None, slice_get}
use Rattle.atomic_table.specs.Table.{Me, Step, rest}
use Rattle.bs_floor.specs.declared.cell.Cell.{Cell}
use Rattle.bs_floor.specs.declared.view.SeatView.{SeatView}
use Rattle.bs_floor.specs.declared.view.Setup.{Setup}
use Rattle.bs_floor.specs.declared.view.Look.TheVariants.{Held, Counts}
use Rattle.bs_floor.specs.declared.view.Turn.{Turn}
use Rattle.bs_floor.specs.declared.station.Station as Station
use Rattle.bs_floor.specs.Counting.{entry}
use Rattle.bs_floor.specs.SeatViews.{seat_view, turn_at, with_held, with_look}
use Rattle.bs_floor.specs.History.{IsCellOf, with_item, with_served}

module _ {S J I : Type 0} (g : Station.Ghosts S J I) where
  -- a seat's view, and the cells that it has in hand
  abbrev pub Standing : Type 0
  Standing = Me (Cell S J I) (SeatView S J I)

  -- the turn of the station k was free, and its cell came with it
  pub record GetsTurn (setup : Setup S) (k : ℕ) (before after : Standing) : Type 0 where
    pub cell : Cell S J I
    pub good : IsCellOf g setup k cell
    pub now : after ≡ (with_held before.0 (Some (turn_at k cell)), (k, cell) ∷ before.1)

  -- another seat had the turn
  pub record FindsHeld (setup : Setup S) (k by : ℕ) (before after : Standing) : Type 0 where
    pub small : by < setup.seats
    pub other : ¬ (by ≡ before.0.number)
    pub now : after ≡ (with_look before.0 (Held k by), before.1)

  abbrev pub turn_tried : Step (Cell S J I) → Standing → ℕ → Standing → Type 0
  turn_tried st m r m' = (setup : Setup S) → m.0.setup ≡ Some setup → (r ≡ 0 → GetsTurn setup st.word m m') × ((by : ℕ) → r ≡ suc by → FindsHeld setup st.word by m m')

  abbrev pub turn_returned : Step (Cell S J I) → Standing → ℕ → Standing → Type 0
  turn_returned st m r m' = m' ≡ (with_held m.0 None, rest m.1)

  abbrev pub posted_loaded : Step (Cell S J I) → Standing → ℕ → Standing → Type 0
  posted_loaded st m r m' = (m' ≡ m) × ((h : Turn S J I) → m.0.held ≡ Some h → r ≡ length h.cell.posted)

  abbrev pub served_loaded : Step (Cell S J I) → Standing → ℕ → Standing → Type 0
  served_loaded st m r m' = (h : Turn S J I) → m.0.held ≡ Some h → (r ≡ h.cell.served) × (m' ≡ (with_look m.0 (Counts h.station (length h.cell.posted) h.cell.served), m.1))

  abbrev pub posted_in_hand : List (ℕ × Cell S J I) → List I
  posted_in_hand [] = []
  posted_in_hand (x ∷ xs) = x.1.posted

  abbrev pub with_post : SeatView S J I → Turn S J I → I → SeatView S J I
  with_post v h x = seat_view v.setup v.number v.numbers v.given (Some (turn_at h.station (with_item g h.cell x))) (v.posts ++ entry h.station (length h.cell.posted) x ∷ []) v.serves v.looks

  abbrev pub with_serve : SeatView S J I → Turn S J I → I → SeatView S J I
  with_serve v h x = seat_view v.setup v.number v.numbers v.given (Some (turn_at h.station (with_served g h.cell x))) v.posts (v.serves ++ entry h.station h.cell.served (g.sends h.cell.station x) ∷ []) v.looks

  -- the item that lies last in the cell in hand is counted
  abbrev pub post_added : Step (Cell S J I) → Standing → ℕ → Standing → Type 0
  post_added st m r m' = (h : Turn S J I) (x : I) → m.0.held ≡ Some h → posted_in_hand m.1 ≡ h.cell.posted ++ x ∷ [] → (r ≡ length h.cell.posted) × (m' ≡ (with_post m.0 h x, m.1))

  -- the first item that wasn't served is counted as served
  abbrev pub serve_added : Step (Cell S J I) → Standing → ℕ → Standing → Type 0
  serve_added st m r m' = (h : Turn S J I) (x : I) → m.0.held ≡ Some h → slice_get h.cell.posted h.cell.served ≡ Some x → (r ≡ h.cell.served) × (m' ≡ (with_serve m.0 h x, m.1))
