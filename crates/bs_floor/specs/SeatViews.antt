-- What a seat knows, and how its steps change it.
use Rattle.std.specs.Prelude.{◌≡◌, ℕ, ◌+◌, ◌<◌, ◌≤◌, List, [], ◌∷◌, ◌++◌, Option, Some, None}
use Rattle.atomic_table.specs.Seated.{TableId}
use Rattle.bs_floor.specs.declared.station.Bound.{Bound}
use Rattle.bs_floor.specs.declared.cell.Cell.{Cell}
use Rattle.bs_floor.specs.declared.view.SeatView.{SeatView}
use Rattle.bs_floor.specs.declared.view.Setup.{Setup}
use Rattle.bs_floor.specs.declared.view.Look.{Look}
use Rattle.bs_floor.specs.declared.view.Entry.{Entry}
use Rattle.bs_floor.specs.declared.view.Turn.{Turn}

-- a table of three words and one slot for each station, which has the station k
abbrev pub Sized : TableId → ℕ → Type 0
Sized id k = (id.words ≡ id.slots + id.slots + id.slots) × (k < id.slots) × (id.slots ≤ 65536)

module _ {S J I : Type 0} where
  abbrev pub seat_view : Option (Setup S) → ℕ → List ℕ → ℕ → Option (Turn S J I) → List (Entry I) → List (Entry (List (Bound I))) → List Look → SeatView S J I
  seat_view setup number numbers given held posts serves looks = record { setup = setup; number = number; numbers = numbers; given = given; held = held; posts = posts; serves = serves; looks = looks }

  abbrev pub turn_at : ℕ → Cell S J I → Turn S J I
  turn_at k c = record { station = k; cell = c }

  -- the seat 0 of a new floor, which has given out its own number alone
  abbrev pub first_view : Setup S → SeatView S J I
  first_view setup = seat_view (Some setup) 0 (0 ∷ []) 1 None [] [] []

  -- a seat that was joined to another one
  abbrev pub spent_view : SeatView S J I
  spent_view = seat_view None 0 [] 0 None [] [] []

  abbrev pub with_held : SeatView S J I → Option (Turn S J I) → SeatView S J I
  with_held v held = seat_view v.setup v.number v.numbers v.given held v.posts v.serves v.looks

  abbrev pub with_look : SeatView S J I → Look → SeatView S J I
  with_look v look = seat_view v.setup v.number v.numbers v.given v.held v.posts v.serves (v.looks ++ look ∷ [])

  -- seat 0 gives out one more number
  abbrev pub giving_view : SeatView S J I → SeatView S J I
  giving_view v = seat_view v.setup v.number v.numbers (v.given + 1) v.held v.posts v.serves v.looks

  -- the new seat that has this number
  abbrev pub given_view : SeatView S J I → SeatView S J I
  given_view v = seat_view v.setup v.given (v.given ∷ []) 0 None [] [] []

  -- one seat takes over what another did
  abbrev pub joined_view : SeatView S J I → SeatView S J I → SeatView S J I
  joined_view v w = seat_view v.setup v.number (v.numbers ++ w.numbers) (v.given + w.given) v.held (v.posts ++ w.posts) (v.serves ++ w.serves) v.looks
