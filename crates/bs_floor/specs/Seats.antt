-- A floor and its seats as callers see them. A floor is which table it is and what it was made from. A seat is which table it is of and its view, of which callers see the number and three lists.
use Rattle.std.specs.Prelude.{◌≡◌, ◌≢◌, ℕ, ◌<◌, ◌≤◌, List, [], ◌∷◌, ◌++◌, All, Any, length, Some, None}
use Rattle.atomic_table.specs.Seated.{TableId}
use Rattle.bs_floor.specs.declared.station.Bound.{Bound}
use Rattle.bs_floor.specs.declared.answers.Position.{Position}
use Rattle.bs_floor.specs.declared.answers.ServeFault.{ServeFault}
use Rattle.bs_floor.specs.declared.answers.ServeFault.TheVariants.{Busy, Idle, Memory}
use Rattle.bs_floor.specs.declared.answers.PostFault.{PostFault}
use Rattle.bs_floor.specs.declared.answers.PostFault.TheVariants as post
use Rattle.bs_floor.specs.declared.view.SeatView.{SeatView}
use Rattle.bs_floor.specs.declared.view.Setup.{Setup}
use Rattle.bs_floor.specs.declared.view.Look.{Look}
use Rattle.bs_floor.specs.declared.view.Look.TheVariants.{Held, Counts}
use Rattle.bs_floor.specs.declared.view.Entry.{Entry}
use Rattle.bs_floor.specs.declared.station.Station as Station
use Rattle.bs_floor.specs.Counting.{entry}
use Rattle.bs_floor.specs.SeatViews.{seat_view}
use Rattle.bs_floor.specs.History

abbrev pub FloorValue : Type 0 → Type 0
FloorValue S = TableId × Setup S

abbrev pub SeatValue : Type 0 → Type 0 → Type 0 → Type 0
SeatValue S J I = TableId × SeatView S J I

-- the stations that a floor was made from, in their opening states
abbrev pub stations_of : {S : Type 0} → FloorValue S → List S
stations_of f = f.1.stations.value.items

abbrev pub station_count : {S : Type 0} → FloorValue S → ℕ
station_count f = length f.1.stations.value.items

-- how many seats a floor has
abbrev pub seat_count : {S : Type 0} → FloorValue S → ℕ
seat_count f = f.1.seats

-- the job that all stations of a floor have
abbrev pub job_of : {S J I : Type 0} → Station.Ghosts S J I → FloorValue S → J
job_of g f = History.job_of g f.1

abbrev pub position_of : {I : Type 0} → Entry I → Position
position_of e = record { station = e.station; number = e.number }

module _ {S J I : Type 0} where
  abbrev pub number_of : SeatValue S J I → ℕ
  number_of s = s.1.number

  -- (station, number, item) of each post that answered Ok, in order
  abbrev pub posts_of : SeatValue S J I → List (Entry I)
  posts_of s = s.1.posts

  -- (station, number, sends) of each serve that answered Ok, in order
  abbrev pub serves_of : SeatValue S J I → List (Entry (List (Bound I)))
  serves_of s = s.1.serves

  -- what the own steps of this seat read
  abbrev pub looks_of : SeatValue S J I → List Look
  looks_of s = s.1.looks

  abbrev pub IsSeatOf : FloorValue S → SeatValue S J I → Type 0
  IsSeatOf f s = (s.0 ≡ f.0) × (s.1.setup ≡ Some f.1)

  -- the seat of number k of a floor, with which nothing was done yet
  pub record IsNewSeat (f : FloorValue S) (k : ℕ) (s : SeatValue S J I) : Type 0 where
    pub of_floor : IsSeatOf f s
    pub number : number_of s ≡ k
    pub posts : posts_of s ≡ []
    pub serves : serves_of s ≡ []
    pub looks : looks_of s ≡ []

  abbrev pub posting : SeatValue S J I → ℕ → ℕ → ℕ → I → SeatValue S J I
  posting s k n served x = (s.0, seat_view s.1.setup s.1.number s.1.numbers s.1.given None (s.1.posts ++ entry k n x ∷ []) s.1.serves (s.1.looks ++ Counts k n served ∷ []))

  abbrev pub serving : SeatValue S J I → ℕ → ℕ → ℕ → List (Bound I) → SeatValue S J I
  serving s k posted n sends = (s.0, seat_view s.1.setup s.1.number s.1.numbers s.1.given None s.1.posts (s.1.serves ++ entry k n sends ∷ []) (s.1.looks ++ Counts k posted n ∷ []))

  abbrev pub looking : SeatValue S J I → Look → SeatValue S J I
  looking s look = (s.0, seat_view s.1.setup s.1.number s.1.numbers s.1.given None s.1.posts s.1.serves (s.1.looks ++ look ∷ []))

  -- the item x was posted at the place n of the station k, which was the number of items posted there; all else of the seat is as before
  pub record Posts (k : ℕ) (x : I) (n : ℕ) (old new : SeatValue S J I) : Type 0 where
    pub served : ℕ
    pub few : served ≤ n
    pub now : new ≡ posting old k n served x

  -- the item of number n of the station k was served, which was the first that wasn't; all else of the seat is as before
  pub record Serves (k n : ℕ) (sends : List (Bound I)) (old new : SeatValue S J I) : Type 0 where
    pub posted : ℕ
    pub some_item : n < posted
    pub now : new ≡ serving old k posted n sends

  -- a look at the station k read the seat `by`, which is another one of the floor; all else of the seat is as before
  pub record SeesHeld (f : FloorValue S) (k by : ℕ) (old new : SeatValue S J I) : Type 0 where
    pub other : by ≢ number_of old
    pub seat : by < seat_count f
    pub now : new ≡ looking old (Held k by)

  -- a look at the station k read these two counts; all else of the seat is as before
  pub record SeesCounts (k posted served : ℕ) (old new : SeatValue S J I) : Type 0 where
    pub few : served ≤ posted
    pub now : new ≡ looking old (Counts k posted served)

  -- what a post that isn't done leaves; it hands back the item
  abbrev pub PostRefused : FloorValue S → ℕ → I → SeatValue S J I → SeatValue S J I → PostFault I → Type 0
  PostRefused f k x old new (post.Busy by y) = (y ≡ x) × SeesHeld f k by old new
  PostRefused f k x old new (post.Memory y) = (y ≡ x) × ((posted : ℕ) × (served : ℕ) × SeesCounts k posted served old new)

  -- what a serve that isn't done leaves: Idle tells two equal counts, and Memory comes where they differ
  abbrev pub ServeRefused : FloorValue S → ℕ → SeatValue S J I → SeatValue S J I → ServeFault → Type 0
  ServeRefused f k old new (Busy by) = SeesHeld f k by old new
  ServeRefused f k old new (Idle posted served) = (posted ≡ served) × SeesCounts k posted served old new
  ServeRefused f k old new Memory = (posted : ℕ) × (served : ℕ) × (served < posted) × SeesCounts k posted served old new

  -- these are all seats of the floor
  pub record AllSeats (f : FloorValue S) (seats : List (SeatValue S J I)) : Type 0 where
    pub of_floor : All (IsSeatOf f) seats
    pub each : (n : ℕ) → n < seat_count f → Any (λ s. number_of s ≡ n) seats
