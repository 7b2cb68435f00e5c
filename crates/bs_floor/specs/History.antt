-- The history of a station, as docs/model.md tells it.
use Rattle.std.specs.Prelude.{◌≡◌, ℕ, ◌+◌, ◌<◌, ◌≤◌, List, [], ◌∷◌, ◌++◌, All, length, take, Some, slice_get}
use Rattle.bs_floor.specs.declared.station.Bound.{Bound}
use Rattle.bs_floor.specs.declared.cell.Cell.{Cell}
use Rattle.bs_floor.specs.declared.view.Setup.{Setup}
use Rattle.bs_floor.specs.declared.station.Station as Station

module _ {S J I : Type 0} (g : Station.Ghosts S J I) where
  -- the state after these items
  abbrev pub replay : S → List I → S
  replay s [] = s
  replay s (x ∷ xs) = replay (g.next s x) xs

  -- what is sent as the item of number n is served: what the station gives for it in the state after the items before it
  pub record AreSends (start : S) (posted : List I) (n : ℕ) (sends : List (Bound I)) : Type 0 where
    pub item : I
    pub item_is : slice_get posted n ≡ Some item
    pub sends_are : sends ≡ g.sends (replay start (take n posted)) item

  -- the cell is the history of the station that began as `start`
  pub record IsHistory (start : S) (c : Cell S J I) : Type 0 where
    pub few : c.served ≤ length c.posted
    pub replayed : c.station ≡ replay start (take c.served c.posted)
    pub same_job : g.job c.station ≡ g.job start
    pub same_place : g.place c.station ≡ g.place start
    pub sound : g.sound (g.job start) (g.place start) c.station
    pub fitting : All (g.fits (g.job start) (g.place start)) c.posted

  -- what a floor may be made of: some stations, each sound at its own place in the list, all of one job, which has as many places
  pub record FormFloor (stations : List S) : Type 0 where
    pub some_station : 0 < length stations
    pub few_stations : length stations ≤ 65536
    pub job : J
    pub whole : g.places job ≡ length stations
    pub each : (k : ℕ) (s : S) → slice_get stations k ≡ Some s → (g.job s ≡ job) × (g.place s ≡ k) × g.sound job k s

  -- the job of each of these stations is this one
  abbrev pub HaveJob : J → List S → Type 0
  HaveJob job stations = (k : ℕ) (s : S) → slice_get stations k ≡ Some s → g.job s ≡ job

  abbrev pub job_of : Setup S → J
  job_of setup = g.job setup.first.value

  abbrev pub fresh_cell : S → Cell S J I
  fresh_cell s = record { station = s; posted = []; served = 0 }

  -- one more item is posted
  abbrev pub with_item : Cell S J I → I → Cell S J I
  with_item c x = record { station = c.station; posted = c.posted ++ x ∷ []; served = c.served }

  -- one more item is served, which is x
  abbrev pub with_served : Cell S J I → I → Cell S J I
  with_served c x = record { station = g.next c.station x; posted = c.posted; served = c.served + 1 }

  -- a cell of the station k of a floor
  pub record IsCellOf (setup : Setup S) (k : ℕ) (c : Cell S J I) : Type 0 where
    pub start : S
    pub started : slice_get setup.stations.value.items k ≡ Some start
    pub start_job : g.job start ≡ job_of setup
    pub start_place : g.place start ≡ k
    pub few : c.served ≤ length c.posted
    pub replayed : c.station ≡ replay start (take c.served c.posted)
    pub sound : g.sound (job_of setup) k c.station
    pub job : g.job c.station ≡ job_of setup
    pub place : g.place c.station ≡ k
    pub fitting : All (g.fits (job_of setup) k) c.posted

  -- these were sent as the item of number n of this cell was served
  pub record IsServeOf (setup : Setup S) (k : ℕ) (c : Cell S J I) (n : ℕ) (sends : List (Bound I)) : Type 0 where
    pub start : S
    pub started : slice_get setup.stations.value.items k ≡ Some start
    pub done : n < c.served
    pub sends_are : AreSends start c.posted n sends
