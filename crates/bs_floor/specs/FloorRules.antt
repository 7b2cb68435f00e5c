-- The rule of a floor, which holds between any two steps: what ties the words, the cells at home and the views of all seats.
-- With P stations, word k is the turn of the station k: 0, or the number of a seat plus 1. Word P + k counts the items posted there, and word P + P + k those that are served.
use Rattle.std.specs.Prelude.{◌≡◌, ℕ, suc, ◌+◌, ◌<◌, ◌≤◌, List, length, Some, None, slice_get, slice_index}
use mathlib.Core.Option.{some}
use lib.ListN.{get_elem?}
use Rattle.atomic_table.specs.Table.{State}
use Rattle.bs_floor.specs.declared.station.Bound.{Bound}
use Rattle.bs_floor.specs.declared.cell.Cell.{Cell}
use Rattle.bs_floor.specs.declared.view.SeatView.{SeatView}
use Rattle.bs_floor.specs.declared.view.Setup.{Setup}
use Rattle.bs_floor.specs.declared.view.Entry.{Entry}
use Rattle.bs_floor.specs.declared.view.Turn.{Turn}
use Rattle.bs_floor.specs.declared.station.Station as Station
use Rattle.bs_floor.specs.Counting.{below, times, total, count, Each}
use Rattle.bs_floor.specs.SeatViews.{spent_view}
use Rattle.bs_floor.specs.History.{IsCellOf, IsServeOf}

module _ {S J I : Type 0} (g : Station.Ghosts S J I) where
  -- an entry of a seat's posts is the item of that number of that station
  abbrev pub PostStands : ℕ → (ℕ → Cell S J I) → Entry I → Type 0
  PostStands stations cells e = (e.station < stations) × (slice_get (cells e.station).posted e.number ≡ Some e.content)

  -- an entry of a seat's serves has a number that is served, and what serving it sent
  abbrev pub ServeStands : Setup S → ℕ → (ℕ → Cell S J I) → Entry (List (Bound I)) → Type 0
  ServeStands setup stations cells e = (e.station < stations) × IsServeOf g setup e.station (cells e.station) e.number e.content

  -- what the rule says of the view of the seat that is the j-th of the table; the base is the seat that says how many numbers are given out
  pub record SeatKnows (setup : Setup S) (stations : ℕ) (words : List ℕ) (cells : ℕ → Cell S J I) (seat_of : ℕ → ℕ) (given base j : ℕ) (v : SeatView S J I) : Type 0 where
    pub live : (p : Setup S) → v.setup ≡ Some p → (p ≡ setup) × (seat_of v.number ≡ j) × (v.number < setup.seats) × (1 ≤ times v.number v.numbers)
    pub spent : v.setup ≡ None → v ≡ spent_view
    pub gives : 0 < v.given → (j ≡ base) × (v.given ≡ given)
    pub holds : (h : Turn S J I) → v.held ≡ Some h → (h.station < stations) × (slice_index words h.station ≡ suc v.number) × (h.cell ≡ cells h.station)
    pub posts : Each (PostStands stations cells) v.posts
    pub serves : Each (ServeStands setup stations cells) v.serves

  -- the j-th view is that of the seat n, which has the turn of the station k
  pub record HasTurn (views : List (SeatView S J I)) (j n k : ℕ) : Type 0 where
    pub view : SeatView S J I
    pub there : get_elem? views j ≡ some view
    pub number : view.number ≡ n
    pub held : Turn S J I
    pub is_held : view.held ≡ Some held
    pub station : held.station ≡ k

  -- the cells are those that the words count, wherever they lie
  pub record IsFloorOf (setup : Setup S) (stations : ℕ) (s : State (Cell S J I) (SeatView S J I)) : Type 0 where
    pub wide : length s.words ≡ stations + stations + stations
    pub cells : ℕ → Cell S J I
    pub seat_of : ℕ → ℕ
    pub given : ℕ
    pub base : ℕ
    pub good : (k : ℕ) → k < stations → IsCellOf g setup k (cells k)
    pub posted_is : (k : ℕ) → k < stations → slice_index s.words (stations + k) ≡ length (cells k).posted
    pub served_is : (k : ℕ) → k < stations → slice_index s.words (stations + stations + k) ≡ (cells k).served
    pub at_home : (k : ℕ) → k < stations → slice_index s.words k ≡ 0 → get_elem? s.homes k ≡ some (some (cells k))
    pub taken : (k n : ℕ) → k < stations → slice_index s.words k ≡ suc n → HasTurn s.views (seat_of n) n k
    pub each_seat : (j : ℕ) (v : SeatView S J I) → get_elem? s.views j ≡ some v → SeatKnows setup stations s.words cells seat_of given base j v
    pub posts_once : (k p : ℕ) → k < stations → total (λ v. count k p v.posts) s.views ≡ below p (length (cells k).posted)
    pub serves_once : (k p : ℕ) → k < stations → total (λ v. count k p v.serves) s.views ≡ below p (cells k).served
    pub numbers_once : (n : ℕ) → total (λ v. times n v.numbers) s.views ≡ below n given

  abbrev pub IsFloor : Setup S → State (Cell S J I) (SeatView S J I) → Type 0
  IsFloor setup s = IsFloorOf setup (length s.homes) s
