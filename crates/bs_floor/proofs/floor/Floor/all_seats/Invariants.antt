use Rattle.std.proofs.Common.{◌≡◌, ℕ, suc, ◌+◌, ◌≤◌, [], ◌∷◌, None, Some, vec_len}
use Rattle.std.specs.Prelude.{slice_get}
use Rattle.bs_floor.specs.SeatViews.{seat_view}
use Rattle.bs_floor.specs.Seats.{IsNewSeat}
use Rattle.bs_floor.proofs.floor.Floor.all_seats.Given as goal

abbrev pub invariant-loop-number : goal.invariant-loop-number
invariant-loop-number g l =
    (l.first.table_id ≡ l.self.0) × (l.first.me ≡ (seat_view (Some l.self.1) 0 (0 ∷ []) l.number None [] [] [], [])) × (1 ≤ l.number) × (l.number ≤ l.seats) × (vec_len l.all + 1 ≡ l.number)
    × ((k : ℕ) (seat : _) → slice_get l.all.items k ≡ Some seat → IsNewSeat l.self (suc k) seat)
