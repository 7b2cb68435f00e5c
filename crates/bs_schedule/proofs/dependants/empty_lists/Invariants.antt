use Rattle.std.proofs.Common.{◌≡◌, ℕ, length, slice_index_or, []}
use Rattle.bs_schedule.proofs.dependants.empty_lists.Given as goal

abbrev pub invariant-loop-place : goal.invariant-loop-place
invariant-loop-place l = (length l.lists.items ≡ l._place) × ((i : ℕ) → slice_index_or l.lists.items i [] ≡ [])
