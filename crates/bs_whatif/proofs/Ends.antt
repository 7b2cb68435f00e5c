-- The greatest of ends, by the rows' numbers and in their order.
use Rattle.std.proofs.Common.{◌≡◌, ◌≤◌, ◌<◌, ◌+◌, ℕ, zero, suc, max, List, [], ◌∷◌, length, get_or, refl, ap, ◌∙◌, arith}
use Rattle.std.specs.List.{fold}
use Rattle.bs_log.specs.declared.log.Log.{Log}
use Rattle.bs_log.specs.declared.log.Row.{Row}
use Rattle.bs_machine.specs.declared.fitted.Fitted.{Fitted}
use Rattle.bs_num.specs.declared.ticks.Tick.{Tick}
use Rattle.bs_line.specs.Making.{numbers}
use Rattle.bs_rows.specs.Rows.{net_on}
use Rattle.bs_semantics.specs.Serial.{Machine}
use Rattle.bs_settle.specs.declared.times.Times.{Times}
use Rattle.bs_settle.specs.Timed.{AreTimes, ends_from}
use Rattle.bs_times.specs.Machine.{machine_of}
use Rattle.bs_times.specs.Net.{Net, Starts, Causal, no_row, row_of}
use Rattle.bs_times.specs.Times.{IsConsistent, end_of, greatest, greatest_to}
use Rattle.bs_times.proofs.Found.{numbered_is}
use Rattle.bs_times.proofs.Unique.{one_consistent_table}
use Rattle.bs_whatif.specs.Figures.{latest_of, span_in}

greatest_fold : (a : ℕ) (ticks : List Tick) → fold (λ latest (t : Tick). max latest t.0) a ticks ≡ max a (greatest (numbers ticks))
greatest_fold a [] = omega arith
greatest_fold a (t ∷ ts) = let rest = greatest_fold (max a t.0) ts in omega (arith, rest)

pub latest_is : (ticks : List Tick) → latest_of ticks ≡ greatest (numbers ticks)
latest_is ticks = let e = greatest_fold 0 ticks in omega (arith, e)

greatest_more : (f : ℕ → ℕ) (n : ℕ) → greatest_to f (n + 1) ≡ max (greatest_to f n) (f (n + 1))
greatest_more f n = let e : n + 1 ≡ suc n = omega arith in rw e refl

ends_greatest : (m : Machine) (s f : ℕ → ℕ) (k : ℕ) (rows : List Row) → ((j : ℕ) → j < length rows → f (k + 1 + j) ≡ s (k + 1 + j) + m.duration (get_or rows j no_row).cost) → max (greatest_to f k) (greatest (ends_from m s (k + 1) rows)) ≡ greatest_to f (k + length rows)
ends_greatest m s f k [] each = let e : k ≡ k + 0 = omega arith in let d : max (greatest_to f k) 0 ≡ greatest_to f k = omega arith in d ∙ ap (greatest_to f) e
ends_greatest m s f k (r ∷ rs) each =
    let rest = ends_greatest m s f (k + 1) rs (λ j lt. at_place (suc j) (k + 1 + 1 + j) (omega arith) (each (suc j) (omega (arith, lt)))) in
    let first : f (k + 1) ≡ s (k + 1) + m.duration r.cost = at_place 0 (k + 1) (omega arith) (each 0 (omega arith)) in
    let more = greatest_more f k in
    let size : k + 1 + length rs ≡ k + suc (length rs) = omega arith in
    let all = ap (greatest_to f) size in
    omega (arith, rest, first, more, all)
  where
    at_place : (j i : ℕ) → k + 1 + j ≡ i → f (k + 1 + j) ≡ s (k + 1 + j) + m.duration (get_or (r ∷ rs) j no_row).cost → f i ≡ s i + m.duration (get_or (r ∷ rs) j no_row).cost
    at_place j i e h = rw e at h

same_greatest : (f g : ℕ → ℕ) (n : ℕ) → ((i : ℕ) → 1 ≤ i → i ≤ n → f i ≡ g i) → greatest_to f n ≡ greatest_to g n
same_greatest f g zero h = refl
same_greatest f g (suc n) h =
    let rest = same_greatest f g n (λ i some le. h i some (omega (arith, le))) in
    let last = h (suc n) (omega arith) (omega arith) in
    omega (arith, rest, last)

-- all consistent tables have one span.
pub one_span : (net : Net) → Causal net → (s z : Starts) → IsConsistent net s → IsConsistent net z → span_in net s ≡ span_in net z
one_span net c s z h k = same_greatest (end_of net s) (end_of net z) net.rows (λ i some most. ap (λ x. x + net.duration i) (one_consistent_table net c s z h k i (some, most)))

-- the greatest end of times is the span.
pub span_of_times : (log : Log) (m : Fitted) (times : Times) (a : AreTimes log (machine_of m) times) → greatest (numbers times.ends) ≡ span_in (net_on log m) a.table
span_of_times log m times a =
    let whole = ends_greatest (machine_of m) a.table (end_of (net_on log m) a.table) 0 log.rows each in
    let ends = ap greatest a.ends in
    let one : 0 + 1 ≡ 1 = omega arith in
    let first = ap (λ k. greatest (ends_from (machine_of m) a.table k log.rows)) one in
    let size : 0 + length log.rows ≡ length log.rows = omega arith in
    let all = ap (greatest_to (end_of (net_on log m) a.table)) size in
    omega (arith, whole, ends, first, all)
  where
    each : (j : ℕ) → j < length log.rows → end_of (net_on log m) a.table (0 + 1 + j) ≡ a.table (0 + 1 + j) + (machine_of m).duration (get_or log.rows j no_row).cost
    each j lt =
        let e : 0 + 1 + j ≡ suc j = omega arith in
        ap (λ (r : Row). a.table (0 + 1 + j) + (machine_of m).duration r.cost) (ap (row_of log) e ∙ numbered_is log.rows j no_row)
