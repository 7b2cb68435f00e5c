-- Starts and ends, one row after another.
use Rattle.std.proofs.Common.{◌≡◌, ◌<◌, ◌≤◌, ℕ, suc, ◌+◌, List, [], ◌∷◌, ◌++◌, length, drop, get_or, refl, ap, sym, ◌∙◌, append_assoc, append-nil, arith}
use Rattle.std.proofs.lemmas.List.{drop_all, drop_more}
use Rattle.bs_log.specs.declared.log.Row.{Row}
use Rattle.bs_log.specs.declared.log.Log.{Log}
use Rattle.bs_num.specs.declared.ticks.Tick.{Tick}
use Rattle.bs_semantics.specs.Serial.{Machine}
use Rattle.bs_times.specs.Net.{Starts, no_row, row_of}
use Rattle.bs_times.proofs.Found.{numbered_is}
use Rattle.bs_settle.specs.Timed.{ends_from, numbers, starts_from}

numbers_push : (ticks : List Tick) (tick : Tick) → numbers (ticks ++ tick ∷ []) ≡ numbers ticks ++ tick.0 ∷ []
numbers_push [] tick = refl
numbers_push (t ∷ ts) tick = ap (λ ns. t.0 ∷ ns) (numbers_push ts tick)

pushed : (ticks new : List Tick) (tick : Tick) (rest all : List ℕ) → new ≡ ticks ++ tick ∷ [] → numbers ticks ++ tick.0 ∷ rest ≡ all → numbers new ++ rest ≡ all
pushed ticks new tick rest all e h = ap (λ ts. numbers ts ++ rest) e ∙ ap (λ ns. ns ++ rest) (numbers_push ticks tick) ∙ append_assoc (numbers ticks) (tick.0 ∷ []) rest ∙ h

pub starts_more : (s : Starts) (rows : List Row) (k : ℕ) (d : Row) (ticks new : List Tick) (tick : Tick) (all : List ℕ) → k < length rows → new ≡ ticks ++ tick ∷ [] → tick.0 ≡ s (k + 1) → numbers ticks ++ starts_from s (k + 1) (drop k rows) ≡ all → numbers new ++ starts_from s (k + 1 + 1) (drop (k + 1) rows) ≡ all
starts_more s rows k d ticks new tick all lt e is h =
    pushed ticks new tick _ all e
    (ap (λ n. numbers ticks ++ n ∷ starts_from s (k + 1 + 1) (drop (k + 1) rows)) is
    ∙ ap (λ rs. numbers ticks ++ starts_from s (k + 1) rs) (sym (drop_more rows k d lt))
    ∙ h)

pub ends_more : (m : Machine) (s : Starts) (rows : List Row) (k : ℕ) (d : Row) (ticks new : List Tick) (tick : Tick) (all : List ℕ) → k < length rows → new ≡ ticks ++ tick ∷ [] → tick.0 ≡ s (k + 1) + m.duration (get_or rows k d).cost → numbers ticks ++ ends_from m s (k + 1) (drop k rows) ≡ all → numbers new ++ ends_from m s (k + 1 + 1) (drop (k + 1) rows) ≡ all
ends_more m s rows k d ticks new tick all lt e is h =
    pushed ticks new tick _ all e
    (ap (λ n. numbers ticks ++ n ∷ ends_from m s (k + 1 + 1) (drop (k + 1) rows)) is
    ∙ ap (λ rs. numbers ticks ++ ends_from m s (k + 1) rs) (sym (drop_more rows k d lt))
    ∙ h)

none_left : (ticks : List Tick) (rest all : List ℕ) → rest ≡ [] → numbers ticks ++ rest ≡ all → numbers ticks ≡ all
none_left ticks rest all e h = sym (append-nil (numbers ticks)) ∙ ap (λ ns. numbers ticks ++ ns) (sym e) ∙ h

pub starts_end : (s : Starts) (rows : List Row) (k : ℕ) (ticks : List Tick) (all : List ℕ) → length rows ≤ k → numbers ticks ++ starts_from s (k + 1) (drop k rows) ≡ all → numbers ticks ≡ all
starts_end s rows k ticks all le h = none_left ticks _ all (ap (starts_from s (k + 1)) (drop_all k rows le)) h

pub ends_end : (m : Machine) (s : Starts) (rows : List Row) (k : ℕ) (ticks : List Tick) (all : List ℕ) → length rows ≤ k → numbers ticks ++ ends_from m s (k + 1) (drop k rows) ≡ all → numbers ticks ≡ all
ends_end m s rows k ticks all le h = none_left ticks _ all (ap (ends_from m s (k + 1)) (drop_all k rows le)) h

-- the cost of the row of a number is that at its place.
pub row_cost : (log : Log) (k : ℕ) → (row_of log (k + 1)).cost ≡ (get_or log.rows k no_row).cost
row_cost log k = let e : k + 1 ≡ suc k = omega arith in ap (λ n. (row_of log n).cost) e ∙ ap (λ r. r.cost) (numbered_is log.rows k no_row)
