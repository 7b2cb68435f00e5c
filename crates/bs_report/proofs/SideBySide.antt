-- Rows of a log beside their starts and ends are the rows of its outcome.
use Rattle.std.proofs.Common.{◌≡◌, ℕ, suc, ◌+◌, ◌<◌, ◌≤◌, List, [], ◌∷◌, length, get_or, refl, ap, subst, sym, ◌∙◌, arith}
use Rattle.std.specs.List.{All}
use Rattle.std.proofs.lemmas.List.{length-map}
use Rattle.std.proofs.lemmas.List.Elements.{All-nil, All-cons}
use Rattle.bs_num.specs.declared.ticks.Tick.{Tick}
use Rattle.bs_log.specs.declared.log.Row.{Row}
use Rattle.bs_log.specs.declared.log.TrapRow.{TrapRow}
use Rattle.bs_log.specs.declared.log.WaitRow.{WaitRow}
use Rattle.bs_log.specs.declared.log.Log.{Log}
use Rattle.bs_log.specs.declared.outcome.OutRow.{OutRow}
use Rattle.bs_log.specs.declared.outcome.Outcome.{Outcome}
use Rattle.bs_log.specs.Valid.{EachFrom, RowFits, IsValid}
use Rattle.bs_log.specs.Reportable.{IsTimed, IsReportable}
use Rattle.bs_semantics.specs.Serial.{Machine}
use Rattle.bs_settle.specs.Timed.{AreInRange, numbers, starts_from, ends_from}
use Rattle.bs_times.specs.Net.{Starts, HasRow, no_row, row_of, net_of}
use Rattle.bs_times.specs.Times.{end_of}
use Rattle.bs_times.specs.Outcomes.{out_row, out_rows, outcome_of}
use Rattle.bs_times.proofs.Found.{numbered_is}
use Rattle.bs_times.proofs.Small.{all_out, out_count}
use Rattle.bs_report.specs.Outcomes.{timed_rows}

-- the chare of each row is below the number of chares.
chares_below : (l : Log) (k : ℕ) (rs : List Row) → EachFrom (RowFits l) k rs → All (λ row. row.chare < l.chares) rs
chares_below l k [] fits = All-nil (λ row. row.chare < l.chares)
chares_below l k (r ∷ rs) fits = All-cons (λ row. row.chare < l.chares) r rs fits.0.chare (chares_below l (k + 1) rs fits.1)

pub chares_fit : (l : Log) (n : ℕ) → IsValid l → n ≡ l.chares → All (λ row. row.chare < n) l.rows
chares_fit l n valid same = subst (λ c. All (λ row. row.chare < c) l.rows) (sym same) (chares_below l 1 l.rows valid.rows)

side_by_side : (m : Machine) (s : Starts) (k : ℕ) (rs : List Row) → timed_rows m rs (starts_from s k rs) (ends_from m s k rs) ≡ out_rows m s k rs
side_by_side m s k [] = refl
side_by_side m s k (r ∷ rs) = ap (λ rows. out_row m s k r ∷ rows) (side_by_side m s (k + 1) rs)

-- ends rest on the starts of the rows alone.
same_ends : (m : Machine) (s t : Starts) (k : ℕ) (rs : List Row) → starts_from s k rs ≡ starts_from t k rs → ends_from m s k rs ≡ ends_from m t k rs
same_ends m s t k [] same = refl
same_ends m s t k (r ∷ rs) same = next first (same_ends m s t (k + 1) rs rest)
  where
    first : s k ≡ t k
    first = cc same

    rest : starts_from s (k + 1) rs ≡ starts_from t (k + 1) rs
    rest = cc same

    next : s k ≡ t k → ends_from m s (k + 1) rs ≡ ends_from m t (k + 1) rs → ends_from m s k (r ∷ rs) ≡ ends_from m t k (r ∷ rs)
    next e es = cc (e, es)

pub one_outcome : (m : Machine) (s table : Starts) (rs : List Row) (starts ends : List ℕ) → starts ≡ starts_from table 1 rs → ends ≡ ends_from m table 1 rs → starts ≡ starts_from s 1 rs
    → timed_rows m rs starts ends ≡ out_rows m s 1 rs
one_outcome m s table rs starts ends of_table ends_are of_s =
    let same = same_ends m table s 1 rs (sym of_table ∙ of_s) in
    ap (λ z. timed_rows m rs z ends) of_s ∙ ap (timed_rows m rs (starts_from s 1 rs)) (ends_are ∙ same) ∙ side_by_side m s 1 rs

starts_count : (s : Starts) (k : ℕ) (rs : List Row) → length (starts_from s k rs) ≡ length rs
starts_count s k [] = refl
starts_count s k (r ∷ rs) = ap suc (starts_count s (k + 1) rs)

ends_count : (m : Machine) (s : Starts) (k : ℕ) (rs : List Row) → length (ends_from m s k rs) ≡ length rs
ends_count m s k [] = refl
ends_count m s k (r ∷ rs) = ap suc (ends_count m s (k + 1) rs)

-- there is a start for each row, and an end.
pub as_many_starts : (s : Starts) (rs : List Row) (ticks : List Tick) → numbers ticks ≡ starts_from s 1 rs → length ticks ≡ length rs
as_many_starts s rs ticks are = sym (length-map ticks (λ tick. tick.0)) ∙ ap length are ∙ starts_count s 1 rs

pub as_many_ends : (m : Machine) (s : Starts) (rs : List Row) (ticks : List Tick) → numbers ticks ≡ ends_from m s 1 rs → length ticks ≡ length rs
as_many_ends m s rs ticks are = sym (length-map ticks (λ tick. tick.0)) ∙ ap length are ∙ ends_count m s 1 rs

module _ (log : Log) (m : Machine) (s : Starts) (in_range : (i : ℕ) → HasRow (net_of log m) i → AreInRange (s i) (end_of (net_of log m) s i)) where
  timed : (n : ℕ) → n < length log.rows → IsTimed (out_row m s (1 + n) (get_or log.rows n no_row))
  timed n lt = subst (λ r. IsTimed (out_row m s (1 + n) r)) (numbered_is log.rows n no_row) (at_number (suc n) (1 + n) (omega arith) (in_range (suc n) (omega arith, omega (arith, lt))))
    where
      at_number : (i k : ℕ) → i ≡ k → AreInRange (s i) (end_of (net_of log m) s i) → IsTimed (out_row m s k (row_of log i))
      at_number i k same range = subst (λ z. IsTimed (out_row m s z (row_of log i))) same (record { takes_time = range.takes_time; is_short = range.is_short; is_early = range.ends_early })

  pub all_timed : All IsTimed (out_rows m s 1 log.rows)
  all_timed = all_out IsTimed m s 1 log.rows timed

pub outcome_is : (l : Log) (m : Machine) (s : Starts) (rows : List OutRow) (traps : List TrapRow) (waits : List WaitRow) → rows ≡ out_rows m s 1 l.rows → traps ≡ l.traps → waits ≡ l.waits
    → record { rows = rows; traps = traps; waits = waits } ≡ outcome_of l m s
outcome_is l m s rows traps waits r t w = λ i. record { rows = r i; traps = t i; waits = w i }

pub reportable : (l : Log) (m : Machine) (s : Starts) (o : Outcome) → length l.rows ≤ 262144 → ((i : ℕ) → HasRow (net_of l m) i → AreInRange (s i) (end_of (net_of l m) s i)) → o ≡ outcome_of l m s → IsReportable o
reportable l m s o few in_range same = subst IsReportable (sym same) (record { is_small = omega (arith, few, out_count m s 1 l.rows); is_timed = all_timed l m s in_range })
