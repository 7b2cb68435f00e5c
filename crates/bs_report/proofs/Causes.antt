-- What of a valid log is there, and how much.
use Rattle.std.proofs.Common.{◌≡◌, ◌≤◌, ◌<◌, ◌+◌, ◌^◌, ℕ, zero, suc, List, [], ◌∷◌, length, get_or, inl, inr, refl, subst, sym, ap, ◌∙◌, arith}
use Rattle.std.specs.List.{All, sum_by}
use Rattle.std.proofs.lemmas.List.Elements.{All-nil, All-cons}
use Rattle.std.proofs.lemmas.List.Sums.{sum_by-cons}
use Rattle.bs_num.specs.declared.ticks.Tick.{Tick}
use Rattle.bs_log.specs.declared.history.Sent.{Sent}
use Rattle.bs_log.specs.declared.log.MailRef.{MailRef}
use Rattle.bs_log.specs.declared.log.Row.{Row}
use Rattle.bs_log.specs.declared.log.Log.{Log}
use Rattle.bs_log.specs.Valid.{IsValid, row_lines}
use Rattle.bs_log.specs.Lists.{Mem}
use Rattle.bs_rows.specs.Rows.{IsSend}
use Rattle.bs_semantics.specs.Serial.{Machine}
use Rattle.bs_settle.specs.declared.times.Times.{Times}
use Rattle.bs_settle.specs.Timed.{numbers, starts_from}
use Rattle.bs_times.specs.Net.{Starts, no_row, no_send, row_of}
use Rattle.bs_times.proofs.Found.{block_cause, found, mail_cause, numbered_is}
use Rattle.bs_report.specs.Outcomes.{AreEnds}
use Rattle.bs_report.proofs.SideBySide.{as_many_starts}

place_mem : {A : Type 0} (xs : List A) (k : ℕ) (d : A) → k < length xs → Mem (get_or xs k d) xs
place_mem [] k d lt = absurd (omega (arith, lt))
place_mem (x ∷ xs) zero d lt = inl refl
place_mem (x ∷ xs) (suc k) d lt = inr (place_mem xs k d (omega (arith, lt)))

-- a block cause is a row
pub block_there : (log : Log) (i k d : ℕ) → IsValid log → 1 ≤ i → i ≤ length log.rows → k < length (row_of log i).after → (1 ≤ get_or (row_of log i).after k d) × (get_or (row_of log i).after k d ≤ length log.rows)
block_there log i k d v some most lt =
    let cause = block_cause log i (get_or (row_of log i).after k d) v some most (place_mem (row_of log i).after k d lt) in
    (cause.some, cause.most)

-- a message cause is a send
pub mail_there : (log : Log) (i k : ℕ) (d : MailRef) → IsValid log → 1 ≤ i → i ≤ length log.rows → k < length (row_of log i).mail → IsSend log (get_or (row_of log i).mail k d)
mail_there log i k d v some most lt =
    let m = get_or (row_of log i).mail k d in
    let sender = mail_cause log i m v some most (place_mem (row_of log i).mail k d lt) in
    let send = found (λ (s : Sent). s.to ≡ (row_of log i).chare) (row_of log m.row).sends no_send m.index sender.holds in
    record { row_some = sender.some; row_most = sender.most; index_some = send.some; index_most = send.most }

lines_most : (rows : List Row) (n : ℕ) → n < length rows → row_lines (get_or rows n no_row) ≤ sum_by row_lines rows
lines_most [] n lt = absurd (omega (arith, lt))
lines_most (r ∷ rs) zero lt = omega (arith, sum_by-cons row_lines r rs)
lines_most (r ∷ rs) (suc n) lt = omega (arith, lines_most rs n (omega (arith, lt)), sum_by-cons row_lines r rs)

-- a row has no more sends than a log has lines
pub few_sends : (log : Log) (i : ℕ) → IsValid log → 1 ≤ i → i ≤ length log.rows → length (row_of log i).sends ≤ 262144
few_sends log zero v some most = absurd (omega (arith, some))
few_sends log (suc n) v some most =
    let is : length (row_of log (suc n)).sends ≡ length (get_or log.rows n no_row).sends = ap (λ (r : Row). length r.sends) (numbered_is log.rows n no_row) in
    omega (arith, is, lines_most log.rows n (omega (arith, most)), v.lines)

-- ticks that are the starts of rows are as early as those
pub early_starts : (s : Starts) (k : ℕ) (rows : List Row) (ticks : List Tick) → numbers ticks ≡ starts_from s k rows → ((n : ℕ) → n < length rows → s (k + n) < 2 ^ 109) → All (λ (tick : Tick). tick.0 < 2 ^ 109) ticks
early_starts s k rows [] is early = All-nil (λ (tick : Tick). tick.0 < 2 ^ 109)
early_starts s k [] (t ∷ ts) is early = let n : length (numbers (t ∷ ts)) ≡ length {A = ℕ} [] = ap length is in absurd (omega (arith, n))
early_starts s k (r ∷ rs) (t ∷ ts) is early = All-cons (λ (tick : Tick). tick.0 < 2 ^ 109) t ts first (early_starts s (k + 1) rs ts rest (λ n lt. subst (λ j. s j < 2 ^ 109) (omega arith) (early (suc n) (omega (arith, lt)))))
  where
    at_first : t.0 ≡ s k
    at_first = cc is

    rest : numbers ts ≡ starts_from s (k + 1) rs
    rest = cc is

    here : s k < 2 ^ 109
    here = subst (λ j. s j < 2 ^ 109) (omega arith) (early 0 (omega arith))

    first : t.0 < 2 ^ 109
    first = omega (arith, at_first, here)

-- the starts that a trace is given
module _ (log : Log) (m : Machine) (times : Times) (ends : AreEnds log m times) (ticks : List Tick) (are : ticks ≡ times.starts) where
  pub a_start_each : length ticks ≡ length log.rows
  a_start_each = ap length are ∙ as_many_starts ends.table log.rows times.starts ends.starts

  pub all_early : All (λ (tick : Tick). tick.0 < 2 ^ 109) ticks
  all_early =
      subst (λ ts. All (λ (tick : Tick). tick.0 < 2 ^ 109) ts) (sym are)
      (early_starts ends.table 1 log.rows times.starts ends.starts (λ n lt. (ends.in_range (1 + n) (omega arith, omega (arith, lt))).starts_early))
