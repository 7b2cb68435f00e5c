-- So many waves as are always enough are few.
use Rattle.std.proofs.Common.{◌≤◌, ◌+◌, ◌^◌, ℕ, zero, suc, length, arith}
use Rattle.std.proofs.lemmas.Nat.{mul-le}
use Rattle.bs_log.specs.declared.log.Log.{Log}
use Rattle.bs_log.specs.Valid.{IsValid}
use Rattle.bs_times.specs.Net.{row_of}
use Rattle.bs_times.specs.Times.{greatest_to}
use Rattle.bs_times.specs.Budget.{budget_of}
use Rattle.bs_times.proofs.Found.{row_fits}
use Rattle.bs_rows.proofs.Numbered.{rows_few}

greatest_most : (f : ℕ → ℕ) (most n : ℕ) → ((i : ℕ) → 1 ≤ i → i ≤ n → f i ≤ most) → greatest_to f n ≤ most
greatest_most f most zero each = omega arith
greatest_most f most (suc n) each =
    let rest = greatest_most f most n (λ i some low. each i some (omega (arith, low))) in
    omega (arith, rest, each (suc n) (omega arith) (omega arith))

pub budget_few : (log : Log) → IsValid log → (1 ≤ budget_of log) × (budget_of log ≤ 2 ^ 40)
budget_few log v =
    let depth = greatest_most (λ i. (row_of log i).depth) 262144 (length log.rows) (λ i some most. (row_fits log i v some most).ranges.depth.most_is) in
    let product = mul-le (length log.rows) (greatest_to (λ i. (row_of log i).depth) (length log.rows) + 1) 262144 262145 (rows_few log v) (omega (arith, depth)) in
    (omega arith, omega (arith, product))
