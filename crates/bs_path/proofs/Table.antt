-- The starts of times are the consistent table, and early.
use Rattle.std.proofs.Common.{◌≡◌, ◌≤◌, ◌<◌, ◌+◌, ◌-◌, ◌^◌, ℕ, zero, suc, List, [], ◌∷◌, length, get_or, refl, sym, ap, subst, ◌∙◌, arith}
use Rattle.std.specs.List.{All}
use Rattle.std.proofs.lemmas.List.Elements.{All-nil, All-cons, All-get_or}
use Rattle.std.proofs.lemmas.List.{get_or-map}
use Rattle.bs_num.specs.declared.ticks.Tick.{Tick}
use Rattle.bs_log.specs.declared.log.Row.{Row}
use Rattle.bs_log.specs.declared.log.Log.{Log}
use Rattle.bs_log.specs.Valid.{IsValid}
use Rattle.bs_semantics.specs.Serial.{Machine}
use Rattle.bs_settle.specs.declared.times.Times.{Times}
use Rattle.bs_settle.specs.Timed.{AreTimes, numbers, starts_from}
use Rattle.bs_times.specs.Machine.{IsTimely}
use Rattle.bs_times.specs.Net.{Starts, HasRow, Causal, net_of}
use Rattle.bs_times.specs.Times.{IsConsistent, arrival}
use Rattle.bs_times.proofs.Causal.{causal_net}
use Rattle.bs_times.proofs.Moved.{line_moved}
use Rattle.bs_path.specs.Chain.{start_in, starts_of}

starts_count : (s : Starts) (k : ℕ) (rs : List Row) → length (starts_from s k rs) ≡ length rs
starts_count s k [] = refl
starts_count s k (r ∷ rs) = ap suc (starts_count s (k + 1) rs)

numbers_count : (ticks : List Tick) → length (numbers ticks) ≡ length ticks
numbers_count [] = refl
numbers_count (t ∷ ts) = ap suc (numbers_count ts)

start_at : (s : Starts) (k : ℕ) (rs : List Row) (n : ℕ) → n < length rs → get_or (starts_from s k rs) n 0 ≡ s (k + n)
start_at s k [] n lt = absurd (omega (arith, lt))
start_at s k (r ∷ rs) zero lt = ap s (omega arith)
start_at s k (r ∷ rs) (suc n) lt = start_at s (k + 1) rs n (omega (arith, lt)) ∙ ap s (omega arith)

early_from : (s : Starts) (k : ℕ) (rows : List Row) (ticks : List Tick) → numbers ticks ≡ starts_from s k rows → ((n : ℕ) → n < length rows → s (k + n) < 2 ^ 109) → All (λ (tick : Tick). tick.0 < 2 ^ 109) ticks
early_from s k rows [] is early = All-nil (λ (tick : Tick). tick.0 < 2 ^ 109)
early_from s k [] (t ∷ ts) is early = let n : length (numbers (t ∷ ts)) ≡ length {A = ℕ} [] = ap length is in absurd (omega (arith, n))
early_from s k (r ∷ rs) (t ∷ ts) is early = All-cons (λ (tick : Tick). tick.0 < 2 ^ 109) t ts first (early_from s (k + 1) rs ts rest (λ n lt. subst (λ j. s j < 2 ^ 109) (omega arith) (early (suc n) (omega (arith, lt)))))
  where
    at_first : t.0 ≡ s k
    at_first = cc is

    rest : numbers ts ≡ starts_from s (k + 1) rs
    rest = cc is

    here : s k < 2 ^ 109
    here = subst (λ j. s j < 2 ^ 109) (omega arith) (early 0 (omega arith))

    first : t.0 < 2 ^ 109
    first = omega (arith, at_first, here)

-- the start of a row is early, where all are
pub early_at : (ticks : List Tick) (i : ℕ) → All (λ (tick : Tick). tick.0 < 2 ^ 109) ticks → 1 ≤ i → i ≤ length ticks → start_in (numbers ticks) i < 2 ^ 109
early_at ticks i all some most =
    let lt : i - 1 < length ticks = omega (arith, some, most) in
    let is : get_or (numbers ticks) (i - 1) 0 ≡ (get_or ticks (i - 1) (record { 0 = 0 })).0 = get_or-map (λ (tick : Tick). tick.0) ticks (i - 1) (record { 0 = 0 }) 0 lt in
    omega (arith, is, All-get_or (λ (tick : Tick). tick.0 < 2 ^ 109) ticks (i - 1) (record { 0 = 0 }) lt all)

module _ (log : Log) (m : Machine) (times : Times) (are : AreTimes log m times) where
  as_many : length times.starts ≡ length log.rows
  as_many = sym (numbers_count times.starts) ∙ ap length are.starts ∙ starts_count are.table 1 log.rows

  early : All (λ (tick : Tick). tick.0 < 2 ^ 109) times.starts
  early = early_from are.table 1 log.rows times.starts are.starts (λ n lt. (are.in_range (1 + n) (omega arith, omega (arith, lt))).starts_early)

  module _ (ticks : List Tick) (is : ticks ≡ times.starts) where
    pub a_start_each : length ticks ≡ length log.rows
    a_start_each = ap length is ∙ as_many

    pub all_early : All (λ (tick : Tick). tick.0 < 2 ^ 109) ticks
    all_early = subst (λ ts. All (λ (tick : Tick). tick.0 < 2 ^ 109) ts) (sym is) early

  same : (i : ℕ) → HasRow (net_of log m) i → are.table i ≡ starts_of times i
  same i has =
      let at : get_or (starts_from are.table 1 log.rows) (i - 1) 0 ≡ are.table (1 + (i - 1)) = start_at are.table 1 log.rows (i - 1) (omega (arith, has.0, has.1)) in
      sym (ap (λ xs. start_in xs i) are.starts ∙ at ∙ ap are.table (omega (arith, has.0)))

  pub the_table : IsValid log → IsTimely m → IsConsistent (net_of log m) (starts_of times)
  the_table v t p = line_moved (net_of log m) p (arrival (net_of log m) are.table) (arrival (net_of log m) (starts_of times)) are.table (starts_of times) c
      (λ k l g. ap (λ x. x + (net_of log m).travel k) (same k.row (c.mail l.0 k l.1 l.2).0))
      (λ i on. same i on.0)
      (are.is_consistent p)
    where
      c : Causal (net_of log m)
      c = causal_net log m v t
