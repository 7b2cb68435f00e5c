-- The laws over logs and machines, and one table for one line.
use Rattle.std.proofs.Common.{List, [], ap, arith, if◌then◌else◌, inl, inr, length, refl, suc, sym, ℕ, ◌+◌, ◌<◌, ◌==◌, ◌∙◌, ◌∷◌, ◌≡◌, ◌≤◌, ◌⊎◌}
use Rattle.std.proofs.lemmas.Bool.{cases_eq, eq-eqb, ne_eqb, cond-true, cond-false}
use Rattle.bs_log.specs.declared.log.Row.{Row}
use Rattle.bs_log.specs.declared.log.Log.{Log}
use Rattle.bs_log.specs.Valid.{IsValid}
use Rattle.bs_semantics.specs.Serial.{Machine}
use Rattle.bs_times.specs.Machine.{IsTimely}
use Rattle.bs_times.specs.Net.{Net, Starts, Ticks, HasRow, Causal, net_of}
use Rattle.bs_times.specs.Times.{IsOn, IsLine, IsTable, IsConsistent, AreWaves, SameTicks, budget}
use Rattle.bs_times.specs.Outcomes.{out_rows, outcome_of}
use Rattle.bs_times.specs.Racing.{World, IsDirty, AreRacingWaves, first_world}
use Rattle.bs_times.proofs.Causal.{causal_net}
use Rattle.bs_times.proofs.Unique as unique
use Rattle.bs_times.proofs.Exists.{table_exists, consistent_exists}
use Rattle.bs_times.proofs.Moved.{line_moved}
use Rattle.bs_times.proofs.Waves.{waves_settle}
use Rattle.bs_times.proofs.Racing.{first_even}
use Rattle.bs_times.proofs.RacingWaves.{racing_waves_settle}

-- a line's table beside those of a table for all.
module _ (net : Net) (c : Causal net) (p : ℕ) (held : Ticks) (t : Starts) (table : IsTable net held t) where
  abbrev beside : Starts → Starts
  beside s i = if net.home i == p then s i else t i

  here : (s : Starts) (i : ℕ) → net.home i ≡ p → beside s i ≡ s i
  here s i e = cond-true _ _ _ (eq-eqb (net.home i) p e)

  elsewhere : (s : Starts) (i : ℕ) → (net.home i ≡ p → ⊥) → beside s i ≡ t i
  elsewhere s i n = cond-false _ _ _ (ne_eqb (net.home i) p n)

  beside_table : (s : Starts) → IsLine net p held s → IsTable net held (beside s)
  beside_table s line q = go (cases_eq q p)
    where
      go : (q ≡ p) ⊎ (q ≡ p → ⊥) → IsLine net q held (beside s)
      go (inl e) = rw e (line_moved net p held held s (beside s) c (λ m l g. refl) (λ i on. sym (here s i on.1)) line)
      go (inr n) = line_moved net q held held t (beside s) c (λ m l g. refl) (λ i on. sym (elsewhere s i (λ e. n (sym on.1 ∙ e)))) (table q)

  same : (s z : Starts) → IsLine net p held s → IsLine net p held z → (i : ℕ) → IsOn net p i → s i ≡ z i
  same s z a b i on = sym (here s i on.1) ∙ unique.one_table net c held (beside s) (beside z) (beside_table s a) (beside_table z b) i on.0 ∙ here z i on.1

pub one_line : (net : Net) → Causal net → (p : ℕ) (held : Ticks) (s z : Starts) → IsLine net p held s → IsLine net p held z → (i : ℕ) → IsOn net p i → s i ≡ z i
one_line net c p held = let t = table_exists net c held in same net c p held t.0 t.1

out_same : (m : Machine) (s z : Starts) (k : ℕ) (rs : List Row) → ((i : ℕ) → k ≤ i → i < k + length rs → s i ≡ z i) → out_rows m s k rs ≡ out_rows m z k rs
out_same m s z k [] h = refl
out_same m s z k (r ∷ rs) h =
    let here : s k ≡ z k = h k (omega arith) (omega arith) in
    rw (here, out_same m s z (k + 1) rs (λ i low high. h i (omega (arith, low)) (omega (arith, high)))) refl

module _ (log : Log) (machine : Machine) (v : IsValid log) (t : IsTimely machine) where
  pub some_table : (s : Starts) × IsConsistent (net_of log machine) s
  some_table = consistent_exists (net_of log machine) (causal_net log machine v t)

  pub same_table : (s z : Starts) → IsConsistent (net_of log machine) s → IsConsistent (net_of log machine) z → (i : ℕ) → HasRow (net_of log machine) i → s i ≡ z i
  same_table = unique.one_consistent_table (net_of log machine) (causal_net log machine v t)

  pub waves : (ticks : ℕ → Ticks) → AreWaves (net_of log machine) ticks → (k : ℕ) → budget (net_of log machine) ≤ suc k → SameTicks (net_of log machine) (ticks (suc k)) (ticks k)
  waves ticks w k le = (waves_settle (net_of log machine) (causal_net log machine v t) some_table.0 some_table.1 ticks w k le).0

  pub racing_waves : (worlds : ℕ → World) (estimates : Ticks) → worlds 0 ≡ first_world estimates → AreRacingWaves (net_of log machine) worlds → (k : ℕ) → budget (net_of log machine) ≤ suc k → (p : ℕ) → IsDirty (net_of log machine) (worlds (suc k)) p → ⊥
  racing_waves worlds estimates e = racing_waves_settle (net_of log machine) (causal_net log machine v t) some_table.0 some_table.1 worlds (rw e (first_even (net_of log machine) estimates))

  pub one_outcome : (s z : Starts) → IsConsistent (net_of log machine) s → IsConsistent (net_of log machine) z → outcome_of log machine s ≡ outcome_of log machine z
  one_outcome s z a b = ap (λ rows. record { rows = rows; traps = log.traps; waits = log.waits }) (out_same machine s z 1 log.rows (λ i some most. same_table s z a b i (some, omega (arith, most))))
