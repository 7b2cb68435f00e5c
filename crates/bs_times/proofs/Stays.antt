-- Waves from the arrivals of the consistent table change no tick.
use Rattle.std.proofs.Common.{◌≡◌, ℕ, zero, suc, ◌+◌, refl, ap, ◌∙◌}
use Rattle.bs_times.specs.Net.{Net, Starts, Ticks, HasRow, Causal}
use Rattle.bs_times.specs.Times.{AreWaves, IsConsistent, IsTable, IsWave, SameTicks, arrival}
use Rattle.bs_times.proofs.Moved.{line_moved}
use Rattle.bs_times.proofs.Unique.{one_table}

module _ (net : Net) (c : Causal net) (s : Starts) (table : IsConsistent net s) where
  -- one wave
  wave_stays : (held given : Ticks) → IsWave net held given → SameTicks net held (arrival net s) → SameTicks net given (arrival net s)
  wave_stays held given wave same m listed = wave.arrives m listed ∙ ap (λ x. x + net.travel m) (starts m.row (c.mail listed.0 m listed.1 listed.2).0)
    where
      over : IsTable net (arrival net s) wave.table
      over p = line_moved net p held (arrival net s) wave.table wave.table c (λ k l g. same k l) (λ i on. refl) (wave.lines p)

      starts : (i : ℕ) → HasRow net i → wave.table i ≡ s i
      starts = one_table net c (arrival net s) wave.table s over table

  pub waves_stay : (ticks : ℕ → Ticks) → AreWaves net ticks → SameTicks net (ticks 0) (arrival net s) → (k : ℕ) → SameTicks net (ticks k) (arrival net s)
  waves_stay ticks waves same zero = same
  waves_stay ticks waves same (suc k) = wave_stays (ticks k) (ticks (suc k)) (waves k) (waves_stay ticks waves same k)
