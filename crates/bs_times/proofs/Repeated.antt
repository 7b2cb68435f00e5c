-- From any estimates there are waves, and they give one tick for each message.
use Rattle.std.proofs.Common.{◌≡◌, ℕ, zero, suc, refl, sym, ap, ◌+◌, ◌∙◌}
use Rattle.bs_times.specs.Net.{Net, Ticks, Causal}
use Rattle.bs_times.specs.Times.{IsWave, AreWaves, SameTicks, arrival}
use Rattle.bs_times.proofs.Exists.{table_exists}
use Rattle.bs_times.proofs.Settled.{table_same}
use Rattle.bs_times.proofs.Unique.{one_table}

module _ (net : Net) (c : Causal net) where
  abbrev wave_after : Ticks → Ticks
  wave_after held = arrival net (table_exists net c held).0

  repeated : Ticks → ℕ → Ticks
  repeated estimates zero = estimates
  repeated estimates (suc k) = wave_after (repeated estimates k)

  each_is_wave : (estimates : Ticks) → AreWaves net (repeated estimates)
  unfolding repeated
  each_is_wave estimates k = record { table = (table_exists net c (repeated estimates k)).0; lines = (table_exists net c (repeated estimates k)).1; arrives = λ m listed. refl }

  starts_there : (estimates : Ticks) → repeated estimates 0 ≡ estimates
  unfolding repeated
  starts_there estimates = refl

  pub some_waves : (estimates : Ticks) → (ticks : ℕ → Ticks) × AreWaves net ticks × (ticks 0 ≡ estimates)
  some_waves estimates = (repeated estimates, each_is_wave estimates, starts_there estimates)

  pub same_wave : (held kept given took : Ticks) → IsWave net held given → IsWave net kept took → SameTicks net held kept → SameTicks net given took
  same_wave held kept given took a b same m listed =
      let start = one_table net c kept a.table b.table (table_same net held kept a.table same a.lines) b.lines m.row (c.mail listed.0 m listed.1 listed.2).0 in
      a.arrives m listed ∙ ap (λ x. x + net.travel m) start ∙ sym (b.arrives m listed)

  pub same_waves : (a b : ℕ → Ticks) → AreWaves net a → AreWaves net b → SameTicks net (a 0) (b 0) → (k : ℕ) → SameTicks net (a k) (b k)
  same_waves a b v w same zero = same
  same_waves a b v w same (suc k) = same_wave (a k) (b k) (a (suc k)) (b (suc k)) (v k) (w k) (same_waves a b v w same k)
