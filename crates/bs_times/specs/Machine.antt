-- A fitted machine as plain functions, and what of a machine the times of a log rest on (docs/model.md).
use Rattle.std.specs.Prelude.{◌≤◌, ◌<◌, ◌^◌, ℕ}
use Rattle.bs_machine.specs.declared.fitted.Fitted.{Fitted}
use Rattle.bs_machine.specs.Fitted.{home_of, latency_of, duration_of}
use Rattle.bs_semantics.specs.Serial.{Machine}

unfoldable pub machine_of : Fitted → Machine
machine_of m = record { home = home_of m; latency = latency_of m; duration = duration_of m }

-- each message takes at least one tick, and so does each block; neither takes too many
pub record IsTimely (m : Machine) : Type 0 where
  pub latency : (from to bytes : ℕ) → bytes ≤ 2 ^ 30 → (1 ≤ m.latency from to bytes) × (m.latency from to bytes < 2 ^ 40)
  pub duration : (cost : ℕ) → 1 ≤ cost → cost ≤ 2 ^ 32 → (1 ≤ m.duration cost) × (m.duration cost < 2 ^ 48)
