-- What holds of all chares but some.
use Rattle.std.specs.Prelude.{◌<◌, ◌⊎◌, ℕ, List}
use Rattle.bs_log.specs.Lists.{Mem}

-- of the first n numbers each one has the property, or is listed
pub record HoldsBut (listed : List ℕ) (n : ℕ) (P : ℕ → Type 0) : Type 0 where
  pub within : (c : ℕ) → Mem c listed → c < n
  pub each : (c : ℕ) → c < n → P c ⊎ Mem c listed
