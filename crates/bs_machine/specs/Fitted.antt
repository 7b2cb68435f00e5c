-- A machine that is fitted to a number of chares, as all times see it: four functions of numbers.
use Rattle.std.specs.Prelude.{◌≡◌, ◌<◌, ◌≤◌, ◌^◌, ℕ, ◌*◌, ◌%◌}
use Rattle.std.specs.Int.{div_ceil}
use Rattle.bs_machine.specs.declared.fitted.Fitted.{Fitted}
use Rattle.bs_net.specs.Home as place
use Rattle.bs_net.specs.Latency as network
use Rattle.bs_net.specs.Torus as torus

-- how many processors there are
abbrev pub processors_of : Fitted → ℕ
processors_of m = torus.processors_of m.machine.torus

-- the processor of a chare
abbrev pub home_of : Fitted → ℕ → ℕ
home_of m chare = place.home_of m.machine.place chare m.chares (processors_of m)

-- the ticks of a message from one processor to another
abbrev pub latency_of : Fitted → ℕ → ℕ → ℕ → ℕ
latency_of m from to bytes = network.latency_of m.machine.torus m.machine.costs from to bytes

-- the ticks of a block of this cost
abbrev pub duration_of : Fitted → ℕ → ℕ
duration_of m cost = div_ceil (cost * m.machine.speed.num) m.machine.speed.den

-- where the four lie, for all their arguments at once
pub record HasBounds (m : Fitted) : Type 0 where
  pub processors : (1 ≤ processors_of m) × (processors_of m ≤ 65536)
  pub chares : (1 ≤ m.chares) × (m.chares ≤ 65536)
  pub home : (chare : ℕ) → chare < m.chares → home_of m chare < processors_of m
  pub latency : (from to bytes : ℕ) → bytes ≤ 2 ^ 30 → (1 ≤ latency_of m from to bytes) × (latency_of m from to bytes < 2 ^ 40)
  pub duration : (cost : ℕ) → 1 ≤ cost → cost ≤ 2 ^ 32 → (1 ≤ duration_of m cost) × (duration_of m cost < 2 ^ 48)

-- what a flat machine comes to
pub record IsFlat (count ticks : ℕ) (m : Fitted) : Type 0 where
  pub processors : processors_of m ≡ count
  pub home : (chare : ℕ) → home_of m chare ≡ chare % count
  pub latency : (from to bytes : ℕ) → latency_of m from to bytes ≡ ticks
  pub duration : (cost : ℕ) → duration_of m cost ≡ cost
