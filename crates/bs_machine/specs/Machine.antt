-- What a machine says: plain numbers, and where chares are placed.
use Rattle.std.specs.Prelude.{ℕ, ◌^◌, nat_le, ◌&&◌, not, List, [], ◌∷◌, None, Ok, Err, if◌then◌else◌}
use Rattle.bs_machine.specs.Answer.{Answer}
use Rattle.bs_machine.specs.declared.fault.MachineFault.TheVariants.{OutOfRange}
use Rattle.bs_machine.specs.declared.key.MachineKey.TheVariants as key
use Rattle.bs_machine.specs.declared.machine.Machine.{Machine}
use Rattle.bs_machine.specs.declared.machine.Speed.{Speed}
use Rattle.bs_net.specs.declared.cost.Costs.{Costs}
use Rattle.bs_net.specs.declared.place.Place.{Place}
use Rattle.bs_net.specs.declared.place.Place.TheVariants.{Cycle}

-- `num` ticks for each `den` units of cost
pub record SpeedOf : Type 0 where
  pub num : ℕ
  pub den : ℕ

-- the ticks that a latency is made of, with `num` ticks for each `den` bytes
pub record CostsOf : Type 0 where
  pub own : ℕ
  pub local : ℕ
  pub base : ℕ
  pub hop : ℕ
  pub num : ℕ
  pub den : ℕ

pub record MachineOf : Type 0 where
  pub sizes : List ℕ
  pub per_node : ℕ
  pub place : Place
  pub speed : SpeedOf
  pub costs : CostsOf

abbrev pub speed_view : Speed → SpeedOf
speed_view speed = record { num = speed.num; den = speed.den }

abbrev pub costs_view : Costs → CostsOf
costs_view costs = record { own = costs.own; local = costs.local; base = costs.base; hop = costs.hop; num = costs.num; den = costs.den }

abbrev pub machine_view : Machine → MachineOf
machine_view m = record {
  sizes = m.torus.sizes;
  per_node = m.torus.per_node;
  place = m.place;
  speed = speed_view m.speed;
  costs = costs_view m.costs;
}

-- the machine of one ring where each message takes equally long and a block as long as it costs
abbrev pub flat_of : ℕ → ℕ → MachineOf
flat_of processors latency = record {
  sizes = processors ∷ [];
  per_node = 1;
  place = Cycle;
  speed = record { num = 1; den = 1 };
  costs = record { own = latency; local = latency; base = latency; hop = 0; num = 0; den = 1 };
}

-- that machine, where both numbers are in their ranges
abbrev pub flat_in : ℕ → ℕ → Answer MachineOf
flat_in processors latency =
    if not (nat_le 1 processors && nat_le processors 65536) then Err (OutOfRange key.TorusSizes None)
    else (if not (nat_le 1 latency && nat_le latency (2 ^ 38)) then Err (OutOfRange key.LatencyBase None)
    else Ok (flat_of processors latency))
