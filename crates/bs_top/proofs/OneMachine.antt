-- A fitted machine is seen by its numbers alone.
use Rattle.std.proofs.Common.{◌≡◌, ℕ, ◌+◌, ◌*◌, ◌/◌, ◌==◌, refl, sym, ap₂, ◌∙◌, if◌then◌else◌}
use Rattle.std.specs.Int.{div_ceil}
use Rattle.bs_machine.specs.Machine.{MachineOf, machine_view}
use Rattle.bs_machine.specs.declared.fitted.Fitted.{Fitted}
use Rattle.bs_net.specs.Home as place
use Rattle.bs_net.specs.Range.{processors_in}
use Rattle.bs_net.specs.Ring.{hops_between}
use Rattle.bs_times.specs.Machine.{machine_of}
use Rattle.bs_semantics.specs.Serial.{Machine}

by_view : MachineOf → ℕ → Machine
by_view v chares = record {
  home = λ chare. place.home_of v.place chare chares (processors_in v.sizes v.per_node);
  latency = λ from to bytes.
      if from == to then v.costs.own
      else (if from / v.per_node == to / v.per_node then v.costs.local
      else (v.costs.base + v.costs.hop * hops_between v.sizes (from / v.per_node) (to / v.per_node) + div_ceil (bytes * v.costs.num) v.costs.den));
  duration = λ cost. div_ceil (cost * v.speed.num) v.speed.den;
}

seen : (f : Fitted) → machine_of f ≡ by_view (machine_view f.machine) f.chares
unfolding machine_of by_view
seen f = refl

pub one_machine : (f g : Fitted) → machine_view f.machine ≡ machine_view g.machine → f.chares ≡ g.chares → machine_of f ≡ machine_of g
one_machine f g same count = seen f ∙ ap₂ by_view same count ∙ sym (seen g)
