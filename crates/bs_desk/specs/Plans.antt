-- What the fields of a plan mean.
use Rattle.bs_desk.specs.declared.plans.Plan.{Plan}
use Rattle.bs_desk.specs.Planned.{Planned}

-- what is seen of a plan, without the room that a vector keeps for more
abbrev pub planned : Plan → Planned
planned p = record { made = p.made; failing = p.failing.items }
