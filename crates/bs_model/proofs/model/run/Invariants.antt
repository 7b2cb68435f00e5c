use Rattle.std.proofs.Common.{◌≡◌, List, length}
use Rattle.bs_semantics.specs.Serial.{Started}
use Rattle.bs_model.specs.State.{Follows}
use Rattle.bs_model.proofs.model.run.Given as goal

abbrev pub invariant-loop-turn : goal.invariant-loop-turn
invariant-loop-turn l = (bs : List Started) × Follows l.accepted.program l.limit l.machine bs l.state × (length bs ≡ l._turn)
