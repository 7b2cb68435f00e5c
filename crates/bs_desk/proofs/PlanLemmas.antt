-- A call is counted, and one that is named fails.
use Rattle.std.proofs.Common.{◌≡◌, ◌<◌, length, Bool, ap, subst}
use Rattle.bs_desk.specs.declared.memory.MemoryDesk.TheInside.{Inside}
use Rattle.bs_desk.specs.declared.plans.Plan.{Plan}
use Rattle.bs_desk.specs.Plans.{planned}
use Rattle.bs_desk.specs.Planned.{Planned, counted}
use Rattle.bs_desk.specs.Memory.{IsSound, IsAdmitted}

pub still_admitted : (can_fail : Bool) (old new : Plan) → planned new ≡ counted (planned old) → IsAdmitted can_fail old → IsAdmitted can_fail new
still_admitted can_fail old new is ok = λ some. ok (subst (λ n. 0 < n) (ap (λ (p : Planned). length p.failing) is) some)

pub open_counted : (m : Inside) (plan : Plan) → planned plan ≡ counted (planned m.opens) → IsSound m → IsSound (record m { opens = plan })
open_counted m plan is sound = record {
  chunk = sound.chunk;
  opened = sound.opened;
  created = sound.created;
  opens = still_admitted m.can_fail m.opens plan is sound.opens;
  reads = sound.reads;
  creates = sound.creates;
  writes = sound.writes;
}

pub create_counted : (m : Inside) (plan : Plan) → planned plan ≡ counted (planned m.creates) → IsSound m → IsSound (record m { creates = plan })
create_counted m plan is sound = record {
  chunk = sound.chunk;
  opened = sound.opened;
  created = sound.created;
  opens = sound.opens;
  reads = sound.reads;
  creates = still_admitted m.can_fail m.creates plan is sound.creates;
  writes = sound.writes;
}

pub write_counted : (m : Inside) (plan : Plan) → planned plan ≡ counted (planned m.writes) → IsSound m → IsSound (record m { writes = plan })
write_counted m plan is sound = record {
  chunk = sound.chunk;
  opened = sound.opened;
  created = sound.created;
  opens = sound.opens;
  reads = sound.reads;
  creates = sound.creates;
  writes = still_admitted m.can_fail m.writes plan is sound.writes;
}
