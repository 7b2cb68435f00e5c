use Rattle.std.proofs.Common.{◌≡◌, arith, length}
use Rattle.bs_desk.specs.Versions.{seen_of}
use Rattle.bs_desk.proofs.VersionLemmas.{length-seen_of}
use Rattle.bs_desk.proofs.MemoryWrites.{creates, create_sound}
use Rattle.bs_desk.proofs.PlanLemmas.{create_counted}
use Rattle.bs_desk.proofs.memory.MemoryDeskDesk.create.Goals as goal

pub invariant_of-self-2 : goal.invariant_of-self-2
invariant_of-self-2 c =
    let at : c.len-place.result ≡ length (seen_of c.self.inside.files.items) = omega (arith, c.len-place.ensures, c.self.inside.files.ok.0, length-seen_of c.self.inside.files.items) in
    create_sound (record c.self.inside { creates = c.fails_next.new.self }) c.push.new.files c.as_bytes.result.now c.len-place.result c.in_ok-push.ensures.ok at (create_counted c.self.inside c.fails_next.new.self c.fails_next.ensures.counted c.self.invariant)

pub returns-clause-creates : goal.returns-clause-creates
returns-clause-creates c =
    let at : c.len-place.result ≡ length (seen_of c.self.inside.files.items) = omega (arith, c.len-place.ensures, c.self.inside.files.ok.0, length-seen_of c.self.inside.files.items) in
    rw (← c.self.view_is, ← c.as_bytes.ensures.value) (creates c.self.inside c.push.new.files c.as_bytes.result.now c.len-place.result c.in_ok-push.ensures.ok at c.self.invariant)
