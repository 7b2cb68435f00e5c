use Rattle.std.proofs.Common.{List, ap, ◌∙◌, ◌≡◌, arith, length}
use Rattle.bs_desk.specs.declared.versions.Version.{Version}
use Rattle.bs_desk.specs.Versions.{seen_of, IsNewest, bytes_at, found}
use Rattle.bs_desk.proofs.VersionLemmas.{length-seen_of, newest_within}
use Rattle.bs_desk.proofs.MemoryReads.{begins, misses}
use Rattle.bs_desk.proofs.PlanLemmas.{open_counted}
use Rattle.bs_desk.proofs.memory.MemoryDeskDesk.open.Goals as goal

pub bytes_of-end-requires : goal.bytes_of-end-requires
bytes_of-end-requires c =
    let newest : IsNewest (seen_of c.self.inside.files.items) c.args.name.now c.in-Some.place = rw (← c.deref.ensures.value, ← c.as_bytes.ensures.value) c.in-Some.ensures in
    omega (arith, newest_within (seen_of c.self.inside.files.items) c.args.name.now c.in-Some.place newest, length-seen_of c.self.inside.files.items, ap length c.deref-in-Some.ensures.value)

pub invariant_of-self-in-Some : goal.invariant_of-self-in-Some
invariant_of-self-in-Some c =
    let newest : IsNewest (seen_of c.self.inside.files.items) c.args.name.now c.in-Some.place = rw (← c.deref.ensures.value, ← c.as_bytes.ensures.value) c.in-Some.ensures in
    let bytes = c.bytes_of-end.ensures ∙ ap (λ (vs : List Version). bytes_at (seen_of vs) c.in-Some.place) c.deref-in-Some.ensures.value in
    let sound = open_counted c.self.inside c.fails_next.new.self c.fails_next.ensures.counted c.self.invariant in
    record {
      chunk = sound.chunk;
      opened = record { place = newest_within (seen_of c.self.inside.files.items) c.args.name.now c.in-Some.place newest; order = omega arith; end = omega (arith, ap length bytes) };
      created = sound.created;
      opens = sound.opens;
      reads = sound.reads;
      creates = sound.creates;
      writes = sound.writes;
    }

pub returns-in-Some-clause-opens : goal.returns-in-Some-clause-opens
returns-in-Some-clause-opens c =
    let newest : IsNewest (seen_of c.self.inside.files.items) c.args.name.now c.in-Some.place = rw (← c.deref.ensures.value, ← c.as_bytes.ensures.value) c.in-Some.ensures in
    let bytes = c.bytes_of-end.ensures ∙ ap (λ (vs : List Version). bytes_at (seen_of vs) c.in-Some.place) c.deref-in-Some.ensures.value in
    rw (← c.self.view_is) (begins c.self.inside c.args.name.now c.in-Some.place (length c.bytes_of-end.result.now) newest (ap length bytes))

pub returns-in-None-clause-opens : goal.returns-in-None-clause-opens
returns-in-None-clause-opens c =
    let none : found (seen_of c.self.inside.files.items) c.args.name.now ≡ _ = rw (← c.deref.ensures.value, ← c.as_bytes.ensures.value) c.in-None.ensures in
    rw (← c.self.view_is) (misses c.self.inside c.args.name.now none)
