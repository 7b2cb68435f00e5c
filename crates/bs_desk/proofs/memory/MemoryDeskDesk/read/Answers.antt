use Rattle.std.proofs.Common.{◌≡◌, ℕ, List, ◌+◌, ◌-◌, min, length-take, ap, ◌∙◌, arith, length, take, drop}
use Rattle.bs_desk.specs.declared.versions.Version.{Version}
use Rattle.bs_desk.specs.Versions.{seen_of, bytes_at}
use Rattle.bs_desk.specs.Memory.{IsPlace}
use Rattle.bs_desk.proofs.VersionLemmas.{length-seen_of}
use Rattle.bs_desk.proofs.MemoryReads.{takes}
use Rattle.bs_desk.proofs.memory.MemoryDeskDesk.read.Goals as goal

pub bytes_of-bytes-requires : goal.bytes_of-bytes-requires
bytes_of-bytes-requires c =
    let place : IsPlace (seen_of c.self.inside.files.items) c.in-Some.opened = rw c.in-Some.is at c.self.invariant.opened in
    omega (arith, place.place, length-seen_of c.self.inside.files.items, ap length c.deref.ensures.value)

pub returns-clause-reads : goal.returns-clause-reads
returns-clause-reads c =
    let p = c.in-Some.opened in
    let copy = c.copy_from_slice.ensures in
    let bytes = c.bytes_of-bytes.ensures ∙ ap (λ (vs : List Version). bytes_at (seen_of vs) p.place) c.deref.ensures.value in
    let place : IsPlace (seen_of c.self.inside.files.items) p = rw c.in-Some.is at c.self.invariant.opened in
    let count : p.from + c.min-count.result - p.from ≡ c.min-count.result = omega arith in
    let after = copy.after ∙ ap (λ n. take n (drop p.from c.bytes_of-bytes.result.now)) count ∙ ap (λ (xs : List ℕ). take c.min-count.result (drop p.from xs)) bytes in
    rw (← c.self.view_is) (takes c.self.inside p c.min-count.result c.saturating_add-self-inside-2.result c.args.room.now c.copy_from_slice.new.self c.in-Some.is place (c.min-count.ensures ∙ ap (λ k. min k (p.end - p.from)) c.min.ensures) c.self.invariant.chunk c.saturating_add-self-inside-2.ensures (omega (arith, copy.len, length-take c.min-count.result c.args.room.now, c.min-count.ensures, c.min.ensures)) after)
