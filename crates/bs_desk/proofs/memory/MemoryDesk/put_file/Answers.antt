use Rattle.std.proofs.Common.{List, ap, sym, subst, ◌∙◌, ◌<◌, length}
use Rattle.std.specs.Prelude.{IfSome}
use Rattle.bs_desk.specs.declared.versions.Version.{Version}
use Rattle.bs_desk.specs.InMemory.{InMemory}
use Rattle.bs_desk.specs.Outside.{Outside}
use Rattle.bs_desk.specs.Versions.{seen_of, moved}
use Rattle.bs_desk.specs.Memory.{seen_as}
use Rattle.bs_desk.proofs.VersionLemmas.{created_within, length-seen_of}
use Rattle.bs_desk.proofs.MemoryWrites.{puts_file, put_file_sound}
use Rattle.bs_desk.proofs.memory.MemoryDesk.put_file.Goals as goal

pub place_after_push-created-requires : goal.place_after_push-created-requires
place_after_push-created-requires c =
    let within = created_within (seen_of c.self.inside.files.items) c.self.inside.created c.self.invariant.created in
    subst (λ n. IfSome c.self.inside.created (λ i. i < n)) (length-seen_of c.self.inside.files.items ∙ ap length (sym c.deref.ensures.value)) within

pub invariant_of-self-2 : goal.invariant_of-self-2
invariant_of-self-2 c =
    let moved = c.place_after_push-created.ensures ∙ ap (λ (vs : List Version). moved (seen_of vs) c.self.inside.created c.as_bytes-name.result.now) c.deref.ensures.value in
    put_file_sound c.self.inside c.push.new.files c.as_bytes-name.result.now c.args.bytes.now c.place_after_push-created.result c.in_ok-push.ensures.ok moved c.self.invariant

pub returns-clause-ok : goal.returns-clause-ok
returns-clause-ok c =
    let moved = c.place_after_push-created.ensures ∙ ap (λ (vs : List Version). moved (seen_of vs) c.self.inside.created c.as_bytes-name.result.now) c.deref.ensures.value in
    let same = puts_file c.self.inside c.push.new.files c.as_bytes-name.result.now c.args.bytes.now c.place_after_push-created.result c.in_ok-push.ensures.ok moved c.self.invariant in
    rw (← c.self.view_is, ← c.as_bytes-name.ensures.value) (ap {A = Outside} {B = InMemory} (λ o. record (seen_as c.self.inside) { outside = o }) same)
