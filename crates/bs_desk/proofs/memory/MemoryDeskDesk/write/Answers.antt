use Rattle.std.specs.Vec.{with_items}
use Rattle.std.proofs.lemmas.List.{with_items_is}
use Rattle.std.proofs.Common.{List, take, ◌≡◌, ap, ◌∙◌, arith, length}
use Rattle.bs_desk.specs.declared.versions.Version.{Version}
use Rattle.bs_desk.specs.Versions.{seen_of, lengthened, name_at, IsNewest}
use Rattle.bs_desk.proofs.VersionLemmas.{length-seen_of, newest_within}
use Rattle.bs_desk.proofs.MemoryWrites.{wrote_file, wrote_sound}
use Rattle.bs_desk.proofs.PlanLemmas.{write_counted}
use Rattle.bs_desk.proofs.memory.MemoryDeskDesk.write.Goals as goal

pub append-requires : goal.append-requires
append-requires c =
    let vs = seen_of c.self.inside.files.items in
    let newest : IsNewest vs (name_at vs c.in-Some.place) c.in-Some.place = rw c.in-Some.is at c.self.invariant.created in
    omega (arith, newest_within vs (name_at vs c.in-Some.place) c.in-Some.place newest, length-seen_of c.self.inside.files.items, ap length c.deref_mut.ensures.value)

pub invariant_of-self-in-Continue-branch-3 : goal.invariant_of-self-in-Continue-branch-3
invariant_of-self-in-Continue-branch-3 c =
    let b = take c.min-count.result c.args.bytes.now in
    let done = c.in_ok-append-in-File.ensures in
    let len : length c.append.new.files ≡ c.self.inside.files.len = omega (arith, c.append.auto.files, c.deref_mut.ensures.len) in
    let files = ap seen_of (with_items_is c.self.inside.files c.append.new.files len) ∙ done.files ∙ ap (λ (vs : List Version). lengthened (seen_of vs) c.in-Some.place b) c.deref_mut.ensures.value in
    let sound = write_counted c.self.inside c.fails_next.new.self c.fails_next.ensures.counted c.self.invariant in
    wrote_sound (record c.self.inside { writes = c.fails_next.new.self }) (with_items c.self.inside.files c.append.new.files) c.append.new.written c.in-Some.place b c.in-Some.is files sound

pub returns-in_ok-append-in-File-clause-writes : goal.returns-in_ok-append-in-File-clause-writes
returns-in_ok-append-in-File-clause-writes c =
    let b = take c.min-count.result c.args.bytes.now in
    let done = c.in_ok-append-in-File.ensures in
    let len : length c.append.new.files ≡ c.self.inside.files.len = omega (arith, c.append.auto.files, c.deref_mut.ensures.len) in
    let files = ap seen_of (with_items_is c.self.inside.files c.append.new.files len) ∙ done.files ∙ ap (λ (vs : List Version). lengthened (seen_of vs) c.in-Some.place b) c.deref_mut.ensures.value in
    let same = wrote_file c.self.inside (with_items c.self.inside.files c.append.new.files) c.append.new.written c.in-Some.place b c.in-Some.is files done.written c.self.invariant in
    let chunk = c.self.invariant.chunk in
    rw (← c.self.view_is, c.in-File.is) (record { fits = omega (arith, c.min-count.ensures); some = λ h. omega (arith, c.min-count.ensures, chunk); same = same })
