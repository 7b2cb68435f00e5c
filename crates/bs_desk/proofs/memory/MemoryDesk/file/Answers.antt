use Rattle.std.proofs.Common.{List, ap, sym, ◌∙◌, ◌≡◌, arith, length, Some, None}
use Rattle.bs_desk.specs.declared.versions.Version.{Version}
use Rattle.bs_desk.specs.Versions.{seen_of, IsNewest, bytes_at, found}
use Rattle.bs_desk.proofs.VersionLemmas.{length-seen_of, newest_within, newest_found, get-files_of}
use Rattle.bs_desk.proofs.memory.MemoryDesk.file.Goals as goal

pub bytes_of-requires : goal.bytes_of-requires
bytes_of-requires c =
    let vs = seen_of c.self.inside.files.items in
    let newest : IsNewest vs c.args.name.now c.in_ok-place.place = rw (← c.deref.ensures.value, ← c.as_bytes.ensures.value) c.in_ok-place.ensures in
    omega (arith, newest_within vs c.args.name.now c.in_ok-place.place newest, length-seen_of c.self.inside.files.items, ap length c.deref-2.ensures.value)

pub returns : goal.returns
returns c =
    let vs = seen_of c.self.inside.files.items in
    let newest : IsNewest vs c.args.name.now c.in_ok-place.place = rw (← c.deref.ensures.value, ← c.as_bytes.ensures.value) c.in_ok-place.ensures in
    let bytes = c.bytes_of.ensures ∙ ap (λ (vs : List Version). bytes_at (seen_of vs) c.in_ok-place.place) c.deref-2.ensures.value in
    rw (← c.self.view_is) (ap Some bytes ∙ sym (newest_found vs c.args.name.now c.in_ok-place.place newest) ∙ sym (get-files_of vs c.args.name.now))

pub returns-in_err-place : goal.returns-in_err-place
returns-in_err-place c =
    let vs = seen_of c.self.inside.files.items in
    let none : found vs c.args.name.now ≡ None = rw (← c.deref.ensures.value, ← c.as_bytes.ensures.value) c.in_err-place.ensures in
    rw (c.from_residual.ensures, ← c.self.view_is) (sym none ∙ sym (get-files_of vs c.args.name.now))
