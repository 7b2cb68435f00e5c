use Rattle.std.proofs.Common.{◌≡◌, ◌<◌, Bool, true, false, cond, ℕ, List, Option, Some, length, get_or, sym, ap, ◌∙◌}
use Rattle.bs_desk.specs.declared.versions.Version.{Version}
use Rattle.bs_desk.specs.Versions.{seen_of, same_name, moved}
use Rattle.bs_desk.proofs.VersionLemmas.{name_at-seen_of, length-seen_of}
use Rattle.bs_desk.proofs.versions.place_after_push.Goals as goal

-- what `moved` gives, by whether the names are the same
moved_by : (vs : List Version) (o : Option ℕ) (place : ℕ) (d : Version) (name : List ℕ) (t : Bool) → o ≡ Some place → place < length vs → same_name (get_or vs place d).name.items name ≡ t
    → moved (seen_of vs) o name ≡ cond t (Some (length vs)) (Some place)
moved_by vs o place d name t is h same =
    ap (λ (o : Option ℕ). moved (seen_of vs) o name) is
    ∙ ap (λ b. cond b (Some (length (seen_of vs))) (Some place)) (ap (λ n. same_name n name) (name_at-seen_of vs place d h) ∙ same)
    ∙ ap (λ n. cond t (Some n) (Some place)) (length-seen_of vs)

pub returns-in-Some : goal.returns-in-Some
returns-in-Some c =
    let vs = c.args.files.now in
    let d = c.index-files-place.result in
    let within : c.in-Some.place < length vs = rw c.in-Some.is at c.requires in
    let same : same_name (get_or vs c.in-Some.place d).name.items c.args.name.now ≡ true =
    ap (λ n. same_name n c.args.name.now) (sym c.deref.ensures.value) ∙ sym c.is_same.ensures ∙ c.if-is_same.true in
    sym (moved_by vs c.args.created c.in-Some.place d c.args.name.now true c.in-Some.is within same)

pub returns-in_default : goal.returns-in_default
returns-in_default c =
    let vs = c.args.files.now in
    let d = c.index-files-place.result in
    let within : c.in-Some.place < length vs = rw c.in-Some.is at c.requires in
    let same : same_name (get_or vs c.in-Some.place d).name.items c.args.name.now ≡ false =
    ap (λ n. same_name n c.args.name.now) (sym c.deref.ensures.value) ∙ sym c.is_same.ensures ∙ c.if-is_same.false in
    sym (moved_by vs c.args.created c.in-Some.place d c.args.name.now false c.in-Some.is within same)
