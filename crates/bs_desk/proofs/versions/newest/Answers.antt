use Rattle.std.proofs.Common.{◌≡◌, ◌+◌, ◌<◌, ◌∷◌, [], ◌++◌, Some, true, false, ℕ, List, Option, take, length, get_or, sym, subst, ap, ◌∙◌, arith, length-take}
use Rattle.bs_desk.specs.declared.versions.Version.{Version}
use Rattle.bs_desk.specs.Versions.{seen_of, same_name, IsNewest}
use Rattle.bs_desk.proofs.VersionLemmas.{IsSought, newest_last, sought_other, seen_of-take, length-seen_of}
use Rattle.bs_desk.proofs.versions.newest.Goals as goal
use Rattle.bs_desk.proofs.versions.newest.Goals.{then-is_same, else-is_same}

found_here : (vs : List Version) (i : ℕ) (d : Version) (name : List ℕ) → i < length vs → same_name name (get_or vs i d).name.items ≡ true → IsSought (seen_of (take (i + 1) vs)) name (Some i)
found_here vs i d name h t =
    let place : length (seen_of (take i vs)) ≡ i = omega (arith, length-seen_of (take i vs), length-take i vs) in
    rw (seen_of-take vs i d h) (subst (IsNewest (seen_of (take i vs) ++ ((get_or vs i d).name.items, (get_or vs i d).bytes.items) ∷ []) name) place (newest_last (seen_of (take i vs)) name _ (get_or vs i d).bytes.items t))

not_here : (vs : List Version) (i : ℕ) (d : Version) (name : List ℕ) (o : Option ℕ) → i < length vs → same_name name (get_or vs i d).name.items ≡ false → IsSought (seen_of (take i vs)) name o → IsSought (seen_of (take (i + 1) vs)) name o
not_here vs i d name o h t s = rw (seen_of-take vs i d h) (sought_other (seen_of (take i vs)) name _ (get_or vs i d).bytes.items o t s)

pub loop-place-preserved : goal.loop-place-preserved
loop-place-preserved c =
    let vs = c.args.files.now in
    let i = c.loop-place.place in
    let d = c.index-files-place.result in
    let name : d.name.items ≡ (get_or vs i d).name.items = ap (λ (v : Version). v.name.items) c.index-files-place.is in
    let same : same_name c.args.name.now (get_or vs i d).name.items ≡ c.is_same.result =
    ap (same_name c.args.name.now) (sym (c.deref.ensures.value ∙ name)) ∙ sym c.is_same.ensures in
    elim c.if-is_same.branch [
      | then-is_same w ↦ rw w.newest-is (found_here vs i d c.args.name.now (omega arith) (same ∙ w.if-is_same.true))
      | else-is_same w ↦ rw w.newest-is (not_here vs i d c.args.name.now c.loop-place.newest (omega arith) (same ∙ w.if-is_same.false) c.loop-place.invariant)
    ]
