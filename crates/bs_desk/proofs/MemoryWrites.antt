-- What `create`, `put_file` and `write` make of the fields of a desk in memory.
use Rattle.std.proofs.Common.{◌≡◌, ℕ, zero, suc, ◌≤◌, ◌-◌, Bool, true, false, cond, List, [], ◌∷◌, ◌++◌, length, take, drop, Option, Some, None, option_map, is_some, refl, sym, ap, subst, ◌∙◌, arith, length-append, length-drop}
use Rattle.std.proofs.lemmas.List.{drop-append-le, take-append-le}
use Rattle.std.proofs.lemmas.Cmp.{nat_list_cmp_total}
use Rattle.std.specs.Prelude.{IfSome}
use Rattle.std.specs.FinMap as map
use Rattle.std.specs.declared.vec.Vec.{Vec}
use Rattle.std.specs.declared.alloc.Global.{Global}
use Rattle.bs_desk.specs.declared.memory.MemoryDesk.TheInside.{Inside}
use Rattle.bs_desk.specs.declared.memory.Opened.{Opened}
use Rattle.bs_desk.specs.declared.versions.Version.{Version}
use Rattle.bs_desk.specs.declared.desk.Port.TheVariants as port
use Rattle.bs_desk.specs.Outside.{longer_by, extended_by, with_contents, with_created, written}
use Rattle.bs_desk.specs.Versions.{Seen, seen_of, same_name, or_else, found, files_of, IsNewest, bytes_at, name_at, lengthened, moved}
use Rattle.bs_desk.specs.Memory.{outside_of, rest_of, IsPlace, IsSound}
use Rattle.bs_desk.proofs.WrittenLemmas.{append_none, same_files}
use Rattle.bs_desk.proofs.VersionLemmas.{get-files_of, newest_found, files_of-append, bytes_at-append, name_at-last, last_is_newest, name_is, moves}

-- ---- a version is put behind all others

places-append : (vs ys : Seen) (o : Option Opened) → IfSome o (IsPlace vs) → IfSome o (IsPlace (vs ++ ys))
places-append vs ys None h = tt
places-append vs ys (Some p) h = record { place = omega (arith, h.place, length-append vs ys); order = h.order; end = omega (arith, h.end, ap length (bytes_at-append vs ys p.place h.place)) }

rest_of-append : (vs ys : Seen) (o : Option Opened) → IfSome o (IsPlace vs) → rest_of (vs ++ ys) o ≡ rest_of vs o
rest_of-append vs ys None h = refl
rest_of-append vs ys (Some p) h = ap {A = List ℕ} {B = Option (List ℕ)} (λ xs. Some (take (p.end - p.from) (drop p.from xs))) (bytes_at-append vs ys p.place h.place)

pub creates : (m : Inside) (fs : Vec Version Global) (name : List ℕ) (i : ℕ) → seen_of fs.items ≡ seen_of m.files.items ++ (name, []) ∷ [] → i ≡ length (seen_of m.files.items) → IsSound m
    → outside_of (record m { files = fs; created = Some i }) ≡ with_created name (outside_of m)
creates m fs name i is at sound =
    let vs = seen_of m.files.items in
    let files : files_of (seen_of fs.items) ≡ map.insert (files_of vs) name [] = ap files_of is ∙ files_of-append vs name [] in
    let rest : rest_of (seen_of fs.items) m.opened ≡ rest_of vs m.opened = ap (λ (z : Seen). rest_of z m.opened) is ∙ rest_of-append vs _ m.opened sound.opened in
    let named : name_at (seen_of fs.items) i ≡ name = ap (λ (z : Seen). name_at z i) is ∙ ap (name_at (vs ++ (name, []) ∷ [])) at ∙ name_at-last vs name [] in
    λ j. record (outside_of m) { files = Some (files j); rest = rest j; is_created = true; created = Some (named j) }

pub create_sound : (m : Inside) (fs : Vec Version Global) (name : List ℕ) (i : ℕ) → seen_of fs.items ≡ seen_of m.files.items ++ (name, []) ∷ [] → i ≡ length (seen_of m.files.items) → IsSound m
    → IsSound (record m { files = fs; created = Some i })
create_sound m fs name i is at sound =
    let vs = seen_of m.files.items in
    record {
      chunk = sound.chunk;
      opens = sound.opens;
      reads = sound.reads;
      creates = sound.creates;
      writes = sound.writes;
      opened = subst (λ (z : Seen). IfSome m.opened (IsPlace z)) (sym is) (places-append vs _ m.opened sound.opened);
      created = subst (λ (z : Seen). IsNewest z (name_at z i) i) (sym is) (subst (λ k. IsNewest (vs ++ (name, []) ∷ []) (name_at (vs ++ (name, []) ∷ []) k) k) (sym at) (last_is_newest vs name []));
    }

pub puts_file : (m : Inside) (fs : Vec Version Global) (name bytes : List ℕ) (to : Option ℕ) → seen_of fs.items ≡ seen_of m.files.items ++ (name, bytes) ∷ [] → to ≡ moved (seen_of m.files.items) m.created name → IsSound m
    → outside_of (record m { files = fs; created = to }) ≡ with_contents name bytes (outside_of m)
puts_file m fs name bytes to is at sound =
    let vs = seen_of m.files.items in
    let moves = moves vs m.created name bytes sound.created in
    let files : files_of (seen_of fs.items) ≡ map.insert (files_of vs) name bytes = ap files_of is ∙ files_of-append vs name bytes in
    let rest : rest_of (seen_of fs.items) m.opened ≡ rest_of vs m.opened = ap (λ (z : Seen). rest_of z m.opened) is ∙ rest_of-append vs _ m.opened sound.opened in
    let some : is_some to ≡ is_some m.created = ap is_some at ∙ moves.some in
    let named : option_map (name_at (seen_of fs.items)) to ≡ option_map (name_at vs) m.created = ap (λ (z : Seen). option_map (name_at z) to) is ∙ ap (option_map (name_at (vs ++ (name, bytes) ∷ []))) at ∙ moves.named in
    λ j. record (outside_of m) { files = Some (files j); rest = rest j; is_created = some j; created = named j }

pub put_file_sound : (m : Inside) (fs : Vec Version Global) (name bytes : List ℕ) (to : Option ℕ) → seen_of fs.items ≡ seen_of m.files.items ++ (name, bytes) ∷ [] → to ≡ moved (seen_of m.files.items) m.created name → IsSound m
    → IsSound (record m { files = fs; created = to })
put_file_sound m fs name bytes to is at sound =
    let vs = seen_of m.files.items in
    let moves = moves vs m.created name bytes sound.created in
    record {
      chunk = sound.chunk;
      opens = sound.opens;
      reads = sound.reads;
      creates = sound.creates;
      writes = sound.writes;
      opened = subst (λ (z : Seen). IfSome m.opened (IsPlace z)) (sym is) (places-append vs _ m.opened sound.opened);
      created = subst (λ (z : Seen). IfSome to (λ i. IsNewest z (name_at z i) i)) (sym is) (subst (λ (o : Option ℕ). IfSome o (λ i. IsNewest (vs ++ (name, bytes) ∷ []) (name_at (vs ++ (name, bytes) ∷ []) i) i)) (sym at) moves.newest);
    }

-- ---- the created file is lengthened

both_none : (a b : Option (List ℕ)) → or_else a b ≡ None → (a ≡ None) × (b ≡ None)
both_none None b h = (refl, h)
both_none (Some a) b h = absurd (some_none h)
  where
    some_none : {x : List ℕ} → Some x ≡ None → ⊥
    some_none h = cc

still_none : (t : Bool) (x y : List ℕ) → cond t (Some x) None ≡ None → cond t (Some y) None ≡ None
still_none true x y h = absurd (some_none h)
  where
    some_none : {x : List ℕ} → Some x ≡ None → ⊥
    some_none h = cc
still_none false x y h = refl

found_none : (vs : Seen) (i : ℕ) (b n : List ℕ) → found vs n ≡ None → found (lengthened vs i b) n ≡ None
found_none [] i b n h = refl
found_none (v ∷ vs) zero b n h = let both = both_none (found vs n) _ h in rw both.0 (still_none (same_name n v.0) v.1 (v.1 ++ b) both.1)
found_none (v ∷ vs) (suc i) b n h = let both = both_none (found vs n) _ h in rw (found_none vs i b n both.0) both.1

newest_lengthened : (vs : Seen) (i j : ℕ) (b n : List ℕ) → IsNewest vs n j → IsNewest (lengthened vs i b) n j
newest_lengthened [] i j b n h = absurd h
newest_lengthened (v ∷ vs) zero zero b n h = h
newest_lengthened (v ∷ vs) (suc i) zero b n h = (h.0, found_none vs i b n h.1)
newest_lengthened (v ∷ vs) zero (suc j) b n h = h
newest_lengthened (v ∷ vs) (suc i) (suc j) b n h = newest_lengthened vs i j b n h

name_at-lengthened : (vs : Seen) (i j : ℕ) (b : List ℕ) → name_at (lengthened vs i b) j ≡ name_at vs j
name_at-lengthened [] i j b = refl
name_at-lengthened (v ∷ vs) zero zero b = refl
name_at-lengthened (v ∷ vs) zero (suc j) b = refl
name_at-lengthened (v ∷ vs) (suc i) zero b = refl
name_at-lengthened (v ∷ vs) (suc i) (suc j) b = name_at-lengthened vs i j b

length-lengthened : (vs : Seen) (i : ℕ) (b : List ℕ) → length (lengthened vs i b) ≡ length vs
length-lengthened [] i b = refl
length-lengthened (v ∷ vs) zero b = refl
length-lengthened (v ∷ vs) (suc i) b = ap suc (length-lengthened vs i b)

-- a version has what it had, and perhaps more behind it
more_bytes : (vs : Seen) (i j : ℕ) (b : List ℕ) → (more : List ℕ) × (bytes_at (lengthened vs i b) j ≡ bytes_at vs j ++ more)
more_bytes [] i j b = ([], refl)
more_bytes (v ∷ vs) zero zero b = (b, refl)
more_bytes (v ∷ vs) zero (suc j) b = ([], sym (append_none _))
more_bytes (v ∷ vs) (suc i) zero b = ([], sym (append_none _))
more_bytes (v ∷ vs) (suc i) (suc j) b = more_bytes vs i j b

window : (xs more : List ℕ) (from end : ℕ) → from ≤ end → end ≤ length xs → take (end - from) (drop from (xs ++ more)) ≡ take (end - from) (drop from xs)
window xs more from end a b =
    ap (take (end - from)) (drop-append-le from xs more (omega arith)) ∙ take-append-le (end - from) (drop from xs) more (omega (arith, length-drop from xs))

places-lengthened : (vs : Seen) (i : ℕ) (b : List ℕ) (o : Option Opened) → IfSome o (IsPlace vs) → IfSome o (IsPlace (lengthened vs i b))
places-lengthened vs i b None h = tt
places-lengthened vs i b (Some p) h =
    let more = more_bytes vs i p.place b in
    record { place = omega (arith, h.place, length-lengthened vs i b); order = h.order; end = omega (arith, h.end, ap length more.1, length-append (bytes_at vs p.place) more.0) }

rest_of-lengthened : (vs : Seen) (i : ℕ) (b : List ℕ) (o : Option Opened) → IfSome o (IsPlace vs) → rest_of (lengthened vs i b) o ≡ rest_of vs o
rest_of-lengthened vs i b None h = refl
rest_of-lengthened vs i b (Some p) h =
    let more = more_bytes vs i p.place b in
    ap {A = List ℕ} {B = Option (List ℕ)} (λ xs. Some (take (p.end - p.from) (drop p.from xs))) more.1 ∙ ap Some (window (bytes_at vs p.place) more.0 p.from p.end h.order h.end)

or_else-here : (t : Bool) (f : Option (List ℕ)) (x y : List ℕ) → (t ≡ true → f ≡ None) → or_else f (cond t (Some y) None) ≡ cond t (Some y) (or_else f (cond t (Some x) None))
or_else-here true f x y h = rw (h refl) refl
or_else-here false None x y h = refl
or_else-here false (Some z) x y h = refl

or_else-later : (t : Bool) (f o : Option (List ℕ)) (y : List ℕ) → or_else (cond t (Some y) f) o ≡ cond t (Some y) (or_else f o)
or_else-later true f o y = refl
or_else-later false f o y = refl

found-lengthened : (vs : Seen) (i : ℕ) (b n q : List ℕ) → IsNewest vs n i → name_at vs i ≡ n → found (lengthened vs i b) q ≡ cond (same_name q n) (Some (bytes_at vs i ++ b)) (found vs q)
found-lengthened [] i b n q h e = absurd h
found-lengthened (v ∷ vs) zero b n q h e =
    subst (λ z. or_else (found vs q) (cond (same_name q v.0) (Some (v.1 ++ b)) None) ≡ cond (same_name q z) (Some (v.1 ++ b)) (or_else (found vs q) (cond (same_name q v.0) (Some v.1) None))) e
    (or_else-here (same_name q v.0) (found vs q) v.1 (v.1 ++ b) (λ t. ap (found vs) (name_is q v.0 t ∙ e) ∙ h.1))
found-lengthened (v ∷ vs) (suc i) b n q h e =
    ap (λ z. or_else z (cond (same_name q v.0) (Some v.1) None)) (found-lengthened vs i b n q h e) ∙ or_else-later (same_name q n) (found vs q) _ (bytes_at vs i ++ b)

files_of-lengthened : (vs : Seen) (i : ℕ) (b : List ℕ) → IsNewest vs (name_at vs i) i → files_of (lengthened vs i b) ≡ extended_by b (Some (name_at vs i)) (files_of vs)
files_of-lengthened vs i b h =
    let n = name_at vs i in
    let had : map.get (files_of vs) n ≡ Some (bytes_at vs i) = get-files_of vs n ∙ newest_found vs n i h in
    let to : map.insert (files_of vs) n (bytes_at vs i ++ b) ≡ extended_by b (Some n) (files_of vs) = ap (longer_by b (files_of vs) n) (sym had) in
    same_files _ _ (λ q. get-files_of (lengthened vs i b) q ∙ found-lengthened vs i b n q h refl
    ∙ ap (cond (same_name q n) (Some (bytes_at vs i ++ b))) (sym (get-files_of vs q)) ∙ sym (map.get-insert nat_list_cmp_total (files_of vs) n (bytes_at vs i ++ b) q)) ∙ to

pub wrote_file : (m : Inside) (fs : Vec Version Global) (w : Vec ℕ Global) (i : ℕ) (b : List ℕ) → m.created ≡ Some i → seen_of fs.items ≡ lengthened (seen_of m.files.items) i b → w.items ≡ m.file.items ++ b → IsSound m
    → outside_of (record m { files = fs; file = w }) ≡ written port.File b (outside_of m)
wrote_file m fs w i b made is wrote sound =
    let vs = seen_of m.files.items in
    let newest : IsNewest vs (name_at vs i) i = rw made at sound.created in
    let files : files_of (seen_of fs.items) ≡ extended_by b (option_map (name_at vs) m.created) (files_of vs) =
    ap files_of is ∙ files_of-lengthened vs i b newest ∙ ap (λ (o : Option ℕ). extended_by b (option_map (name_at vs) o) (files_of vs)) (sym made) in
    let rest : rest_of (seen_of fs.items) m.opened ≡ rest_of vs m.opened = ap (λ (z : Seen). rest_of z m.opened) is ∙ rest_of-lengthened vs i b m.opened sound.opened in
    let named : option_map (name_at (seen_of fs.items)) m.created ≡ option_map (name_at vs) m.created =
    ap (λ (z : Seen). option_map (name_at z) m.created) is ∙ ap (option_map (name_at (lengthened vs i b))) made ∙ ap Some (name_at-lengthened vs i i b) ∙ ap (option_map (name_at vs)) (sym made) in
    λ j. record (outside_of m) { files = Some (files j); rest = rest j; file = wrote j; created = named j }

pub wrote_sound : (m : Inside) (fs : Vec Version Global) (w : Vec ℕ Global) (i : ℕ) (b : List ℕ) → m.created ≡ Some i → seen_of fs.items ≡ lengthened (seen_of m.files.items) i b → IsSound m
    → IsSound (record m { files = fs; file = w })
wrote_sound m fs w i b made is sound =
    let vs = seen_of m.files.items in
    let newest : IsNewest vs (name_at vs i) i = rw made at sound.created in
    record {
      chunk = sound.chunk;
      opens = sound.opens;
      reads = sound.reads;
      creates = sound.creates;
      writes = sound.writes;
      opened = subst (λ (z : Seen). IfSome m.opened (IsPlace z)) (sym is) (places-lengthened vs i b m.opened sound.opened);
      created = subst (λ (z : Seen). IfSome m.created (λ j. IsNewest z (name_at z j) j)) (sym is)
          (subst (λ (o : Option ℕ). IfSome o (λ j. IsNewest (lengthened vs i b) (name_at (lengthened vs i b) j) j)) (sym made)
          (subst (λ n. IsNewest (lengthened vs i b) n i) (sym (name_at-lengthened vs i i b)) (newest_lengthened vs i i b (name_at vs i) newest)));
    }
