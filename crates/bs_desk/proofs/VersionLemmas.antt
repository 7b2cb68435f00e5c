-- Versions of files, and the files that they are.
use Rattle.std.proofs.Common.{◌≡◌, ℕ, zero, suc, ◌+◌, ◌<◌, Bool, true, false, cond, List, [], ◌∷◌, ◌++◌, length, take, Option, Some, None, refl, sym, ap, subst, ◌∙◌, arith, get_or, set, Result, Ok, Err, is_ok, OnOk, OnErr, MatchOption, option_map, is_some}
use Rattle.std.specs.Prelude.{IfSome}
use Rattle.std.proofs.lemmas.Cmp.{nat_list_cmp_total, eq_by_cmp_equiv}
use Rattle.std.specs.FinMap as map
use Rattle.std.specs.declared.alloc.AllocError.{AllocError}
use Rattle.bs_desk.specs.declared.versions.Version.{Version}
use Rattle.bs_desk.specs.Outside.{Files}
use Rattle.bs_desk.specs.Versions.{Seen, seen_of, lengthened, name_at, same_name, or_else, found, over, files_of, IsNewest, bytes_at, moved}
use Rattle.bs_desk.proofs.WrittenLemmas.{append_none, is_equal}

or_else_assoc : (a b : Option (List ℕ)) (t : Bool) (x : List ℕ) → or_else a (cond t (Some x) b) ≡ or_else (or_else a (cond t (Some x) None)) b
or_else_assoc None b true x = refl
or_else_assoc None b false x = refl
or_else_assoc (Some a) b t x = refl

get-over : (files : Files) (vs : Seen) (q : List ℕ) → map.get (over files vs) q ≡ or_else (found vs q) (map.get files q)
get-over files [] q = refl
get-over files (v ∷ vs) q =
    get-over (map.insert files v.0 v.1) vs q
    ∙ ap (or_else (found vs q)) (map.get-insert nat_list_cmp_total files v.0 v.1 q)
    ∙ or_else_assoc (found vs q) (map.get files q) (same_name q v.0) v.1

or_else-none : (a : Option (List ℕ)) → or_else a None ≡ a
or_else-none None = refl
or_else-none (Some a) = refl

pub get-files_of : (vs : Seen) (q : List ℕ) → map.get (files_of vs) q ≡ found vs q
get-files_of vs q = get-over map.empty vs q ∙ ap (or_else (found vs q)) (map.get-empty _ q) ∙ or_else-none (found vs q)

pub newest_found : (vs : Seen) (name : List ℕ) (i : ℕ) → IsNewest vs name i → found vs name ≡ Some (bytes_at vs i)
newest_found [] name i h = absurd h
newest_found (v ∷ vs) name zero h = rw (h.1, h.0) refl
newest_found (v ∷ vs) name (suc i) h = rw (newest_found vs name i h) refl

pub newest_within : (vs : Seen) (name : List ℕ) (i : ℕ) → IsNewest vs name i → i < length vs
newest_within [] name i h = absurd h
newest_within (v ∷ vs) name zero h = omega arith
newest_within (v ∷ vs) name (suc i) h = omega (arith, newest_within vs name i h)

pub bytes_at-seen_of : (vs : List Version) (i : ℕ) (d : Version) → i < length vs → bytes_at (seen_of vs) i ≡ (get_or vs i d).bytes.items
bytes_at-seen_of [] i d h = absurd (omega arith)
bytes_at-seen_of (v ∷ vs) zero d h = refl
bytes_at-seen_of (v ∷ vs) (suc i) d h = bytes_at-seen_of vs i d (omega arith)

pub name_at-seen_of : (vs : List Version) (i : ℕ) (d : Version) → i < length vs → name_at (seen_of vs) i ≡ (get_or vs i d).name.items
name_at-seen_of [] i d h = absurd (omega arith)
name_at-seen_of (v ∷ vs) zero d h = refl
name_at-seen_of (v ∷ vs) (suc i) d h = name_at-seen_of vs i d (omega arith)

pub length-seen_of : (vs : List Version) → length (seen_of vs) ≡ length vs
length-seen_of [] = refl
length-seen_of (v ∷ vs) = ap suc (length-seen_of vs)

pub seen_of-append : (xs ys : List Version) → seen_of (xs ++ ys) ≡ seen_of xs ++ seen_of ys
seen_of-append [] ys = refl
seen_of-append (v ∷ xs) ys = ap (λ z. (v.name.items, v.bytes.items) ∷ z) (seen_of-append xs ys)

pub pair_is : (n n' b b' : List ℕ) → n ≡ n' → b ≡ b' → ◌≡◌ {A = List ℕ × List ℕ} (n, b) (n', b')
pair_is n n' b b' p q i = (p i, q i)

-- ---- one version is lengthened

set_lengthens : (vs : List Version) (i : ℕ) (d v : Version) (bytes : List ℕ) → i < length vs → v.name.items ≡ (get_or vs i d).name.items → v.bytes.items ≡ (get_or vs i d).bytes.items ++ bytes
    → seen_of (set vs i v) ≡ lengthened (seen_of vs) i bytes
set_lengthens [] i d v bytes h n b = absurd (omega arith)
set_lengthens (x ∷ vs) zero d v bytes h n b = ap (λ z. z ∷ seen_of vs) (pair_is _ _ _ _ n b)
set_lengthens (x ∷ vs) (suc i) d v bytes h n b = ap (λ z. (x.name.items, x.bytes.items) ∷ z) (set_lengthens vs i d v bytes (omega arith) n b)

lengthened-none : (vs : Seen) (i : ℕ) → lengthened vs i [] ≡ vs
lengthened-none [] i = refl
lengthened-none (v ∷ vs) zero = ap (λ z. z ∷ vs) (pair_is v.0 v.0 _ _ refl (append_none v.1))
lengthened-none (v ∷ vs) (suc i) = ap (λ z. v ∷ z) (lengthened-none vs i)

pub on_ok : (r : Result (Unit {0}) AllocError) (vs : List Version) (i : ℕ) (d v : Version) (bytes : List ℕ) → i < length vs → v.name.items ≡ (get_or vs i d).name.items → v.bytes.items ≡ cond (is_ok r) ((get_or vs i d).bytes.items ++ bytes) (get_or vs i d).bytes.items
    → OnOk r (seen_of (set vs i v) ≡ lengthened (seen_of vs) i bytes)
on_ok (Ok u) vs i d v bytes h n b = set_lengthens vs i d v bytes h n b
on_ok (Err e) vs i d v bytes h n b = tt

pub on_err : (r : Result (Unit {0}) AllocError) (vs : List Version) (i : ℕ) (d v : Version) (bytes : List ℕ) → i < length vs → v.name.items ≡ (get_or vs i d).name.items → v.bytes.items ≡ cond (is_ok r) ((get_or vs i d).bytes.items ++ bytes) (get_or vs i d).bytes.items
    → OnErr r (seen_of (set vs i v) ≡ seen_of vs)
on_err (Ok u) vs i d v bytes h n b = tt
on_err (Err e) vs i d v bytes h n b = set_lengthens vs i d v [] h n (b ∙ sym (append_none _)) ∙ lengthened-none (seen_of vs) i

-- ---- the newest version is sought from the first to the last

same_self : (n : List ℕ) → same_name n n ≡ true
same_self n = (eq_by_cmp_equiv nat_list_cmp_total).refl n

found_other : (vs : Seen) (name n b : List ℕ) → same_name name n ≡ false → found (vs ++ (n, b) ∷ []) name ≡ found vs name
found_other [] name n b t = rw t refl
found_other (v ∷ vs) name n b t = ap (λ o. or_else o (cond (same_name name v.0) (Some v.1) None)) (found_other vs name n b t)

newest_other : (vs : Seen) (name n b : List ℕ) (i : ℕ) → same_name name n ≡ false → IsNewest vs name i → IsNewest (vs ++ (n, b) ∷ []) name i
newest_other [] name n b i t h = absurd h
newest_other (v ∷ vs) name n b zero t h = (h.0, found_other vs name n b t ∙ h.1)
newest_other (v ∷ vs) name n b (suc i) t h = newest_other vs name n b i t h

pub newest_last : (vs : Seen) (name n b : List ℕ) → same_name name n ≡ true → IsNewest (vs ++ (n, b) ∷ []) name (length vs)
newest_last [] name n b t = (t, refl)
newest_last (v ∷ vs) name n b t = newest_last vs name n b t

abbrev pub IsSought : Seen → List ℕ → Option ℕ → Type 0
IsSought vs name o = MatchOption o (found vs name ≡ None) (IsNewest vs name)

pub sought_other : (vs : Seen) (name n b : List ℕ) (o : Option ℕ) → same_name name n ≡ false → IsSought vs name o → IsSought (vs ++ (n, b) ∷ []) name o
sought_other vs name n b None t h = found_other vs name n b t ∙ h
sought_other vs name n b (Some i) t h = newest_other vs name n b i t h

pub seen_of-take : (vs : List Version) (i : ℕ) (d : Version) → i < length vs → seen_of (take (i + 1) vs) ≡ seen_of (take i vs) ++ ((get_or vs i d).name.items, (get_or vs i d).bytes.items) ∷ []
seen_of-take [] i d h = absurd (omega arith)
seen_of-take (v ∷ vs) zero d h = refl
seen_of-take (v ∷ vs) (suc i) d h =
    let next : suc i + 1 ≡ suc (i + 1) = omega arith in
    rw next (ap (λ z. (v.name.items, v.bytes.items) ∷ z) (seen_of-take vs i d (omega arith)))

-- ---- a version is put behind all others

over-append : (files : Files) (vs : Seen) (n b : List ℕ) → over files (vs ++ (n, b) ∷ []) ≡ map.insert (over files vs) n b
over-append files [] n b = refl
over-append files (v ∷ vs) n b = over-append (map.insert files v.0 v.1) vs n b

pub files_of-append : (vs : Seen) (n b : List ℕ) → files_of (vs ++ (n, b) ∷ []) ≡ map.insert (files_of vs) n b
files_of-append vs n b = over-append map.empty vs n b

pub bytes_at-append : (vs ys : Seen) (i : ℕ) → i < length vs → bytes_at (vs ++ ys) i ≡ bytes_at vs i
bytes_at-append [] ys i h = absurd (omega arith)
bytes_at-append (v ∷ vs) ys zero h = refl
bytes_at-append (v ∷ vs) ys (suc i) h = bytes_at-append vs ys i (omega arith)

name_at-append : (vs ys : Seen) (i : ℕ) → i < length vs → name_at (vs ++ ys) i ≡ name_at vs i
name_at-append [] ys i h = absurd (omega arith)
name_at-append (v ∷ vs) ys zero h = refl
name_at-append (v ∷ vs) ys (suc i) h = name_at-append vs ys i (omega arith)

pub name_at-last : (vs : Seen) (n b : List ℕ) → name_at (vs ++ (n, b) ∷ []) (length vs) ≡ n
name_at-last [] n b = refl
name_at-last (v ∷ vs) n b = name_at-last vs n b

-- the last version is the newest of its name
pub last_is_newest : (vs : Seen) (n b : List ℕ) → IsNewest (vs ++ (n, b) ∷ []) (name_at (vs ++ (n, b) ∷ []) (length vs)) (length vs)
last_is_newest vs n b = subst (λ name. IsNewest (vs ++ (n, b) ∷ []) name (length vs)) (sym (name_at-last vs n b)) (newest_last vs n n b (same_self n))

pub name_is : (q n : List ℕ) → same_name q n ≡ true → q ≡ n
name_is q n t = map.slice_cmp-IsAntisymmetric map.nat_cmp-IsAntisymmetric q n (is_equal _ t)

-- the created file, where it stands now: it has its old name, and is the newest of it
pub record Moves (vs : Seen) (old : Option ℕ) (n b : List ℕ) (new : Option ℕ) : Type 0 where
  pub some : is_some new ≡ is_some old
  pub named : option_map (name_at (vs ++ (n, b) ∷ [])) new ≡ option_map (name_at vs) old
  pub newest : IfSome new (λ i. IsNewest (vs ++ (n, b) ∷ []) (name_at (vs ++ (n, b) ∷ []) i) i)

moves_by : (vs : Seen) (place : ℕ) (n b : List ℕ) (t : Bool) → same_name (name_at vs place) n ≡ t → IsNewest vs (name_at vs place) place → Moves vs (Some place) n b (cond t (Some (length vs)) (Some place))
moves_by vs place n b true is h = record {
  some = refl;
  named = ap Some (name_at-last vs n b ∙ sym (name_is _ _ is));
  newest = last_is_newest vs n b;
}
moves_by vs place n b false is h =
    let stays : name_at (vs ++ (n, b) ∷ []) place ≡ name_at vs place = name_at-append vs ((n, b) ∷ []) place (newest_within vs _ place h) in
    record {
      some = refl;
      named = ap Some stays;
      newest = subst (λ name. IsNewest (vs ++ (n, b) ∷ []) name place) (sym stays) (newest_other vs (name_at vs place) n b place is h);
    }

pub moves : (vs : Seen) (o : Option ℕ) (n b : List ℕ) → IfSome o (λ i. IsNewest vs (name_at vs i) i) → Moves vs o n b (moved vs o n)
moves vs None n b h = record { some = refl; named = refl; newest = tt }
moves vs (Some place) n b h = moves_by vs place n b (same_name (name_at vs place) n) refl h

pub created_within : (vs : Seen) (o : Option ℕ) → IfSome o (λ i. IsNewest vs (name_at vs i) i) → IfSome o (λ i. i < length vs)
created_within vs None h = tt
created_within vs (Some i) h = newest_within vs (name_at vs i) i h
