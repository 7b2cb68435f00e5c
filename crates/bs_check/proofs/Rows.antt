-- The rows of the table of touches.
use Rattle.std.proofs.Common.{◌≡◌, ◌≢◌, ◌<◌, ◌≤◌, ◌==◌, ◌+◌, ◌||◌, ◌∙◌, ℕ, zero, suc, Bool, true, false, if◌then◌else◌, List, [], ◌∷◌, length, get_or, set, slice_get, drop, map, Option, Some, None, refl, subst, sym, ap, eqb-true, eq-eqb, All, length-set, arith, is_some}
use Rattle.std.proofs.Math.Bool.{or_assoc}
use Rattle.std.proofs.lemmas.Bool.{eqb-false, ne_eqb}
use Rattle.std.proofs.lemmas.List.{get_or-set_same, drop_more, at_drop_all}
use Rattle.std.proofs.lemmas.Option.{slice_get-get_or}
use Rattle.bs_tree.specs.declared.tree.NameId.{NameId}
use Rattle.bs_tree.specs.Reads.{any_true, is_same}
use Rattle.bs_check.specs.declared.touches.Touch.{Touch}
use Rattle.bs_check.specs.declared.touches.Touches.{Touches}
use Rattle.bs_check.specs.Touches.{Holder, Seen, or_part, held, touched, note, seen_in, seen_if, seen, size, IsBehind, Keeps, Noted, IsFlagged, pair_of, shared_from}
use Rattle.bs_tree.specs.declared.tree.VarDecl.{VarDecl}

-- rows of earlier `overlap`s count as empty
nothing_in : (o : ℕ) (xs : List Touch) (n : ℕ) → All (λ t. t.overlap < o) xs → seen_if o (slice_get xs n) ≡ None
nothing_in o [] n h = refl
nothing_in o (x ∷ xs) zero h = let less = h 0 x (omega arith) in let other : x.overlap ≢ o = omega arith in rw (ne_eqb x.overlap o other) refl
nothing_in o (x ∷ xs) (suc n) h = nothing_in o xs n (λ k d l. h (suc k) d (omega arith))

pub nothing_yet : (ts : Touches) (o : ℕ) (name : NameId) → IsBehind ts o → seen (record ts { overlap = o; clashes = false }) name ≡ None
unfolding seen IsBehind
nothing_yet ts o name h = nothing_in o ts.touches.items name.0 h

pub behind_next : (ts : Touches) (o : ℕ) → IsBehind ts o → IsBehind (record ts { overlap = o; clashes = false }) (o + 1)
unfolding IsBehind
behind_next ts o h k d l = let less = h k d l in omega arith

pub behind_more : (ts : Touches) (o : ℕ) → IsBehind ts o → IsBehind ts (o + 1)
unfolding IsBehind
behind_more ts o h k d l = let less = h k d l in omega arith

get_set_other : (xs : List Touch) (i n : ℕ) (t : Touch) → n ≢ i → slice_get (set xs i t) n ≡ slice_get xs n
get_set_other [] i n t h = refl
get_set_other (x ∷ xs) zero zero t h = absurd (h refl)
get_set_other (x ∷ xs) zero (suc n) t h = refl
get_set_other (x ∷ xs) (suc i) zero t h = refl
get_set_other (x ∷ xs) (suc i) (suc n) t h = get_set_other xs i n t (λ e. h (ap suc e))

get_set_same : (xs : List Touch) (i : ℕ) (t : Touch) → i < length xs → slice_get (set xs i t) i ≡ Some t
get_set_same xs i t h =
    let within : i < length (set xs i t) = omega (arith, length-set xs i t) in
    slice_get-get_or (set xs i t) i t within ∙ ap Some (get_or-set_same xs i t t h)

pub touched_row : (o part : ℕ) (w : Bool) (xs : List Touch) (i n : ℕ) (t : Touch) (b : Bool) → (i == n) ≡ b → i < length xs → seen_in o t ≡ touched part w (seen_in o (get_or xs i t)) →
    seen_if o (slice_get (set xs i t) n) ≡ (if b then touched part w (seen_if o (slice_get xs n)) else seen_if o (slice_get xs n))
touched_row o part w xs i n t true e h s =
    let same = eqb-true i n e in
    rw (← same, get_set_same xs i t h, slice_get-get_or xs i t h) s
touched_row o part w xs i n t false e h s =
    let other : n ≢ i = λ q. eqb-false i n e (sym q) in
    ap (seen_if o) (get_set_other xs i n t other)

-- ---- where no two parts clash

neither : (a b : Bool) → (a || b) ≡ false → (a ≡ false) × (b ≡ false)
neither true b h = absurd (cc)
neither false b h = (refl, h)

none_here : (o : Option ℕ) → is_some o ≡ false → o ≡ None
none_here None h = refl
none_here (Some k) h = absurd (cc)

no_pair_row : (o part : ℕ) (w b : Bool) → pair_of (if b then Some (record { part = part; writes = w; other = None }) else None) ≡ None
no_pair_row o part w true = refl
no_pair_row o part w false = refl

no_pair_of : (o : ℕ) (t : Touch) → t.other ≡ None → pair_of (seen_in o t) ≡ None
no_pair_of o t h = rw h (no_pair_row o t.part t.writes (t.overlap == o))

no_pair_in : (o : ℕ) (xs : List Touch) (i n : ℕ) (t : Touch) (b : Bool) → (i == n) ≡ b → i < length xs → t.other ≡ None → ((m : ℕ) → pair_of (seen_if o (slice_get xs m)) ≡ None) → pair_of (seen_if o (slice_get (set xs i t) n)) ≡ None
no_pair_in o xs i n t true e h none all = let same = eqb-true i n e in rw (← same, get_set_same xs i t h) (no_pair_of o t none)
no_pair_in o xs i n t false e h none all =
    let other : n ≢ i = λ q. eqb-false i n e (sym q) in
    rw (get_set_other xs i n t other) (all n)

pub flagged_touch : (ts : Touches) (i : ℕ) (t : Touch) (clashes : Bool) → i < length ts.touches.items → clashes ≡ (ts.clashes || is_some t.other) → IsFlagged ts → clashes ≡ false → (name : NameId) → pair_of (seen_if ts.overlap (slice_get (set ts.touches.items i t) name.0)) ≡ None
unfolding IsFlagged seen
flagged_touch ts i t clashes within is flagged none name =
    let both = neither ts.clashes (is_some t.other) (sym is ∙ none) in
    no_pair_in ts.overlap ts.touches.items i name.0 t (i == name.0) refl within (none_here t.other both.1) (λ m. flagged both.0 (record { 0 = m }))

pub flagged_start : (ts : Touches) → ((name : NameId) → seen ts name ≡ None) → IsFlagged ts
unfolding IsFlagged
flagged_start ts nothing none name = rw (nothing name) refl

pub unshared : (ts : Touches) → IsFlagged ts → ts.clashes ≡ false → (v : ℕ) (vs : List VarDecl) → shared_from v vs ts ≡ None
unfolding IsFlagged
unshared ts flagged none v [] = refl
unshared ts flagged none v (d ∷ ds) = rw (flagged none d.name, unshared ts flagged none (v + 1) ds) refl

same_number : (n : ℕ) → (n == n) ≡ true
same_number n = eq-eqb n n refl

or_part_twice : (o : Option ℕ) (a b c : Bool) (part : ℕ) → or_part (or_part o (a || b) part) (a || c) part ≡ or_part o (a || (b || c)) part
or_part_twice (Some k) a b c part = refl
or_part_twice None true b c part = refl
or_part_twice None false true c part = refl
or_part_twice None false false c part = refl

held_twice : (part : ℕ) (w v : Bool) (h : Holder) (b : Bool) → (h.part == part) ≡ b → held part v (held part w h) ≡ held part (w || v) h
held_twice part w v h true e = rw (e, e, or_assoc h.writes w v) refl
held_twice part w v h false e = rw (e, e, or_part_twice h.other h.writes w v part) refl

touched_twice : (part : ℕ) (w v : Bool) (s : Seen) → touched part v (touched part w s) ≡ touched part (w || v) s
touched_twice part w v None = rw (same_number part) refl
touched_twice part w v (Some h) = ap Some (held_twice part w v h (h.part == part) refl)

-- one thing after another is both
pub note_note : (part : ℕ) (r w r' w' : Bool) (s : Seen) → note part r' w' (note part r w s) ≡ note part (r || r') (w || w') s
unfolding note
note_note part true true true true s = touched_twice part true true s
note_note part true true true false s = touched_twice part true false s
note_note part true true false true s = touched_twice part true true s
note_note part true true false false s = refl
note_note part true false true true s = touched_twice part false true s
note_note part true false true false s = touched_twice part false false s
note_note part true false false true s = touched_twice part false true s
note_note part true false false false s = refl
note_note part false true true true s = touched_twice part true true s
note_note part false true true false s = touched_twice part true false s
note_note part false true false true s = touched_twice part true true s
note_note part false true false false s = refl
note_note part false false true true s = refl
note_note part false false true false s = refl
note_note part false false false true s = refl
note_note part false false false false s = refl

pub note_none : (part : ℕ) (s : Seen) → note part false false s ≡ s
unfolding note
note_none part s = refl

keeps_then : {a b c : Touches} → Keeps a b → Keeps b c → Keeps a c
keeps_then one two = record {
  size = two.size ∙ one.size;
  overlap = two.overlap ∙ one.overlap;
  part = two.part ∙ one.part;
  behind = λ n l h. two.behind n (rw one.overlap l) (one.behind n l h);
  flagged = λ h. two.flagged (one.flagged h);
}

pub keeps_itself : (a : Touches) → Keeps a a
keeps_itself a = record { size = refl; overlap = refl; part = refl; behind = λ n l h. h; flagged = λ h. h }

-- nothing was looked at
pub noted_none : (a : Touches) → Noted a a (λ n. false) (λ n. false)
noted_none a = record { keeps = keeps_itself a; noted = λ name l. sym (note_none a.part (seen a name)) }

-- one thing was looked at, and then another
pub noted_then : (a b c : Touches) (r w r' w' : NameId → Bool) → Noted a b r w → Noted b c r' w' → Noted a c (λ n. r n || r' n) (λ n. w n || w' n)
noted_then a b c r w r' w' one two = record {
  keeps = keeps_then one.keeps two.keeps;
  noted = λ name l.
      let within : name.0 < size b = omega (arith, one.keeps.size) in
      rw (two.noted name within, one.noted name l, one.keeps.part) (note_note a.part (r name) (w name) (r' name) (w' name) (seen a name));
}

or_none : (b : Bool) → (b || false) ≡ b
or_none true = refl
or_none false = refl

note_reads : (part : ℕ) (r w r' : Bool) (s : Seen) → note part r' false (note part r w s) ≡ note part (r || r') w s
note_reads part r w r' s = note_note part r w r' false s ∙ ap (λ w. note part (r || r') w s) (or_none w)

note_writes : (part : ℕ) (r w w' : Bool) (s : Seen) → note part false w' (note part r w s) ≡ note part r (w || w') s
note_writes part r w w' s = note_note part r w false w' s ∙ ap (λ r. note part r (w || w') s) (or_none r)

-- what was looked at last writes nothing
pub then_reads : (a b c : Touches) (r w r' : NameId → Bool) → Noted a b r w → Noted b c r' (λ n. false) → Noted a c (λ n. r n || r' n) w
then_reads a b c r w r' one two = record {
  keeps = keeps_then one.keeps two.keeps;
  noted = λ name l.
      let within : name.0 < size b = omega (arith, one.keeps.size) in
      rw (two.noted name within, one.noted name l, one.keeps.part) (note_reads a.part (r name) (w name) (r' name) (seen a name));
}

-- what was looked at last reads nothing
pub then_writes : (a b c : Touches) (r w w' : NameId → Bool) → Noted a b r w → Noted b c (λ n. false) w' → Noted a c r (λ n. w n || w' n)
then_writes a b c r w w' one two = record {
  keeps = keeps_then one.keeps two.keeps;
  noted = λ name l.
      let within : name.0 < size b = omega (arith, one.keeps.size) in
      rw (two.noted name within, one.noted name l, one.keeps.part) (note_writes a.part (r name) (w name) (w' name) (seen a name));
}

-- it is what these say of each name that counts
pub noted_as : (a b : Touches) (r w r' w' : NameId → Bool) → Noted a b r w → ((n : NameId) → r' n ≡ r n) → ((n : NameId) → w' n ≡ w n) → Noted a b r' w'
noted_as a b r w r' w' h f g = record { keeps = h.keeps; noted = λ name l. rw (f name, g name) (h.noted name l) }

-- what was looked at since a loop began, and what is left of it, is all
pub record Left (start now : Touches) (rest_reads rest_writes reads writes : NameId → Bool) : Type 0 where
  pub keeps : Keeps start now
  pub left : (name : NameId) → name.0 < size start → note start.part (rest_reads name) (rest_writes name) (seen now name) ≡ note start.part (reads name) (writes name) (seen start name)

pub left_all : (start : Touches) (r w : NameId → Bool) → Left start start r w r w
left_all start r w = record { keeps = keeps_itself start; left = λ name l. refl }

pub left_none : (start now : Touches) (r w : NameId → Bool) → Left start now (λ n. false) (λ n. false) r w → Noted start now r w
left_none start now r w h = record { keeps = h.keeps; noted = λ name l. sym (note_none start.part (seen now name)) ∙ h.left name l }

pub left_as : (start now : Touches) (r w r' w' reads writes : NameId → Bool) → Left start now r w reads writes → ((n : NameId) → r' n ≡ r n) → ((n : NameId) → w' n ≡ w n) → Left start now r' w' reads writes
left_as start now r w r' w' reads writes h f g = record { keeps = h.keeps; left = λ name l. rw (f name, g name) (h.left name l) }

pub left_more : (start now next : Touches) (r w r' w' reads writes : NameId → Bool) → Left start now (λ n. r n || r' n) (λ n. w n || w' n) reads writes → Noted now next r w → Left start next r' w' reads writes
left_more start now next r w r' w' reads writes h one = record {
  keeps = keeps_then h.keeps one.keeps;
  left = λ name l.
      let within : name.0 < size now = omega (arith, h.keeps.size) in
      let noted : seen next name ≡ note start.part (r name) (w name) (seen now name) = one.noted name within ∙ ap (λ part. note part (r name) (w name) (seen now name)) h.keeps.part in
      rw noted (note_note start.part (r name) (w name) (r' name) (w' name) (seen now name) ∙ h.left name l);
}

pub drop_item : {X : Type 0} (xs : List X) (i : ℕ) (x d : X) → i < length xs → x ≡ get_or xs i d → drop i xs ≡ x ∷ drop (i + 1) xs
drop_item xs i x d h e = drop_more xs i d h ∙ ap (λ y. y ∷ drop (i + 1) xs) (sym e)

pub drop_none : {X : Type 0} (xs : List X) (i : ℕ) → length xs ≤ i → drop i xs ≡ []
drop_none xs i h = at_drop_all (λ ys. ys) xs i h

-- one item of a list was looked at
pub left_item : {X : Type 0} (r w : NameId → X → Bool) (start now next : Touches) (xs : List X) (i : ℕ) (x d : X) (reads writes : NameId → Bool) → i < length xs → x ≡ get_or xs i d →
    Left start now (λ n. any_true (map (r n) (drop i xs))) (λ n. any_true (map (w n) (drop i xs))) reads writes → Noted now next (λ n. r n x) (λ n. w n x) →
    Left start next (λ n. any_true (map (r n) (drop (i + 1) xs))) (λ n. any_true (map (w n) (drop (i + 1) xs))) reads writes
left_item {X} r w start now next xs i x d reads writes h e left one =
    let here = subst (λ (ys : List X). Left start now (λ n. any_true (map (r n) ys)) (λ n. any_true (map (w n) ys)) reads writes) (drop_item xs i x d h e) left in
    left_more start now next (λ n. r n x) (λ n. w n x) (λ n. any_true (map (r n) (drop (i + 1) xs))) (λ n. any_true (map (w n) (drop (i + 1) xs))) reads writes here one

-- the list is at its end
pub left_end : {X : Type 0} (r w : NameId → X → Bool) (start now : Touches) (xs : List X) (i : ℕ) (reads writes : NameId → Bool) → length xs ≤ i →
    Left start now (λ n. any_true (map (r n) (drop i xs))) (λ n. any_true (map (w n) (drop i xs))) reads writes → Noted start now reads writes
left_end {X} r w start now xs i reads writes h left =
    left_none start now reads writes (subst (λ (ys : List X). Left start now (λ n. any_true (map (r n) ys)) (λ n. any_true (map (w n) ys)) reads writes) (drop_none xs i h) left)

-- the same of items that are only read
pub left_read : {X : Type 0} (r : NameId → X → Bool) (start now next : Touches) (xs : List X) (i : ℕ) (x d : X) (reads writes : NameId → Bool) → i < length xs → x ≡ get_or xs i d →
    Left start now (λ n. any_true (map (r n) (drop i xs))) (λ n. false) reads writes → Noted now next (λ n. r n x) (λ n. false) →
    Left start next (λ n. any_true (map (r n) (drop (i + 1) xs))) (λ n. false) reads writes
left_read {X} r start now next xs i x d reads writes h e left one =
    let here = subst (λ (ys : List X). Left start now (λ n. any_true (map (r n) ys)) (λ n. false) reads writes) (drop_item xs i x d h e) left in
    left_more start now next (λ n. r n x) (λ n. false) (λ n. any_true (map (r n) (drop (i + 1) xs))) (λ n. false) reads writes here one

pub left_read_end : {X : Type 0} (r : NameId → X → Bool) (start now : Touches) (xs : List X) (i : ℕ) (reads writes : NameId → Bool) → length xs ≤ i →
    Left start now (λ n. any_true (map (r n) (drop i xs))) (λ n. false) reads writes → Noted start now reads writes
left_read_end {X} r start now xs i reads writes h left =
    left_none start now reads writes (subst (λ (ys : List X). Left start now (λ n. any_true (map (r n) ys)) (λ n. false) reads writes) (drop_none xs i h) left)

-- the same of items that are only written
pub left_write : {X : Type 0} (w : NameId → X → Bool) (start now next : Touches) (xs : List X) (i : ℕ) (x d : X) (reads writes : NameId → Bool) → i < length xs → x ≡ get_or xs i d →
    Left start now (λ n. false) (λ n. any_true (map (w n) (drop i xs))) reads writes → Noted now next (λ n. false) (λ n. w n x) →
    Left start next (λ n. false) (λ n. any_true (map (w n) (drop (i + 1) xs))) reads writes
left_write {X} w start now next xs i x d reads writes h e left one =
    let here = subst (λ (ys : List X). Left start now (λ n. false) (λ n. any_true (map (w n) ys)) reads writes) (drop_item xs i x d h e) left in
    left_more start now next (λ n. false) (λ n. w n x) (λ n. false) (λ n. any_true (map (w n) (drop (i + 1) xs))) reads writes here one

pub left_write_end : {X : Type 0} (w : NameId → X → Bool) (start now : Touches) (xs : List X) (i : ℕ) (reads writes : NameId → Bool) → length xs ≤ i →
    Left start now (λ n. false) (λ n. any_true (map (w n) (drop i xs))) reads writes → Noted start now reads writes
left_write_end {X} w start now xs i reads writes h left =
    left_none start now reads writes (subst (λ (ys : List X). Left start now (λ n. false) (λ n. any_true (map (w n) ys)) reads writes) (drop_none xs i h) left)

note_read : (part : ℕ) (b : Bool) (s : Seen) → (if b then touched part false s else s) ≡ note part b false s
unfolding note
note_read part true s = refl
note_read part false s = refl

note_write : (part : ℕ) (b : Bool) (s : Seen) → (if b then touched part true s else s) ≡ note part false b s
unfolding note
note_write part true s = refl
note_write part false s = refl

pub read_noted : (a b : Touches) (name : NameId) → Keeps a b → ((n : NameId) → n.0 < size a → seen b n ≡ (if is_same name n then touched a.part false (seen a n) else seen a n)) → Noted a b (is_same name) (λ n. false)
read_noted a b name keeps h = record { keeps = keeps; noted = λ n l. h n l ∙ note_read a.part (is_same name n) (seen a n) }

pub write_noted : (a b : Touches) (name : NameId) → Keeps a b → ((n : NameId) → n.0 < size a → seen b n ≡ (if is_same name n then touched a.part true (seen a n) else seen a n)) → Noted a b (λ n. false) (is_same name)
write_noted a b name keeps h = record { keeps = keeps; noted = λ n l. h n l ∙ note_write a.part (is_same name n) (seen a n) }
