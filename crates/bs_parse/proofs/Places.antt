-- The numbers of the names of a text are the places among them, each of which is used.
use Rattle.std.proofs.Common.{get_or, nat_le, ◌≡◌, ℕ, zero, suc, ◌≤◌, ◌<◌, List, [], ◌∷◌, ◌++◌, length, map, true, false, refl, sym, ap, subst, ◌∙◌, arith, length-append, append_assoc, ◌⊎◌, inl, inr}
use Rattle.std.specs.List.{Contains}
use Rattle.std.specs.Str.{bytes_eq}
use Rattle.std.proofs.lemmas.Bool.{leb-true, leb-false}
use Rattle.std.proofs.lemmas.Slice.Eq.{bytes_eq-Decides}
use Rattle.bs_tree.specs.Symbol as s
use Rattle.bs_tree.specs.Symbol.{Symbol}
use Rattle.bs_parse.specs.Names.{names_among}
use Rattle.bs_parse.specs.Text.{is_among, known_with, known_after, names_of, place_of, numbered, terminals_of}
use Rattle.bs_parse.proofs.Basics.{Test, test, holds, fails, append_none, either_right, neither_left, neither_right}

-- ---- elements

first_in : {A : Type 0} (x : A) (xs : List A) → Contains (x ∷ xs) x
first_in x xs = (0, omega arith, refl)

later_in : {A : Type 0} (x : A) (xs : List A) (y : A) → Contains xs y → Contains (x ∷ xs) y
later_in x xs y h = (suc h.0, omega (arith, h.1), h.2)

none_in : {A : Type 0} (y : A) → Contains [] y → ⊥
none_in y h = omega (arith, h.1)

one_of_them : {A : Type 0} (x : A) (xs : List A) (y : A) → Contains (x ∷ xs) y → (x ≡ y) ⊎ Contains xs y
one_of_them x xs y h = by h.0 h.1 h.2
  where
    by : (k : ℕ) → k < length (x ∷ xs) → get_or (x ∷ xs) k y ≡ y → (x ≡ y) ⊎ Contains xs y
    by zero lt is = inl is
    by (suc k) lt is = inr (k, omega (arith, lt), is)

-- ---- places

itself : (name : List ℕ) → bytes_eq name name ≡ true
itself name = (bytes_eq-Decides name name).1 refl

place_within : (names : List (List ℕ)) (name : List ℕ) → is_among name names ≡ true → place_of names name < length names
place_within [] name h = cc
place_within (known ∷ names) name h = by (test (bytes_eq name known)) (place_within names name)
  where
    by : Test (bytes_eq name known) → (is_among name names ≡ true → place_of names name < length names) → place_of (known ∷ names) name < length (known ∷ names)
    by (holds e) next = rw e (omega arith)
    by (fails e) next = let lt : place_of names name < length names = next (rw e at h) in rw e (omega (arith, lt))

-- the place of a name behind others
place_behind : (names : List (List ℕ)) (name : List ℕ) (more : List (List ℕ)) → is_among name names ≡ false → place_of (names ++ name ∷ more) name ≡ length names
place_behind [] name more h = rw (itself name) refl
place_behind (known ∷ names) name more h =
    let next : place_of (names ++ name ∷ more) name ≡ length names = place_behind names name more (neither_right (bytes_eq name known) (is_among name names) h) in
    rw (neither_left (bytes_eq name known) (is_among name names) h, next) refl

among_front : (names more : List (List ℕ)) (name : List ℕ) → is_among name names ≡ true → is_among name (names ++ more) ≡ true
among_front [] more name h = cc
among_front (known ∷ names) more name h = by (test (bytes_eq name known)) (among_front names more name)
  where
    by : Test (bytes_eq name known) → (is_among name names ≡ true → is_among name (names ++ more) ≡ true) → is_among name ((known ∷ names) ++ more) ≡ true
    by (holds e) next = rw e refl
    by (fails e) next = rw e (next (rw e at h))

among_behind : (names : List (List ℕ)) (name : List ℕ) → is_among name (names ++ name ∷ []) ≡ true
among_behind [] name = rw (itself name) refl
among_behind (known ∷ names) name = either_right (bytes_eq name known) (is_among name (names ++ name ∷ [])) (among_behind names name)

-- ---- the names of symbols

-- names that are known stay in front
known_stay : (names : List (List ℕ)) (said : List Symbol) → (more : List (List ℕ)) × (known_after names said ≡ names ++ more)
known_stay names [] = ([], sym (append_none names))
known_stay names (s.name name ∷ rest) = by (test (is_among name names)) (known_stay (known_with names name) rest)
  where
    by : Test (is_among name names) → (more : List (List ℕ)) × (known_after (known_with names name) rest ≡ known_with names name ++ more) → (more : List (List ℕ)) × (known_after names (s.name name ∷ rest) ≡ names ++ more)
    by (holds e) next = (next.0, let is : known_with names name ≡ names = rw e refl in next.1 ∙ ap (λ ns. ns ++ next.0) is)
    by (fails e) next = (name ∷ next.0, let is : known_with names name ≡ names ++ name ∷ [] = rw e refl in next.1 ∙ ap (λ ns. ns ++ next.0) is ∙ append_assoc names (name ∷ []) next.0)
known_stay names (s.number n ∷ rest) = known_stay names rest
known_stay names (s.word w ∷ rest) = known_stay names rest
known_stay names (s.mark m ∷ rest) = known_stay names rest

now_known : (names : List (List ℕ)) (name : List ℕ) → is_among name (known_with names name) ≡ true
now_known names name = by (test (is_among name names))
  where
    by : Test (is_among name names) → is_among name (known_with names name) ≡ true
    by (holds e) = rw e e
    by (fails e) = rw e (among_behind names name)

still_known : (names : List (List ℕ)) (said : List Symbol) (name : List ℕ) → is_among name names ≡ true → is_among name (known_after names said) ≡ true
still_known names said name h = let w = known_stay names said in subst (λ ns. is_among name ns ≡ true) (sym w.1) (among_front names w.0 name h)

-- ---- numbers are places

below : (names known : List (List ℕ)) (said : List Symbol) → known ≡ known_after names said → (n : ℕ) → Contains (names_among (map (numbered known) said)) n → n < length known
below names known [] is n h = absurd (none_in n h)
below names known (s.name name ∷ rest) is n h = by (one_of_them (place_of known name) (names_among (map (numbered known) rest)) n h) (below (known_with names name) known rest is n)
  where
    by : (place_of known name ≡ n) ⊎ Contains (names_among (map (numbered known) rest)) n → (Contains (names_among (map (numbered known) rest)) n → n < length known) → n < length known
    by (inl same) next =
        let there : is_among name known ≡ true = subst (λ ns. is_among name ns ≡ true) (sym is) (still_known (known_with names name) rest name (now_known names name)) in
        omega (arith, place_within known name there, same)
    by (inr later) next = next later
below names known (s.number z ∷ rest) is n h = below names known rest is n h
below names known (s.word w ∷ rest) is n h = below names known rest is n h
below names known (s.mark m ∷ rest) is n h = below names known rest is n h

used : (names known : List (List ℕ)) (said : List Symbol) → known ≡ known_after names said → (n : ℕ) → length names ≤ n → n < length known → Contains (names_among (map (numbered known) said)) n
used names known [] is n le lt = absurd (omega (arith, le, lt, ap length is))
used names known (s.name name ∷ rest) is n le lt = by (test (is_among name names)) (used (known_with names name) known rest is n)
  where
    by : Test (is_among name names) → (length (known_with names name) ≤ n → n < length known → Contains (names_among (map (numbered known) rest)) n) → Contains (place_of known name ∷ names_among (map (numbered known) rest)) n
    by (holds e) next =
        let same : known_with names name ≡ names = rw e refl in
        later_in (place_of known name) (names_among (map (numbered known) rest)) n (next (omega (arith, le, ap length same)) lt)
    by (fails e) next = first_or_later (test (nat_le n (length names)))
      where
        now : known_with names name ≡ names ++ name ∷ []
        now = rw e refl

        here : place_of known name ≡ length names
        here =
            let w = known_stay (known_with names name) rest in
            let all : known ≡ names ++ name ∷ w.0 = is ∙ w.1 ∙ ap (λ ns. ns ++ w.0) now ∙ append_assoc names (name ∷ []) w.0 in
            subst (λ ns. place_of ns name ≡ length names) (sym all) (place_behind names name w.0 e)

        first_or_later : Test (nat_le n (length names)) → Contains (place_of known name ∷ names_among (map (numbered known) rest)) n
        first_or_later (holds l) = let same : place_of known name ≡ n = omega (arith, here, le, leb-true _ _ l) in subst (λ k. Contains (place_of known name ∷ names_among (map (numbered known) rest)) k) same (first_in (place_of known name) (names_among (map (numbered known) rest)))
        first_or_later (fails l) = later_in (place_of known name) (names_among (map (numbered known) rest)) n (next (omega (arith, leb-false _ _ l, ap length now, length-append names (name ∷ []))) lt)
used names known (s.number z ∷ rest) is n le lt = used names known rest is n le lt
used names known (s.word w ∷ rest) is n le lt = used names known rest is n le lt
used names known (s.mark m ∷ rest) is n le lt = used names known rest is n le lt

-- each number of a name is a place among the names
pub numbers_below : (said : List Symbol) (n : ℕ) → Contains (names_among (terminals_of said)) n → n < length (names_of said)
numbers_below said n h = below [] (names_of said) said refl n h

-- and each place is the number of one
pub numbers_used : (said : List Symbol) (n : ℕ) → n < length (names_of said) → Contains (names_among (terminals_of said)) n
numbers_used said n lt = used [] (names_of said) said refl n (omega arith) lt
