-- Names get their numbers one by one, and keep them.
use Rattle.std.proofs.Common.{◌≡◌, ℕ, suc, Bool, true, false, cond, ◌||◌, List, [], ◌∷◌, ◌++◌, length, map, Some, None, refl, sym, ap, subst, ◌∙◌}
use Rattle.std.specs.Map.{update}
use Rattle.std.specs.Str.{bytes_eq}
use Rattle.std.proofs.lemmas.Slice.Eq.{bytes_eq-Decides}
use Rattle.bs_tree.specs.Symbol as s
use Rattle.bs_tree.specs.Symbol.{Symbol}
use Rattle.bs_tree.specs.Rule as g
use Rattle.bs_tree.specs.Rule.{Terminal}
use Rattle.bs_tree.specs.declared.tree.Name.{Name}
use Rattle.bs_parse.specs.Text.{is_among, known_with, known_after, place_of, numbered, terminals_of, as_name}
use Rattle.bs_parse.specs.Naming.{texts, place_among}
use Rattle.bs_parse.proofs.Basics.{Test, test, holds, fails, either_left}

-- ---- texts that are equal

pub same_bytes : (a b : List ℕ) → bytes_eq a b ≡ true → a ≡ b
same_bytes a b e = (bytes_eq-Decides a b).0 e

pub bytes_themselves : (a : List ℕ) → bytes_eq a a ≡ true
bytes_themselves a = (bytes_eq-Decides a a).1 refl

pub other_bytes : (a b : List ℕ) → bytes_eq a b ≡ false → bytes_eq b a ≡ false
other_bytes a b e = by (test (bytes_eq b a))
  where
    by : Test (bytes_eq b a) → bytes_eq b a ≡ false
    by (fails f) = f
    by (holds f) = let same : bytes_eq a b ≡ true = (bytes_eq-Decides a b).1 (sym (same_bytes b a f)) in absurd (cc)

-- ---- one more name

pub among_append : (xs ys : List (List ℕ)) (q : List ℕ) → is_among q (xs ++ ys) ≡ is_among q xs || is_among q ys
among_append [] ys q = refl
among_append (x ∷ xs) ys q = by (test (bytes_eq q x)) (among_append xs ys q)
  where
    by : Test (bytes_eq q x) → is_among q (xs ++ ys) ≡ is_among q xs || is_among q ys → is_among q ((x ∷ xs) ++ ys) ≡ is_among q (x ∷ xs) || is_among q ys
    by (holds e) more = rw e refl
    by (fails e) more = rw e more

pub place_stays : (xs ys : List (List ℕ)) (q : List ℕ) → is_among q xs ≡ true → place_of (xs ++ ys) q ≡ place_of xs q
place_stays [] ys q h = absurd (cc)
place_stays (x ∷ xs) ys q h = by (test (bytes_eq q x)) (place_stays xs ys q)
  where
    by : Test (bytes_eq q x) → (is_among q xs ≡ true → place_of (xs ++ ys) q ≡ place_of xs q) → place_of ((x ∷ xs) ++ ys) q ≡ place_of (x ∷ xs) q
    by (holds e) more = rw e refl
    by (fails e) more = let among : is_among q xs ≡ true = rw e at h in rw e (ap suc (more among))

pub place_behind : (xs : List (List ℕ)) (q : List ℕ) → is_among q xs ≡ false → place_of (xs ++ q ∷ []) q ≡ length xs
place_behind [] q h = rw (bytes_themselves q) refl
place_behind (x ∷ xs) q h = by (test (bytes_eq q x)) (place_behind xs q)
  where
    by : Test (bytes_eq q x) → (is_among q xs ≡ false → place_of (xs ++ q ∷ []) q ≡ length xs) → place_of ((x ∷ xs) ++ q ∷ []) q ≡ length (x ∷ xs)
    by (holds e) more = let among : true ≡ false = rw e at h in absurd (cc)
    by (fails e) more = let none : is_among q xs ≡ false = rw e at h in rw e (ap suc (more none))

pub among_itself : (xs : List (List ℕ)) (q : List ℕ) → is_among q (xs ++ q ∷ []) ≡ true
among_itself xs q = among_append xs (q ∷ []) q ∙ by (test (is_among q xs))
  where
    by : Test (is_among q xs) → is_among q xs || is_among q (q ∷ []) ≡ true
    by (holds e) = rw e refl
    by (fails e) = rw (e, bytes_themselves q) refl

-- the names with one that isn't among them
pub place_among_more : (xs : List (List ℕ)) (name q : List ℕ) → is_among name xs ≡ false → update bytes_eq (place_among xs) name (Some (length xs)) q ≡ place_among (xs ++ name ∷ []) q
place_among_more xs name q none = by (test (bytes_eq name q))
  where
    with_it : (b : Bool) → b ≡ true → (n : ℕ) → cond b (Some n) None ≡ Some n
    with_it true e n = refl
    with_it false e n = absurd (cc)

    both : (a b : Bool) (m n : ℕ) → a ≡ b → (a ≡ true → m ≡ n) → cond a (Some m) None ≡ cond b (Some n) None
    both true true m n e f = ap Some (f refl)
    both false false m n e f = refl
    both true false m n e f = absurd (cc)
    both false true m n e f = absurd (cc)

    by : Test (bytes_eq name q) → update bytes_eq (place_among xs) name (Some (length xs)) q ≡ place_among (xs ++ name ∷ []) q
    by (holds e) =
        let same : name ≡ q = same_bytes name q e in
        let there : place_among (xs ++ name ∷ []) name ≡ Some (length xs) = with_it (is_among name (xs ++ name ∷ [])) (among_itself xs name) (place_of (xs ++ name ∷ []) name) ∙ ap Some (place_behind xs name none) in
        rw e (sym there ∙ ap (place_among (xs ++ name ∷ [])) same)
    by (fails e) =
        let apart : bytes_eq q name ≡ false = other_bytes name q e in
        let last : (b : Bool) → b || (bytes_eq q name || false) ≡ b = λ b. rw apart (no_more b) in
        rw e (both (is_among q xs) (is_among q (xs ++ name ∷ [])) (place_of xs q) (place_of (xs ++ name ∷ []) q)
        (sym (among_append xs (name ∷ []) q ∙ last (is_among q xs))) (λ among. sym (place_stays xs (name ∷ []) q among)))
      where
        no_more : (b : Bool) → b || false ≡ b
        no_more true = refl
        no_more false = refl

pub known_new : (xs : List (List ℕ)) (name : List ℕ) → is_among name xs ≡ false → known_with xs name ≡ xs ++ name ∷ []
known_new xs name none = rw none refl

pub known_old : (xs : List (List ℕ)) (name : List ℕ) → is_among name xs ≡ true → known_with xs name ≡ xs
known_old xs name among = rw among refl

pub not_among : (xs : List (List ℕ)) (name : List ℕ) → place_among xs name ≡ None → is_among name xs ≡ false
not_among xs name h = by (is_among name xs) (place_of xs name) h
  where
    by : (b : Bool) (n : ℕ) → cond b (Some n) None ≡ None → b ≡ false
    by false n e = refl
    by true n e = absurd (cc)

pub place_found : (xs : List (List ℕ)) (name : List ℕ) (n : ℕ) → place_among xs name ≡ Some n → (is_among name xs ≡ true) × (place_of xs name ≡ n)
place_found xs name n h = by (is_among name xs) (place_of xs name) h
  where
    by : (b : Bool) (m : ℕ) → cond b (Some m) None ≡ Some n → (b ≡ true) × (m ≡ n)
    by true m e = (refl, cc)
    by false m e = absurd (cc)

-- ---- all names of some symbols

among_with : (xs : List (List ℕ)) (name : List ℕ) → is_among name (known_with xs name) ≡ true
among_with xs name = by (test (is_among name xs))
  where
    by : Test (is_among name xs) → is_among name (known_with xs name) ≡ true
    by (holds e) = rw (known_old xs name e) e
    by (fails e) = rw (known_new xs name e) (among_itself xs name)

-- a name that is known stays known, with its place
pub record Kept (xs ys : List (List ℕ)) (q : List ℕ) : Type 0 where
  pub among : is_among q ys ≡ true
  pub place : place_of ys q ≡ place_of xs q

kept_with : (xs : List (List ℕ)) (name q : List ℕ) → is_among q xs ≡ true → Kept xs (known_with xs name) q
kept_with xs name q h = by (test (is_among name xs))
  where
    by : Test (is_among name xs) → Kept xs (known_with xs name) q
    by (holds e) = subst (λ ys. Kept xs ys q) (sym (known_old xs name e)) (record { among = h; place = refl })
    by (fails e) = subst (λ ys. Kept xs ys q) (sym (known_new xs name e)) (record { among = among_append xs (name ∷ []) q ∙ either_left (is_among q xs) (is_among q (name ∷ [])) h; place = place_stays xs (name ∷ []) q h })

pub kept_after : (said : List Symbol) (xs : List (List ℕ)) (q : List ℕ) → is_among q xs ≡ true → Kept xs (known_after xs said) q
kept_after [] xs q h = record { among = h; place = refl }
kept_after (s.name name ∷ said) xs q h =
    let one = kept_with xs name q h in
    let more = kept_after said (known_with xs name) q one.among in
    record { among = more.among; place = more.place ∙ one.place }
kept_after (s.number n ∷ said) xs q h = kept_after said xs q h
kept_after (s.word w ∷ said) xs q h = kept_after said xs q h
kept_after (s.mark m ∷ said) xs q h = kept_after said xs q h

-- the symbols numbered one by one, where these names are known before
abbrev pub numbering : List (List ℕ) → List Symbol → List Terminal
numbering names [] = []
numbering names (s.name name ∷ said) = g.name (place_of (known_with names name) name) ∷ numbering (known_with names name) said
numbering names (s.number n ∷ said) = g.number n ∷ numbering names said
numbering names (s.word w ∷ said) = g.word w ∷ numbering names said
numbering names (s.mark m ∷ said) = g.mark m ∷ numbering names said

numbering_is : (said : List Symbol) (names : List (List ℕ)) → numbering names said ≡ map (numbered (known_after names said)) said
numbering_is [] names = refl
numbering_is (s.name name ∷ said) names =
    let k = kept_after said (known_with names name) name (among_with names name) in
    let first : place_of (known_with names name) name ≡ place_of (known_after (known_with names name) said) name = sym k.place in
    let rest = numbering_is said (known_with names name) in
    ap (λ n. g.name n ∷ numbering (known_with names name) said) first ∙ ap (λ ts. g.name (place_of (known_after (known_with names name) said) name) ∷ ts) rest
numbering_is (s.number n ∷ said) names = ap (λ ts. g.number n ∷ ts) (numbering_is said names)
numbering_is (s.word w ∷ said) names = ap (λ ts. g.word w ∷ ts) (numbering_is said names)
numbering_is (s.mark m ∷ said) names = ap (λ ts. g.mark m ∷ ts) (numbering_is said names)

pub numbering_all : (said : List Symbol) → numbering [] said ≡ terminals_of said
numbering_all said = numbering_is said []

-- ---- names as the tree has them

pub texts_back : (names : List Name) → map as_name (texts names) ≡ names
texts_back [] = refl
texts_back (name ∷ names) = ap (λ rest. name ∷ rest) (texts_back names)

pub texts_append : (xs ys : List Name) → texts (xs ++ ys) ≡ texts xs ++ texts ys
texts_append [] ys = refl
texts_append (x ∷ xs) ys = ap (λ rest. x.0 ∷ rest) (texts_append xs ys)

pub texts_length : (xs : List Name) → length (texts xs) ≡ length xs
texts_length [] = refl
texts_length (x ∷ xs) = ap suc (texts_length xs)
