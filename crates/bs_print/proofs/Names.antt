-- Numbering the names of a text and looking them up again.
use Rattle.std.proofs.Common.{◌≡◌, ℕ, suc, Bool, true, false, ◌||◌, List, [], ◌∷◌, ◌++◌, map, refl, sym, ap, ◌∙◌}
use Rattle.std.specs.Prelude.{slice_get, if◌then◌else◌, All}
use Rattle.std.specs.Str.{bytes_eq}
use Rattle.std.proofs.lemmas.Slice.Eq.{bytes_eq-Decides}
use Rattle.std.proofs.lemmas.List.Elements.{All-nil, All-cons}
use Rattle.bs_tree.specs.declared.symbols.Word.{Word}
use Rattle.bs_tree.specs.declared.symbols.Mark.{Mark}
use Rattle.bs_tree.specs.declared.tree.Name.{Name}
use Rattle.bs_tree.specs.Symbol as s
use Rattle.bs_tree.specs.Symbol.{Symbol}
use Rattle.bs_tree.specs.Rule as g
use Rattle.bs_tree.specs.Rule.{Terminal}
use Rattle.bs_parse.specs.Text.{is_among, known_with, known_after, names_of, place_of, numbered, as_name}
use Rattle.bs_print.specs.Canonical.{bytes_of, symbol_in}
use Rattle.bs_print.proofs.Leaner.{leaves}

-- ---- what holds of each item of a list

abbrev pub Each : {A : Type 0} → (A → Type 0) → List A → Type 0
Each P [] = Unit {0}
Each P (x ∷ xs) = P x × Each P xs

pub each_map : {A B : Type 0} (f : A → B) (P : A → Type 0) (Q : B → Type 0) → ((x : A) → P x → Q (f x)) → (xs : List A) → Each P xs → Each Q (map f xs)
each_map f P Q up [] each = tt
each_map f P Q up (x ∷ xs) each = (up x each.0, each_map f P Q up xs each.1)

pub each_both : {A : Type 0} (P Q R : A → Type 0) → ((x : A) → P x → Q x → R x) → (xs : List A) → Each P xs → Each Q xs → Each R xs
each_both P Q R up [] p q = tt
each_both P Q R up (x ∷ xs) p q = (up x p.0 q.0, each_both P Q R up xs p.1 q.1)

pub each_all : {A : Type 0} (P : A → Type 0) (xs : List A) → Each P xs → All P xs
each_all P [] each = All-nil P
each_all P (x ∷ xs) each = All-cons P x xs each.0 (each_all P xs each.1)

pub map_same : {A : Type 0} (f : A → A) (xs : List A) → Each (λ x. f x ≡ x) xs → map f xs ≡ xs
map_same f [] each = refl
map_same f (x ∷ xs) each = ap (λ y. y ∷ map f xs) each.0 ∙ ap (λ ys. x ∷ ys) (map_same f xs each.1)

-- ---- what holds of the names and numbers holds of all terminals, where words and marks have it

pub each_leaf : (P : Terminal → Type 0) (ts : List Terminal) → Each P ts → Each P (leaves ts)
each_leaf P [] each = tt
each_leaf P (g.name n ∷ ts) each = (each.0, each_leaf P ts each.1)
each_leaf P (g.number z ∷ ts) each = (each.0, each_leaf P ts each.1)
each_leaf P (g.word w ∷ ts) each = each_leaf P ts each.1
each_leaf P (g.mark m ∷ ts) each = each_leaf P ts each.1

pub each_whole : (P : Terminal → Type 0) → ((w : Word) → P (g.word w)) → ((m : Mark) → P (g.mark m)) → (ts : List Terminal) → Each P (leaves ts) → Each P ts
each_whole P word mark [] each = tt
each_whole P word mark (g.name n ∷ ts) each = (each.0, each_whole P word mark ts each.1)
each_whole P word mark (g.number z ∷ ts) each = (each.0, each_whole P word mark ts each.1)
each_whole P word mark (g.word w ∷ ts) each = (word w, each_whole P word mark ts each)
each_whole P word mark (g.mark m ∷ ts) each = (mark m, each_whole P word mark ts each)

-- the names of symbols are those of the names and numbers among them
pub names_of_leaves : (names : List Name) (known : List (List ℕ)) (ts : List Terminal) → known_after known (map (symbol_in names) ts) ≡ known_after known (map (symbol_in names) (leaves ts))
names_of_leaves names known [] = refl
names_of_leaves names known (g.name n ∷ ts) = names_of_leaves names (known_with known (bytes_of (slice_get names n))) ts
names_of_leaves names known (g.number z ∷ ts) = names_of_leaves names known ts
names_of_leaves names known (g.word w ∷ ts) = names_of_leaves names known ts
names_of_leaves names known (g.mark m ∷ ts) = names_of_leaves names known ts

-- ---- names that are known

abbrev IsAmong : List (List ℕ) → List ℕ → Type 0
IsAmong names name = is_among name names ≡ true

either_first : (a b : Bool) → a ≡ true → (a || b) ≡ true
either_first true b h = refl
either_first false b h = cc

either_second : (a b : Bool) → b ≡ true → (a || b) ≡ true
either_second true b h = refl
either_second false b h = h

among_front : (name : List ℕ) (names more : List (List ℕ)) → IsAmong names name → IsAmong (names ++ more) name
among_front name [] more h = cc
among_front name (known ∷ names) more h = by (bytes_eq name known) h (among_front name names more)
  where
    by : (b : Bool) → (b || is_among name names) ≡ true → (IsAmong names name → IsAmong (names ++ more) name) → (b || is_among name (names ++ more)) ≡ true
    by true h further = refl
    by false h further = further h

among_last : (name : List ℕ) (names : List (List ℕ)) → IsAmong (names ++ name ∷ []) name
among_last name [] = either_first (bytes_eq name name) false ((bytes_eq-Decides name name).1 refl)
among_last name (known ∷ names) = either_second (bytes_eq name known) (is_among name (names ++ name ∷ [])) (among_last name names)

still_known : (names : List (List ℕ)) (new name : List ℕ) → IsAmong names name → IsAmong (known_with names new) name
still_known names new name h = by (is_among new names)
  where
    by : (b : Bool) → IsAmong (if b then names else names ++ new ∷ []) name
    by true = h
    by false = among_front name names (new ∷ []) h

then_known : (names : List (List ℕ)) (name : List ℕ) → IsAmong (known_with names name) name
then_known names name = by (is_among name names) refl
  where
    by : (b : Bool) → is_among name names ≡ b → IsAmong (if b then names else names ++ name ∷ []) name
    by true h = h
    by false h = among_last name names

kept : (names : List (List ℕ)) (said : List Symbol) (name : List ℕ) → IsAmong names name → IsAmong (known_after names said) name
kept names [] name h = h
kept names (s.name new ∷ said) name h = kept (known_with names new) said name (still_known names new name h)
kept names (s.number z ∷ said) name h = kept names said name h
kept names (s.word w ∷ said) name h = kept names said name h
kept names (s.mark m ∷ said) name h = kept names said name h

-- the name of a symbol is known
abbrev pub IsKnown : List (List ℕ) → Symbol → Type 0
IsKnown names (s.name name) = IsAmong names name
IsKnown names _ = Unit {0}

known_in : (names : List (List ℕ)) (said : List Symbol) → Each (IsKnown (known_after names said)) said
known_in names [] = tt
known_in names (s.name name ∷ said) = (kept (known_with names name) said name (then_known names name), known_in (known_with names name) said)
known_in names (s.number z ∷ said) = (tt, known_in names said)
known_in names (s.word w ∷ said) = (tt, known_in names said)
known_in names (s.mark m ∷ said) = (tt, known_in names said)

pub all_known : (said : List Symbol) → Each (IsKnown (names_of said)) said
all_known said = known_in [] said

-- ---- a known name is found at its place

found_at : (names : List (List ℕ)) (name : List ℕ) → IsAmong names name → bytes_of (slice_get (map as_name names) (place_of names name)) ≡ name
found_at [] name h = cc
found_at (known ∷ names) name h = by (bytes_eq name known) refl h (found_at names name)
  where
    by : (b : Bool) → bytes_eq name known ≡ b → (b || is_among name names) ≡ true → (IsAmong names name → bytes_of (slice_get (map as_name names) (place_of names name)) ≡ name) → bytes_of (slice_get (map as_name (known ∷ names)) (if b then 0 else suc (place_of names name))) ≡ name
    by true same h further = sym ((bytes_eq-Decides name known).0 same)
    by false other h further = further h

pub found_again : (names : List (List ℕ)) (symbol : Symbol) → IsKnown names symbol → symbol_in (map as_name names) (numbered names symbol) ≡ symbol
found_again names (s.name name) known = ap s.name (found_at names name known)
found_again names (s.number z) known = refl
found_again names (s.word w) known = refl
found_again names (s.mark m) known = refl
