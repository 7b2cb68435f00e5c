-- Names that stand twice are found by marking each as it comes.
use Rattle.std.proofs.Common.{◌≡◌, ℕ, zero, suc, ◌+◌, ◌<◌, ◌==◌, Bool, true, false, ◌||◌, List, [], ◌∷◌, length, get_or, set, replicate, refl, eqb-true, All, map, drop}
use Rattle.std.proofs.lemmas.Bool.{eqb-false}
use Rattle.std.proofs.lemmas.List.{get_or-set_same, get_or-set_other, at_drop_more}
use Rattle.std.proofs.lemmas.List.Elements.{All-append, All-map}
use Rattle.bs_tree.specs.declared.tree.VarDecl.{VarDecl}
use Rattle.bs_tree.specs.declared.tree.EntryDecl.{EntryDecl}
use Rattle.bs_tree.specs.declared.tree.Program.{Program}
use Rattle.bs_check.specs.Declarations.{stands_among, has_twice, declared_names}

-- some of the names is marked
abbrev pub hits : List Bool → List ℕ → Bool
hits marks [] = false
hits marks (n ∷ ns) = get_or marks n false || hits marks ns

marked_as : (marks : List Bool) (n m : ℕ) (t : Bool) → (m == n) ≡ t → n < length marks → get_or (set marks n true) m false ≡ (t || get_or marks m false)
marked_as marks n m true e h = let same = eqb-true m n e in rw same (get_or-set_same marks n true false h)
marked_as marks n m false e h = get_or-set_other marks n m true false (eqb-false m n e)

joined_or : (b c e d : Bool) → ((b || c) || (e || d)) ≡ ((b || e) || (c || d))
joined_or true c e d = refl
joined_or false true true d = refl
joined_or false true false d = refl
joined_or false false e d = refl

-- marking one name more
pub hits_set : (marks : List Bool) (n : ℕ) (ns : List ℕ) → n < length marks → hits (set marks n true) ns ≡ (stands_among n ns || hits marks ns)
hits_set marks n [] h = refl
hits_set marks n (m ∷ ms) h =
    let head = marked_as marks n m (m == n) refl h in
    let tail = hits_set marks n ms h in
    rw (head, tail) (joined_or (m == n) (get_or marks m false) (stands_among n ms) (hits marks ms))

unmarked : (count n : ℕ) → get_or (replicate count false) n false ≡ false
unmarked zero n = refl
unmarked (suc count) zero = refl
unmarked (suc count) (suc n) = unmarked count n

pub no_hit : (count : ℕ) (ns : List ℕ) → hits (replicate count false) ns ≡ false
no_hit count [] = refl
no_hit count (n ∷ ns) = rw (unmarked count n, no_hit count ns) refl

among_or : (a b c : Bool) → ((b || a) || c) ≡ (a || (b || c))
among_or true true c = refl
among_or true false c = refl
among_or false true c = refl
among_or false false c = refl

-- the next name is not marked, and is marked now
pub one_more : (marks : List Bool) (names : List ℕ) (i : ℕ) → i < length names → get_or names i 0 < length marks → get_or marks (get_or names i 0) false ≡ false →
    (hits (set marks (get_or names i 0) true) (drop (i + 1) names) || has_twice (drop (i + 1) names)) ≡ (hits marks (drop i names) || has_twice (drop i names))
one_more marks names i h within e =
    let n = get_or names i 0 in
    let rest = drop (i + 1) names in
    let now = at_drop_more (λ ns. hits marks ns || has_twice ns) names i 0 h in
    rw (now, e, hits_set marks n rest within) (among_or (hits marks rest) (stands_among n rest) (has_twice rest))

pub all_below : (p : Program) (count : ℕ) → All (λ v. v.name.0 < count) p.vars → All (λ e. e.name.0 < count) p.entries → All (λ n. n < count) (declared_names p)
all_below p count vars entries =
    All-append (λ n. n < count) (map (λ (v : VarDecl). v.name.0) p.vars) (map (λ (e : EntryDecl). e.name.0) p.entries)
    (All-map (λ n. n < count) (λ (v : VarDecl). v.name.0) p.vars vars) (All-map (λ n. n < count) (λ (e : EntryDecl). e.name.0) p.entries entries)
