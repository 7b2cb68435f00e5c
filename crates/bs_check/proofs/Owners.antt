-- A cell is of one declared variable.
use Rattle.std.proofs.Common.{◌≡◌, ◌≤◌, ◌<◌, inl, inr, ℕ, ◌+◌, ◌==◌, ◌&&◌, Bool, true, false, if◌then◌else◌, List, [], ◌∷◌, nat_le, nat_lt, refl, sym, ◌∙◌, eqb-true, arith}
use Rattle.std.proofs.lemmas.Bool.{and_parts}
use Rattle.std.proofs.lemmas.Bool.Decides.{nat_tests}
use Rattle.bs_tree.specs.declared.tree.NameId.{NameId}
use Rattle.bs_tree.specs.declared.tree.VarDecl.{VarDecl}
use Rattle.bs_tree.specs.declared.tree.Program.{Program}
use Rattle.bs_log.specs.Lists.{Mem}
use Rattle.bs_semantics.specs.Layout.{Place, width, find_var, owns, place_of}

abbrev Holds : Place → ℕ → Type 0
Holds place cell = (place.from ≤ cell) × (cell < place.from + place.cells)

in_between : (low high n : ℕ) → (nat_le low n && nat_lt n high) ≡ true → (low ≤ n) × (n < high)
in_between low high n h =
    let both = and_parts (nat_le low n) (nat_lt n high) h in
    let one = both.0 in
    let two = both.1 in
    (grind (arith, nat_tests), grind (arith, nat_tests))

abbrev place_if : Bool → Place → Place → Place
place_if b here there = if b then here else there

-- no cell is below the first
not_below : (vs : List VarDecl) (from : ℕ) (x : NameId) (cell : ℕ) → Holds (find_var vs from x) cell → from ≤ cell
not_below [] from x cell h = let late = h.1 in absurd (omega (arith, late))
not_below (v ∷ vs) from x cell h = by (v.name.0 == x.0) (not_below vs (from + width v.cells) x cell) h
  where
    by : (t : Bool) → (Holds (find_var vs (from + width v.cells) x) cell → from + width v.cells ≤ cell) → Holds (place_if t (record { from = from; cells = width v.cells }) (find_var vs (from + width v.cells) x)) cell → from ≤ cell
    by true more g = g.0
    by false more g = let low = more g in omega (arith, low)

pub record Declares (vs : List VarDecl) (x : NameId) : Type 0 where
  pub declared : VarDecl
  pub is_in : Mem declared vs
  pub name : declared.name.0 ≡ x.0

declares : (vs : List VarDecl) (from : ℕ) (x : NameId) (cell : ℕ) → Holds (find_var vs from x) cell → Declares vs x
declares [] from x cell h = let late = h.1 in absurd (omega (arith, late))
declares (v ∷ vs) from x cell h = by (v.name.0 == x.0) refl (declares vs (from + width v.cells) x cell) h
  where
    by : (t : Bool) → (v.name.0 == x.0) ≡ t → (Holds (find_var vs (from + width v.cells) x) cell → Declares vs x) → Holds (place_if t (record { from = from; cells = width v.cells }) (find_var vs (from + width v.cells) x)) cell → Declares (v ∷ vs) x
    by true e more g = record { declared = v; is_in = inl refl; name = eqb-true v.name.0 x.0 e }
    by false e more g = let d = more g in record { declared = d.declared; is_in = inr d.is_in; name = d.name }

one_name : (vs : List VarDecl) (from : ℕ) (x y : NameId) (cell : ℕ) → Holds (find_var vs from x) cell → Holds (find_var vs from y) cell → x.0 ≡ y.0
one_name [] from x y cell h g = let late = h.1 in absurd (omega (arith, late))
one_name (v ∷ vs) from x y cell h g = by (v.name.0 == x.0) (v.name.0 == y.0) refl refl (one_name vs (from + width v.cells) x y cell) h g
  where
    by : (s t : Bool) → (v.name.0 == x.0) ≡ s → (v.name.0 == y.0) ≡ t
        → (Holds (find_var vs (from + width v.cells) x) cell → Holds (find_var vs (from + width v.cells) y) cell → x.0 ≡ y.0)
        → Holds (place_if s (record { from = from; cells = width v.cells }) (find_var vs (from + width v.cells) x)) cell
        → Holds (place_if t (record { from = from; cells = width v.cells }) (find_var vs (from + width v.cells) y)) cell
        → x.0 ≡ y.0
    by true true e f more h g = sym (eqb-true v.name.0 x.0 e) ∙ eqb-true v.name.0 y.0 f
    by true false e f more h g = let here = h.1 in let far = not_below vs (from + width v.cells) y cell g in absurd (omega (arith, here, far))
    by false true e f more h g = let here = g.1 in let far = not_below vs (from + width v.cells) x cell h in absurd (omega (arith, here, far))
    by false false e f more h g = more h g

holds : (p : Program) (x : NameId) (cell : ℕ) → owns p x cell ≡ true → Holds (place_of p x) cell
holds p x cell h = in_between (place_of p x).from ((place_of p x).from + (place_of p x).cells) cell h

pub owner_declared : (p : Program) (x : NameId) (cell : ℕ) → owns p x cell ≡ true → Declares p.vars x
owner_declared p x cell h = declares p.vars 0 x cell (holds p x cell h)

pub one_owner : (p : Program) (x y : NameId) (cell : ℕ) → owns p x cell ≡ true → owns p y cell ≡ true → x.0 ≡ y.0
one_owner p x y cell h g = one_name p.vars 0 x y cell (holds p x cell h) (holds p y cell g)
