-- Started blocks are found by their chare and path.
use Rattle.std.proofs.Common.{◌≡◌, inl, inr, ◌==◌, ◌&&◌, if◌then◌else◌, ℕ, Bool, true, false, List, [], ◌∷◌, Some, refl, ap, subst, eqb-true}
use Rattle.std.specs.Str.{bytes_eq}
use Rattle.std.proofs.lemmas.Bool.{and_parts, and_from}
use Rattle.std.proofs.lemmas.Cmp.{nat_eq_equiv}
use Rattle.std.proofs.lemmas.Slice.Eq.{bytes_eq-Decides}
use Rattle.bs_log.specs.Lists.{Mem}
use Rattle.bs_semantics.specs.Serial.{Started, find}
use Rattle.bs_semantics.proofs.Options.{none_some, some_same}

pub record FoundAt (bs : List Started) (c : ℕ) (path : List ℕ) (b : Started) : Type 0 where
  pub is_in : Mem b bs
  pub chare : b.chare ≡ c
  pub is_there : b.block.path.0 ≡ path

abbrev is_at : ℕ → List ℕ → Started → Bool
is_at c path b = (b.chare == c) && bytes_eq b.block.path.0 path

found_if : (c : ℕ) (path : List ℕ) (x b : Started) (bs : List Started) (t : Bool) → is_at c path x ≡ t → (find bs c path ≡ Some b → FoundAt bs c path b) → (if t then Some x else find bs c path) ≡ Some b → FoundAt (x ∷ bs) c path b
found_if c path x b bs true p is e =
    let at = and_parts (x.chare == c) (bytes_eq x.block.path.0 path) p in
    subst (FoundAt (x ∷ bs) c path) (some_same e) (record { is_in = inl refl; chare = eqb-true _ _ at.0; is_there = (bytes_eq-Decides x.block.path.0 path).0 at.1 })
found_if c path x b bs false p is e = let h = is e in record { is_in = inr h.is_in; chare = h.chare; is_there = h.is_there }

pub found_at : (bs : List Started) (c : ℕ) (path : List ℕ) (b : Started) → find bs c path ≡ Some b → FoundAt bs c path b
found_at [] c path b e = absurd (none_some e)
found_at (x ∷ bs) c path b e = found_if c path x b bs (is_at c path x) refl (found_at bs c path b) e

at_itself : (b : Started) → is_at b.chare b.block.path.0 b ≡ true
at_itself b = and_from _ _ (nat_eq_equiv.refl b.chare) ((bytes_eq-Decides b.block.path.0 b.block.path.0).1 refl)

pub record Finds (bs : List Started) (c : ℕ) (path : List ℕ) : Type 0 where
  pub started : Started
  pub is : find bs c path ≡ Some started

finds_if : (x : Started) (bs : List Started) (c : ℕ) (path : List ℕ) (t : Bool) → is_at c path x ≡ t → (t ≡ false → Finds bs c path) → Finds (x ∷ bs) c path
finds_if x bs c path true p f = record { started = x; is = rw p refl }
finds_if x bs c path false p f = let h = f refl in record { started = h.started; is = rw p h.is }

not_both : {A : Type 0} (t : Bool) → t ≡ true → t ≡ false → A
not_both t p q = absurd (cc)

pub finds : (bs : List Started) (b : Started) → Mem b bs → Finds bs b.chare b.block.path.0
finds [] b m = absurd m
finds (x ∷ bs) b (inl e) = finds_if x bs b.chare b.block.path.0 (is_at b.chare b.block.path.0 x) refl (λ f. not_both (is_at b.chare b.block.path.0 x) (subst (λ x. is_at b.chare b.block.path.0 x ≡ true) e (at_itself b)) f)
finds (x ∷ bs) b (inr m) = finds_if x bs b.chare b.block.path.0 (is_at b.chare b.block.path.0 x) refl (λ f. finds bs b m)
