-- To write in pieces is to write the whole.
use Rattle.std.proofs.Common.{◌≡◌, ℕ, ◌+◌, ◌≤◌, ◌-◌, Bool, true, false, cond, List, [], ◌∷◌, ◌++◌, length, take, drop, Option, Some, None, refl, sym, ap, ◌∙◌, append_assoc, arith, option_map, length-drop}
use Rattle.std.proofs.lemmas.Cmp.{nat_list_cmp_total, eq_by_cmp_equiv}
use Rattle.std.proofs.lemmas.List.{take_rest}
use Rattle.std.proofs.Math.Seq.{take-add}
use Rattle.std.specs.Cmp.Lexicographic.{slice_cmp}
use Rattle.std.specs.Ordering.{nat_cmp, eq_by_cmp, is_eq}
use Rattle.std.specs.declared.cmp.Ordering.{Ordering}
use Rattle.std.specs.declared.cmp.Ordering.TheVariants.{Less, Equal, Greater}
use Rattle.std.specs.FinMap as map
use Rattle.bs_desk.specs.declared.desk.Port.{Port}
use Rattle.bs_desk.specs.declared.desk.Port.TheVariants as port
use Rattle.bs_desk.specs.Outside.{Outside, Files, MayWrite, Puts, longer_by, extended_by, more_told, written}

pub append_none : {A : Type 0} (xs : List A) → xs ++ [] ≡ xs
append_none [] = refl
append_none (x ∷ xs) = ap (λ ys. x ∷ ys) (append_none xs)

-- files with the same contents under each name are the same
pub same_files : (a b : Files) → ((q : List ℕ) → map.get a q ≡ map.get b q) → a ≡ b
same_files a b is = map.same_map nat_list_cmp_total (map.slice_cmp-IsAntisymmetric map.nat_cmp-IsAntisymmetric) a b is

cond_same : {A : Type 0} (b : Bool) (x y z : A) → cond b x (cond b y z) ≡ cond b x z
cond_same true x y z = refl
cond_same false x y z = refl

insert_twice : (files : Files) (name x y : List ℕ) → map.insert (map.insert files name x) name y ≡ map.insert files name y
insert_twice files name x y = same_files _ _ (λ q.
    map.get-insert nat_list_cmp_total _ name y q ∙ ap (cond _ (Some y)) (map.get-insert nat_list_cmp_total files name x q)
    ∙ cond_same (eq_by_cmp (slice_cmp nat_cmp) q name) _ _ _ ∙ sym (map.get-insert nat_list_cmp_total files name y q))

cond_is : {A : Type 0} (b : Bool) (x y : A) → (b ≡ true → y ≡ x) → cond b x y ≡ y
cond_is true x y h = sym (h refl)
cond_is false x y h = refl

pub is_equal : (r : Ordering) → is_eq r ≡ true → r ≡ Equal
is_equal Less e = cc
is_equal Equal e = refl
is_equal Greater e = cc

-- to insert what is there changes nothing
insert_same : (files : Files) (name had : List ℕ) → map.get files name ≡ Some had → map.insert files name had ≡ files
insert_same files name had is = same_files _ _ (λ q.
    map.get-insert nat_list_cmp_total files name had q ∙ cond_is _ _ _ (λ t. sym (map.get_tied nat_list_cmp_total files q name (is_equal _ t)) ∙ is))

get_inserted : (files : Files) (name had : List ℕ) → map.get (map.insert files name had) name ≡ Some had
get_inserted files name had = map.get-insert nat_list_cmp_total files name had name ∙ ap (λ b. cond b (Some had) (map.get files name)) ((eq_by_cmp_equiv nat_list_cmp_total).refl name)

longer_by-none : (files : Files) (name : List ℕ) (o : Option (List ℕ)) → map.get files name ≡ o → longer_by [] files name o ≡ files
longer_by-none files name None e = refl
longer_by-none files name (Some had) e = ap (map.insert files name) (append_none had) ∙ insert_same files name had e

longer_by-more : (files : Files) (name a b : List ℕ) (o : Option (List ℕ)) → map.get files name ≡ o → extended_by b (Some name) (longer_by a files name o) ≡ longer_by (a ++ b) files name o
longer_by-more files name a b None e = ap (longer_by b files name) e
longer_by-more files name a b (Some had) e =
    ap (longer_by b (map.insert files name (had ++ a)) name) (get_inserted files name (had ++ a))
    ∙ insert_twice files name (had ++ a) ((had ++ a) ++ b) ∙ ap (map.insert files name) (append_assoc had a b)

extended_by-none : (o : Option (List ℕ)) (f : Option Files) → option_map (extended_by [] o) f ≡ f
extended_by-none o None = refl
extended_by-none None (Some files) = refl
extended_by-none (Some name) (Some files) = ap Some (longer_by-none files name (map.get files name) refl)

extended_by-more : (a b : List ℕ) (o : Option (List ℕ)) (f : Option Files) → option_map (extended_by b o) (option_map (extended_by a o) f) ≡ option_map (extended_by (a ++ b) o) f
extended_by-more a b o None = refl
extended_by-more a b None (Some files) = refl
extended_by-more a b (Some name) (Some files) = ap Some (longer_by-more files name a b (map.get files name) refl)

more_told-none : (f : Option Files) (had : List ℕ) → more_told f had [] ≡ had
more_told-none None had = refl
more_told-none (Some files) had = append_none had

more_told-more : (f : Option Files) (had a b : List ℕ) → more_told f (more_told f had a) b ≡ more_told f had (a ++ b)
more_told-more None had a b = refl
more_told-more (Some files) had a b = append_assoc had a b

-- the files are told after a write where they were told before
more_told-mapped : (g : Files → Files) (f : Option Files) (had a : List ℕ) → more_told (option_map g f) had a ≡ more_told f had a
more_told-mapped g None had a = refl
more_told-mapped g (Some files) had a = refl

pub written-none : (p : Port) (o : Outside) → written p [] o ≡ o
written-none port.Out o = λ i. record o { out = more_told-none o.files o.out i }
written-none port.Err o = λ i. record o { err = more_told-none o.files o.err i }
written-none port.File o = λ i. record o { file = more_told-none o.files o.file i; files = extended_by-none o.created o.files i }

pub written-more : (p : Port) (a b : List ℕ) (o : Outside) → written p b (written p a o) ≡ written p (a ++ b) o
written-more port.Out a b o = λ i. record o { out = more_told-more o.files o.out a b i }
written-more port.Err a b o = λ i. record o { err = more_told-more o.files o.err a b i }
written-more port.File a b o =
    let file = more_told-mapped (extended_by a o.created) o.files (more_told o.files o.file a) b ∙ more_told-more o.files o.file a b in
    λ i. record o { file = file i; files = extended_by-more a b o.created o.files i }

pub may_still : (p : Port) (a : List ℕ) (o : Outside) → MayWrite p o → MayWrite p (written p a o)
may_still port.Out a o h = h
may_still port.Err a o h = h
may_still port.File a o h = h

-- what writing leaves alone
pub record IsKept (old new : Outside) : Type 0 where
  pub can_fail : new.can_fail ≡ old.can_fail
  pub read_faults : new.read_faults ≡ old.read_faults
  pub write_faults : new.write_faults ≡ old.write_faults

pub written_keeps : (p : Port) (a : List ℕ) (o : Outside) → IsKept o (written p a o)
written_keeps port.Out a o = record { can_fail = refl; read_faults = refl; write_faults = refl }
written_keeps port.Err a o = record { can_fail = refl; read_faults = refl; write_faults = refl }
written_keeps port.File a o = record { can_fail = refl; read_faults = refl; write_faults = refl }

-- one more piece was written, up to this place
pub record Piece (p : Port) (bytes : List ℕ) (next : ℕ) (old new : Outside) : Type 0 where
  pub within : next ≤ length bytes
  pub so_far : new ≡ written p (take next bytes) old

pub piece : (p : Port) (bytes : List ℕ) (at n : ℕ) (old mid new : Outside) → at ≤ length bytes → mid ≡ written p (take at bytes) old → Puts p (take (length bytes - at) (drop at bytes)) mid new n → Piece p bytes (at + n) old new
piece p bytes at n old mid new le e puts =
    let rest : Puts p (drop at bytes) mid new n = rw (take_rest bytes at) at puts in
    record {
      within = omega (arith, rest.fits, length-drop at bytes);
      so_far = rest.same ∙ ap (written p (take n (drop at bytes))) e ∙ written-more p (take at bytes) (take n (drop at bytes)) old ∙ ap (λ bs. written p bs old) (sym (take-add at n bytes));
    }
