-- A file that is made and then written holds just what was written.
use Rattle.std.proofs.Common.{◌≡◌, ℕ, Bool, true, false, cond, List, [], Option, Some, None, refl, sym, ap, ◌∙◌, option_map}
use Rattle.std.proofs.lemmas.Cmp.{nat_list_cmp_total, eq_by_cmp_equiv}
use Rattle.std.specs.Cmp.Lexicographic.{slice_cmp}
use Rattle.std.specs.Ordering.{nat_cmp, eq_by_cmp}
use Rattle.std.specs.FinMap as map
use Rattle.bs_desk.specs.declared.desk.Port.TheVariants as port
use Rattle.bs_desk.specs.Outside.{Outside, Files, extended_by, longer_by, more_told, with_created, written}
use Rattle.bs_desk.proofs.WrittenLemmas.{same_files}
use Rattle.bs_top.specs.Targets.{with_file}

cond_same : {A : Type 0} (b : Bool) (x y z : A) → cond b x (cond b y z) ≡ cond b x z
cond_same true x y z = refl
cond_same false x y z = refl

insert_twice : (files : Files) (name x y : List ℕ) → map.insert (map.insert files name x) name y ≡ map.insert files name y
insert_twice files name x y = same_files _ _ (λ q.
    map.get-insert nat_list_cmp_total _ name y q ∙ ap (cond _ (Some y)) (map.get-insert nat_list_cmp_total files name x q)
    ∙ cond_same (eq_by_cmp (slice_cmp nat_cmp) q name) _ _ _ ∙ sym (map.get-insert nat_list_cmp_total files name y q))

get_inserted : (files : Files) (name had : List ℕ) → map.get (map.insert files name had) name ≡ Some had
get_inserted files name had = map.get-insert nat_list_cmp_total files name had name ∙ ap (λ b. cond b (Some had) (map.get files name)) ((eq_by_cmp_equiv nat_list_cmp_total).refl name)

contents_are : (name text : List ℕ) (f : Option Files) → option_map (extended_by text (option_map (λ _. name) f)) (option_map (λ files. map.insert files name []) f) ≡ option_map (λ files. map.insert files name text) f
contents_are name text None = refl
contents_are name text (Some files) = ap Some (ap (longer_by text (map.insert files name []) name) (get_inserted files name []) ∙ insert_twice files name [] text)

told_still : (g : Files → Files) (f : Option Files) (had text : List ℕ) → more_told (option_map g f) had text ≡ more_told f had text
told_still g None had text = refl
told_still g (Some files) had text = refl

pub saved : (name text : List ℕ) (o : Outside) → written port.File text (with_created name o) ≡ with_file name text o
saved name text o = λ i. record (with_created name o) { files = contents_are name text o.files i; file = told_still (λ files. map.insert files name []) o.files o.file text i }
