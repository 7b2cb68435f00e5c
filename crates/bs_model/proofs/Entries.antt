-- The book's entries are the started blocks, in the order of (chare, path).
use Rattle.std.proofs.Common.{◌≡◌, ◌⊎◌, inl, inr, ℕ, ◌==◌, Bool, true, false, cond, ◌&&◌, if◌then◌else◌, List, [], ◌∷◌, Option, Some, map, option_map, refl, sym, ap, ap₂, subst, ◌∙◌, Ordering, Less, Equal, Greater}
use Rattle.std.specs.Ordering.{nat_cmp, is_eq, match_ordering}
use Rattle.std.specs.Cmp.{tied_then, unsigned_ties}
use Rattle.std.specs.Cmp.Lexicographic.{slice_cmp}
use Rattle.std.specs.Str.{bytes_eq}
use Rattle.std.proofs.lemmas.Cmp.{nat_eq_equiv, nat_list_cmp_total, tied_itself}
use Rattle.std.proofs.lemmas.Map.Lookups.{exact_bytes}
use Rattle.std.proofs.lemmas.Slice.Eq.{bytes_eq-Decides}
use Rattle.bs_machine.specs.declared.fitted.Fitted.{Fitted}
use Rattle.bs_semantics.specs.Run.{place_by, put, put_all}
use Rattle.bs_log.specs.Lists.{Mem, InOrder}
use Rattle.bs_semantics.specs.Serial.{Started, find, started_cmp}
use Rattle.bs_semantics.proofs.Sorted.{put_all_member}
use Rattle.bs_model.specs.declared.book.Begun.{Begun}
use Rattle.bs_model.specs.Book.{at_key, put_key}
use Rattle.bs_times.specs.Machine.{machine_of}
use Rattle.bs_model.specs.State.{begun_of, entry_of}

abbrev cmp_keys : List ℕ → List ℕ → Ordering
cmp_keys a b = slice_cmp nat_cmp a b

is_same : (q k : List ℕ) (o : Ordering) → cmp_keys q k ≡ o → is_eq o ≡ true → q ≡ k
is_same q k Less e t = absurd (cc)
is_same q k Equal e t = exact_bytes q k e
is_same q k Greater e t = absurd (cc)

over_same : (t : Bool) (v w : Begun) (o : Option Begun) → cond t (Some v) o ≡ cond t (Some v) (cond t (Some w) o)
over_same true v w o = refl
over_same false v w o = refl

over_other : (s t : Bool) (v w : Begun) (o : Option Begun) → (s ≡ true → t ≡ true → ⊥) → cond s (Some w) (cond t (Some v) o) ≡ cond t (Some v) (cond s (Some w) o)
over_other true true v w o n = absurd (n refl refl)
over_other true false v w o n = refl
over_other false t v w o n = refl

-- what is found after a block was put
at_put_if : (q key : List ℕ) (v : Begun) (e : List ℕ × Begun) (es rest : List (List ℕ × Begun)) (o : Ordering) → cmp_keys key e.0 ≡ o → at_key rest q ≡ cond (is_eq (cmp_keys q key)) (Some v) (at_key es q)
    → at_key (match_ordering o ((key, v) ∷ e ∷ es) ((e.0, v) ∷ es) (e ∷ rest)) q ≡ cond (is_eq (cmp_keys q key)) (Some v) (cond (is_eq (cmp_keys q e.0)) (Some e.1) (at_key es q))
at_put_if q key v e es rest Less is h = refl
at_put_if q key v e es rest Equal is h =
    ap (λ k. cond (is_eq (cmp_keys q k)) (Some v) (at_key es q)) (sym (exact_bytes key e.0 is))
    ∙ (over_same (is_eq (cmp_keys q key)) v e.1 (at_key es q) ∙ ap (λ k. cond (is_eq (cmp_keys q key)) (Some v) (cond (is_eq (cmp_keys q k)) (Some e.1) (at_key es q))) (exact_bytes key e.0 is))
at_put_if q key v e es rest Greater is h =
    ap (λ o. cond (is_eq (cmp_keys q e.0)) (Some e.1) o) h ∙ over_other (is_eq (cmp_keys q e.0)) (is_eq (cmp_keys q key)) v e.1 (at_key es q) both
  where
    both : is_eq (cmp_keys q e.0) ≡ true → is_eq (cmp_keys q key) ≡ true → ⊥
    both s t =
        let one : q ≡ e.0 = is_same q e.0 _ refl s in
        let two : q ≡ key = is_same q key _ refl t in
        let same : key ≡ e.0 = sym two ∙ one in
        let equal : cmp_keys key e.0 ≡ Equal = ap (λ k. cmp_keys k e.0) same ∙ tied_itself nat_list_cmp_total e.0 in
        absurd (cc)

pub at_put : (q key : List ℕ) (v : Begun) (es : List (List ℕ × Begun)) → at_key (put_key key v es) q ≡ cond (is_eq (cmp_keys q key)) (Some v) (at_key es q)
at_put q key v [] = refl
at_put q key v (e ∷ es) = at_put_if q key v e es (put_key key v es) (cmp_keys key e.0) refl (at_put q key v es)

turned : (a b : List ℕ) → is_eq (cmp_keys a b) ≡ bytes_eq b a
turned a b = by (is_eq (cmp_keys a b)) (bytes_eq b a) refl refl
  where
    by : (s t : Bool) → is_eq (cmp_keys a b) ≡ s → bytes_eq b a ≡ t → s ≡ t
    by true true e f = refl
    by false false e f = refl
    by true false e f = let t = (bytes_eq-Decides b a).1 (sym (is_same a b (cmp_keys a b) refl e)) in absurd (cc)
    by false true e f =
        let t : is_eq (cmp_keys a b) ≡ true = subst (λ z. is_eq (cmp_keys a z) ≡ true) (sym ((bytes_eq-Decides b a).0 f)) (ap is_eq (tied_itself nat_list_cmp_total a)) in
        absurd (cc)

-- a key is a chare and a path
same_test : (c d : ℕ) (a b : List ℕ) → is_eq (cmp_keys (c ∷ a) (d ∷ b)) ≡ ((d == c) && bytes_eq b a)
same_test c d a b = sym (tied_then (nat_cmp c d) (cmp_keys a b)) ∙ ap₂ (λ s t. s && t) (sym (unsigned_ties c d) ∙ nat_eq_equiv.symm c d) (turned a b)

abbrev pub key_of : Started → List ℕ
key_of b = b.chare ∷ b.block.path.0

module _ (m : Fitted) where
  abbrev order : Started → Started → Ordering
  order = started_cmp (machine_of m)

  put_if : (b y : Started) (ys rest : List Started) (o : Ordering) → order b y ≡ o → (order b y ≡ Equal → ⊥) → (rest2 : List (List ℕ × Begun)) → map (entry_of m) rest ≡ rest2
      → map (entry_of m) (place_by o b y ys rest) ≡ match_ordering o (entry_of m b ∷ entry_of m y ∷ map (entry_of m) ys) ((key_of y, begun_of m b) ∷ map (entry_of m) ys) (entry_of m y ∷ rest2)
  put_if b y ys rest Less is n rest2 h = refl
  put_if b y ys rest Equal is n rest2 h = absurd (n is)
  put_if b y ys rest Greater is n rest2 h = ap (λ es. entry_of m y ∷ es) h

  -- a block that is put where none is alike
  pub put_is : (b : Started) (ys : List Started) → ((y : Started) → Mem y ys → order b y ≡ Equal → ⊥) → map (entry_of m) (put order b ys) ≡ put_key (key_of b) (begun_of m b) (map (entry_of m) ys)
  put_is b [] n = refl
  put_is b (y ∷ ys) n = put_if b y ys (put order b ys) (order b y) refl (n y (inl refl)) _ (put_is b ys (λ z i. n z (inr i)))

  none_in : (b : Started) (bs : List Started) → ((y : Started) → Mem y bs → order b y ≡ Equal → ⊥) → (y : Started) → Mem y (put_all order bs []) → order b y ≡ Equal → ⊥
  none_in b bs n y i = by_side (put_all_member order y bs [] i)
    where
      by_side : Mem y bs ⊎ Mem y [] → order b y ≡ Equal → ⊥
      by_side (inl j) = n y j
      by_side (inr j) = absurd j

  pub entries_more : (b : Started) (bs : List Started) → ((y : Started) → Mem y bs → order b y ≡ Equal → ⊥)
      → map (entry_of m) (put_all order (b ∷ bs) []) ≡ put_key (key_of b) (begun_of m b) (map (entry_of m) (put_all order bs []))
  entries_more b bs n = put_is b (put_all order bs []) (none_in b bs n)

  found_if : (t : Bool) (b : Started) (o : Option Started) → cond t (Some (begun_of m b)) (option_map (begun_of m) o) ≡ option_map (begun_of m) (if t then Some b else o)
  found_if true b o = refl
  found_if false b o = refl

  -- the book finds what the list of started blocks does
  pub finds_same : (bs : List Started) → InOrder (λ x y. order x y ≡ Equal → ⊥) bs → (c : ℕ) (path : List ℕ) → at_key (map (entry_of m) (put_all order bs [])) (c ∷ path) ≡ option_map (begun_of m) (find bs c path)
  finds_same [] h c path = refl
  finds_same (b ∷ bs) h c path =
      ap (λ es. at_key es (c ∷ path)) (entries_more b bs h.0)
      ∙ (at_put (c ∷ path) (key_of b) (begun_of m b) (map (entry_of m) (put_all order bs []))
      ∙ (ap₂ (λ t o. cond t (Some (begun_of m b)) o) (same_test c b.chare path b.block.path.0) (finds_same bs h.1 c path)
      ∙ found_if ((b.chare == c) && bytes_eq b.block.path.0 path) b (find bs c path)))
