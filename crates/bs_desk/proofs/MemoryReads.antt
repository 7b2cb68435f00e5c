-- What `open` and `read` make of the fields of a desk in memory.
use Rattle.std.proofs.Common.{◌≡◌, ℕ, zero, suc, ◌+◌, ◌<◌, ◌≤◌, ◌-◌, min, true, false, List, [], ◌∷◌, ◌++◌, length, take, drop, Some, None, option_map, refl, sym, ap, subst, ◌∙◌, arith, length-take, length-drop, length-append, is_some}
use Rattle.std.specs.Prelude.{IfSome}
use Rattle.std.proofs.lemmas.List.{take_rest, drop-drop, drop-take, take_at}
use Rattle.bs_desk.specs.declared.memory.MemoryDesk.TheInside.{Inside}
use Rattle.bs_desk.specs.declared.memory.Opened.{Opened}
use Rattle.bs_desk.specs.Outside.{Begins, Misses, Takes, most}
use Rattle.bs_desk.specs.Versions.{seen_of, IsNewest, found, bytes_at}
use Rattle.bs_desk.specs.Memory.{outside_of, rest_of, IsPlace}
use Rattle.bs_desk.proofs.VersionLemmas.{get-files_of, newest_found}

pub begins : (m : Inside) (name : List ℕ) (i end : ℕ) → IsNewest (seen_of m.files.items) name i → end ≡ length (bytes_at (seen_of m.files.items) i)
    → Begins name (outside_of m) (outside_of (record m { opened = Some (record { place = i; from = 0; end = end }); found = true; taken = 0 }))
begins m name i end newest is =
    let vs = seen_of m.files.items in
    record {
      same = refl;
      told = (bytes_at vs i, get-files_of vs name ∙ newest_found vs name i newest, ap Some (ap (λ n. take (n - 0) (drop 0 (bytes_at vs i))) is ∙ take_rest (bytes_at vs i) 0));
    }

pub misses : (m : Inside) (name : List ℕ) → found (seen_of m.files.items) name ≡ None → Misses name (outside_of m) (outside_of (record m { found = false; taken = 0 }))
misses m name none = record { same = refl; told = get-files_of (seen_of m.files.items) name ∙ none }

take-take-le : (n k : ℕ) (ys : List ℕ) → n ≤ k → take n (take k ys) ≡ take n ys
take-take-le zero k ys le = refl
take-take-le (suc n) zero ys le = absurd (omega arith)
take-take-le (suc n) (suc k) [] le = refl
take-take-le (suc n) (suc k) (y ∷ ys) le = ap (λ z. y ∷ z) (take-take-le n k ys (omega arith))

-- what is left after n more bytes
rest_after : (xs : List ℕ) (from end n : ℕ) → n ≤ end - from → drop n (take (end - from) (drop from xs)) ≡ take (end - (from + n)) (drop (from + n) xs)
rest_after xs from end n le =
    let split : end - from ≡ n + (end - (from + n)) = omega arith in
    ap (λ k. drop n (take k (drop from xs))) split ∙ drop-take n (end - (from + n)) (drop from xs) ∙ ap (take (end - (from + n))) (drop-drop n from xs)

front : (xs room copied : List ℕ) (from end n : ℕ) → n ≤ end - from → length copied ≡ n → copied ≡ take n (drop from xs) → take n (copied ++ drop n room) ≡ take n (take (end - from) (drop from xs))
front xs room copied from end n le l is = take_at copied (drop n room) n l ∙ is ∙ sym (take-take-le n (end - from) (drop from xs) le)

none_left : (xs : List ℕ) → length xs ≡ 0 → xs ≡ []
none_left [] h = refl
none_left (x ∷ xs) h = absurd (omega arith)

-- how many bytes are left
pub length-rest : (m : Inside) (p : Opened) → m.opened ≡ Some p → IsPlace (seen_of m.files.items) p → IfSome (outside_of m).rest (λ rest. length rest ≡ p.end - p.from)
length-rest m p is place =
    let xs = bytes_at (seen_of m.files.items) p.place in
    let size : length (take (p.end - p.from) (drop p.from xs)) ≡ p.end - p.from = omega (arith, place.end, length-take (p.end - p.from) (drop p.from xs), length-drop p.from xs) in
    subst (λ o. IfSome (rest_of (seen_of m.files.items) o) (λ rest. length rest ≡ p.end - p.from)) (sym is) size

pub takes : (m : Inside) (p : Opened) (n taken : ℕ) (room copied : List ℕ) → m.opened ≡ Some p → IsPlace (seen_of m.files.items) p → n ≡ min (min (length room) m.chunk) (p.end - p.from) → 0 < m.chunk → taken ≡ min (m.taken + n) most
    → length copied ≡ n → copied ≡ take n (drop p.from (bytes_at (seen_of m.files.items) p.place))
    → Takes (outside_of m) (outside_of (record m { opened = Some (record { place = p.place; from = p.from + n; end = p.end }); taken = taken })) (copied ++ drop n room) n
takes m p n taken room copied is place count some t l c =
    let xs = bytes_at (seen_of m.files.items) p.place in
    let le : n ≤ p.end - p.from = omega arith in
    let rest : rest_of (seen_of m.files.items) m.opened ≡ Some (take (p.end - p.from) (drop p.from xs)) = ap (rest_of (seen_of m.files.items)) is in
    let size : length (take (p.end - p.from) (drop p.from xs)) ≡ p.end - p.from = omega (arith, place.end, length-take (p.end - p.from) (drop p.from xs), length-drop p.from xs) in
    let whole : length (copied ++ drop n room) ≡ n + length (drop n room) = length-append copied (drop n room) ∙ ap (λ k. k + length (drop n room)) l in
    let open_is : is_some m.opened ≡ true = ap is_some is in
    let rest_is : Some (take (p.end - (p.from + n)) (drop (p.from + n) xs)) ≡ option_map (drop n) (rest_of (seen_of m.files.items) m.opened) =
    sym (ap (option_map (drop n)) rest ∙ ap Some (rest_after xs p.from p.end n le)) in
    record {
      fits = omega (arith, whole);
      same = λ i. record (outside_of m) { rest = rest_is i; is_open = sym open_is i; taken = t i };
      bytes = subst (λ o. IfSome o (λ r. (n ≤ length r) × (take n (copied ++ drop n room) ≡ take n r) × (n ≡ 0 → 0 < length (copied ++ drop n room) → r ≡ []))) (sym rest)
          (omega (arith, size), front xs room copied p.from p.end n le l c, λ none some'. none_left _ (omega (arith, size, whole, length-drop n room, count)));
    }
