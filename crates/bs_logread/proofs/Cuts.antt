-- A text that is cut at a mark, or behind a word at its front.
use Rattle.std.proofs.Common.{◌≡◌, ◌≢◌, ◌-◌, add-one, length-drop, ℕ, suc, ◌+◌, ◌==◌, nat_eq, Bool, true, false, not, if◌then◌else◌, List, [], ◌∷◌, Option, Some, None, length, take, drop, refl, sym, ap, ◌∙◌, arith}
use Rattle.std.specs.List.{take_while, starts_with}
use Rattle.std.proofs.lemmas.List.Sums.{take_while-cons}
use Rattle.std.proofs.lemmas.List.{take_all}
use Rattle.std.proofs.lemmas.Bool.Decides.{nat_tests}
use Rattle.bs_logread.specs.Words.{with_first, cut, behind}

abbrev is_other : ℕ → ℕ → Bool
is_other mark b = not (b == mark)

abbrev cut_at : List ℕ → ℕ → Option (List ℕ × List ℕ)
cut_at bs n = if n == length bs then None else Some (take n bs, drop (suc n) bs)

one_more : (b : ℕ) (t : Bool) (x y : List ℕ) → with_first b (if t then None else Some (x, y)) ≡ (if t then None else Some (b ∷ x, y))
one_more b true x y = refl
one_more b false x y = refl

eq_suc : (a b : ℕ) → (suc a == suc b) ≡ (a == b)
eq_suc a b = by (a == b) refl
  where
    by : (t : Bool) → (a == b) ≡ t → (suc a == suc b) ≡ t
    by true e = grind (arith, nat_tests)
    by false e = grind (arith, nat_tests)

abbrev either_part : Bool → List ℕ → List ℕ → Option (List ℕ × List ℕ)
either_part t x y = if t then None else Some (x, y)

further : (b : ℕ) (bs : List ℕ) (n : ℕ) → with_first b (cut_at bs n) ≡ cut_at (b ∷ bs) (suc n)
further b bs n = one_more b (n == length bs) (take n bs) (drop (suc n) bs) ∙ ap (λ (t : Bool). either_part t (b ∷ take n bs) (drop (suc n) bs)) (sym (eq_suc n (length bs)))

at_once : (b : ℕ) (bs : List ℕ) → Some ([], bs) ≡ cut_at (b ∷ bs) 0
at_once b bs = let some : (0 == suc (length bs)) ≡ false = grind (arith, nat_tests) in rw some refl

cut_is : (mark : ℕ) (bs : List ℕ) → cut mark bs ≡ cut_at bs (length (take_while (is_other mark) bs))
cut_is mark [] = refl
cut_is mark (b ∷ bs) = by (b == mark) refl (cut_is mark bs)
  where
    by : (t : Bool) → (b == mark) ≡ t → cut mark bs ≡ cut_at bs (length (take_while (is_other mark) bs)) → cut mark (b ∷ bs) ≡ cut_at (b ∷ bs) (length (take_while (is_other mark) (b ∷ bs)))
    by true e h = rw (take_while-cons (is_other mark) b bs, e) (at_once b bs)
    by false e h = rw (take_while-cons (is_other mark) b bs, e) (ap (with_first b) h ∙ further b bs (length (take_while (is_other mark) bs)))

-- all of a list from a place on
rest_of : (n : ℕ) (xs : List ℕ) → take (length xs - n) (drop n xs) ≡ drop n xs
rest_of n xs = take_all (length xs - n) (drop n xs) (omega (arith, length-drop n xs))

pub no_mark : (mark : ℕ) (bs : List ℕ) (n : ℕ) → n ≡ length (take_while (is_other mark) bs) → n ≡ length bs → None ≡ cut mark bs
no_mark mark bs n e l =
    let same : (n == length bs) ≡ true = grind (arith, nat_tests) in
    sym (cut_is mark bs ∙ ap (cut_at bs) (sym e) ∙ rw same refl)

pub at_mark : (mark : ℕ) (bs : List ℕ) (n : ℕ) → n ≡ length (take_while (is_other mark) bs) → n ≢ length bs → Some (take n bs, take (length bs - (n + 1)) (drop (n + 1) bs)) ≡ cut mark bs
at_mark mark bs n e l =
    let other : (n == length bs) ≡ false = grind (arith, nat_tests) in
    let found : cut mark bs ≡ Some (take n bs, drop (suc n) bs) = cut_is mark bs ∙ ap (cut_at bs) (sym e) ∙ rw other refl in
    rw (rest_of (n + 1) bs, add-one) (sym found)

abbrev behind_by : List ℕ → List ℕ → Bool → Option (List ℕ)
behind_by word text t = if t then Some (drop (length word) text) else None

behind_is : (word text : List ℕ) → behind word text ≡ behind_by word text (starts_with nat_eq text word)
behind_is [] text = refl
behind_is (w ∷ ws) [] = refl
behind_is (w ∷ ws) (b ∷ bs) = by (w == b) refl (behind_is ws bs)
  where
    by : (t : Bool) → (w == b) ≡ t → behind ws bs ≡ behind_by ws bs (starts_with nat_eq bs ws) → behind (w ∷ ws) (b ∷ bs) ≡ behind_by (w ∷ ws) (b ∷ bs) (starts_with nat_eq (b ∷ bs) (w ∷ ws))
    by true e h = rw e h
    by false e h = rw e refl

pub behind_there : (word text : List ℕ) → starts_with nat_eq text word ≡ true → Some (take (length text - length word) (drop (length word) text)) ≡ behind word text
behind_there word text e = rw (rest_of (length word) text) (sym (behind_is word text ∙ rw e refl))

pub behind_not : (word text : List ℕ) → starts_with nat_eq text word ≡ false → None ≡ behind word text
behind_not word text e = sym (behind_is word text ∙ rw e refl)
