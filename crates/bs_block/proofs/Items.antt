-- What is left of a list in a loop, and tests of each item.
use Rattle.std.proofs.Common.{◌≡◌, ℕ, ◌+◌, ◌<◌, true, Bool, List, ◌∷◌, length, get_or, drop, map, sym, ap, ◌∙◌}
use Rattle.std.proofs.lemmas.List.{drop_more}
use Rattle.std.proofs.lemmas.Bool.{and_parts}
use Rattle.bs_check.specs.Known.{all_true}

-- the loop's item is the head of what is left
pub next_item : {A : Type 0} (xs : List A) (i : ℕ) (x : A) → i < length xs → x ≡ get_or xs i x → drop i xs ≡ x ∷ drop (i + 1) xs
next_item xs i x l e = drop_more xs i x l ∙ ap (λ y. y ∷ drop (i + 1) xs) (sym e)

-- what is true of each item that is left is true of the first one and of the others
pub each_left : {A : Type 0} (test : A → Bool) (xs : List A) (i : ℕ) (x : A) → drop i xs ≡ x ∷ drop (i + 1) xs → all_true (map test (drop i xs)) ≡ true → (test x ≡ true) × (all_true (map test (drop (i + 1) xs)) ≡ true)
each_left test xs i x d h = and_parts (test x) (all_true (map test (drop (i + 1) xs))) (sym (ap (λ ys. all_true (map test ys)) d) ∙ h)
