-- The numbers that come behind statements are put one after another, each once those inside its statement are.
use Rattle.std.proofs.Common.{◌≡◌, ℕ, ◌+◌, ◌∙◌, List, [], ◌∷◌, ◌++◌, length, set, refl, sym, ap, ap₂, append_assoc, length-append, arith}
use Rattle.std.proofs.Math.Seq.{set-append_seam}
use Rattle.bs_tree.specs.Count.{statements_of}
use Rattle.bs_tree.specs.declared.tree.Stmt.{Stmt}
use Rattle.bs_check.specs.Every.{listed}
use Rattle.bs_check.specs.Numbers.{ends_from}
use Rattle.bs_check.proofs.Everything.{counted}

-- there is one for each statement
pub ends_length : (n : ℕ) (xs : List Stmt) → length (ends_from n xs) ≡ length xs
ends_length n [] = refl
ends_length n (x ∷ xs) = let more = ends_length (n + 1) xs in omega (arith, more)

ends_then : (n : ℕ) (xs ys : List Stmt) → ends_from n (xs ++ ys) ≡ ends_from n xs ++ ends_from (n + length xs) ys
ends_then n [] ys = ap (λ m. ends_from m ys) (let same : n ≡ n + 0 = omega arith in same)
ends_then n (x ∷ xs) ys =
    let same : (n + 1) + length xs ≡ n + length (x ∷ xs) = omega arith in
    ap (λ es. (n + statements_of x) ∷ es) (ends_then (n + 1) xs ys ∙ ap (λ m. ends_from (n + 1) xs ++ ends_from m ys) same)

-- these come behind the numbers that there are
abbrev pub with_ends : List ℕ → List Stmt → List ℕ
with_ends done xs = done ++ ends_from (length done + 1) xs

pub ends_both : (done next : List ℕ) (xs ys : List Stmt) → next ≡ with_ends done xs → with_ends next ys ≡ with_ends done (xs ++ ys)
ends_both done next xs ys h =
    let long = ap length h in
    let both = length-append done (ends_from (length done + 1) xs) in
    let count = ends_length (length done + 1) xs in
    let same : length next + 1 ≡ (length done + 1) + length xs = omega (arith, long, both, count) in
    ap₂ (λ es m. es ++ ends_from m ys) h same ∙ append_assoc done (ends_from (length done + 1) xs) (ends_from (length done + 1 + length xs) ys) ∙ ap (λ es. done ++ es) (sym (ends_then (length done + 1) xs ys))

pub long_ends : (done next : List ℕ) (xs : List Stmt) → next ≡ with_ends done xs → length next ≡ length done + length xs
long_ends done next xs h =
    let long = ap length h in
    let both = length-append done (ends_from (length done + 1) xs) in
    let count = ends_length (length done + 1) xs in
    omega (arith, long, both, count)

-- the slot of a statement is filled once those inside it are there
pub end_put : (done next : List ℕ) (s : Stmt) → next ≡ with_ends (done ++ 0 ∷ []) (listed s).inside → set next (length done) (length next + 1) ≡ with_ends done (s ∷ (listed s).inside)
end_put done next s h =
    let inside = (listed s).inside in
    let slot = length-append done (0 ∷ []) in
    let count = long_ends (done ++ 0 ∷ []) next inside h in
    let one = counted s in
    let last : length next + 1 ≡ length done + 1 + statements_of s = omega (arith, slot, count, one) in
    let first : length (done ++ 0 ∷ []) + 1 ≡ length done + 1 + 1 = omega (arith, slot) in
    ap₂ (λ es m. set es (length done) m) (h ∙ ap (λ m. (done ++ 0 ∷ []) ++ ends_from m inside) first ∙ append_assoc done (0 ∷ []) (ends_from (length done + 1 + 1) inside)) last
    ∙ set-append_seam done 0 (ends_from (length done + 1 + 1) inside) (length done + 1 + statements_of s)
