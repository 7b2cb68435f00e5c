-- All statements in the order of the text, cut where a statement or a list ends.
use Rattle.std.proofs.Common.{◌≡◌, ◌≤◌, ◌+◌, ◌∙◌, ℕ, List, [], ◌∷◌, ◌++◌, length, map, Option, Some, None, Result, Ok, Err, refl, sym, ap, subst, subst₂, length-append, arith, sum}
use Rattle.std.proofs.lemmas.List.Sums.{sum_by-cons}
use Rattle.bs_tree.specs.Count.{statements_step, statements_of, statements_in}
use Rattle.bs_tree.specs.declared.tree.Expr.{Expr}
use Rattle.bs_tree.specs.declared.tree.Stmt.{Stmt}
use Rattle.bs_tree.specs.declared.tree.Stmt.TheVariants as s
use Rattle.bs_tree.specs.declared.tree.Stmt.TheOpen.{Stmt-F}
use Rattle.bs_tree.specs.declared.tree.Stmt.TheFolds.{fold-roll-Stmt, ind-Stmt, map-Stmt}
use Rattle.bs_tree.specs.declared.tree.Stmt.{roll-Stmt}
use Rattle.bs_tree.specs.declared.tree.Program.{Program}
use Rattle.bs_check.specs.declared.fault.Rule.{Rule}
use Rattle.bs_check.specs.declared.fault.CheckFault.{CheckFault}
use Rattle.bs_check.specs.declared.fault.CheckFault.TheVariants.{Refused, Memory}
use Rattle.bs_check.specs.Every.{Listed, all_of, inside_step, listed_step, listed, every}
use Rattle.bs_check.specs.Rules.{broken_rule}
use Rattle.bs_check.specs.Refusal.{Broken, or_later, first_broken}
use Rattle.bs_check.specs.Walked.{Kept, Walked}

-- ---- a statement is listed as itself

abbrev IsSelf : Stmt → Type 0
IsSelf x = (listed x).self ≡ x

abbrev Those : Type 0
Those = List ((x : Stmt) × IsSelf x)

selves : (es : Those) → map (λ (l : Listed). l.self) (map listed (map (λ e. e.0) es)) ≡ map (λ e. e.0) es
selves [] = refl
selves (e ∷ es) = rw (e.1, selves es) refl

layer_selves : (y : Stmt-F ((x : Stmt) × IsSelf x)) → map-Stmt Listed Stmt (λ l. l.self) (map-Stmt Stmt Listed listed (map-Stmt _ Stmt (λ e. e.0) y)) ≡ map-Stmt _ Stmt (λ e. e.0) y
layer_selves (Stmt-F.Serial acts) = refl
layer_selves (Stmt-F.When waits body) = ap (Stmt-F.When waits) (selves body)
layer_selves (Stmt-F.Overlap body) = ap Stmt-F.Overlap (selves body)
layer_selves (Stmt-F.For x first test y step body) = ap (Stmt-F.For x first test y step) (selves body)
layer_selves (Stmt-F.While test body) = ap (Stmt-F.While test) (selves body)
layer_selves (Stmt-F.If test body None) = ap (λ b. Stmt-F.If test b None) (selves body)
layer_selves (Stmt-F.If test body (Some other)) = ap (λ b. Stmt-F.If test b (Some (map (λ (l : Listed). l.self) (map listed (map (λ e. e.0) other))))) (selves body) ∙ ap (λ o. Stmt-F.If test (map (λ e. e.0) body) (Some o)) (selves other)
layer_selves (Stmt-F.Seq body) = ap Stmt-F.Seq (selves body)

pub self_is : (x : Stmt) → (listed x).self ≡ x
self_is = ind-Stmt IsSelf (λ x y is.
    subst (λ (l : Listed). l.self ≡ roll-Stmt x) (sym (fold-roll-Stmt Listed listed_step x))
    (subst (λ z. roll-Stmt (map-Stmt Listed Stmt (λ l. l.self) (map-Stmt Stmt Listed listed z)) ≡ roll-Stmt z) is (ap roll-Stmt (layer_selves y))))

-- ---- lists of statements

abbrev pub every_else : Option (List Stmt) → List Stmt
every_else None = []
every_else (Some body) = every body

pub every_first : (x : Stmt) (xs : List Stmt) → every (x ∷ xs) ≡ (x ∷ (listed x).inside) ++ every xs
every_first x xs = ap (λ y. y ∷ ((listed x).inside ++ every xs)) (self_is x)

pub inside_if : (test : Expr) (body : List Stmt) (other : Option (List Stmt)) → (listed (s.If test body other)).inside ≡ every body ++ every_else other
inside_if test body None = ap (λ (l : Listed). l.inside) (ap listed (sym (s.rolls-If test body None)) ∙ fold-roll-Stmt Listed listed_step (Stmt-F.If test body None))
inside_if test body (Some other) = ap (λ (l : Listed). l.inside) (ap listed (sym (s.rolls-If test body (Some other))) ∙ fold-roll-Stmt Listed listed_step (Stmt-F.If test body (Some other)))

pub inside_overlap : (parts : List Stmt) → (listed (s.Overlap parts)).inside ≡ every parts
inside_overlap parts = ap (λ (l : Listed). l.inside) (ap listed (sym (s.rolls-Overlap parts)) ∙ fold-roll-Stmt Listed listed_step (Stmt-F.Overlap parts))

pub fewer : (body : List Stmt) → length body ≤ length (every body)
fewer [] = omega arith
fewer (x ∷ xs) = let rest = fewer xs in let both = length-append (listed x).inside (every xs) in omega (arith, rest, both)

-- ---- what is broken first

abbrev or_broken : Option Broken → Option Broken → Option Broken
or_broken (Some b) rest = Some b
or_broken None rest = rest

or_later_then : (n : ℕ) (o : Option Rule) (a b : Option Broken) → or_later n o (or_broken a b) ≡ or_broken (or_later n o a) b
or_later_then n (Some rule) a b = refl
or_later_then n None a b = refl

broken_then : (p : Program) (n : ℕ) (xs ys : List Stmt) → first_broken p n (xs ++ ys) ≡ or_broken (first_broken p n xs) (first_broken p (n + length xs) ys)
broken_then p n [] ys = ap (λ m. first_broken p m ys) (let same : n ≡ n + 0 = omega arith in same)
broken_then p n (x ∷ xs) ys =
    let rest = broken_then p (n + 1) xs ys in
    let same : (n + 1) + length xs ≡ n + length (x ∷ xs) = omega arith in
    rw (rest, same) (or_later_then n (broken_rule p x) (first_broken p (n + 1) xs) (first_broken p (n + length (x ∷ xs)) ys))

pub kept_then : (p : Program) (n m : ℕ) (xs ys : List Stmt) → Kept p n xs m → first_broken p n (xs ++ ys) ≡ first_broken p m ys
kept_then p n m xs ys h = broken_then p n xs ys ∙ rw (h.none, h.next) refl

-- the same is found among other statements
pub walked_as : (p : Program) (n m : ℕ) (xs ys : List Stmt) (fault : CheckFault) → first_broken p n xs ≡ first_broken p m ys → Walked p m ys (Err fault) → Walked p n xs (Err fault)
walked_as p n m xs ys (Refused stmt rule) e h = e ∙ h
walked_as p n m xs ys Memory e h = h

-- what is found first stays first
pub walked_first : (p : Program) (n : ℕ) (xs ys : List Stmt) (fault : CheckFault) → Walked p n xs (Err fault) → Walked p n (xs ++ ys) (Err fault)
walked_first p n xs ys (Refused stmt rule) h = broken_then p n xs ys ∙ ap (λ o. or_broken o (first_broken p (n + length xs) ys)) h
walked_first p n xs ys Memory h = h

-- one list of statements, and then another
pub walked_then : (p : Program) (n m : ℕ) (xs ys : List Stmt) (result : Result ℕ CheckFault) → Kept p n xs m → Walked p m ys result → Walked p n (xs ++ ys) result
walked_then p n m xs ys (Ok next) h g = record { none = kept_then p n m xs ys h ∙ g.none; next = let long = length-append xs ys in omega (arith, long, h.next, g.next) }
walked_then p n m xs ys (Err fault) h g = walked_as p n m (xs ++ ys) ys fault (kept_then p n m xs ys h) g

-- ---- as many as are counted

abbrev pub IsCounted : Stmt → Type 0
IsCounted x = length (listed x).inside + 1 ≡ statements_of x

abbrev Counted : Type 0
Counted = List ((x : Stmt) × IsCounted x)

abbrev firsts : Counted → List Stmt
firsts es = map (λ e. e.0) es

counted_list : (es : Counted) → length (all_of (map listed (firsts es))) ≡ sum (map statements_of (firsts es))
counted_list [] = refl
counted_list (e ∷ es) =
    let rest = counted_list es in
    let long = length-append (listed e.0).inside (all_of (map listed (firsts es))) in
    let more = sum_by-cons (λ n. n) (statements_of e.0) (map statements_of (firsts es)) in
    omega (arith, rest, long, more, e.1)

layer_counted : (y : Stmt-F ((x : Stmt) × IsCounted x)) → length (inside_step (map-Stmt Stmt Listed listed (map-Stmt _ Stmt (λ e. e.0) y))) + 1 ≡ statements_step (map-Stmt Stmt ℕ statements_of (map-Stmt _ Stmt (λ e. e.0) y))
layer_counted (Stmt-F.Serial acts) = refl
layer_counted (Stmt-F.When waits body) = let all = counted_list body in omega (arith, all)
layer_counted (Stmt-F.Overlap body) = let all = counted_list body in omega (arith, all)
layer_counted (Stmt-F.For x first test y step body) = let all = counted_list body in omega (arith, all)
layer_counted (Stmt-F.While test body) = let all = counted_list body in omega (arith, all)
layer_counted (Stmt-F.If test body None) =
    let all = counted_list body in
    let long = length-append (all_of (map listed (firsts body))) [] in
    omega (arith, all, long)
layer_counted (Stmt-F.If test body (Some other)) =
    let all = counted_list body in
    let more = counted_list other in
    let long = length-append (all_of (map listed (firsts body))) (all_of (map listed (firsts other))) in
    omega (arith, all, more, long)
layer_counted (Stmt-F.Seq body) = let all = counted_list body in omega (arith, all)

abbrev CountedSo : Listed → ℕ → Type 0
CountedSo l n = length l.inside + 1 ≡ n

pub counted : (x : Stmt) → IsCounted x
counted = ind-Stmt IsCounted (λ x y is.
    subst₂ CountedSo (sym (fold-roll-Stmt Listed listed_step x)) (sym (fold-roll-Stmt ℕ statements_step x))
    (subst (λ z. length (inside_step (map-Stmt Stmt Listed listed z)) + 1 ≡ statements_step (map-Stmt Stmt ℕ statements_of z)) is (layer_counted y)))

-- there are as many statements as are counted
pub every_counted : (body : List Stmt) → length (every body) ≡ statements_in body
every_counted [] = refl
every_counted (x ∷ xs) =
    let rest = every_counted xs in
    let long = length-append (listed x).inside (every xs) in
    let more = sum_by-cons (λ n. n) (statements_of x) (map statements_of xs) in
    omega (arith, rest, long, more, counted x)
