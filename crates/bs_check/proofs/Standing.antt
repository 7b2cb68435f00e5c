-- Where statements stand in the text of a program, and which number comes behind each.
use Rattle.std.proofs.Common.{◌≡◌, ◌≤◌, ◌<◌, ℕ, zero, suc, ◌+◌, ◌-◌, ◌∙◌, List, [], ◌∷◌, ◌++◌, length, take, drop, get_or, map, Option, Some, None, slice_get, refl, sym, ap, ap₂, subst, length-append, arith}
use Rattle.std.proofs.Math.Seq.{take-length}
use Rattle.std.proofs.lemmas.List.{drop-drop, append-nil}
use Rattle.std.proofs.lemmas.List.Sums.{sum_by-cons}
use Rattle.bs_tree.specs.Count.{statements_of, statements_in}
use Rattle.bs_tree.specs.declared.tree.Expr.{Expr}
use Rattle.bs_tree.specs.declared.tree.NameId.{NameId}
use Rattle.bs_tree.specs.declared.tree.Wait.{Wait}
use Rattle.bs_tree.specs.declared.tree.Stmt.{Stmt, roll-Stmt}
use Rattle.bs_tree.specs.declared.tree.Stmt.TheVariants as v
use Rattle.bs_tree.specs.declared.tree.Stmt.TheOpen.{Stmt-F}
use Rattle.bs_tree.specs.declared.tree.Stmt.TheFolds.{fold-roll-Stmt, map-Stmt}
use Rattle.bs_tree.specs.declared.tree.Program.{Program}
use Rattle.bs_check.specs.Every.{Listed, inside_step, listed_step, listed, every}
use Rattle.bs_check.specs.Numbers.{ends_from, ends_of, StandsAt}
use Rattle.bs_check.proofs.Ends.{ends_length}
use Rattle.bs_check.proofs.Everything.{every_first, every_counted, counted}
use Rattle.bs_check.proofs.Rows.{drop_item}

-- ---- a part of a list

front_of : {X : Type 0} (xs ys zs : List X) → take (length (xs ++ ys)) zs ≡ xs ++ ys → take (length xs) zs ≡ xs
front_of [] ys zs h = refl
front_of (x ∷ xs) ys [] h = absurd (cc)
front_of (x ∷ xs) ys (z ∷ zs) h =
    let one : z ≡ x = cc in
    let more : take (length (xs ++ ys)) zs ≡ xs ++ ys = cc in
    ap₂ (λ y ys. y ∷ ys) one (front_of xs ys zs more)

back_of : {X : Type 0} (xs ys zs : List X) → take (length (xs ++ ys)) zs ≡ xs ++ ys → take (length ys) (drop (length xs) zs) ≡ ys
back_of [] ys zs h = h
back_of (x ∷ xs) ys [] h = absurd (cc)
back_of (x ∷ xs) ys (z ∷ zs) h =
    let more : take (length (xs ++ ys)) zs ≡ xs ++ ys = cc in
    back_of xs ys zs more

-- this list stands in a longer one from this place on, counted from 0
abbrev Begins : {X : Type 0} → ℕ → List X → List X → Type 0
Begins k xs zs = take (length xs) (drop k zs) ≡ xs

begins_front : {X : Type 0} (k : ℕ) (xs ys zs : List X) → Begins k (xs ++ ys) zs → Begins k xs zs
begins_front k xs ys zs h = front_of xs ys (drop k zs) h

begins_back : {X : Type 0} (k m : ℕ) (xs ys zs : List X) → length xs + k ≡ m → Begins k (xs ++ ys) zs → Begins m ys zs
begins_back k m xs ys zs same h =
    let same : k + length xs ≡ m = omega arith in
    ap (take (length ys)) (ap (λ i. drop i zs) (sym same) ∙ sym (drop-drop (length xs) k zs)) ∙ back_of xs ys (drop k zs) h

begins_first : {X : Type 0} (k : ℕ) (x : X) (xs zs : List X) → Begins k (x ∷ xs) zs → slice_get zs k ≡ Some x
begins_first zero x xs [] h = absurd (cc)
begins_first zero x xs (z ∷ zs) h = let same : z ≡ x = cc in ap Some same
begins_first (suc k) x xs [] h = absurd (cc)
begins_first (suc k) x xs (z ∷ zs) h = begins_first k x xs zs h

-- ---- how many statements there are

pub statements_cons : (s : Stmt) (body : List Stmt) → statements_in (s ∷ body) ≡ statements_of s + statements_in body
statements_cons s body = sum_by-cons (λ n. n) (statements_of s) (map statements_of body)

-- a statement is one itself
pub one_at_least : (s : Stmt) → 1 ≤ statements_of s
one_at_least s = let all = counted s in omega (arith, all)

-- ---- the number that comes behind a statement

end_at : (n k : ℕ) (xs : List Stmt) (s : Stmt) → slice_get xs k ≡ Some s → slice_get (ends_from n xs) k ≡ Some (n + k + statements_of s)
end_at n k [] s h = absurd (cc)
end_at n zero (x ∷ xs) s h =
    let same : x ≡ s = cc in
    let sum : n + statements_of x ≡ n + 0 + statements_of x = omega arith in
    ap Some (sum ∙ ap (λ y. n + 0 + statements_of y) same)
end_at n (suc k) (x ∷ xs) s h =
    let sum : (n + 1) + k + statements_of s ≡ n + suc k + statements_of s = omega arith in
    end_at (n + 1) k xs s h ∙ ap Some sum

-- there is one for each statement of the program
pub ends_count : (p : Program) → length (ends_of p) ≡ statements_in p.body
unfolding ends_of
ends_count p = ends_length 1 (every p.body) ∙ every_counted p.body

-- ---- where a list of statements stands

module _ (p : Program) where
  -- the whole body stands at 1
  pub whole_stands : StandsAt p 1 p.body
  whole_stands = record { first = omega arith; last = omega arith; here = take-length (every p.body) }

  module _ (n : ℕ) (s : Stmt) (ss : List Stmt) (at : StandsAt p n (s ∷ ss)) where
    opened : Begins (n - 1) ((s ∷ (listed s).inside) ++ every ss) (every p.body)
    opened = subst (λ xs. Begins (n - 1) xs (every p.body)) (every_first s ss) at.here

    -- a statement and those inside it are within the text
    pub is_within_text : n + statements_of s ≤ statements_in p.body + 1
    is_within_text = let all = statements_cons s ss in omega (arith, at.last, all)

    -- its number is that of a statement
    pub is_number : (1 ≤ n) × (n ≤ statements_in p.body)
    is_number = let one = one_at_least s in let last = is_within_text in (at.first, omega (arith, one, last))

    -- what comes behind it
    pub end_is : slice_get (ends_of p) (n - 1) ≡ Some (n + statements_of s)
    unfolding ends_of
    end_is =
        let here = begins_first (n - 1) s ((listed s).inside ++ every ss) (every p.body) opened in
        let first = at.first in
        let sum : 1 + (n - 1) + statements_of s ≡ n + statements_of s = omega (arith, first) in
        end_at 1 (n - 1) (every p.body) s here ∙ ap Some sum

    pub end_found : (next : ℕ) → slice_get (ends_of p) (n - 1) ≡ Some next → next ≡ n + statements_of s
    end_found next h = let is = end_is in cc

    -- the statement by itself
    pub alone_stands : StandsAt p n (s ∷ [])
    alone_stands =
        let one = statements_cons s [] in
        let last = is_within_text in
        let self : every (s ∷ ss) ≡ every (s ∷ []) ++ every ss = ap (λ xs. (listed s).self ∷ (xs ++ every ss)) (sym (append-nil (listed s).inside)) in
        record {
          first = at.first;
          last = omega (arith, one, last);
          here = begins_front (n - 1) (every (s ∷ [])) (every ss) (every p.body) (subst (λ xs. Begins (n - 1) xs (every p.body)) self at.here);
        }

    -- the statements that come behind it
    pub rest_stands : StandsAt p (n + statements_of s) ss
    rest_stands =
        let all = statements_cons s ss in
        let one = counted s in
        let first = at.first in
        let next : length (s ∷ (listed s).inside) + (n - 1) ≡ n + statements_of s - 1 = omega (arith, one, first) in
        record {
          first = omega (arith, first);
          last = omega (arith, at.last, all);
          here = begins_back (n - 1) (n + statements_of s - 1) (s ∷ (listed s).inside) (every ss) (every p.body) next opened;
        }

    inside_begins : Begins n (listed s).inside (every p.body)
    inside_begins =
        let first = at.first in
        let next : length (s ∷ []) + (n - 1) ≡ n = omega (arith, first) in
        begins_back (n - 1) n (s ∷ []) (listed s).inside (every p.body) next (begins_front (n - 1) (s ∷ (listed s).inside) (every ss) (every p.body) opened)

    -- a list that is all that stands inside the statement
    pub inside_stands : (body : List Stmt) → (listed s).inside ≡ every body → StandsAt p (n + 1) body
    inside_stands body h =
        let long = ap length h in
        let all = every_counted body in
        let one = counted s in
        let last = is_within_text in
        let same : n ≡ n + 1 - 1 = omega arith in
        record {
          first = omega arith;
          last = omega (arith, long, all, one, last);
          here = subst (λ k. Begins k (every body) (every p.body)) same (subst (λ xs. Begins n xs (every p.body)) h inside_begins);
        }

    -- two lists that are all that stands inside the statement
    pub first_stands : (body other : List Stmt) → (listed s).inside ≡ every body ++ every other → StandsAt p (n + 1) body
    first_stands body other h =
        let long = ap length h in
        let both = length-append (every body) (every other) in
        let all = every_counted body in
        let one = counted s in
        let last = is_within_text in
        let same : n ≡ n + 1 - 1 = omega arith in
        record {
          first = omega arith;
          last = omega (arith, long, both, all, one, last);
          here = subst (λ k. Begins k (every body) (every p.body)) same (begins_front n (every body) (every other) (every p.body) (subst (λ xs. Begins n xs (every p.body)) h inside_begins));
        }

    pub second_stands : (body other : List Stmt) → (listed s).inside ≡ every body ++ every other → StandsAt p (n + 1 + statements_in body) other
    second_stands body other h =
        let long = ap length h in
        let both = length-append (every body) (every other) in
        let all = every_counted body in
        let rest = every_counted other in
        let one = counted s in
        let last = is_within_text in
        let next : length (every body) + n ≡ n + 1 + statements_in body - 1 = omega (arith, all) in
        record {
          first = omega arith;
          last = omega (arith, long, both, all, rest, one, last);
          here = begins_back n (n + 1 + statements_in body - 1) (every body) (every other) (every p.body) next (subst (λ xs. Begins n xs (every p.body)) h inside_begins);
        }

-- ---- what stands inside a statement, for each form of it

unrolled : (y : Stmt-F Stmt) (s : Stmt) → roll-Stmt y ≡ s → (listed s).inside ≡ inside_step (map-Stmt Stmt Listed listed y)
unrolled y s e = ap (λ (l : Listed). l.inside) (ap listed (sym e) ∙ fold-roll-Stmt Listed listed_step y)

module _ {p : Program} {n : ℕ} {s : Stmt} {ss : List Stmt} where
  pub when_stands : (waits : List Wait) (body : List Stmt) → s ≡ v.When waits body → StandsAt p n (s ∷ ss) → StandsAt p (n + 1) body
  when_stands waits body e at = inside_stands p n s ss at body (unrolled (Stmt-F.When waits body) s (v.rolls-When waits body ∙ sym e))

  pub overlap_stands : (body : List Stmt) → s ≡ v.Overlap body → StandsAt p n (s ∷ ss) → StandsAt p (n + 1) body
  overlap_stands body e at = inside_stands p n s ss at body (unrolled (Stmt-F.Overlap body) s (v.rolls-Overlap body ∙ sym e))

  pub for_stands : (x : NameId) (first test : Expr) (y : NameId) (step : Expr) (body : List Stmt) → s ≡ v.For x first test y step body → StandsAt p n (s ∷ ss) → StandsAt p (n + 1) body
  for_stands x first test y step body e at = inside_stands p n s ss at body (unrolled (Stmt-F.For x first test y step body) s (v.rolls-For x first test y step body ∙ sym e))

  pub while_stands : (test : Expr) (body : List Stmt) → s ≡ v.While test body → StandsAt p n (s ∷ ss) → StandsAt p (n + 1) body
  while_stands test body e at = inside_stands p n s ss at body (unrolled (Stmt-F.While test body) s (v.rolls-While test body ∙ sym e))

  pub seq_stands : (body : List Stmt) → s ≡ v.Seq body → StandsAt p n (s ∷ ss) → StandsAt p (n + 1) body
  seq_stands body e at = inside_stands p n s ss at body (unrolled (Stmt-F.Seq body) s (v.rolls-Seq body ∙ sym e))

  -- the first list of an `if`, whether it has an `else` or not
  pub then_stands : (test : Expr) (body : List Stmt) (other : Option (List Stmt)) → s ≡ v.If test body other → StandsAt p n (s ∷ ss) → StandsAt p (n + 1) body
  then_stands test body None e at = first_stands p n s ss at body [] (unrolled (Stmt-F.If test body None) s (v.rolls-If test body None ∙ sym e))
  then_stands test body (Some other) e at = first_stands p n s ss at body other (unrolled (Stmt-F.If test body (Some other)) s (v.rolls-If test body (Some other) ∙ sym e))

  pub else_stands : (test : Expr) (body other : List Stmt) → s ≡ v.If test body (Some other) → StandsAt p n (s ∷ ss) → StandsAt p (n + 1 + statements_in body) other
  else_stands test body other e at = second_stands p n s ss at body other (unrolled (Stmt-F.If test body (Some other)) s (v.rolls-If test body (Some other) ∙ sym e))

-- ---- a loop over a list

-- the item at this place of a list comes next
pub item_stands : {p : Program} {n : ℕ} (xs : List Stmt) (i : ℕ) (x d : Stmt) → i < length xs → x ≡ get_or xs i d → StandsAt p n (drop i xs) → StandsAt p n (x ∷ drop (i + 1) xs)
item_stands {p} {n} xs i x d h e at = subst (λ ys. StandsAt p n ys) (drop_item xs i x d h e) at
