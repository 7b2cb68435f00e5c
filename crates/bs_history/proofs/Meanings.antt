-- What each statement means, and how many statements it is.
use Rattle.std.proofs.Common.{◌≡◌, ℕ, suc, ◌+◌, ◌-◌, arith, Bool, true, ◌&&◌, ◌||◌, List, [], ◌∷◌, ◌++◌, Some, None, map, sum, refl, sym, ap, ap₂, subst, subst₂, ◌∙◌}
use Rattle.bs_tree.specs.declared.tree.NameId.{NameId}
use Rattle.bs_tree.specs.declared.tree.Wait.{Wait}
use Rattle.bs_tree.specs.declared.tree.Expr.{Expr}
use Rattle.bs_tree.specs.declared.tree.Act.{Act}
use Rattle.bs_tree.specs.declared.tree.Stmt.{Stmt}
use Rattle.bs_tree.specs.declared.tree.Stmt.TheOpen.{Stmt-F}
use Rattle.bs_tree.specs.declared.tree.Stmt.TheVariants as v
use Rattle.bs_tree.specs.declared.tree.Stmt.TheFolds.{fold-roll-Stmt, ind-Stmt, map-Stmt}
use Rattle.bs_tree.specs.declared.tree.Program.{Program}
use Rattle.bs_tree.specs.Count.{statements_of, statements_in, statements_step}
use Rattle.std.proofs.lemmas.List.Sums.{sum_by-cons}
use Rattle.bs_semantics.specs.Layout.{place_of}
use Rattle.bs_semantics.specs.Value.{Value, value_of}
use Rattle.bs_history.specs.declared.ground.Ground.{Ground}
use Rattle.bs_check.specs.Known.{is_known}
use Rattle.std.proofs.lemmas.Bool.{and_parts}
use Rattle.bs_check.specs.Fits.{fit_step, is_fit, are_fit, is_set_fit, is_for_fit}
use Rattle.bs_history.specs.Ground.{program_of, means}
use Rattle.bs_semantics.specs.Acts.{block_of}
use Rattle.bs_semantics.specs.Run.{Lookup, Run, serial, State as PlainState, turns, no_step, assign, in_turn, keys_of, ask, took, any_part, overlap, with, branch, ends, Meant, meant, meant_step, counts, count_step}

module _ (p : Program) (limit this : ℕ) where
  abbrev all : List Stmt → List Meant
  all body = map (meant p limit this) body

  pub meant_while : (s : Stmt) (test : Expr) (body : List Stmt) → s ≡ v.While test body → meant p limit this s ≡ meant_step p limit this (Stmt-F.While test (all body))
  meant_while s test body e = ap (meant p limit this) (e ∙ sym (v.rolls-While test body)) ∙ fold-roll-Stmt Meant (meant_step p limit this) (Stmt-F.While test body)

  pub meant_for : (s : Stmt) (x : NameId) (first test : Expr) (y : NameId) (step : Expr) (body : List Stmt) → s ≡ v.For x first test y step body → meant p limit this s ≡ meant_step p limit this (Stmt-F.For x first test y step (all body))
  meant_for s x first test y step body e = ap (meant p limit this) (e ∙ sym (v.rolls-For x first test y step body)) ∙ fold-roll-Stmt Meant (meant_step p limit this) (Stmt-F.For x first test y step body)

  pub meant_if : (s : Stmt) (test : Expr) (body other : List Stmt) → s ≡ v.If test body (Some other) → meant p limit this s ≡ meant_step p limit this (Stmt-F.If test (all body) (Some (all other)))
  meant_if s test body other e = ap (meant p limit this) (e ∙ sym (v.rolls-If test body (Some other))) ∙ fold-roll-Stmt Meant (meant_step p limit this) (Stmt-F.If test body (Some other))

  pub meant_if_alone : (s : Stmt) (test : Expr) (body : List Stmt) → s ≡ v.If test body None → meant p limit this s ≡ meant_step p limit this (Stmt-F.If test (all body) None)
  meant_if_alone s test body e = ap (meant p limit this) (e ∙ sym (v.rolls-If test body None)) ∙ fold-roll-Stmt Meant (meant_step p limit this) (Stmt-F.If test body None)

  pub meant_serial : (s : Stmt) (acts : List Act) → s ≡ v.Serial acts → meant p limit this s ≡ meant_step p limit this (Stmt-F.Serial acts)
  meant_serial s acts e = ap (meant p limit this) (e ∙ sym (v.rolls-Serial acts)) ∙ fold-roll-Stmt Meant (meant_step p limit this) (Stmt-F.Serial acts)

  pub meant_seq : (s : Stmt) (body : List Stmt) → s ≡ v.Seq body → meant p limit this s ≡ meant_step p limit this (Stmt-F.Seq (all body))
  meant_seq s body e = ap (meant p limit this) (e ∙ sym (v.rolls-Seq body)) ∙ fold-roll-Stmt Meant (meant_step p limit this) (Stmt-F.Seq body)

  pub meant_when : (s : Stmt) (waits : List Wait) (body : List Stmt) → s ≡ v.When waits body → meant p limit this s ≡ meant_step p limit this (Stmt-F.When waits (all body))
  meant_when s waits body e = ap (meant p limit this) (e ∙ sym (v.rolls-When waits body)) ∙ fold-roll-Stmt Meant (meant_step p limit this) (Stmt-F.When waits body)

  pub meant_overlap : (s : Stmt) (body : List Stmt) → s ≡ v.Overlap body → meant p limit this s ≡ meant_step p limit this (Stmt-F.Overlap (all body))
  meant_overlap s body e = ap (meant p limit this) (e ∙ sym (v.rolls-Overlap body)) ∙ fold-roll-Stmt Meant (meant_step p limit this) (Stmt-F.Overlap body)

  -- ---- counts

  abbrev Agrees : Stmt → Type 0
  Agrees s = (meant p limit this s).count ≡ statements_of s

  abbrev With : Type 0
  With = (s : Stmt) × Agrees s

  all_agree : (es : List With) → counts (all (map (λ e. e.0) es)) ≡ sum (map statements_of (map (λ e. e.0) es))
  all_agree [] = refl
  all_agree (e ∷ es) =
      let one = e.1 in
      let more = all_agree es in
      let both = sum_by-cons (λ n. n) (statements_of e.0) (map statements_of (map (λ e. e.0) es)) in
      omega (arith, one, more, both)

  inside : (y : Stmt-F With) → count_step (map-Stmt Stmt Meant (meant p limit this) (map-Stmt With Stmt (λ e. e.0) y)) ≡ statements_step (map-Stmt Stmt ℕ statements_of (map-Stmt With Stmt (λ e. e.0) y))
  inside (Stmt-F.Serial acts) = refl
  inside (Stmt-F.When waits body) = ap (λ n. 1 + n) (all_agree body)
  inside (Stmt-F.Overlap body) = ap (λ n. 1 + n) (all_agree body)
  inside (Stmt-F.For x first test y step body) = ap (λ n. 1 + n) (all_agree body)
  inside (Stmt-F.While test body) = ap (λ n. 1 + n) (all_agree body)
  inside (Stmt-F.If test body None) = ap (λ n. 1 + n + 0) (all_agree body)
  inside (Stmt-F.If test body (Some other)) = ap₂ (λ n m. 1 + n + m) (all_agree body) (all_agree other)
  inside (Stmt-F.Seq body) = ap (λ n. 1 + n) (all_agree body)

  pub count_is : (s : Stmt) → (meant p limit this s).count ≡ statements_of s
  count_is = ind-Stmt Agrees (λ x y is.
      subst₂ (λ (d : Meant) (n : ℕ). d.count ≡ n) (sym (fold-roll-Stmt Meant (meant_step p limit this) x)) (sym (fold-roll-Stmt ℕ statements_step x))
      (subst (λ z. count_step (map-Stmt Stmt Meant (meant p limit this) z) ≡ statements_step (map-Stmt Stmt ℕ statements_of z)) is (inside y)))

  pub counts_are : (body : List Stmt) → counts (all body) ≡ statements_in body
  counts_are [] = refl
  counts_are (s ∷ body) =
      let one = count_is s in
      let more = counts_are body in
      let both = sum_by-cons (λ n. n) (statements_of s) (map statements_of body) in
      omega (arith, one, more, both)

pub statements_cons : (s : Stmt) (body : List Stmt) → statements_in (s ∷ body) ≡ statements_of s + statements_in body
statements_cons s body = sum_by-cons (λ n. n) (statements_of s) (map statements_of body)

pub from_zero : (n : ℕ) → suc n - 0 ≡ suc n
from_zero n = omega arith

module _ (g : Ground) (s : Stmt) (n : ℕ) (path : List ℕ) (st : PlainState) (b : Lookup) where
  abbrev does_now : Run
  does_now = (means g s).does b n path st

  abbrev value_in : Expr → PlainState → Value
  value_in e = λ s. value_of (program_of g) g.this e s.cells

  abbrev sides : List Stmt → List Meant
  sides body = map (means g) body

  pub serial_does : (acts : List Act) → s ≡ v.Serial acts → serial g.this n path st (block_of (program_of g) g.this acts st.cells) ≡ does_now
  serial_does acts e = sym (ap (λ m. m.does b n path st) (meant_serial (program_of g) g.limit g.this s acts e))

  pub seq_does : (body xs : List Stmt) → s ≡ v.Seq body → xs ≡ body → in_turn (sides xs) 0 b (n + 1) path st ≡ does_now
  seq_does body xs e h = ap (λ xs. in_turn (sides xs) 0 b (n + 1) path st) h ∙ sym (ap (λ m. m.does b n path st) (meant_seq (program_of g) g.limit g.this s body e))

  pub while_does : (test : Expr) (body xs : List Stmt) → s ≡ v.While test body → xs ≡ body → turns (suc g.limit - 0) (value_in test) no_step (sides xs) 0 b n path st ≡ does_now
  while_does test body xs e h =
      ap (λ m. turns m (value_in test) no_step (sides xs) 0 b n path st) (from_zero g.limit)
      ∙ ap (λ xs. turns (suc g.limit) (value_in test) no_step (sides xs) 0 b n path st) h
      ∙ sym (ap (λ m. m.does b n path st) (meant_while (program_of g) g.limit g.this s test body e))

  pub for_does : (x : NameId) (first test : Expr) (y : NameId) (step : Expr) (body xs : List Stmt) → s ≡ v.For x first test y step body → xs ≡ body →
      assign (value_in first) (place_of (program_of g) x).from n path (turns (suc g.limit) (value_in test) (assign (value_in step) (place_of (program_of g) y).from) (sides xs) 0 b n path) st ≡ does_now
  for_does x first test y step body xs e h =
      ap (λ xs. assign (value_in first) (place_of (program_of g) x).from n path (turns (suc g.limit) (value_in test) (assign (value_in step) (place_of (program_of g) y).from) (sides xs) 0 b n path) st) h
      ∙ sym (ap (λ m. m.does b n path st) (meant_for (program_of g) g.limit g.this s x first test y step body e))

  pub if_does : (test : Expr) (body other : List Stmt) → s ≡ v.If test body (Some other) →
      with n path (value_in test st) (λ v. branch v (in_turn (sides body) 0 b (n + 1) (path ++ 0 ∷ [])) (in_turn (sides other) 0 b (n + 1 + statements_in body) (path ++ 1 ∷ [])) st) ≡ does_now
  if_does test body other e =
      ap (λ k. with n path (value_in test st) (λ v. branch v (in_turn (sides body) 0 b (n + 1) (path ++ 0 ∷ [])) (in_turn (sides other) 0 b (n + 1 + k) (path ++ 1 ∷ [])) st)) (sym (counts_are (program_of g) g.limit g.this body))
      ∙ sym (ap (λ m. m.does b n path st) (meant_if (program_of g) g.limit g.this s test body other e))

  pub if_alone_does : (test : Expr) (body : List Stmt) → s ≡ v.If test body None →
      with n path (value_in test st) (λ v. branch v (in_turn (sides body) 0 b (n + 1) (path ++ 0 ∷ [])) ends st) ≡ does_now
  if_alone_does test body e = sym (ap (λ m. m.does b n path st) (meant_if_alone (program_of g) g.limit g.this s test body e))

  pub when_does : (waits ws : List Wait) (body xs : List Stmt) → s ≡ v.When waits body → ws ≡ waits → xs ≡ body →
      with n path (keys_of (program_of g) g.this ws st.cells) (λ ks. ask b n path ks (λ ms. in_turn (sides xs) 0 b (n + 1) path (took (program_of g) ws st ms))) ≡ does_now
  when_does waits ws body xs e h k =
      ap₂ (λ ws xs. with n path (keys_of (program_of g) g.this ws st.cells) (λ ks. ask b n path ks (λ ms. in_turn (sides xs) 0 b (n + 1) path (took (program_of g) ws st ms)))) h k
      ∙ sym (ap (λ m. m.does b n path st) (meant_when (program_of g) g.limit g.this s waits body e))

  pub overlap_does : (body xs : List Stmt) → s ≡ v.Overlap body → xs ≡ body → overlap (sides xs) b (n + 1) path st ≡ does_now
  overlap_does body xs e h = ap (λ xs. overlap (sides xs) b (n + 1) path st) h ∙ sym (ap (λ m. m.does b n path st) (meant_overlap (program_of g) g.limit g.this s body e))

-- ---- what a `for` needs

pub for_counts : (s : Stmt) (x : NameId) (first test : Expr) (y : NameId) (step : Expr) (body : List Stmt) → s ≡ v.For x first test y step body → statements_of s ≡ 1 + statements_in body
for_counts s x first test y step body e = ap statements_of (e ∙ sym (v.rolls-For x first test y step body)) ∙ fold-roll-Stmt ℕ statements_step (Stmt-F.For x first test y step body)

-- what a `for` sets and tests is fit
module _ (p : Program) (x : NameId) (first test : Expr) (y : NameId) (step : Expr) (h : is_for_fit p x first test y step ≡ true) where
  pub for_begun : is_set_fit p x first ≡ true
  unfolding is_for_fit
  for_begun = (and_parts (is_set_fit p x first) (is_known p test) (and_parts (is_set_fit p x first && is_known p test) (is_set_fit p y step) h).0).0

  pub for_tested : is_known p test ≡ true
  unfolding is_for_fit
  for_tested = (and_parts (is_set_fit p x first) (is_known p test) (and_parts (is_set_fit p x first && is_known p test) (is_set_fit p y step) h).0).1

  pub for_stepped : is_set_fit p y step ≡ true
  unfolding is_for_fit
  for_stepped = (and_parts (is_set_fit p x first && is_known p test) (is_set_fit p y step) h).1

pub for_fits : (p : Program) (s : Stmt) (x : NameId) (first test : Expr) (y : NameId) (step : Expr) (body : List Stmt) → s ≡ v.For x first test y step body → is_fit p s ≡ true → (is_for_fit p x first test y step ≡ true) × (are_fit p body ≡ true)
for_fits p s x first test y step body e h =
    let all = sym (ap (is_fit p) (e ∙ sym (v.rolls-For x first test y step body)) ∙ fold-roll-Stmt Bool (fit_step p) (Stmt-F.For x first test y step body)) ∙ h in
    and_parts (is_for_fit p x first test y step) (are_fit p body) all

pub if_writes : (g : Ground) (s : Stmt) (test : Expr) (body other : List Stmt) → s ≡ v.If test body (Some other) → (i : ℕ) → (means g s).writes i ≡ (any_part (map (means g) body) i || any_part (map (means g) other) i)
if_writes g s test body other e i = ap (λ m. m.writes i) (meant_if (program_of g) g.limit g.this s test body other e)
