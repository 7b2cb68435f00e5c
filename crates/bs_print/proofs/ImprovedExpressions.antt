-- Expressions that are spelled are improved by their canonical items.
use Rattle.std.proofs.Common.{◌≡◌, ℕ, suc, pos, ◌≤◌, List, [], ◌∷◌, ◌++◌, map, Option, Some, None, refl, sym, ap, subst, ◌∙◌, arith, append_assoc, inl, inr}
use Rattle.bs_tree.specs.declared.symbols.Word.{Word}
use Rattle.bs_tree.specs.declared.symbols.Word.TheVariants as w
use Rattle.bs_tree.specs.declared.symbols.Mark.{Mark}
use Rattle.bs_tree.specs.declared.symbols.Mark.TheVariants as m
use Rattle.bs_tree.specs.declared.tree.NameId.{NameId}
use Rattle.bs_tree.specs.declared.tree.Expr.{Expr}
use Rattle.bs_tree.specs.declared.tree.Expr.TheVariants as e
use Rattle.bs_tree.specs.declared.tree.Op2.{Op2}
use Rattle.bs_tree.specs.Rule as g
use Rattle.bs_tree.specs.Rule.{Terminal, operand, operator, Item, Choice, a_name, a_number, the_word, the_mark, an_operator, accepted, Inside, whole_number, statements, acts, expression, expressions, names, loop_head, Rule, Spells, SpellsMany, SpellsMaybe}
use Rattle.bs_tree.specs.Grammar.{as_name, literal, variable, index, group, primary, unary, product, sum, comparison, conjunction, disjunction, chain, tail, compared, content, Inner, multiplies, adds, compares, joins, chooses}
use Rattle.bs_tree.specs.Grammar.{grouped as left_grouped}
use Rattle.bs_parse.proofs.Basics.{append_none, some_if, same_words}
use Rattle.bs_parse.proofs.Sound.{mark_token}
use Rattle.bs_print.specs.Expressions.{grouped, indexed, expression_items}
use Rattle.bs_print.specs.Statements.{with_commas, name_items, count_items, acts_items, statements_items, head_items}
use Rattle.bs_print.proofs.Improved.{Improved, Improves}
use Rattle.bs_print.proofs.Spelling.{Spelled}
use Rattle.bs_print.proofs.Levels.{Good, weaker, rule_at, number_good, variable_good, at_good, this_good, chares_good, group_good, minus_good, not_good, bare_spelled, bare_lean, Operator, two_good, chooses_operator, joins_operator, compares_operator, adds_operator, multiplies_operator, chain_spelled, compared_spelled}

-- what is known of what stands inside brackets
abbrev pub InsideGood : {B : Type 0} → Inside B → List Item → B → Type 0
InsideGood whole_number items n = Improved (content whole_number) (count_items n) items n
InsideGood statements items body = Improved (content statements) (statements_items body) items body
InsideGood acts items list = Improved (content acts) (acts_items list) items list
InsideGood expression items x = Good 0 items x
InsideGood expressions items xs = Improved (content expressions) (with_commas (map expression_items xs)) items xs
InsideGood names items xs = Improved (content names) (with_commas (map name_items xs)) items xs
InsideGood loop_head items h = Improved (content loop_head) (head_items h.0 h.1 h.2 h.3 h.4) items h

pub good_improved : (items : List Item) (x : Expr) → Good 0 items x → Improved disjunction (expression_items x) items x
good_improved items x good = record { spelled = bare_spelled x good.printable; lean = bare_lean 0 items x good }

-- ---- one token

literal_good : (t : Terminal) (x : Expr) → accepted (a_number literal) t ≡ Some x → Good 6 ((operand, t) ∷ []) x
literal_good (g.number (pos n)) x h = let same : e.Number (pos n) ≡ x = cc in subst (Good 6 ((operand, g.number (pos n)) ∷ [])) same (number_good n)
literal_good _ x h = cc

word_good : (v : Word) (y : Expr) → Good 6 ((operand, g.word v) ∷ []) y → (t : Terminal) (x : Expr) → accepted (the_word v y) t ≡ Some x → Good 6 ((operand, t) ∷ []) x
word_good v y good (g.word u) x h =
    let found = some_if _ y x h in
    let is : v ≡ u = same_words v u found in
    let same : y ≡ x = let h' = rw found at h in cc in
    subst (λ s. Good 6 ((operand, g.word s) ∷ []) x) is (subst (Good 6 ((operand, g.word v) ∷ [])) same good)
word_good v y good _ x h = cc

from_items : (level : ℕ) (items more : List Item) (x y : Expr) → items ≡ more → x ≡ y → Good level items x → Good level more y
from_items level items more x y is same good = subst (λ xs. Good level xs y) is (subst (Good level items) same good)

module _ (d : ℕ) (deeper : (B : Type 0) (inside : Inside B) (items : List Item) (b : B) → Inner d B inside items b → InsideGood inside items b) where
  -- ---- tight expressions

  cell_good : (t : Terminal) (x : NameId) → accepted (a_name as_name) t ≡ Some x → (ys : List Item) (o : Option Expr) → SpellsMaybe (Spells (Inner d) (index operand)) ys o → Good 6 ((operand, t) ∷ ys) (variable x o)
  unfolding index
  cell_good (g.name n) x h ys None m =
      let same : as_name n ≡ x = cc in
      from_items 6 ((operand, g.name n) ∷ []) _ (e.Var (as_name n)) (e.Var x) (ap (λ zs. (operand, g.name n) ∷ zs) (sym m)) (ap e.Var same) (variable_good (as_name n))
  cell_good (g.name n) x h ys (Some i) m =
      let same : as_name n ≡ x = cc in
      from_items 6 ((operand, g.name n) ∷ indexed operand m.0) _ (e.At (as_name n) m.1) (e.At x i) (ap (λ zs. (operand, g.name n) ∷ zs) (sym m.2)) (ap (λ z. e.At z m.1) same ∙ ap (e.At x) m.4)
      (at_good (as_name n) m.0 m.1 (deeper Expr expression m.0 m.1 m.3))
  cell_good _ x h ys o m = cc

  primary_good : (items : List Item) (x : Expr) → Spells (Inner d) primary items x → Good 6 items x
  unfolding primary group
  primary_good items x (inl s) = from_items 6 _ items x x (sym s.1) refl (literal_good s.0 x s.2)
  primary_good items x (inr (inl s)) =
      let front = s.5 in
      let good = cell_good front.0 s.2 front.2 s.1 s.6.0 s.6.1 in
      from_items 6 ((operand, front.0) ∷ s.1) items (variable s.2 s.6.0) x (ap (λ zs. zs ++ s.1) (sym front.1) ∙ sym s.4) (ap (variable s.2) s.6.2 ∙ s.7) good
  primary_good items x (inr (inr (inl s))) = from_items 6 _ items x x (sym s.1) refl (word_good w.This e.This this_good s.0 x s.2)
  primary_good items x (inr (inr (inr (inl s)))) = from_items 6 _ items x x (sym s.1) refl (word_good w.Chares e.Chares chares_good s.0 x s.2)
  primary_good items x (inr (inr (inr (inr s)))) = from_items 6 (grouped operand s.0) items s.1 x (sym s.2) s.4 (group_good s.0 s.1 (deeper Expr expression s.0 s.1 s.3))

  unary_good : (items : List Item) (x : Expr) → Spells (Inner d) unary items x → Good 5 items x
  unfolding unary
  unary_good items x (inl s) =
      let front = s.5 in
      let is : items ≡ (operand, g.mark m.Minus) ∷ s.1 = s.4 ∙ ap (λ zs. zs ++ s.1) (front.1 ∙ ap (λ t. (operand, t) ∷ []) (mark_token m.Minus front.0 front.2)) in
      from_items 5 _ items (e.Neg s.3) x (sym is) s.7 (minus_good s.1 s.3 (primary_good s.1 s.3 s.6))
  unary_good items x (inr (inl s)) =
      let front = s.5 in
      let is : items ≡ (operand, g.mark m.Not) ∷ s.1 = s.4 ∙ ap (λ zs. zs ++ s.1) (front.1 ∙ ap (λ t. (operand, t) ∷ []) (mark_token m.Not front.0 front.2)) in
      from_items 5 _ items (e.Not s.3) x (sym is) s.7 (not_good s.1 s.3 (primary_good s.1 s.3 s.6))
  unary_good items x (inr (inr s)) = weaker 5 items x (primary_good items x s)

  -- ---- operators

  -- an operator with its right operand behind a left operand
  tail_good : (level left : ℕ) (operators : Mark → Option Op2) (r : Rule Expr) → level ≤ 4 → ((n : Mark) (op : Op2) → operators n ≡ Some op → Operator level left n op)
      → ((ys : List Item) (y : Expr) → Spells (Inner d) r ys y → Good (suc level) ys y)
      → ((n : Mark) (op : Op2) → operators n ≡ Some op → (us vs : List Item) (a b : Expr) → Spelled (rule_at left) us a → Spelled (rule_at (suc level)) vs b → Spelled (rule_at level) (us ++ (operator, g.mark n) ∷ vs) (e.Two op a b))
      → left ≤ 6 → (xs ys : List Item) (a : Expr) (t : Op2 × Expr) → Good left xs a → Spells (Inner d) (tail operators r) ys t → Good level (xs ++ ys) (e.Two t.0 a t.1)
  tail_good level left operators r few facts right joined small xs ys a t good s = by s.5.0 s.5.1 s.5.2
    where
      by : (u : Terminal) → s.0 ≡ (operator, u) ∷ [] → accepted (an_operator operators) u ≡ Some s.2 → Good level (xs ++ ys) (e.Two t.0 a t.1)
      by (g.mark n) is h =
          let second = right s.1 s.3 s.6 in
          let whole = two_good level left n s.2 (facts n s.2 h) few xs s.1 a s.3 good second (joined n s.2 h _ _ a s.3 (good.printable left small) (second.printable (suc level) (omega (arith, few)))) in
          from_items level (xs ++ (operator, g.mark n) ∷ s.1) (xs ++ ys) (e.Two s.2 a s.3) (e.Two t.0 a t.1) (ap (λ zs. xs ++ zs) (ap (λ zs. zs ++ s.1) (sym is) ∙ sym s.4)) (ap (λ (u : Op2 × Expr). e.Two u.0 a u.1) s.7) whole
      by _ is h = cc

  chain_good : (level : ℕ) (operators : Mark → Option Op2) (r : Rule Expr) → level ≤ 4 → ((n : Mark) (op : Op2) → operators n ≡ Some op → Operator level level n op)
      → ((ys : List Item) (y : Expr) → Spells (Inner d) r ys y → Good (suc level) ys y)
      → ((n : Mark) (op : Op2) → operators n ≡ Some op → (us vs : List Item) (a b : Expr) → Spelled (rule_at level) us a → Spelled (rule_at (suc level)) vs b → Spelled (rule_at level) (us ++ (operator, g.mark n) ∷ vs) (e.Two op a b))
      → (items : List Item) (x : Expr) → Spells (Inner d) (chain operators r) items x → Good level items x
  chain_good level operators r few facts right joined items x s =
      let rest = s.6 in
      let first = weaker level s.0 s.2 (right s.0 s.2 s.5) in
      from_items level (s.0 ++ s.1) items (left_grouped s.2 rest.0) x (sym s.4) (ap (left_grouped s.2) rest.2 ∙ s.7) (all s.0 s.1 s.2 rest.0 first rest.1)
    where
      all : (xs ys : List Item) (a : Expr) (ts : List (Op2 × Expr)) → Good level xs a → SpellsMany (Spells (Inner d) (tail operators r)) ys ts → Good level (xs ++ ys) (left_grouped a ts)
      all xs ys a [] good m = from_items level xs (xs ++ ys) a a (sym (append_none xs) ∙ ap (λ zs. xs ++ zs) (sym m)) refl good
      all xs ys a (t ∷ ts) good m =
          let next = tail_good level level operators r few facts right joined (omega (arith, few)) xs m.0 a t good m.3 in
          from_items level ((xs ++ m.0) ++ m.1) (xs ++ ys) _ _ (append_assoc xs m.0 m.1 ∙ ap (λ zs. xs ++ zs) (sym m.2)) refl (all (xs ++ m.0) m.1 (e.Two t.0 a t.1) ts next m.4)

  product_good : (items : List Item) (x : Expr) → Spells (Inner d) product items x → Good 4 items x
  unfolding product
  product_good = chain_good 4 multiplies unary (omega arith) multiplies_operator unary_good (chain_spelled multiplies unary)

  sum_good : (items : List Item) (x : Expr) → Spells (Inner d) sum items x → Good 3 items x
  unfolding sum
  sum_good = chain_good 3 adds product (omega arith) adds_operator product_good (chain_spelled adds product)

  comparison_good : (items : List Item) (x : Expr) → Spells (Inner d) comparison items x → Good 2 items x
  unfolding comparison
  comparison_good items x s =
      let rest = s.6 in
      let first = sum_good s.0 s.2 s.5 in
      from_items 2 (s.0 ++ s.1) items (compared s.2 rest.0) x (sym s.4) (ap (compared s.2) rest.2 ∙ s.7) (by s.0 s.1 s.2 rest.0 first rest.1)
    where
      by : (xs ys : List Item) (a : Expr) (o : Option (Op2 × Expr)) → Good 3 xs a → SpellsMaybe (Spells (Inner d) (tail compares sum)) ys o → Good 2 (xs ++ ys) (compared a o)
      by xs ys a None good m = from_items 2 xs (xs ++ ys) a a (sym (append_none xs) ∙ ap (λ zs. xs ++ zs) (sym m)) refl (weaker 2 xs a good)
      by xs ys a (Some t) good m = tail_good 2 3 compares sum (omega arith) compares_operator sum_good compared_spelled (omega arith) xs ys a t good m

  conjunction_good : (items : List Item) (x : Expr) → Spells (Inner d) conjunction items x → Good 1 items x
  unfolding conjunction
  conjunction_good = chain_good 1 joins comparison (omega arith) joins_operator comparison_good (chain_spelled joins comparison)

  pub disjunction_good : (items : List Item) (x : Expr) → Spells (Inner d) disjunction items x → Good 0 items x
  unfolding disjunction
  disjunction_good = chain_good 0 chooses conjunction (omega arith) chooses_operator conjunction_good (chain_spelled chooses conjunction)

  pub expression_improves : Improves d disjunction expression_items
  expression_improves items x s = good_improved items x (disjunction_good items x s)
