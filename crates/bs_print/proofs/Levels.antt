-- Printed expressions are spelled at each level.
use Rattle.std.proofs.Common.{◌≡◌, ℕ, zero, suc, ℤ, pos, ◌+◌, ◌<◌, ◌≤◌, nat_le, true, false, List, [], ◌∷◌, ◌++◌, Option, Some, None, refl, sym, ap, subst, ◌∙◌, arith, append_assoc, ◌⊎◌, inl, inr}
use Rattle.std.proofs.lemmas.Bool.{le-leb, lt-leb, cases_lt}
use Rattle.bs_tree.specs.declared.symbols.Word.TheVariants as w
use Rattle.bs_tree.specs.declared.symbols.Mark.{Mark}
use Rattle.bs_tree.specs.declared.symbols.Mark.TheVariants as m
use Rattle.bs_tree.specs.declared.tree.NameId.{NameId}
use Rattle.bs_tree.specs.declared.tree.Expr as T
use Rattle.bs_tree.specs.declared.tree.Expr.{Expr}
use denote.Hole.Carrier
use Rattle.bs_tree.specs.declared.tree.Expr.TheVariants as e
use Rattle.bs_tree.specs.declared.tree.Expr.TheOpen.{Expr-F}
use Rattle.bs_tree.specs.declared.tree.Expr.TheFolds.{fold-roll-Expr}
use Rattle.bs_tree.specs.declared.tree.Op2.{Op2}
use Rattle.bs_tree.specs.declared.tree.Op2.TheVariants as o
use Rattle.bs_tree.specs.Rule as g
use Rattle.bs_tree.specs.Rule.{operand, operator, Item, a_name, a_number, the_word, an_operator, accepted, expression, Rule, one, both, many, maybe, Spells}
use Rattle.bs_tree.specs.Grammar.{as_it_is, as_name, literal, variable, mark, index, group, primary, unary, product, sum, comparison, conjunction, disjunction, chain, tail, compared, Inner, multiplies, adds, compares, joins, chooses}
use Rattle.bs_tree.specs.Grammar.{grouped as left_grouped}
use Rattle.bs_parse.proofs.Basics.{append_none}
use Rattle.bs_parse.proofs.Viable.{deeper_spells}
use Rattle.bs_print.specs.Expressions.{Printed, grouped, indexed, operand_at, level_of, left_level, mark_of, two_items, printed_step, printed}
use Rattle.bs_tree.specs.Limits.{opens, closes}
use Rattle.bs_print.proofs.Leaner.{Leaner, token, behind, bracket, dropped}
use Rattle.bs_print.proofs.Spelling.{Spelled, spelled_as, one_spelled, mark_spelled, both_spelled, none_spelled, nothing_spelled, some_spelled, left_spelled, right_spelled, within_spelled, many_then, deeper_many}

-- the rule of the expressions of a level and of tighter ones
abbrev pub rule_at : ℕ → Rule Expr
rule_at zero = disjunction
rule_at (suc zero) = conjunction
rule_at (suc (suc zero)) = comparison
rule_at (suc (suc (suc zero))) = sum
rule_at (suc (suc (suc (suc zero)))) = product
rule_at (suc (suc (suc (suc (suc zero))))) = unary
rule_at (suc (suc (suc (suc (suc (suc more)))))) = primary

-- ---- what an operand is printed as

pub bare : (least : ℕ) (x : Printed) → least ≤ x.level → operand_at least x ≡ x.items
bare least x le = let is : nat_le least x.level ≡ true = le-leb _ _ le in rw is refl

pub in_parentheses : (least : ℕ) (x : Printed) → x.level < least → operand_at least x ≡ grouped operand x.items
in_parentheses least x lt = let is : nat_le least x.level ≡ false = lt-leb _ _ lt in rw is refl

-- ---- what is spelled at a level is spelled at each looser one

alone : (operators : Mark → Option Op2) (r : Rule Expr) (items : List Item) (x : Expr) → Spelled r items x → Spelled (chain operators r) items x
alone operators r items x s = spelled_as (append_none items) refl (both_spelled left_grouped r (many as_it_is (tail operators r)) items [] x [] s (none_spelled (tail operators r)))

looser : (level : ℕ) (items : List Item) (x : Expr) → Spelled (rule_at (suc level)) items x → Spelled (rule_at level) items x
unfolding unary product sum comparison conjunction disjunction
looser zero items x s = alone chooses conjunction items x s
looser (suc zero) items x s = alone joins comparison items x s
looser (suc (suc zero)) items x s = spelled_as (append_none items) refl (both_spelled compared sum (maybe as_it_is (tail compares sum)) items [] x None s (nothing_spelled as_it_is (tail compares sum)))
looser (suc (suc (suc zero))) items x s = alone adds product items x s
looser (suc (suc (suc (suc zero)))) items x s = alone multiplies unary items x s
looser (suc (suc (suc (suc (suc zero))))) items x s = right_spelled _ _ items x (right_spelled _ _ items x s)
looser (suc (suc (suc (suc (suc (suc more)))))) items x s = s

pub loosened : (level least : ℕ) → least ≤ level → (items : List Item) (x : Expr) → Spelled (rule_at level) items x → Spelled (rule_at least) items x
loosened zero least le items x s = let is : zero ≡ least = omega arith in subst (λ n. Spelled (rule_at n) items x) is s
loosened (suc level) least le items x s = by (λ le'. loosened level least le' items x (looser level items x s)) (cases_lt level least)
  where
    by : (least ≤ level → Spelled (rule_at least) items x) → (level < least) ⊎ (least ≤ level) → Spelled (rule_at least) items x
    by further (inl lt) = let is : suc level ≡ least = omega arith in subst (λ n. Spelled (rule_at n) items x) is s
    by further (inr le') = further le'

-- ---- an expression is spelled as an operand of each level

abbrev pub Printable : Expr → Type 0
Printable x = (least : ℕ) → least ≤ 6 → Spelled (rule_at least) (operand_at least (printed x)) x

parenthesised : (items : List Item) (x : Expr) → Spelled disjunction items x → Spelled primary (grouped operand items) x
unfolding primary group
parenthesised items x s =
    right_spelled _ _ _ x (right_spelled _ _ _ x (right_spelled _ _ _ x (right_spelled _ _ _ x (within_spelled operand m.ParenLeft m.ParenRight as_it_is expression items x s))))

pub printable : (x : Expr) → (printed x).level ≤ 6 → Spelled (rule_at (printed x).level) (printed x).items x → Printable x
printable x top s least le = by (cases_lt (printed x).level least)
  where
    by : ((printed x).level < least) ⊎ (least ≤ (printed x).level) → Spelled (rule_at least) (operand_at least (printed x)) x
    by (inl lt) =
        let whole = parenthesised (printed x).items x (loosened (printed x).level 0 (omega arith) (printed x).items x s) in
        rw (in_parentheses least (printed x) lt) (loosened 6 least le _ x whole)
    by (inr le') = rw (bare least (printed x) le') (loosened (printed x).level least le' (printed x).items x s)

-- ---- what each expression is printed as

number_printed : (n : ℤ) → printed (e.Number n) ≡ record { level = 6; items = (operand, g.number n) ∷ [] }
unfolding printed T.roll-Expr denote.Hole.Carrier.roll
number_printed n = fold-roll-Expr Printed printed_step (Expr-F.Number n)

variable_printed : (x : NameId) → printed (e.Var x) ≡ record { level = 6; items = (operand, g.name x.0) ∷ [] }
unfolding printed T.roll-Expr denote.Hole.Carrier.roll
variable_printed x = fold-roll-Expr Printed printed_step (Expr-F.Var x)

at_printed : (x : NameId) (i : Expr) → printed (e.At x i) ≡ record { level = 6; items = (operand, g.name x.0) ∷ indexed operand (printed i).items }
unfolding printed T.roll-Expr denote.Hole.Carrier.roll
at_printed x i = fold-roll-Expr Printed printed_step (Expr-F.At x i)

this_printed : printed e.This ≡ record { level = 6; items = (operand, g.word w.This) ∷ [] }
unfolding printed T.roll-Expr denote.Hole.Carrier.roll
this_printed = fold-roll-Expr Printed printed_step Expr-F.This

chares_printed : printed e.Chares ≡ record { level = 6; items = (operand, g.word w.Chares) ∷ [] }
unfolding printed T.roll-Expr denote.Hole.Carrier.roll
chares_printed = fold-roll-Expr Printed printed_step Expr-F.Chares

minus_printed : (x : Expr) → printed (e.Neg x) ≡ record { level = 5; items = (operand, g.mark m.Minus) ∷ operand_at 6 (printed x) }
unfolding printed T.roll-Expr denote.Hole.Carrier.roll
minus_printed x = fold-roll-Expr Printed printed_step (Expr-F.Neg x)

not_printed : (x : Expr) → printed (e.Not x) ≡ record { level = 5; items = (operand, g.mark m.Not) ∷ operand_at 6 (printed x) }
unfolding printed T.roll-Expr denote.Hole.Carrier.roll
not_printed x = fold-roll-Expr Printed printed_step (Expr-F.Not x)

two_printed : (op : Op2) (a b : Expr) → printed (e.Two op a b) ≡ record { level = level_of op; items = two_items op (printed a) (printed b) }
unfolding printed T.roll-Expr denote.Hole.Carrier.roll
two_printed op a b = fold-roll-Expr Printed printed_step (Expr-F.Two op a b)

-- ---- an expression that was spelled by some items, as an operand of this level at least

pub record Good (level : ℕ) (items : List Item) (x : Expr) : Type 0 where
  pub printable : Printable x
  pub lean : (least : ℕ) → least ≤ level → Leaner (operand_at least (printed x)) items

pub weaker : (level : ℕ) (items : List Item) (x : Expr) → Good (suc level) items x → Good level items x
weaker level items x good = record { printable = good.printable; lean = λ least le. good.lean least (omega arith) }

good_of : (x : Expr) (p : Printed) (items : List Item) → printed x ≡ p → p.level ≤ 6 → Spelled (rule_at p.level) p.items x → Leaner p.items items → Good p.level items x
good_of x p items is top s lean = record {
  printable = printable x (rw is top) (subst (λ q. Spelled (rule_at q.level) q.items x) (sym is) s);
  lean = λ least le. rw (is, bare least p le) lean;
}

plain : (t : g.Terminal) → opens t ≡ false → closes t ≡ false → Leaner ((operand, t) ∷ []) ((operand, t) ∷ [])
plain t o c = token operand t o c

pub number_good : (n : ℕ) → Good 6 ((operand, g.number (pos n)) ∷ []) (e.Number (pos n))
unfolding primary
number_good n =
    let t = g.number (pos n) in
    good_of _ _ _ (number_printed (pos n)) (omega arith) (left_spelled _ _ _ _ (one_spelled operand (a_number literal) t _ refl)) (plain t refl refl)

pub this_good : Good 6 ((operand, g.word w.This) ∷ []) e.This
unfolding primary
this_good =
    good_of _ _ _ this_printed (omega arith)
    (right_spelled _ _ _ _ (right_spelled _ _ _ _ (left_spelled _ _ _ _ (one_spelled operand (the_word w.This e.This) (g.word w.This) _ refl)))) (plain (g.word w.This) refl refl)

pub chares_good : Good 6 ((operand, g.word w.Chares) ∷ []) e.Chares
unfolding primary
chares_good =
    good_of _ _ _ chares_printed (omega arith)
    (right_spelled _ _ _ _ (right_spelled _ _ _ _ (right_spelled _ _ _ _ (left_spelled _ _ _ _ (one_spelled operand (the_word w.Chares e.Chares) (g.word w.Chares) _ refl))))) (plain (g.word w.Chares) refl refl)

cell_spelled : (x : NameId) (items : List Item) (o : Option Expr) → Spelled (maybe as_it_is (index operand)) items o → Spelled primary ((operand, g.name x.0) ∷ items) (variable x o)
unfolding primary
cell_spelled x items o s =
    right_spelled _ _ _ _ (left_spelled _ _ _ _ (both_spelled variable (one operand (a_name as_name)) (maybe as_it_is (index operand)) ((operand, g.name x.0) ∷ []) items x o (one_spelled operand (a_name as_name) (g.name x.0) x refl) s))

pub variable_good : (x : NameId) → Good 6 ((operand, g.name x.0) ∷ []) (e.Var x)
variable_good x = good_of _ _ _ (variable_printed x) (omega arith) (cell_spelled x [] None (nothing_spelled as_it_is (index operand))) (plain (g.name x.0) refl refl)

-- ---- expressions inside an expression

pub bare_spelled : (x : Expr) → Printable x → Spelled disjunction (printed x).items x
bare_spelled x p = rw (bare 0 (printed x) (omega arith)) at (p 0 (omega arith))

pub bare_lean : (level : ℕ) (items : List Item) (x : Expr) → Good level items x → Leaner (printed x).items items
bare_lean level items x good = rw (bare 0 (printed x) (omega arith)) at (good.lean 0 (omega arith))

pub at_good : (x : NameId) (items : List Item) (i : Expr) → Good 0 items i → Good 6 ((operand, g.name x.0) ∷ indexed operand items) (e.At x i)
unfolding index
at_good x items i good =
    let inside = within_spelled operand m.BracketLeft m.BracketRight as_it_is expression (printed i).items i (bare_spelled i good.printable) in
    good_of _ _ _ (at_printed x i) (omega arith)
    (cell_spelled x _ (Some i) (some_spelled as_it_is (index operand) _ i inside))
    (behind _ _ _ _ (plain (g.name x.0) refl refl) (bracket operand m.BracketLeft m.BracketRight refl refl (printed i).items items (bare_lean 0 items i good)))

pub group_good : (items : List Item) (x : Expr) → Good 0 items x → Good 6 (grouped operand items) x
group_good items x good = record { printable = good.printable; lean = λ least le. by least (cases_lt (printed x).level least) }
  where
    by : (least : ℕ) → ((printed x).level < least) ⊎ (least ≤ (printed x).level) → Leaner (operand_at least (printed x)) (grouped operand items)
    by least (inl lt) = rw (in_parentheses least (printed x) lt) (bracket operand m.ParenLeft m.ParenRight refl refl (printed x).items items (bare_lean 0 items x good))
    by least (inr le) = rw (bare least (printed x) le) (dropped (printed x).items items (bare_lean 0 items x good))

pub minus_good : (items : List Item) (x : Expr) → Good 6 items x → Good 5 ((operand, g.mark m.Minus) ∷ items) (e.Neg x)
unfolding unary
minus_good items x good =
    good_of _ _ _ (minus_printed x) (omega arith)
    (left_spelled _ _ _ _ (both_spelled (λ _ y. e.Neg y) (mark operand m.Minus) primary ((operand, g.mark m.Minus) ∷ []) (operand_at 6 (printed x)) tt x (mark_spelled operand m.Minus) (good.printable 6 (omega arith))))
    (behind _ _ _ _ (plain (g.mark m.Minus) refl refl) (good.lean 6 (omega arith)))

pub not_good : (items : List Item) (x : Expr) → Good 6 items x → Good 5 ((operand, g.mark m.Not) ∷ items) (e.Not x)
unfolding unary
not_good items x good =
    good_of _ _ _ (not_printed x) (omega arith)
    (right_spelled _ _ _ _ (left_spelled _ _ _ _ (both_spelled (λ _ y. e.Not y) (mark operand m.Not) primary ((operand, g.mark m.Not) ∷ []) (operand_at 6 (printed x)) tt x (mark_spelled operand m.Not) (good.printable 6 (omega arith)))))
    (behind _ _ _ _ (plain (g.mark m.Not) refl refl) (good.lean 6 (omega arith)))

-- ---- operators of two operands

pub record Operator (level left : ℕ) (n : Mark) (op : Op2) : Type 0 where
  pub level_is : level_of op ≡ level
  pub left_is : left_level op ≡ left
  pub mark_is : mark_of op ≡ n

is_operator : (op' op : Op2) → Some op' ≡ Some op → Operator (level_of op') (left_level op') (mark_of op') op
is_operator op' op h =
    let same : op' ≡ op = cc in
    subst (λ o. Operator (level_of op') (left_level op') (mark_of op') o) same (record { level_is = refl; left_is = refl; mark_is = refl })

pub chooses_operator : (n : Mark) (op : Op2) → chooses n ≡ Some op → Operator 0 0 n op
chooses_operator m.Or op h = is_operator o.Or op h
chooses_operator _ op h = cc

pub joins_operator : (n : Mark) (op : Op2) → joins n ≡ Some op → Operator 1 1 n op
joins_operator m.And op h = is_operator o.And op h
joins_operator _ op h = cc

pub compares_operator : (n : Mark) (op : Op2) → compares n ≡ Some op → Operator 2 3 n op
compares_operator m.Equal op h = is_operator o.Eq op h
compares_operator m.NotEqual op h = is_operator o.Ne op h
compares_operator m.Less op h = is_operator o.Lt op h
compares_operator m.LessEqual op h = is_operator o.Le op h
compares_operator m.Greater op h = is_operator o.Gt op h
compares_operator m.GreaterEqual op h = is_operator o.Ge op h
compares_operator _ op h = cc

pub adds_operator : (n : Mark) (op : Op2) → adds n ≡ Some op → Operator 3 3 n op
adds_operator m.Plus op h = is_operator o.Add op h
adds_operator m.Minus op h = is_operator o.Sub op h
adds_operator _ op h = cc

pub multiplies_operator : (n : Mark) (op : Op2) → multiplies n ≡ Some op → Operator 4 4 n op
multiplies_operator m.Star op h = is_operator o.Mul op h
multiplies_operator m.Slash op h = is_operator o.Div op h
multiplies_operator m.Percent op h = is_operator o.Rem op h
multiplies_operator _ op h = cc

-- an operator does not open or close a bracket
operator_plain : (op : Op2) → (opens (g.mark (mark_of op)) ≡ false) × (closes (g.mark (mark_of op)) ≡ false)
operator_plain o.Or = (refl, refl)
operator_plain o.And = (refl, refl)
operator_plain o.Eq = (refl, refl)
operator_plain o.Ne = (refl, refl)
operator_plain o.Lt = (refl, refl)
operator_plain o.Le = (refl, refl)
operator_plain o.Gt = (refl, refl)
operator_plain o.Ge = (refl, refl)
operator_plain o.Add = (refl, refl)
operator_plain o.Sub = (refl, refl)
operator_plain o.Mul = (refl, refl)
operator_plain o.Div = (refl, refl)
operator_plain o.Rem = (refl, refl)

abbrev shape : ℕ → ℕ → Mark → Printed → Printed → Printed
shape level left n a b = record { level = level; items = operand_at left a ++ (operator, g.mark n) ∷ operand_at (suc level) b }

-- the left operand of this level at least, and the right one of a tighter level
pub two_good : (level left : ℕ) (n : Mark) (op : Op2) → Operator level left n op → level ≤ 4 → (xs ys : List Item) (a b : Expr) → Good left xs a → Good (suc level) ys b
    → Spelled (rule_at level) (operand_at left (printed a) ++ (operator, g.mark n) ∷ operand_at (suc level) (printed b)) (e.Two op a b)
    → Good level (xs ++ (operator, g.mark n) ∷ ys) (e.Two op a b)
two_good level left n op is few xs ys a b first second s =
    let p = printed a in
    let q = printed b in
    let printed_is : printed (e.Two op a b) ≡ shape level left n p q =
    two_printed op a b ∙ ap (λ l. shape l (left_level op) (mark_of op) p q) is.level_is ∙ ap (λ l. shape level l (mark_of op) p q) is.left_is ∙ ap (λ m. shape level left m p q) is.mark_is in
    let plain_mark = subst (λ m. (opens (g.mark m) ≡ false) × (closes (g.mark m) ≡ false)) is.mark_is (operator_plain op) in
    let after_first = behind _ _ _ _ (token operator (g.mark n) plain_mark.0 plain_mark.1) (second.lean (suc level) (omega arith)) in
    good_of (e.Two op a b) (shape level left n p q) _ printed_is (omega (arith, few)) s (behind _ _ _ _ (first.lean left (omega arith)) after_first)

tail_spelled : (operators : Mark → Option Op2) (r : Rule Expr) (n : Mark) (op : Op2) → operators n ≡ Some op → (ys : List Item) (b : Expr) → Spelled r ys b → Spelled (tail operators r) ((operator, g.mark n) ∷ ys) (op, b)
tail_spelled operators r n op is ys b s = both_spelled (λ o x. (o, x)) (one operator (an_operator operators)) r ((operator, g.mark n) ∷ []) ys op b (one_spelled operator (an_operator operators) (g.mark n) op is) s

grouped_more : (x : Expr) (ts : List (Op2 × Expr)) (t : Op2 × Expr) → left_grouped x (ts ++ t ∷ []) ≡ e.Two t.0 (left_grouped x ts) t.1
grouped_more x [] t = refl
grouped_more x (u ∷ ts) t = grouped_more (e.Two u.0 x u.1) ts t

pub chain_spelled : (operators : Mark → Option Op2) (r : Rule Expr) (n : Mark) (op : Op2) → operators n ≡ Some op → (xs ys : List Item) (a b : Expr) → Spelled (chain operators r) xs a → Spelled r ys b
    → Spelled (chain operators r) (xs ++ (operator, g.mark n) ∷ ys) (e.Two op a b)
chain_spelled operators r n op is xs ys a b s t =
    let one_more = tail_spelled operators r n op is ys b t in
    let d = s.depth + one_more.depth in
    let us = s.spells.0 in
    let vs = s.spells.1 in
    let x = s.spells.2 in
    let many_before = s.spells.6 in
    let more = many_then (Spells (Inner d) (tail operators r)) vs ((operator, g.mark n) ∷ ys) many_before.0 (op, b) (deeper_many s.depth d (omega arith) (tail operators r) vs many_before.0 many_before.1) (deeper_spells one_more.depth d (omega arith) (tail operators r) _ (op, b) one_more.spells) in
    record {
      depth = d;
      spells = (
        us,
        vs ++ (operator, g.mark n) ∷ ys,
        x,
        many_before.0 ++ (op, b) ∷ [],
        ap (λ zs. zs ++ (operator, g.mark n) ∷ ys) s.spells.4 ∙ append_assoc us vs ((operator, g.mark n) ∷ ys),
        deeper_spells s.depth d (omega arith) r us x s.spells.5,
        (many_before.0 ++ (op, b) ∷ [], more, refl),
        grouped_more x many_before.0 (op, b) ∙ ap (λ y. e.Two op y b) (ap (left_grouped x) many_before.2 ∙ s.spells.7),
      );
    }

pub compared_spelled : (n : Mark) (op : Op2) → compares n ≡ Some op → (xs ys : List Item) (a b : Expr) → Spelled sum xs a → Spelled sum ys b → Spelled comparison (xs ++ (operator, g.mark n) ∷ ys) (e.Two op a b)
unfolding comparison
compared_spelled n op is xs ys a b s t =
    both_spelled compared sum (maybe as_it_is (tail compares sum)) xs ((operator, g.mark n) ∷ ys) a (Some (op, b)) s (some_spelled as_it_is (tail compares sum) _ (op, b) (tail_spelled compares sum n op is ys b t))
