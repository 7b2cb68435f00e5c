-- The names of what the grammar spells are those of its terminals, in order.
use Rattle.std.proofs.Common.{◌≡◌, ℕ, zero, suc, ℤ, pos, negsuc, List, [], ◌∷◌, ◌++◌, map, Option, Some, None, Bool, true, false, if◌then◌else◌, refl, sym, ap, ◌∙◌, append_assoc}
use Rattle.std.specs.List.{concat}
use Rattle.bs_tree.specs.declared.symbols.Word.{Word}
use Rattle.bs_tree.specs.declared.symbols.Word.TheVariants as w
use Rattle.bs_tree.specs.declared.symbols.Mark.{Mark}
use Rattle.bs_tree.specs.declared.symbols.Mark.TheVariants as m
use Rattle.bs_tree.specs.declared.tree.NameId.{NameId}
use Rattle.bs_tree.specs.declared.tree.EntryDecl.{EntryDecl}
use Rattle.bs_tree.specs.declared.tree.Wait.{Wait}
use Rattle.bs_tree.specs.declared.tree.Op2.{Op2}
use Rattle.bs_tree.specs.declared.tree.Stmt.{Stmt}
use Rattle.bs_tree.specs.declared.tree.Stmt.TheVariants as s
use Rattle.bs_tree.specs.declared.tree.Stmt.TheOpen.{Stmt-F}
use Rattle.bs_tree.specs.declared.tree.Stmt.TheFolds.{fold-roll-Stmt}
use Rattle.bs_tree.specs.declared.tree.Stmt.TheViews.{roll-Stmt}
use Rattle.bs_tree.specs.declared.tree.Act.{Act}
use Rattle.bs_tree.specs.declared.tree.Act.TheVariants as a
use Rattle.bs_tree.specs.declared.tree.Act.TheOpen.{Act-F}
use Rattle.bs_tree.specs.declared.tree.Act.TheFolds.{fold-roll-Act}
use Rattle.bs_tree.specs.declared.tree.Act.TheViews.{roll-Act}
use Rattle.bs_tree.specs.declared.tree.Expr.{Expr}
use Rattle.bs_tree.specs.declared.tree.Expr.TheVariants as e
use Rattle.bs_tree.specs.declared.tree.Expr.TheOpen.{Expr-F}
use Rattle.bs_tree.specs.declared.tree.Expr.TheFolds.{fold-roll-Expr}
use Rattle.bs_tree.specs.declared.tree.Expr.TheViews.{roll-Expr}
use Rattle.bs_tree.specs.Numbered.{same_word, same_mark}
use Rattle.bs_tree.specs.Rule as g
use Rattle.bs_tree.specs.Rule.{Terminal, Role, opening, outside, operand, operator, Item, terminals, Choice, a_name, a_number, the_word, the_mark, an_operator, accepted, Inside, whole_number, statements, acts, expression, expressions, names, loop_head, Rule, one, both, many, maybe, either, within, closing, Spells}
use Rattle.bs_tree.specs.Grammar.{◌▸◌, ◌◂◌, pair_of, as_it_is, word, mark, as_name, name, count, with_commas, literal, variable, index, group, cell, primary, unary, multiplies, adds, compares, joins, chooses, tail, grouped, compared, chain, product, sum, comparison, conjunction, disjunction, semicolon, ended, act_list, assigned, cell_index, assigned_value, after_name, assignment, arguments, addressed, message, bytes, target, after_send, act_else, after_act_if, after_repeat, act, block, parameters, awaited, wait, waits, after_when, set_to, setting, head, after_for, after_while, block_else, after_if, sequence, statement, length_in_brackets, length_declared, after_var, var_ended, variable_declaration, parameters_declared, after_entry, entry_ended, entry_declaration, chares_declared, variable_declarations, entry_declarations, Parts, body, program, content, Inner}
use Rattle.bs_parse.specs.Names.{names_among, expression_step, names_in_expression, names_in_expressions, names_where_given, act_step, names_in_act, names_in_acts, as_numbers, names_in_wait, names_in_waits, statement_step, names_in_statement, names_in_body, names_of_variables, names_of_entries, names_in_program}
use Rattle.bs_parse.proofs.Basics.{append_none, terminals_append}
use Rattle.bs_parse.proofs.Measured as measured
use Rattle.bs_parse.proofs.Measured.{Tells}

-- ---- names of terminals

pub names_append : (ts us : List Terminal) → names_among (ts ++ us) ≡ names_among ts ++ names_among us
names_append [] us = refl
names_append (g.name n ∷ ts) us = ap (λ ns. n ∷ ns) (names_append ts us)
names_append (g.number z ∷ ts) us = names_append ts us
names_append (g.word v ∷ ts) us = names_append ts us
names_append (g.mark n ∷ ts) us = names_append ts us

abbrev pub names_of_items : List Item → List ℕ
names_of_items items = names_among (terminals items)

items_append : (xs ys : List Item) → names_of_items (xs ++ ys) ≡ names_of_items xs ++ names_of_items ys
items_append xs ys = ap names_among (terminals_append xs ys) ∙ names_append (terminals xs) (terminals ys)

in_brackets : (role role' : Role) (left right : Mark) (inner : List Item) → names_of_items ((role, g.mark left) ∷ (inner ++ (role', g.mark right) ∷ [])) ≡ names_of_items inner
in_brackets role role' left right inner = items_append inner ((role', g.mark right) ∷ []) ∙ append_none (names_of_items inner)

-- ---- names of what a token stands for

abbrev Fits : {A : Type 0} → Choice A → (A → List ℕ) → Type 0
Fits (a_name f) m = (n : ℕ) → m (f n) ≡ n ∷ []
Fits {A = A} (a_number f) m = (z : ℤ) (a : A) → f z ≡ Some a → m a ≡ []
Fits (the_word w a) m = m a ≡ []
Fits (the_mark n a) m = m a ≡ []
Fits {A = A} (an_operator f) m = (n : Mark) (a : A) → f n ≡ Some a → m a ≡ []

if_some : {A : Type 0} (b : Bool) (x a : A) (m : A → List ℕ) → m x ≡ [] → (if b then Some x else None) ≡ Some a → [] ≡ m a
if_some true x a m p h = let same : x ≡ a = cc in sym p ∙ ap m same
if_some false x a m p h = cc

fitting : {A : Type 0} (choice : Choice A) (m : A → List ℕ) (t : Terminal) (a : A) → Fits choice m → accepted choice t ≡ Some a → names_among (t ∷ []) ≡ m a
fitting (a_name f) m (g.name n) a fits h = let same : f n ≡ a = cc in sym (fits n) ∙ ap m same
fitting (a_number f) m (g.number z) a fits h = sym (fits z a h)
fitting (the_word v x) m (g.word u) a fits h = if_some (same_word v u) x a m fits h
fitting (the_mark n x) m (g.mark k) a fits h = if_some (same_mark n k) x a m fits h
fitting (an_operator f) m (g.mark n) a fits h = sym (fits n a h)
fitting _ m _ a fits h = cc

-- ---- names of what is in brackets

abbrev pub names_inside : {B : Type 0} → Inside B → B → List ℕ
names_inside whole_number n = []
names_inside statements b = names_in_body b
names_inside acts b = names_in_acts b
names_inside expression x = names_in_expression x
names_inside expressions xs = names_in_expressions xs
names_inside names xs = as_numbers xs
names_inside loop_head h = h.0.0 ∷ (names_in_expression h.1 ++ names_in_expression h.2 ++ h.3.0 ∷ names_in_expression h.4)

-- ---- names of each construct

abbrev no_names : {A : Type 0} → A → List ℕ
no_names a = []

singles : {A : Type 0} (f : A → ℕ) (xs : List A) → map f xs ≡ concat (map (λ x. f x ∷ []) xs)
singles f [] = refl
singles f (x ∷ xs) = ap (λ ns. f x ∷ ns) (singles f xs)

in_number : (z : ℤ) → names_in_expression (e.Number z) ≡ []
unfolding roll-Expr denote.Hole.Carrier.roll
in_number z = fold-roll-Expr (List ℕ) expression_step (Expr-F.Number z)

in_literal : (z : ℤ) (x : Expr) → literal z ≡ Some x → names_in_expression x ≡ []
in_literal (pos n) x h = let same : e.Number (pos n) ≡ x = cc in ap names_in_expression (sym same) ∙ in_number (pos n)
in_literal (negsuc n) x h = cc

in_variable : (x : NameId) (o : Option Expr) → names_in_expression (variable x o) ≡ x.0 ∷ names_where_given o
unfolding roll-Expr denote.Hole.Carrier.roll
in_variable x None = fold-roll-Expr (List ℕ) expression_step (Expr-F.Var x)
in_variable x (Some at) = fold-roll-Expr (List ℕ) expression_step (Expr-F.At x at)

in_this : names_in_expression e.This ≡ []
unfolding roll-Expr denote.Hole.Carrier.roll
in_this = fold-roll-Expr (List ℕ) expression_step Expr-F.This

in_chares : names_in_expression e.Chares ≡ []
unfolding roll-Expr denote.Hole.Carrier.roll
in_chares = fold-roll-Expr (List ℕ) expression_step Expr-F.Chares

in_neg : (x : Expr) → names_in_expression (e.Neg x) ≡ names_in_expression x
unfolding roll-Expr denote.Hole.Carrier.roll
in_neg x = fold-roll-Expr (List ℕ) expression_step (Expr-F.Neg x)

in_not : (x : Expr) → names_in_expression (e.Not x) ≡ names_in_expression x
unfolding roll-Expr denote.Hole.Carrier.roll
in_not x = fold-roll-Expr (List ℕ) expression_step (Expr-F.Not x)

in_two : (op : Op2) (x y : Expr) → names_in_expression (e.Two op x y) ≡ names_in_expression x ++ names_in_expression y
unfolding roll-Expr denote.Hole.Carrier.roll
in_two op x y = fold-roll-Expr (List ℕ) expression_step (Expr-F.Two op x y)

abbrev names_in_tail : Op2 × Expr → List ℕ
names_in_tail t = names_in_expression t.1

abbrev names_in_last : Option (Op2 × Expr) → List ℕ
names_in_last None = []
names_in_last (Some t) = names_in_tail t

in_grouped : (x : Expr) (ts : List (Op2 × Expr)) → names_in_expression (grouped x ts) ≡ names_in_expression x ++ concat (map names_in_tail ts)
in_grouped x [] = sym (append_none (names_in_expression x))
in_grouped x (t ∷ ts) =
    in_grouped (e.Two t.0 x t.1) ts ∙ ap (λ ns. ns ++ concat (map names_in_tail ts)) (in_two t.0 x t.1) ∙ append_assoc (names_in_expression x) (names_in_tail t) (concat (map names_in_tail ts))

in_compared : (x : Expr) (o : Option (Op2 × Expr)) → names_in_expression (compared x o) ≡ names_in_expression x ++ names_in_last o
in_compared x None = sym (append_none (names_in_expression x))
in_compared x (Some t) = in_two t.0 x t.1

in_assigned : (x : NameId) (o : Option Expr) (value : Expr) → names_in_act (assigned x (o, value)) ≡ x.0 ∷ (names_where_given o ++ names_in_expression value)
unfolding roll-Act denote.Hole.Carrier.roll
in_assigned x None value = fold-roll-Act (List ℕ) act_step (Act-F.Set x value)
in_assigned x (Some at) value = fold-roll-Act (List ℕ) act_step (Act-F.SetAt x at value)

in_send : (entry : NameId) (reference : Expr) (args : List Expr) (to : Expr) (size : Option Expr)
    → names_in_act (a.Send entry reference args to size) ≡ (entry.0 ∷ (names_in_expression reference ++ names_in_expressions args)) ++ (names_in_expression to ++ names_where_given size)
unfolding roll-Act denote.Hole.Carrier.roll
in_send entry reference args to size =
    fold-roll-Act (List ℕ) act_step (Act-F.Send entry reference args to size) ∙ ap (λ ns. entry.0 ∷ ns) (append_assoc (names_in_expression reference ++ names_in_expressions args) (names_in_expression to) (names_where_given size))

in_work : (x : Expr) → names_in_act (a.Work x) ≡ names_in_expression x
unfolding roll-Act denote.Hole.Carrier.roll
in_work x = fold-roll-Act (List ℕ) act_step (Act-F.Work x)

in_emit : (x : Expr) → names_in_act (a.Emit x) ≡ names_in_expression x
unfolding roll-Act denote.Hole.Carrier.roll
in_emit x = fold-roll-Act (List ℕ) act_step (Act-F.Emit x)

abbrev names_in_other_acts : Option (List Act) → List ℕ
names_in_other_acts None = []
names_in_other_acts (Some body) = names_in_acts body

in_act_if : (test : Expr) (first : List Act) (o : Option (List Act)) → names_in_act (a.If test first o) ≡ names_in_expression test ++ (names_in_acts first ++ names_in_other_acts o)
unfolding roll-Act denote.Hole.Carrier.roll
in_act_if test first None = fold-roll-Act (List ℕ) act_step (Act-F.If test first None) ∙ append_assoc (names_in_expression test) (names_in_acts first) []
in_act_if test first (Some other) = fold-roll-Act (List ℕ) act_step (Act-F.If test first (Some other)) ∙ append_assoc (names_in_expression test) (names_in_acts first) (names_in_acts other)

in_repeat : (times : Expr) (inner : List Act) → names_in_act (a.Repeat times inner) ≡ names_in_expression times ++ names_in_acts inner
unfolding roll-Act denote.Hole.Carrier.roll
in_repeat times inner = fold-roll-Act (List ℕ) act_step (Act-F.Repeat times inner)

in_serial : (inner : List Act) → names_in_statement (s.Serial inner) ≡ names_in_acts inner
unfolding roll-Stmt denote.Hole.Carrier.roll
in_serial inner = fold-roll-Stmt (List ℕ) statement_step (Stmt-F.Serial inner)

in_when : (waited : List Wait) (inner : List Stmt) → names_in_statement (s.When waited inner) ≡ names_in_waits waited ++ names_in_body inner
unfolding roll-Stmt denote.Hole.Carrier.roll
in_when waited inner = fold-roll-Stmt (List ℕ) statement_step (Stmt-F.When waited inner)

in_overlap : (inner : List Stmt) → names_in_statement (s.Overlap inner) ≡ names_in_body inner
unfolding roll-Stmt denote.Hole.Carrier.roll
in_overlap inner = fold-roll-Stmt (List ℕ) statement_step (Stmt-F.Overlap inner)

in_for : (turns : NameId × Expr × Expr × NameId × Expr) (inner : List Stmt) → names_in_statement (s.For turns.0 turns.1 turns.2 turns.3 turns.4 inner) ≡ names_inside loop_head turns ++ names_in_body inner
unfolding roll-Stmt denote.Hole.Carrier.roll
in_for turns inner =
    fold-roll-Stmt (List ℕ) statement_step (Stmt-F.For turns.0 turns.1 turns.2 turns.3 turns.4 inner)
    ∙ ap (λ ns. turns.0.0 ∷ ns) (sym (append_assoc (names_in_expression turns.1 ++ names_in_expression turns.2) (turns.3.0 ∷ names_in_expression turns.4) (names_in_body inner)))

in_while : (test : Expr) (inner : List Stmt) → names_in_statement (s.While test inner) ≡ names_in_expression test ++ names_in_body inner
unfolding roll-Stmt denote.Hole.Carrier.roll
in_while test inner = fold-roll-Stmt (List ℕ) statement_step (Stmt-F.While test inner)

abbrev names_in_other : Option (List Stmt) → List ℕ
names_in_other None = []
names_in_other (Some body) = names_in_body body

in_if : (test : Expr) (first : List Stmt) (o : Option (List Stmt)) → names_in_statement (s.If test first o) ≡ names_in_expression test ++ (names_in_body first ++ names_in_other o)
unfolding roll-Stmt denote.Hole.Carrier.roll
in_if test first None = fold-roll-Stmt (List ℕ) statement_step (Stmt-F.If test first None) ∙ append_assoc (names_in_expression test) (names_in_body first) []
in_if test first (Some other) = fold-roll-Stmt (List ℕ) statement_step (Stmt-F.If test first (Some other)) ∙ append_assoc (names_in_expression test) (names_in_body first) (names_in_body other)

in_seq : (inner : List Stmt) → names_in_statement (s.Seq inner) ≡ names_in_body inner
unfolding roll-Stmt denote.Hole.Carrier.roll
in_seq inner = fold-roll-Stmt (List ℕ) statement_step (Stmt-F.Seq inner)

-- ---- names by each rule

module _ (D : (B : Type 0) → Inside B → List Item → B → Type 0) (below : (B : Type 0) (inside : Inside B) (items : List Item) (b : B) → D B inside items b → names_of_items items ≡ names_inside inside b) where
  -- the names of what the rule spells are those of its items
  record Named {A : Type 0} (r : Rule A) (ns : A → List ℕ) : Type 0 where
    told : Tells [] (λ xs ys. xs ++ ys) names_of_items refl items_append D r ns

  token : {A : Type 0} {role : Role} {choice : Choice A} {ns : A → List ℕ} → Fits choice ns → Named (one role choice) ns
  token {role = role} {choice = choice} {ns = ns} fits = record { told = measured.one_tells [] (λ xs ys. xs ++ ys) names_of_items refl items_append D role choice ns (λ t a h. fitting choice ns t a fits h) }

  in_turn : {A B C : Type 0} {f : B → C → A} {r : Rule B} {q : Rule C} {ns : A → List ℕ} {ns₁ : B → List ℕ} {ns₂ : C → List ℕ} → Named r ns₁ → Named q ns₂ → ((b : B) (c : C) → ns (f b c) ≡ ns₁ b ++ ns₂ c) → Named (both f r q) ns
  in_turn {f = f} {r = r} {q = q} {ns = ns} {ns₁ = ns₁} {ns₂ = ns₂} p p' is = record { told = measured.both_tell [] (λ xs ys. xs ++ ys) names_of_items refl items_append D f r q ns ns₁ ns₂ is p.told p'.told }

  any_number : {B : Type 0} {r : Rule B} {ns : B → List ℕ} → Named r ns → Named (many as_it_is r) (λ bs. concat (map ns bs))
  any_number {r = r} {ns = ns} p = record { told = measured.many_tell [] (λ xs ys. xs ++ ys) names_of_items refl items_append D as_it_is r (λ bs. concat (map ns bs)) ns concat refl (λ x xs. refl) (λ bs. refl) p.told }

  where_given : {A B : Type 0} {f : Option B → A} {r : Rule B} {ns : A → List ℕ} → ns (f None) ≡ [] → Named r (λ b. ns (f (Some b))) → Named (maybe f r) ns
  where_given {f = f} {r = r} {ns = ns} nothing p = record { told = measured.maybe_tells [] (λ xs ys. xs ++ ys) names_of_items refl items_append D f r ns nothing p.told }

  or_else : {A : Type 0} {r q : Rule A} {ns : A → List ℕ} → Named r ns → Named q ns → Named (either r q) ns
  or_else {r = r} {q = q} {ns = ns} p p' = record { told = measured.either_tells [] (λ xs ys. xs ++ ys) names_of_items refl items_append D r q ns p.told p'.told }

  bracketed : {A B : Type 0} {role : Role} {left right : Mark} {f : B → A} {inside : Inside B} {ns : A → List ℕ} → ((b : B) → ns (f b) ≡ names_inside inside b) → Named (within role left right f inside) ns
  bracketed {B = B} {role = role} {left = left} {right = right} {f = f} {inside = inside} {ns = ns} is = record {
    told = λ items a h. ap names_of_items h.2 ∙ in_brackets role (closing role) left right h.0 ∙ below B inside h.0 h.1 h.3 ∙ sym (is h.1) ∙ ap ns h.4;
  }

  told_as : {A : Type 0} {r : Rule A} {ns : A → List ℕ} (ns' : A → List ℕ) → Named r ns → ((a : A) → ns a ≡ ns' a) → Named r ns'
  told_as ns' p is = record { told = λ items a h. p.told items a h ∙ is a }

  a_word : (role : Role) (v : Word) → Named (word role v) no_names
  a_word role v = token refl

  a_mark : (role : Role) (n : Mark) → Named (mark role n) no_names
  a_mark role n = token refl

  behind : {A : Type 0} {r : Rule (Unit {0})} {q : Rule A} {ns : A → List ℕ} → Named r no_names → Named q ns → Named (r ▸ q) ns
  behind p p' = in_turn p p' (λ b c. refl)

  semicolon_after : {A : Type 0} {r : Rule A} {ns : A → List ℕ} → Named r ns → Named (r ◂ semicolon) ns
  semicolon_after {ns = ns} p = in_turn p (a_mark outside m.Semicolon) (λ b c. sym (append_none (ns b)))

  paired : {A B : Type 0} {r : Rule A} {q : Rule B} {ns : A → List ℕ} {ns' : B → List ℕ} → Named r ns → Named q ns' → Named (pair_of r q) (λ p. ns p.0 ++ ns' p.1)
  paired p p' = in_turn p p' (λ b c. refl)

  commas : {A : Type 0} {r : Rule A} {ns : A → List ℕ} → Named r ns → Named (with_commas r) (λ xs. concat (map ns xs))
  commas p = in_turn p (any_number (behind (a_mark outside m.Comma) p)) (λ b c. refl)

  a_name_named : Named name (λ x. x.0 ∷ [])
  a_name_named = token (λ n. refl)

  -- expressions

  by_index : (role : Role) → Named (index role) names_in_expression
  unfolding index
  by_index role = bracketed (λ b. refl)

  by_group : (role : Role) → Named (group role) names_in_expression
  unfolding group
  by_group role = bracketed (λ b. refl)

  by_cell : Named cell names_in_expression
  by_cell =
      let x : Named (one operand (a_name as_name)) (λ x. x.0 ∷ []) = token (λ n. refl) in
      let at : Named (maybe as_it_is (index operand)) names_where_given = where_given refl (by_index operand) in
      in_turn x at in_variable

  by_primary : Named primary names_in_expression
  unfolding primary
  by_primary = or_else (token in_literal) (or_else by_cell (or_else (token in_this) (or_else (token in_chares) (by_group operand))))

  by_unary : Named unary names_in_expression
  unfolding unary
  by_unary = or_else (in_turn (a_mark operand m.Minus) by_primary (λ b x. in_neg x)) (or_else (in_turn (a_mark operand m.Not) by_primary (λ b x. in_not x)) by_primary)

  by_tail : (f : Mark → Option Op2) (r : Rule Expr) → Named r names_in_expression → Named (tail f r) names_in_tail
  by_tail f r p =
      let op : Named (one operator (an_operator f)) no_names = token (λ n a h. refl) in
      in_turn op p (λ b c. refl)

  by_chain : (f : Mark → Option Op2) (r : Rule Expr) → Named r names_in_expression → Named (chain f r) names_in_expression
  by_chain f r p = in_turn p (any_number (by_tail f r p)) in_grouped

  by_product : Named product names_in_expression
  unfolding product
  by_product = by_chain multiplies unary by_unary

  by_sum : Named sum names_in_expression
  unfolding sum
  by_sum = by_chain adds product by_product

  by_comparison : Named comparison names_in_expression
  unfolding comparison
  by_comparison =
      let last : Named (maybe as_it_is (tail compares sum)) names_in_last = where_given refl (by_tail compares sum by_sum) in
      in_turn by_sum last in_compared

  by_conjunction : Named conjunction names_in_expression
  unfolding conjunction
  by_conjunction = by_chain joins comparison by_comparison

  by_disjunction : Named disjunction names_in_expression
  unfolding disjunction
  by_disjunction = by_chain chooses conjunction by_conjunction

  -- acts

  by_ended : Named ended names_in_expression
  unfolding ended
  by_ended = semicolon_after by_disjunction

  by_act_list : Named act_list names_in_acts
  unfolding act_list
  by_act_list = bracketed (λ b. refl)

  by_cell_index : Named cell_index names_where_given
  unfolding cell_index
  by_cell_index = where_given refl (by_index outside)

  by_assigned_value : Named assigned_value names_in_expression
  unfolding assigned_value
  by_assigned_value = behind (a_mark outside m.Assign) by_ended

  by_after_name : Named after_name (λ p. names_where_given p.0 ++ names_in_expression p.1)
  unfolding after_name
  by_after_name = paired by_cell_index by_assigned_value

  by_assignment : Named assignment names_in_act
  by_assignment = in_turn a_name_named by_after_name (λ x p. in_assigned x p.0 p.1)

  by_arguments : Named arguments names_in_expressions
  unfolding arguments
  by_arguments = bracketed (λ b. refl)

  by_addressed : Named addressed (λ p. names_in_expression p.0 ++ names_in_expressions p.1)
  unfolding addressed
  by_addressed = paired (by_index outside) by_arguments

  by_message : Named message (λ p. p.0.0 ∷ (names_in_expression p.1 ++ names_in_expressions p.2))
  unfolding message
  by_message = in_turn a_name_named by_addressed (λ b c. refl)

  by_bytes : Named bytes names_where_given
  unfolding bytes
  by_bytes = where_given refl (behind (a_word outside w.Bytes) by_disjunction)

  by_target : Named target (λ p. names_in_expression p.0 ++ names_where_given p.1)
  unfolding target
  by_target = paired (behind (a_word outside w.To) by_disjunction) by_bytes

  by_after_send : Named after_send names_in_act
  unfolding after_send
  by_after_send = semicolon_after (in_turn by_message by_target (λ sent to. in_send sent.0 sent.1 sent.2 to.0 to.1))

  by_act_else : Named act_else names_in_other_acts
  unfolding act_else
  by_act_else = where_given refl (behind (a_word outside w.Else) by_act_list)

  by_after_act_if : Named after_act_if names_in_act
  unfolding after_act_if
  by_after_act_if = in_turn (by_group outside) (paired by_act_list by_act_else) (λ test rest. in_act_if test rest.0 rest.1)

  by_after_repeat : Named after_repeat names_in_act
  unfolding after_repeat
  by_after_repeat = in_turn by_disjunction by_act_list in_repeat

  by_act : Named act names_in_act
  unfolding act
  by_act =
      or_else by_assignment
      (or_else (behind (a_word outside w.Send) by_after_send)
      (or_else (in_turn (a_word outside w.Work) by_ended (λ b x. in_work x))
      (or_else (in_turn (a_word outside w.Emit) by_ended (λ b x. in_emit x))
      (or_else (behind (a_word outside w.If) by_after_act_if)
      (behind (a_word outside w.Repeat) by_after_repeat)))))

  -- statements

  by_block : Named block names_in_body
  unfolding block
  by_block = bracketed (λ b. refl)

  by_parameters : Named parameters as_numbers
  unfolding parameters
  by_parameters = bracketed (λ b. refl)

  by_awaited : Named awaited (λ p. names_in_expression p.0 ++ as_numbers p.1)
  unfolding awaited
  by_awaited = paired (by_index outside) by_parameters

  by_wait : Named wait names_in_wait
  unfolding wait
  by_wait = in_turn a_name_named by_awaited (λ b c. refl)

  by_waits : Named waits names_in_waits
  unfolding waits
  by_waits = commas by_wait

  by_after_when : Named after_when names_in_statement
  unfolding after_when
  by_after_when = in_turn by_waits by_block in_when

  by_set_to : Named set_to names_in_expression
  unfolding set_to
  by_set_to = behind (a_mark outside m.Assign) by_disjunction

  by_setting : Named setting (λ p. p.0.0 ∷ names_in_expression p.1)
  unfolding setting
  by_setting = in_turn a_name_named by_set_to (λ b c. refl)

  by_head : Named head (names_inside loop_head)
  unfolding head
  by_head = bracketed (λ b. refl)

  by_after_for : Named after_for names_in_statement
  unfolding after_for
  by_after_for = in_turn by_head by_block in_for

  by_after_while : Named after_while names_in_statement
  unfolding after_while
  by_after_while = in_turn (by_group outside) by_block in_while

  by_block_else : Named block_else names_in_other
  unfolding block_else
  by_block_else = where_given refl (behind (a_word outside w.Else) by_block)

  by_after_if : Named after_if names_in_statement
  unfolding after_if
  by_after_if = in_turn (by_group outside) (paired by_block by_block_else) (λ test rest. in_if test rest.0 rest.1)

  by_sequence : Named sequence names_in_statement
  unfolding sequence
  by_sequence = bracketed in_seq

  by_statement : Named statement names_in_statement
  unfolding statement
  by_statement =
      or_else (in_turn (a_word opening w.Serial) by_act_list (λ b inner. in_serial inner))
      (or_else (behind (a_word opening w.When) by_after_when)
      (or_else (in_turn (a_word opening w.Overlap) by_block (λ b inner. in_overlap inner))
      (or_else (behind (a_word opening w.For) by_after_for)
      (or_else (behind (a_word opening w.While) by_after_while)
      (or_else (behind (a_word opening w.If) by_after_if)
      by_sequence)))))

  -- programs

  by_length_in_brackets : Named length_in_brackets no_names
  unfolding length_in_brackets
  by_length_in_brackets = bracketed (λ b. refl)

  by_length_declared : Named length_declared no_names
  unfolding length_declared
  by_length_declared = where_given refl by_length_in_brackets

  by_after_var : Named after_var (λ x. x.name.0 ∷ [])
  unfolding after_var
  by_after_var = in_turn a_name_named by_length_declared (λ b c. refl)

  by_var_ended : Named var_ended (λ x. x.name.0 ∷ [])
  unfolding var_ended
  by_var_ended = semicolon_after by_after_var

  by_variable_declaration : Named variable_declaration (λ x. x.name.0 ∷ [])
  unfolding variable_declaration
  by_variable_declaration = behind (a_word outside w.Var) by_var_ended

  by_parameters_declared : Named parameters_declared no_names
  unfolding parameters_declared
  by_parameters_declared = bracketed (λ b. refl)

  by_after_entry : Named after_entry (λ x. x.name.0 ∷ [])
  unfolding after_entry
  by_after_entry = in_turn a_name_named by_parameters_declared (λ b c. refl)

  by_entry_ended : Named entry_ended (λ x. x.name.0 ∷ [])
  unfolding entry_ended
  by_entry_ended = semicolon_after by_after_entry

  by_entry_declaration : Named entry_declaration (λ x. x.name.0 ∷ [])
  unfolding entry_declaration
  by_entry_declaration = behind (a_word outside w.Entry) by_entry_ended

  by_count : Named count no_names
  by_count = token (λ z a h. refl)

  by_chares_declared : Named chares_declared no_names
  unfolding chares_declared
  by_chares_declared = behind (a_word outside w.Chares) (semicolon_after by_count)

  by_variable_declarations : Named variable_declarations names_of_variables
  unfolding variable_declarations
  by_variable_declarations = told_as names_of_variables (any_number by_variable_declaration) (λ xs. sym (singles (λ x. x.name.0) xs))

  by_entry_declarations : Named entry_declarations names_of_entries
  unfolding entry_declarations
  by_entry_declarations = told_as names_of_entries (any_number by_entry_declaration) (λ xs. sym (singles (λ x. x.name.0) xs))

  by_body : Named body names_in_body
  unfolding body
  by_body = behind (a_word outside w.Body) by_block

  by_program : Named program names_in_program
  unfolding program
  by_program =
      let rest : Named (both (λ vars (rest : List EntryDecl × List Stmt). (vars, rest.0, rest.1)) variable_declarations (pair_of entry_declarations body)) (λ p. names_of_variables p.0 ++ (names_of_entries p.1 ++ names_in_body p.2)) =
      in_turn by_variable_declarations (paired by_entry_declarations by_body) (λ b c. refl) in
      in_turn by_chares_declared rest (λ b c. append_assoc (names_of_variables c.0) (names_of_entries c.1) (names_in_body c.2))

  by_loop_head : Named (content loop_head) (names_inside loop_head)
  by_loop_head =
      let rest : Named (both (λ test (step : NameId × Expr). (test, step.0, step.1)) ended setting) (λ p. names_in_expression p.0 ++ (p.1.0 ∷ names_in_expression p.2)) = in_turn by_ended by_setting (λ b c. refl) in
      in_turn (semicolon_after by_setting) rest (λ b c. ap (λ ns. b.0.0 ∷ ns) (append_assoc (names_in_expression b.1) (names_in_expression c.0) (c.1.0 ∷ names_in_expression c.2)))

  by_content : (B : Type 0) (inside : Inside B) → Named (content inside) (names_inside inside)
  by_content _ whole_number = by_count
  by_content _ statements = any_number by_statement
  by_content _ acts = any_number by_act
  by_content _ expression = by_disjunction
  by_content _ expressions = where_given refl (commas by_disjunction)
  by_content _ names = where_given refl (told_as as_numbers (commas a_name_named) (λ xs. sym (singles (λ x. x.0) xs)))
  by_content _ loop_head = by_loop_head

names_by_depth : (depth : ℕ) (B : Type 0) (inside : Inside B) (items : List Item) (b : B) → Inner depth B inside items b → names_of_items items ≡ names_inside inside b
names_by_depth zero B inside items b h = absurd h
names_by_depth (suc depth) B inside items b h = (by_content (Inner depth) (names_by_depth depth) B inside).told items b h

-- the names of a program are those of its terminals
pub names_of_program : (depth : ℕ) (items : List Item) (parts : Parts) → Spells (Inner depth) program items parts → names_of_items items ≡ names_in_program parts
names_of_program depth items parts h = (by_program (Inner depth) (names_by_depth depth)).told items parts h
