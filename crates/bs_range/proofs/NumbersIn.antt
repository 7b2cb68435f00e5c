-- The numbers of what the grammar spells have 64 bits exactly where those of its terminals have.
use Rattle.std.proofs.Common.{◌≡◌, ℕ, zero, suc, ℤ, pos, negsuc, List, [], ◌∷◌, ◌++◌, map, Option, Some, None, Bool, true, false, ◌&&◌, if◌then◌else◌, refl, sym, ap, ◌∙◌}
use Rattle.bs_tree.specs.declared.symbols.Word.{Word}
use Rattle.bs_tree.specs.declared.symbols.Word.TheVariants as w
use Rattle.bs_tree.specs.declared.symbols.Mark.{Mark}
use Rattle.bs_tree.specs.declared.symbols.Mark.TheVariants as m
use Rattle.bs_tree.specs.declared.tree.NameId.{NameId}
use Rattle.bs_tree.specs.declared.tree.EntryDecl.{EntryDecl}
use Rattle.bs_tree.specs.declared.tree.Wait.{Wait}
use Rattle.bs_tree.specs.declared.tree.Op2.{Op2}
use Rattle.bs_tree.specs.declared.tree.Stmt.{Stmt}
use Rattle.bs_tree.specs.declared.tree.Stmt.TheVariants as s
use Rattle.bs_tree.specs.declared.tree.Stmt.TheOpen.{Stmt-F}
use Rattle.bs_tree.specs.declared.tree.Stmt.TheFolds.{fold-roll-Stmt}
use Rattle.bs_tree.specs.declared.tree.Stmt.TheViews.{roll-Stmt}
use Rattle.bs_tree.specs.declared.tree.Act.{Act}
use Rattle.bs_tree.specs.declared.tree.Act.TheVariants as a
use Rattle.bs_tree.specs.declared.tree.Act.TheOpen.{Act-F}
use Rattle.bs_tree.specs.declared.tree.Act.TheFolds.{fold-roll-Act}
use Rattle.bs_tree.specs.declared.tree.Act.TheViews.{roll-Act}
use Rattle.bs_tree.specs.declared.tree.Expr.{Expr}
use Rattle.bs_tree.specs.declared.tree.Expr.TheVariants as e
use Rattle.bs_tree.specs.declared.tree.Expr.TheOpen.{Expr-F}
use Rattle.bs_tree.specs.declared.tree.Expr.TheFolds.{fold-roll-Expr}
use Rattle.bs_tree.specs.declared.tree.Expr.TheViews.{roll-Expr}
use Rattle.bs_tree.specs.Numbered.{same_word, same_mark}
use Rattle.bs_tree.specs.Rule as g
use Rattle.bs_tree.specs.Rule.{Terminal, Role, opening, outside, operand, operator, Item, terminals, Choice, a_name, a_number, the_word, the_mark, an_operator, accepted, Inside, whole_number, statements, acts, expression, expressions, names, loop_head, Rule, one, both, many, maybe, either, within, closing, Spells}
use Rattle.bs_tree.specs.Grammar.{◌▸◌, ◌◂◌, pair_of, as_it_is, word, mark, as_name, natural, name, count, with_commas, literal, variable, index, group, cell, primary, unary, multiplies, adds, compares, joins, chooses, tail, grouped, compared, chain, product, sum, comparison, conjunction, disjunction, semicolon, ended, act_list, assigned, cell_index, assigned_value, after_name, assignment, arguments, addressed, message, bytes, target, after_send, act_else, after_act_if, after_repeat, act, block, parameters, awaited, wait, waits, after_when, set_to, setting, head, after_for, after_while, block_else, after_if, sequence, statement, length_in_brackets, length_declared, after_var, var_ended, variable_declaration, parameters_declared, after_entry, entry_ended, entry_declaration, chares_declared, variable_declarations, entry_declarations, Parts, body, program, content, Inner}
use Rattle.bs_log.specs.ValidTest.{is_word}
use Rattle.bs_check.specs.Known.{all_true}
use Rattle.bs_parse.proofs.Basics.{terminals_append}
use Rattle.bs_parse.proofs.Measured as measured
use Rattle.bs_parse.proofs.Measured.{Tells}
use Rattle.bs_range.specs.Numbers.{is_small, expression_step, small_in_expression, small_in_expressions, small_where_given, act_step, small_in_act, small_in_acts, small_in_wait, small_in_waits, statement_step, small_in_statement, small_in_body, small_length, small_in_variables, small_in_entries, small_in_parts}

-- ---- numbers of terminals

and_true : (b : Bool) → b && true ≡ b
and_true true = refl
and_true false = refl

and_assoc : (a b c : Bool) → (a && b) && c ≡ a && (b && c)
and_assoc true b c = refl
and_assoc false b c = refl

abbrev pub small_among : List Terminal → Bool
small_among [] = true
small_among (g.number z ∷ ts) = is_word z && small_among ts
small_among (_ ∷ ts) = small_among ts

small_append : (ts us : List Terminal) → small_among (ts ++ us) ≡ small_among ts && small_among us
small_append [] us = refl
small_append (g.name n ∷ ts) us = small_append ts us
small_append (g.number z ∷ ts) us = ap (λ b. is_word z && b) (small_append ts us) ∙ sym (and_assoc (is_word z) (small_among ts) (small_among us))
small_append (g.word v ∷ ts) us = small_append ts us
small_append (g.mark n ∷ ts) us = small_append ts us

abbrev pub small_items : List Item → Bool
small_items items = small_among (terminals items)

items_append : (xs ys : List Item) → small_items (xs ++ ys) ≡ small_items xs && small_items ys
items_append xs ys = ap small_among (terminals_append xs ys) ∙ small_append (terminals xs) (terminals ys)

in_brackets : (role role' : Role) (left right : Mark) (inner : List Item) → small_items ((role, g.mark left) ∷ (inner ++ (role', g.mark right) ∷ [])) ≡ small_items inner
in_brackets role role' left right inner = items_append inner ((role', g.mark right) ∷ []) ∙ and_true (small_items inner)

-- ---- numbers of what a token stands for

abbrev Fits : {A : Type 0} → Choice A → (A → Bool) → Type 0
Fits (a_name f) m = (n : ℕ) → m (f n) ≡ true
Fits {A = A} (a_number f) m = (z : ℤ) (a : A) → f z ≡ Some a → m a ≡ is_word z
Fits (the_word w a) m = m a ≡ true
Fits (the_mark n a) m = m a ≡ true
Fits {A = A} (an_operator f) m = (n : Mark) (a : A) → f n ≡ Some a → m a ≡ true

if_some : {A : Type 0} (b : Bool) (x a : A) (m : A → Bool) → m x ≡ true → (if b then Some x else None) ≡ Some a → true ≡ m a
if_some true x a m p h = let same : x ≡ a = cc in sym p ∙ ap m same
if_some false x a m p h = cc

fitting : {A : Type 0} (choice : Choice A) (m : A → Bool) (t : Terminal) (a : A) → Fits choice m → accepted choice t ≡ Some a → small_among (t ∷ []) ≡ m a
fitting (a_name f) m (g.name n) a fits h = let same : f n ≡ a = cc in sym (fits n) ∙ ap m same
fitting (a_number f) m (g.number z) a fits h = and_true (is_word z) ∙ sym (fits z a h)
fitting (the_word v x) m (g.word u) a fits h = if_some (same_word v u) x a m fits h
fitting (the_mark n x) m (g.mark k) a fits h = if_some (same_mark n k) x a m fits h
fitting (an_operator f) m (g.mark n) a fits h = sym (fits n a h)
fitting _ m _ a fits h = cc

-- ---- numbers of what is in brackets

abbrev small_inside : {B : Type 0} → Inside B → B → Bool
small_inside whole_number n = is_small n
small_inside statements b = small_in_body b
small_inside acts b = small_in_acts b
small_inside expression x = small_in_expression x
small_inside expressions xs = small_in_expressions xs
small_inside names xs = true
small_inside loop_head h = small_in_expression h.1 && (small_in_expression h.2 && small_in_expression h.4)

-- ---- numbers of each construct

abbrev no_number : {A : Type 0} → A → Bool
no_number a = true

none_told : {A : Type 0} (xs : List A) → all_true (map no_number xs) ≡ true
none_told [] = refl
none_told (x ∷ xs) = none_told xs

in_count : (z : ℤ) (n : ℕ) → natural z ≡ Some n → is_small n ≡ is_word z
in_count (pos k) n h = let same : k ≡ n = cc in ap is_small (sym same)
in_count (negsuc k) n h = cc

in_number : (z : ℤ) → small_in_expression (e.Number z) ≡ is_word z
unfolding roll-Expr denote.Hole.Carrier.roll
in_number z = fold-roll-Expr Bool expression_step (Expr-F.Number z)

in_literal : (z : ℤ) (x : Expr) → literal z ≡ Some x → small_in_expression x ≡ is_word z
in_literal (pos n) x h = let same : e.Number (pos n) ≡ x = cc in ap small_in_expression (sym same) ∙ in_number (pos n)
in_literal (negsuc n) x h = cc

in_variable : (x : NameId) (o : Option Expr) → small_in_expression (variable x o) ≡ small_where_given o
unfolding roll-Expr denote.Hole.Carrier.roll
in_variable x None = fold-roll-Expr Bool expression_step (Expr-F.Var x)
in_variable x (Some at) = fold-roll-Expr Bool expression_step (Expr-F.At x at)

in_this : small_in_expression e.This ≡ true
unfolding roll-Expr denote.Hole.Carrier.roll
in_this = fold-roll-Expr Bool expression_step Expr-F.This

in_chares : small_in_expression e.Chares ≡ true
unfolding roll-Expr denote.Hole.Carrier.roll
in_chares = fold-roll-Expr Bool expression_step Expr-F.Chares

in_neg : (x : Expr) → small_in_expression (e.Neg x) ≡ small_in_expression x
unfolding roll-Expr denote.Hole.Carrier.roll
in_neg x = fold-roll-Expr Bool expression_step (Expr-F.Neg x)

in_not : (x : Expr) → small_in_expression (e.Not x) ≡ small_in_expression x
unfolding roll-Expr denote.Hole.Carrier.roll
in_not x = fold-roll-Expr Bool expression_step (Expr-F.Not x)

in_two : (op : Op2) (x y : Expr) → small_in_expression (e.Two op x y) ≡ small_in_expression x && small_in_expression y
unfolding roll-Expr denote.Hole.Carrier.roll
in_two op x y = fold-roll-Expr Bool expression_step (Expr-F.Two op x y)

abbrev small_in_tail : Op2 × Expr → Bool
small_in_tail t = small_in_expression t.1

abbrev small_in_last : Option (Op2 × Expr) → Bool
small_in_last None = true
small_in_last (Some t) = small_in_tail t

in_grouped : (x : Expr) (ts : List (Op2 × Expr)) → small_in_expression (grouped x ts) ≡ small_in_expression x && all_true (map small_in_tail ts)
in_grouped x [] = sym (and_true (small_in_expression x))
in_grouped x (t ∷ ts) =
    in_grouped (e.Two t.0 x t.1) ts ∙ ap (λ b. b && all_true (map small_in_tail ts)) (in_two t.0 x t.1) ∙ and_assoc (small_in_expression x) (small_in_tail t) (all_true (map small_in_tail ts))

in_compared : (x : Expr) (o : Option (Op2 × Expr)) → small_in_expression (compared x o) ≡ small_in_expression x && small_in_last o
in_compared x None = sym (and_true (small_in_expression x))
in_compared x (Some t) = in_two t.0 x t.1

in_assigned : (x : NameId) (o : Option Expr) (value : Expr) → small_in_act (assigned x (o, value)) ≡ small_where_given o && small_in_expression value
unfolding roll-Act denote.Hole.Carrier.roll
in_assigned x None value = fold-roll-Act Bool act_step (Act-F.Set x value)
in_assigned x (Some at) value = fold-roll-Act Bool act_step (Act-F.SetAt x at value)

in_send : (entry : NameId) (reference : Expr) (args : List Expr) (to : Expr) (size : Option Expr)
    → small_in_act (a.Send entry reference args to size) ≡ (small_in_expression reference && small_in_expressions args) && (small_in_expression to && small_where_given size)
unfolding roll-Act denote.Hole.Carrier.roll
in_send entry reference args to size = fold-roll-Act Bool act_step (Act-F.Send entry reference args to size)

in_work : (x : Expr) → small_in_act (a.Work x) ≡ small_in_expression x
unfolding roll-Act denote.Hole.Carrier.roll
in_work x = fold-roll-Act Bool act_step (Act-F.Work x)

in_emit : (x : Expr) → small_in_act (a.Emit x) ≡ small_in_expression x
unfolding roll-Act denote.Hole.Carrier.roll
in_emit x = fold-roll-Act Bool act_step (Act-F.Emit x)

abbrev small_in_other_acts : Option (List Act) → Bool
small_in_other_acts None = true
small_in_other_acts (Some body) = small_in_acts body

in_act_if : (test : Expr) (first : List Act) (o : Option (List Act)) → small_in_act (a.If test first o) ≡ small_in_expression test && (small_in_acts first && small_in_other_acts o)
unfolding roll-Act denote.Hole.Carrier.roll
in_act_if test first None = fold-roll-Act Bool act_step (Act-F.If test first None)
in_act_if test first (Some other) = fold-roll-Act Bool act_step (Act-F.If test first (Some other))

in_repeat : (times : Expr) (inner : List Act) → small_in_act (a.Repeat times inner) ≡ small_in_expression times && small_in_acts inner
unfolding roll-Act denote.Hole.Carrier.roll
in_repeat times inner = fold-roll-Act Bool act_step (Act-F.Repeat times inner)

in_serial : (inner : List Act) → small_in_statement (s.Serial inner) ≡ small_in_acts inner
unfolding roll-Stmt denote.Hole.Carrier.roll
in_serial inner = fold-roll-Stmt Bool statement_step (Stmt-F.Serial inner)

in_when : (waited : List Wait) (inner : List Stmt) → small_in_statement (s.When waited inner) ≡ small_in_waits waited && small_in_body inner
unfolding roll-Stmt denote.Hole.Carrier.roll
in_when waited inner = fold-roll-Stmt Bool statement_step (Stmt-F.When waited inner)

in_overlap : (inner : List Stmt) → small_in_statement (s.Overlap inner) ≡ small_in_body inner
unfolding roll-Stmt denote.Hole.Carrier.roll
in_overlap inner = fold-roll-Stmt Bool statement_step (Stmt-F.Overlap inner)

in_for : (turns : NameId × Expr × Expr × NameId × Expr) (inner : List Stmt) → small_in_statement (s.For turns.0 turns.1 turns.2 turns.3 turns.4 inner) ≡ small_inside loop_head turns && small_in_body inner
unfolding roll-Stmt denote.Hole.Carrier.roll
in_for turns inner = fold-roll-Stmt Bool statement_step (Stmt-F.For turns.0 turns.1 turns.2 turns.3 turns.4 inner)

in_while : (test : Expr) (inner : List Stmt) → small_in_statement (s.While test inner) ≡ small_in_expression test && small_in_body inner
unfolding roll-Stmt denote.Hole.Carrier.roll
in_while test inner = fold-roll-Stmt Bool statement_step (Stmt-F.While test inner)

abbrev small_in_other : Option (List Stmt) → Bool
small_in_other None = true
small_in_other (Some body) = small_in_body body

in_if : (test : Expr) (first : List Stmt) (o : Option (List Stmt)) → small_in_statement (s.If test first o) ≡ small_in_expression test && (small_in_body first && small_in_other o)
unfolding roll-Stmt denote.Hole.Carrier.roll
in_if test first None = fold-roll-Stmt Bool statement_step (Stmt-F.If test first None)
in_if test first (Some other) = fold-roll-Stmt Bool statement_step (Stmt-F.If test first (Some other))

in_seq : (inner : List Stmt) → small_in_statement (s.Seq inner) ≡ small_in_body inner
unfolding roll-Stmt denote.Hole.Carrier.roll
in_seq inner = fold-roll-Stmt Bool statement_step (Stmt-F.Seq inner)

-- ---- numbers by each rule

module _ (D : (B : Type 0) → Inside B → List Item → B → Type 0) (below : (B : Type 0) (inside : Inside B) (items : List Item) (b : B) → D B inside items b → small_items items ≡ small_inside inside b) where
  -- the numbers of what the rule spells have 64 bits exactly where those of its items have
  record Tested {A : Type 0} (r : Rule A) (test : A → Bool) : Type 0 where
    told : Tells true (λ a b. a && b) small_items refl items_append D r test

  token : {A : Type 0} {role : Role} {choice : Choice A} {test : A → Bool} → Fits choice test → Tested (one role choice) test
  token {role = role} {choice = choice} {test = test} fits = record { told = measured.one_tells true (λ a b. a && b) small_items refl items_append D role choice test (λ t a h. fitting choice test t a fits h) }

  in_turn : {A B C : Type 0} {f : B → C → A} {r : Rule B} {q : Rule C} {test : A → Bool} {test₁ : B → Bool} {test₂ : C → Bool} → Tested r test₁ → Tested q test₂ → ((b : B) (c : C) → test (f b c) ≡ test₁ b && test₂ c) → Tested (both f r q) test
  in_turn {f = f} {r = r} {q = q} {test = test} {test₁ = test₁} {test₂ = test₂} p p' is = record { told = measured.both_tell true (λ a b. a && b) small_items refl items_append D f r q test test₁ test₂ is p.told p'.told }

  any_number : {B : Type 0} {r : Rule B} {test : B → Bool} → Tested r test → Tested (many as_it_is r) (λ bs. all_true (map test bs))
  any_number {r = r} {test = test} p = record { told = measured.many_tell true (λ a b. a && b) small_items refl items_append D as_it_is r (λ bs. all_true (map test bs)) test all_true refl (λ x xs. refl) (λ bs. refl) p.told }

  where_given : {A B : Type 0} {f : Option B → A} {r : Rule B} {test : A → Bool} → test (f None) ≡ true → Tested r (λ b. test (f (Some b))) → Tested (maybe f r) test
  where_given {f = f} {r = r} {test = test} nothing p = record { told = measured.maybe_tells true (λ a b. a && b) small_items refl items_append D f r test nothing p.told }

  or_else : {A : Type 0} {r q : Rule A} {test : A → Bool} → Tested r test → Tested q test → Tested (either r q) test
  or_else {r = r} {q = q} {test = test} p p' = record { told = measured.either_tells true (λ a b. a && b) small_items refl items_append D r q test p.told p'.told }

  bracketed : {A B : Type 0} {role : Role} {left right : Mark} {f : B → A} {inside : Inside B} {test : A → Bool} → ((b : B) → test (f b) ≡ small_inside inside b) → Tested (within role left right f inside) test
  bracketed {B = B} {role = role} {left = left} {right = right} {f = f} {inside = inside} {test = test} is = record {
    told = λ items a h. ap small_items h.2 ∙ in_brackets role (closing role) left right h.0 ∙ below B inside h.0 h.1 h.3 ∙ sym (is h.1) ∙ ap test h.4;
  }

  told_as : {A : Type 0} {r : Rule A} {test : A → Bool} (test' : A → Bool) → Tested r test → ((a : A) → test a ≡ test' a) → Tested r test'
  told_as test' p is = record { told = λ items a h. p.told items a h ∙ is a }

  a_word : (role : Role) (v : Word) → Tested (word role v) no_number
  a_word role v = token refl

  a_mark : (role : Role) (n : Mark) → Tested (mark role n) no_number
  a_mark role n = token refl

  behind : {A : Type 0} {r : Rule (Unit {0})} {q : Rule A} {test : A → Bool} → Tested r no_number → Tested q test → Tested (r ▸ q) test
  behind p p' = in_turn p p' (λ b c. refl)

  semicolon_after : {A : Type 0} {r : Rule A} {test : A → Bool} → Tested r test → Tested (r ◂ semicolon) test
  semicolon_after {test = test} p = in_turn p (a_mark outside m.Semicolon) (λ b c. sym (and_true (test b)))

  paired : {A B : Type 0} {r : Rule A} {q : Rule B} {test : A → Bool} {test' : B → Bool} → Tested r test → Tested q test' → Tested (pair_of r q) (λ p. test p.0 && test' p.1)
  paired p p' = in_turn p p' (λ b c. refl)

  commas : {A : Type 0} {r : Rule A} {test : A → Bool} → Tested r test → Tested (with_commas r) (λ xs. all_true (map test xs))
  commas p = in_turn p (any_number (behind (a_mark outside m.Comma) p)) (λ b c. refl)

  a_name_tested : Tested name no_number
  a_name_tested = token (λ n. refl)

  -- expressions

  by_index : (role : Role) → Tested (index role) small_in_expression
  unfolding index
  by_index role = bracketed (λ b. refl)

  by_group : (role : Role) → Tested (group role) small_in_expression
  unfolding group
  by_group role = bracketed (λ b. refl)

  by_cell : Tested cell small_in_expression
  by_cell =
      let x : Tested (one operand (a_name as_name)) no_number = token (λ n. refl) in
      let at : Tested (maybe as_it_is (index operand)) small_where_given = where_given refl (by_index operand) in
      in_turn x at in_variable

  by_primary : Tested primary small_in_expression
  unfolding primary
  by_primary = or_else (token in_literal) (or_else by_cell (or_else (token in_this) (or_else (token in_chares) (by_group operand))))

  by_unary : Tested unary small_in_expression
  unfolding unary
  by_unary = or_else (in_turn (a_mark operand m.Minus) by_primary (λ b x. in_neg x)) (or_else (in_turn (a_mark operand m.Not) by_primary (λ b x. in_not x)) by_primary)

  by_tail : (f : Mark → Option Op2) (r : Rule Expr) → Tested r small_in_expression → Tested (tail f r) small_in_tail
  by_tail f r p =
      let op : Tested (one operator (an_operator f)) no_number = token (λ n a h. refl) in
      in_turn op p (λ b c. refl)

  by_chain : (f : Mark → Option Op2) (r : Rule Expr) → Tested r small_in_expression → Tested (chain f r) small_in_expression
  by_chain f r p = in_turn p (any_number (by_tail f r p)) in_grouped

  by_product : Tested product small_in_expression
  unfolding product
  by_product = by_chain multiplies unary by_unary

  by_sum : Tested sum small_in_expression
  unfolding sum
  by_sum = by_chain adds product by_product

  by_comparison : Tested comparison small_in_expression
  unfolding comparison
  by_comparison =
      let last : Tested (maybe as_it_is (tail compares sum)) small_in_last = where_given refl (by_tail compares sum by_sum) in
      in_turn by_sum last in_compared

  by_conjunction : Tested conjunction small_in_expression
  unfolding conjunction
  by_conjunction = by_chain joins comparison by_comparison

  by_disjunction : Tested disjunction small_in_expression
  unfolding disjunction
  by_disjunction = by_chain chooses conjunction by_conjunction

  -- acts

  by_ended : Tested ended small_in_expression
  unfolding ended
  by_ended = semicolon_after by_disjunction

  by_act_list : Tested act_list small_in_acts
  unfolding act_list
  by_act_list = bracketed (λ b. refl)

  by_cell_index : Tested cell_index small_where_given
  unfolding cell_index
  by_cell_index = where_given refl (by_index outside)

  by_assigned_value : Tested assigned_value small_in_expression
  unfolding assigned_value
  by_assigned_value = behind (a_mark outside m.Assign) by_ended

  by_after_name : Tested after_name (λ p. small_where_given p.0 && small_in_expression p.1)
  unfolding after_name
  by_after_name = paired by_cell_index by_assigned_value

  by_assignment : Tested assignment small_in_act
  by_assignment = in_turn a_name_tested by_after_name (λ x p. in_assigned x p.0 p.1)

  by_arguments : Tested arguments small_in_expressions
  unfolding arguments
  by_arguments = bracketed (λ b. refl)

  by_addressed : Tested addressed (λ p. small_in_expression p.0 && small_in_expressions p.1)
  unfolding addressed
  by_addressed = paired (by_index outside) by_arguments

  by_message : Tested message (λ p. small_in_expression p.1 && small_in_expressions p.2)
  unfolding message
  by_message = in_turn a_name_tested by_addressed (λ b c. refl)

  by_bytes : Tested bytes small_where_given
  unfolding bytes
  by_bytes = where_given refl (behind (a_word outside w.Bytes) by_disjunction)

  by_target : Tested target (λ p. small_in_expression p.0 && small_where_given p.1)
  unfolding target
  by_target = paired (behind (a_word outside w.To) by_disjunction) by_bytes

  by_after_send : Tested after_send small_in_act
  unfolding after_send
  by_after_send = semicolon_after (in_turn by_message by_target (λ sent to. in_send sent.0 sent.1 sent.2 to.0 to.1))

  by_act_else : Tested act_else small_in_other_acts
  unfolding act_else
  by_act_else = where_given refl (behind (a_word outside w.Else) by_act_list)

  by_after_act_if : Tested after_act_if small_in_act
  unfolding after_act_if
  by_after_act_if = in_turn (by_group outside) (paired by_act_list by_act_else) (λ test rest. in_act_if test rest.0 rest.1)

  by_after_repeat : Tested after_repeat small_in_act
  unfolding after_repeat
  by_after_repeat = in_turn by_disjunction by_act_list in_repeat

  by_act : Tested act small_in_act
  unfolding act
  by_act =
      or_else by_assignment
      (or_else (behind (a_word outside w.Send) by_after_send)
      (or_else (in_turn (a_word outside w.Work) by_ended (λ b x. in_work x))
      (or_else (in_turn (a_word outside w.Emit) by_ended (λ b x. in_emit x))
      (or_else (behind (a_word outside w.If) by_after_act_if)
      (behind (a_word outside w.Repeat) by_after_repeat)))))

  -- statements

  by_block : Tested block small_in_body
  unfolding block
  by_block = bracketed (λ b. refl)

  by_parameters : Tested parameters no_number
  unfolding parameters
  by_parameters = bracketed (λ b. refl)

  by_awaited : Tested awaited (λ p. small_in_expression p.0)
  unfolding awaited
  by_awaited = in_turn (by_index outside) by_parameters (λ b c. sym (and_true (small_in_expression b)))

  by_wait : Tested wait small_in_wait
  unfolding wait
  by_wait = in_turn a_name_tested by_awaited (λ b c. refl)

  by_waits : Tested waits small_in_waits
  unfolding waits
  by_waits = commas by_wait

  by_after_when : Tested after_when small_in_statement
  unfolding after_when
  by_after_when = in_turn by_waits by_block in_when

  by_set_to : Tested set_to small_in_expression
  unfolding set_to
  by_set_to = behind (a_mark outside m.Assign) by_disjunction

  by_setting : Tested setting (λ p. small_in_expression p.1)
  unfolding setting
  by_setting = in_turn a_name_tested by_set_to (λ b c. refl)

  by_head : Tested head (small_inside loop_head)
  unfolding head
  by_head = bracketed (λ b. refl)

  by_after_for : Tested after_for small_in_statement
  unfolding after_for
  by_after_for = in_turn by_head by_block in_for

  by_after_while : Tested after_while small_in_statement
  unfolding after_while
  by_after_while = in_turn (by_group outside) by_block in_while

  by_block_else : Tested block_else small_in_other
  unfolding block_else
  by_block_else = where_given refl (behind (a_word outside w.Else) by_block)

  by_after_if : Tested after_if small_in_statement
  unfolding after_if
  by_after_if = in_turn (by_group outside) (paired by_block by_block_else) (λ test rest. in_if test rest.0 rest.1)

  by_sequence : Tested sequence small_in_statement
  unfolding sequence
  by_sequence = bracketed in_seq

  by_statement : Tested statement small_in_statement
  unfolding statement
  by_statement =
      or_else (in_turn (a_word opening w.Serial) by_act_list (λ b inner. in_serial inner))
      (or_else (behind (a_word opening w.When) by_after_when)
      (or_else (in_turn (a_word opening w.Overlap) by_block (λ b inner. in_overlap inner))
      (or_else (behind (a_word opening w.For) by_after_for)
      (or_else (behind (a_word opening w.While) by_after_while)
      (or_else (behind (a_word opening w.If) by_after_if)
      by_sequence)))))

  -- programs

  by_length_in_brackets : Tested length_in_brackets is_small
  unfolding length_in_brackets
  by_length_in_brackets = bracketed (λ b. refl)

  by_length_declared : Tested length_declared small_length
  unfolding length_declared
  by_length_declared = where_given refl by_length_in_brackets

  by_after_var : Tested after_var (λ x. small_length x.cells)
  unfolding after_var
  by_after_var = in_turn a_name_tested by_length_declared (λ b c. refl)

  by_var_ended : Tested var_ended (λ x. small_length x.cells)
  unfolding var_ended
  by_var_ended = semicolon_after by_after_var

  by_variable_declaration : Tested variable_declaration (λ x. small_length x.cells)
  unfolding variable_declaration
  by_variable_declaration = behind (a_word outside w.Var) by_var_ended

  by_parameters_declared : Tested parameters_declared is_small
  unfolding parameters_declared
  by_parameters_declared = bracketed (λ b. refl)

  by_after_entry : Tested after_entry (λ x. is_small x.params)
  unfolding after_entry
  by_after_entry = in_turn a_name_tested by_parameters_declared (λ b c. refl)

  by_entry_ended : Tested entry_ended (λ x. is_small x.params)
  unfolding entry_ended
  by_entry_ended = semicolon_after by_after_entry

  by_entry_declaration : Tested entry_declaration (λ x. is_small x.params)
  unfolding entry_declaration
  by_entry_declaration = behind (a_word outside w.Entry) by_entry_ended

  by_count : Tested count is_small
  by_count = token in_count

  by_chares_declared : Tested chares_declared is_small
  unfolding chares_declared
  by_chares_declared = behind (a_word outside w.Chares) (semicolon_after by_count)

  by_variable_declarations : Tested variable_declarations small_in_variables
  unfolding variable_declarations
  by_variable_declarations = any_number by_variable_declaration

  by_entry_declarations : Tested entry_declarations small_in_entries
  unfolding entry_declarations
  by_entry_declarations = any_number by_entry_declaration

  by_body : Tested body small_in_body
  unfolding body
  by_body = behind (a_word outside w.Body) by_block

  by_program : Tested program small_in_parts
  unfolding program
  by_program =
      let rest : Tested (both (λ vars (rest : List EntryDecl × List Stmt). (vars, rest.0, rest.1)) variable_declarations (pair_of entry_declarations body)) (λ p. small_in_variables p.0 && (small_in_entries p.1 && small_in_body p.2)) =
      in_turn by_variable_declarations (paired by_entry_declarations by_body) (λ b c. refl) in
      in_turn by_chares_declared rest (λ b c. refl)

  by_loop_head : Tested (content loop_head) (small_inside loop_head)
  by_loop_head =
      let rest : Tested (both (λ test (step : NameId × Expr). (test, step.0, step.1)) ended setting) (λ p. small_in_expression p.0 && small_in_expression p.2) = in_turn by_ended by_setting (λ b c. refl) in
      in_turn (semicolon_after by_setting) rest (λ b c. refl)

  by_content : (B : Type 0) (inside : Inside B) → Tested (content inside) (small_inside inside)
  by_content _ whole_number = by_count
  by_content _ statements = any_number by_statement
  by_content _ acts = any_number by_act
  by_content _ expression = by_disjunction
  by_content _ expressions = where_given refl (commas by_disjunction)
  by_content _ names = where_given refl (told_as no_number (commas a_name_tested) (λ xs. none_told xs))
  by_content _ loop_head = by_loop_head

small_by_depth : (depth : ℕ) (B : Type 0) (inside : Inside B) (items : List Item) (b : B) → Inner depth B inside items b → small_items items ≡ small_inside inside b
small_by_depth zero B inside items b h = absurd h
small_by_depth (suc depth) B inside items b h = (by_content (Inner depth) (small_by_depth depth) B inside).told items b h

-- the numbers of a program have 64 bits where those of its terminals have
pub small_program : (depth : ℕ) (items : List Item) (parts : Parts) → Spells (Inner depth) program items parts → small_items items ≡ small_in_parts parts
small_program depth items parts h = (by_program (Inner depth) (small_by_depth depth)).told items parts h
