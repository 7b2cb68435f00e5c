-- What the grammar spells has as many statements as its items have tokens that begin one.
use Rattle.std.proofs.Common.{◌≡◌, ℕ, zero, suc, ◌+◌, ◌-◌, ◌≤◌, List, [], ◌∷◌, ◌++◌, map, Option, Some, None, Bool, true, false, ◌&&◌, refl, sym, ap, subst, ◌∙◌, arith, inl, inr, nat_le}
use Rattle.std.specs.List.{sum as total}
use Rattle.std.proofs.lemmas.Bool.{leb-false}
use Rattle.std.proofs.lemmas.List.Sums.{sum_by-cons}
use Rattle.bs_tree.specs.declared.symbols.Word.{Word}
use Rattle.bs_tree.specs.declared.symbols.Word.TheVariants as w
use Rattle.bs_tree.specs.declared.symbols.Mark.{Mark}
use Rattle.bs_tree.specs.declared.tree.NameId.{NameId}
use Rattle.bs_tree.specs.declared.tree.EntryDecl.{EntryDecl}
use Rattle.bs_tree.specs.declared.tree.Act.{Act}
use Rattle.bs_tree.specs.declared.tree.Wait.{Wait}
use Rattle.bs_tree.specs.declared.tree.Expr.{Expr}
use Rattle.bs_tree.specs.declared.tree.Stmt.{Stmt}
use Rattle.bs_tree.specs.declared.tree.Stmt.TheVariants as s
use Rattle.bs_tree.specs.declared.tree.Stmt.TheOpen.{Stmt-F}
use Rattle.bs_tree.specs.declared.tree.Stmt.TheFolds.{fold-roll-Stmt, ind-Stmt, map-Stmt}
use Rattle.bs_tree.specs.declared.tree.Stmt.TheViews.{roll-Stmt}
use Rattle.bs_tree.specs.Count.{statements_step, statements_of, statements_in}
use Rattle.bs_tree.specs.Rule as g
use Rattle.bs_tree.specs.Rule.{Terminal, Role, opening, outside, operand, operator, Item, terminals, Choice, the_word, Inside, whole_number, statements, acts, expression, expressions, names, loop_head, Rule, one, both, many, maybe, either, within, closing, Spells, SpellsMany, SpellsMaybe}
use Rattle.bs_tree.specs.Grammar.{◌▸◌, pair_of, as_it_is, word, index, group, length_in_brackets, primary, unary, product, sum, comparison, conjunction, disjunction, ended, act_list, after_name, arguments, addressed, message, bytes, target, after_send, act_else, after_act_if, after_repeat, act, block, parameters, awaited, wait, waits, after_when, set_to, setting, head, after_for, after_while, block_else, after_if, sequence, statement, length_declared, after_var, var_ended, variable_declaration, parameters_declared, after_entry, entry_ended, entry_declaration, chares_declared, variable_declarations, entry_declarations, cell_index, assigned_value, Parts, body, program, content, Inner}
use Rattle.bs_tree.specs.Limits.{Counts, after, after_all, statements_after, opens, refused, refused_role, Within}
use Rattle.bs_parse.proofs.Basics.{both_left, both_right, Test, test, holds, fails}
use Rattle.bs_parse.proofs.Measured as measured
use Rattle.bs_parse.proofs.Measured.{Tells}

-- ---- tokens that begin a statement

abbrev pub opened_by : Role → ℕ
opened_by opening = 1
opened_by _ = 0

abbrev pub openings : List Item → ℕ
openings [] = 0
openings (item ∷ items) = opened_by item.0 + openings items

openings_append : (xs ys : List Item) → openings (xs ++ ys) ≡ openings xs + openings ys
openings_append [] ys = omega arith
openings_append (x ∷ xs) ys = omega (arith, openings_append xs ys)

alone : (role : Role) (t : Terminal) → openings ((role, t) ∷ []) ≡ opened_by role
alone role t = omega arith

counted_one : (n : ℕ) (role : Role) → statements_after n role ≡ n + opened_by role
counted_one n opening = omega arith
counted_one n outside = omega arith
counted_one n operand = omega arith
counted_one n operator = omega arith

counted_all : (counts : Counts) (items : List Item) → (after_all counts items).statements ≡ counts.statements + openings items
counted_all counts [] = omega arith
counted_all counts (x ∷ xs) = omega (arith, counted_all (after counts x) xs, counted_one counts.statements x.0)

-- a token that passes no limit leaves the statements within theirs
role_keeps : (most counts : Counts) (role : Role) → refused_role most counts role ≡ None → counts.statements ≤ most.statements → statements_after counts.statements role ≤ most.statements
role_keeps most counts opening h le = by (test (nat_le most.statements counts.statements))
  where
    by : Test (nat_le most.statements counts.statements) → suc counts.statements ≤ most.statements
    by (fails e) = omega (arith, leb-false _ _ e)
    by (holds e) = absurd (let h' = rw e at h in cc)
role_keeps most counts outside h le = le
role_keeps most counts operand h le = le
role_keeps most counts operator h le = le

one_keeps : (most counts : Counts) (item : Item) → refused most counts item ≡ None → counts.statements ≤ most.statements → (after counts item).statements ≤ most.statements
one_keeps most counts item h le = by (test (opens item.1 && nat_le most.brackets counts.brackets))
  where
    by : Test (opens item.1 && nat_le most.brackets counts.brackets) → (after counts item).statements ≤ most.statements
    by (holds e) = absurd (let h' = rw e at h in cc)
    by (fails e) = role_keeps most counts item.0 (rw e at h) le

all_keep : (most counts : Counts) (items : List Item) → Within most counts items → counts.statements ≤ most.statements → (after_all counts items).statements ≤ most.statements
all_keep most counts [] w le = le
all_keep most counts (x ∷ xs) w le = all_keep most (after counts x) xs w.1 (one_keeps most counts x w.0 le)

pub openings_within : (most counts : Counts) (items : List Item) → Within most counts items → counts.statements ≤ most.statements → counts.statements + openings items ≤ most.statements
openings_within most counts items w le = omega (arith, all_keep most counts items w le, counted_all counts items)

-- ---- rules without statements

abbrev opens_none : Role → Bool
opens_none opening = false
opens_none _ = true

abbrev quiet_inside : {B : Type 0} → Inside B → Bool
quiet_inside statements = false
quiet_inside _ = true

abbrev quiet : {A : Type 0} → Rule A → Bool
quiet (one role choice) = opens_none role
quiet (both f r q) = quiet r && quiet q
quiet (many f r) = quiet r
quiet (maybe f r) = quiet r
quiet (either r q) = quiet r && quiet q
quiet (within role left right f inside) = opens_none role && quiet_inside inside

opened_none : (role : Role) → opens_none role ≡ true → opened_by role ≡ 0
opened_none opening h = cc
opened_none outside h = refl
opened_none operand h = refl
opened_none operator h = refl

closed_none : (role : Role) → opened_by (closing role) ≡ 0
closed_none opening = refl
closed_none outside = refl
closed_none operand = refl
closed_none operator = refl

in_brackets : (role : Role) (left right : Mark) (inner : List Item) → openings ((role, g.mark left) ∷ (inner ++ (closing role, g.mark right) ∷ [])) ≡ opened_by role + openings inner
in_brackets role left right inner = omega (arith, openings_append inner ((closing role, g.mark right) ∷ []), closed_none role)

none_of_many : {B : Type 0} (R : List Item → B → Type 0) → ((items : List Item) (b : B) → R items b → openings items ≡ 0) → (items : List Item) (bs : List B) → SpellsMany R items bs → openings items ≡ 0
none_of_many R each items [] h = ap openings h
none_of_many R each items (b ∷ bs) h = omega (arith, ap openings h.2, openings_append h.0 h.1, each h.0 b h.3, none_of_many R each h.1 bs h.4)

none_of_maybe : {B : Type 0} (R : List Item → B → Type 0) → ((items : List Item) (b : B) → R items b → openings items ≡ 0) → (items : List Item) (o : Option B) → SpellsMaybe R items o → openings items ≡ 0
none_of_maybe R each items None h = ap openings h
none_of_maybe R each items (Some b) h = each items b h

module _ (D : (B : Type 0) → Inside B → List Item → B → Type 0) (below : (B : Type 0) (inside : Inside B) → quiet_inside inside ≡ true → (items : List Item) (b : B) → D B inside items b → openings items ≡ 0) where
  none_opened : {A : Type 0} (r : Rule A) → quiet r ≡ true → (items : List Item) (a : A) → Spells D r items a → openings items ≡ 0
  none_opened (one role choice) q items a h = omega (arith, ap openings h.1, opened_none role q)
  none_opened (both f r p) q items a h = omega (arith, ap openings h.4, openings_append h.0 h.1, none_opened r (both_left (quiet r) _ q) h.0 h.2 h.5, none_opened p (both_right (quiet r) _ q) h.1 h.3 h.6)
  none_opened (many f r) q items a h = none_of_many (Spells D r) (λ xs b k. none_opened r q xs b k) items h.0 h.1
  none_opened (maybe f r) q items a h = none_of_maybe (Spells D r) (λ xs b k. none_opened r q xs b k) items h.0 h.1
  none_opened (either r p) q items a (inl h) = none_opened r (both_left (quiet r) _ q) items a h
  none_opened (either r p) q items a (inr h) = none_opened p (both_right (quiet r) _ q) items a h
  none_opened (within {B = B} role left right f inside) q items a h =
      omega (arith, ap openings h.2, in_brackets role left right h.0, opened_none role (both_left (opens_none role) _ q), below B inside (both_right (opens_none role) _ q) h.0 h.1 h.3)

quiet_contents : (B : Type 0) (inside : Inside B) → quiet_inside inside ≡ true → quiet (content inside) ≡ true
unfolding index group primary unary product sum comparison conjunction disjunction ended act_list after_name arguments addressed message bytes target after_send act_else after_act_if after_repeat act set_to setting cell_index assigned_value
quiet_contents _ whole_number q = refl
quiet_contents _ statements q = cc
quiet_contents _ acts q = refl
quiet_contents _ expression q = refl
quiet_contents _ expressions q = refl
quiet_contents _ names q = refl
quiet_contents _ loop_head q = refl

none_by_depth : (depth : ℕ) (B : Type 0) (inside : Inside B) → quiet_inside inside ≡ true → (items : List Item) (b : B) → Inner depth B inside items b → openings items ≡ 0
none_by_depth zero B inside q items b h = absurd h
none_by_depth (suc depth) B inside q items b h = none_opened (Inner depth) (none_by_depth depth) (content inside) (quiet_contents B inside q) items b h

-- ---- statements of each construct

one_serial : (inner : List Act) → statements_of (s.Serial inner) ≡ 1
unfolding roll-Stmt denote.Hole.Carrier.roll
one_serial inner = fold-roll-Stmt ℕ statements_step (Stmt-F.Serial inner)

in_when : (waited : List Wait) (inner : List Stmt) → statements_of (s.When waited inner) ≡ 1 + statements_in inner
unfolding roll-Stmt denote.Hole.Carrier.roll
in_when waited inner = fold-roll-Stmt ℕ statements_step (Stmt-F.When waited inner)

in_overlap : (inner : List Stmt) → statements_of (s.Overlap inner) ≡ 1 + statements_in inner
unfolding roll-Stmt denote.Hole.Carrier.roll
in_overlap inner = fold-roll-Stmt ℕ statements_step (Stmt-F.Overlap inner)

in_for : (x : NameId) (first test : Expr) (y : NameId) (next : Expr) (inner : List Stmt) → statements_of (s.For x first test y next inner) ≡ 1 + statements_in inner
unfolding roll-Stmt denote.Hole.Carrier.roll
in_for x first test y next inner = fold-roll-Stmt ℕ statements_step (Stmt-F.For x first test y next inner)

in_while : (test : Expr) (inner : List Stmt) → statements_of (s.While test inner) ≡ 1 + statements_in inner
unfolding roll-Stmt denote.Hole.Carrier.roll
in_while test inner = fold-roll-Stmt ℕ statements_step (Stmt-F.While test inner)

abbrev in_other : Option (List Stmt) → ℕ
in_other None = 0
in_other (Some inner) = statements_in inner

in_if : (test : Expr) (first : List Stmt) (o : Option (List Stmt)) → statements_of (s.If test first o) ≡ 1 + statements_in first + in_other o
unfolding roll-Stmt denote.Hole.Carrier.roll
in_if test first None = fold-roll-Stmt ℕ statements_step (Stmt-F.If test first None)
in_if test first (Some other) = fold-roll-Stmt ℕ statements_step (Stmt-F.If test first (Some other))

in_seq : (inner : List Stmt) → statements_of (s.Seq inner) ≡ 1 + statements_in inner
unfolding roll-Stmt denote.Hole.Carrier.roll
in_seq inner = fold-roll-Stmt ℕ statements_step (Stmt-F.Seq inner)

some_step : (x : Stmt-F ℕ) → 1 ≤ statements_step x
some_step (Stmt-F.Serial inner) = omega arith
some_step (Stmt-F.When waited inner) = omega arith
some_step (Stmt-F.Overlap inner) = omega arith
some_step (Stmt-F.For x first check y next inner) = omega arith
some_step (Stmt-F.While check inner) = omega arith
some_step (Stmt-F.If check inner other) = omega arith
some_step (Stmt-F.Seq inner) = omega arith

-- a statement is at least one
at_least_one : (x : Stmt) → 1 ≤ statements_of x
at_least_one = ind-Stmt (λ x. 1 ≤ statements_of x) (λ x y is. subst (λ n. 1 ≤ n) (sym (fold-roll-Stmt ℕ statements_step x)) (some_step (map-Stmt Stmt ℕ statements_of x)))

-- those after a statement's first token
abbrev inner_of : Stmt → ℕ
inner_of x = statements_of x - 1

-- ---- statements by each rule

module _ (D : (B : Type 0) → Inside B → List Item → B → Type 0) (below : (items : List Item) (b : List Stmt) → D (List Stmt) statements items b → openings items ≡ statements_in b) (none : (B : Type 0) (inside : Inside B) → quiet_inside inside ≡ true → (items : List Item) (b : B) → D B inside items b → openings items ≡ 0) where
  -- what the rule spells has as many statements as its items begin
  record Opened {A : Type 0} (r : Rule A) (n : A → ℕ) : Type 0 where
    told : Tells 0 (λ a b. a + b) openings refl openings_append D r n

  nothing : {A : Type 0} (r : Rule A) → quiet r ≡ true → Opened r (λ a. 0)
  nothing r q = record { told = λ items a h. none_opened D none r q items a h }

  in_turn : {A B C : Type 0} {f : B → C → A} {r : Rule B} {q : Rule C} {n : A → ℕ} {n₁ : B → ℕ} {n₂ : C → ℕ} → Opened r n₁ → Opened q n₂ → ((b : B) (c : C) → n (f b c) ≡ n₁ b + n₂ c) → Opened (both f r q) n
  in_turn {f = f} {r = r} {q = q} {n = n} {n₁ = n₁} {n₂ = n₂} p p' is = record { told = measured.both_tell 0 (λ a b. a + b) openings refl openings_append D f r q n n₁ n₂ is p.told p'.told }

  any_number : {B : Type 0} {r : Rule B} {n : B → ℕ} → Opened r n → Opened (many as_it_is r) (λ bs. total (map n bs))
  any_number {r = r} {n = n} p = record { told = measured.many_tell 0 (λ a b. a + b) openings refl openings_append D as_it_is r (λ bs. total (map n bs)) n total refl (λ x xs. sum_by-cons (λ y. y) x xs) (λ bs. refl) p.told }

  where_given : {A B : Type 0} {f : Option B → A} {r : Rule B} {n : A → ℕ} → n (f None) ≡ 0 → Opened r (λ b. n (f (Some b))) → Opened (maybe f r) n
  where_given {f = f} {r = r} {n = n} empty p = record { told = measured.maybe_tells 0 (λ a b. a + b) openings refl openings_append D f r n empty p.told }

  or_else : {A : Type 0} {r q : Rule A} {n : A → ℕ} → Opened r n → Opened q n → Opened (either r q) n
  or_else {r = r} {q = q} {n = n} p p' = record { told = measured.either_tells 0 (λ a b. a + b) openings refl openings_append D r q n p.told p'.told }

  bracketed : {A : Type 0} {role : Role} {left right : Mark} {f : List Stmt → A} {n : A → ℕ} → ((b : List Stmt) → n (f b) ≡ opened_by role + statements_in b) → Opened (within role left right f statements) n
  bracketed {role = role} {left = left} {right = right} {n = n} is = record {
    told = λ items a h. ap openings h.2 ∙ in_brackets role left right h.0 ∙ ap (λ k. opened_by role + k) (below h.0 h.1 h.3) ∙ sym (is h.1) ∙ ap n h.4;
  }

  a_word : (role : Role) (v : Word) → Opened (word role v) (λ a. opened_by role)
  a_word role v = record { told = measured.one_tells 0 (λ a b. a + b) openings refl openings_append D role (the_word v tt) (λ a. opened_by role) (λ t a h. alone role t) }

  by_block : Opened block statements_in
  unfolding block
  by_block = bracketed (λ b. omega arith)

  by_after_when : Opened after_when inner_of
  unfolding after_when waits wait awaited index parameters
  by_after_when = in_turn (nothing waits refl) by_block (λ waited inner. omega (arith, in_when waited inner))

  by_after_for : Opened after_for inner_of
  unfolding after_for head
  by_after_for = in_turn (nothing head refl) by_block (λ turns inner. omega (arith, in_for turns.0 turns.1 turns.2 turns.3 turns.4 inner))

  by_after_while : Opened after_while inner_of
  unfolding after_while group
  by_after_while = in_turn (nothing (group outside) refl) by_block (λ test inner. omega (arith, in_while test inner))

  by_block_else : Opened block_else in_other
  unfolding block_else
  by_block_else = where_given refl (in_turn (a_word outside w.Else) by_block (λ b inner. omega arith))

  by_after_if : Opened after_if inner_of
  unfolding after_if group
  by_after_if =
      let blocks : Opened (pair_of block block_else) (λ p. statements_in p.0 + in_other p.1) = in_turn by_block by_block_else (λ b c. refl) in
      in_turn (nothing (group outside) refl) blocks (λ test rest. omega (arith, in_if test rest.0 rest.1))

  by_sequence : Opened sequence statements_of
  unfolding sequence
  by_sequence = bracketed in_seq

  -- the first token, and what follows it
  by_first : {r : Rule Stmt} (v : Word) → Opened r inner_of → Opened (word opening v ▸ r) statements_of
  by_first v p = in_turn (a_word opening v) p (λ b x. omega (arith, at_least_one x))

  by_statement : Opened statement statements_of
  unfolding statement act_list
  by_statement =
      or_else (in_turn (a_word opening w.Serial) (nothing act_list refl) (λ b inner. omega (arith, one_serial inner)))
      (or_else (by_first w.When by_after_when)
      (or_else (in_turn (a_word opening w.Overlap) by_block (λ b inner. in_overlap inner))
      (or_else (by_first w.For by_after_for)
      (or_else (by_first w.While by_after_while)
      (or_else (by_first w.If by_after_if)
      by_sequence)))))

  by_body : Opened body statements_in
  unfolding body
  by_body = in_turn (a_word outside w.Body) by_block (λ b inner. omega arith)

  by_program : Opened program (λ parts. statements_in parts.3)
  unfolding program chares_declared variable_declarations variable_declaration var_ended after_var length_declared length_in_brackets entry_declarations entry_declaration entry_ended after_entry parameters_declared
  by_program =
      let entries : Opened (pair_of entry_declarations body) (λ p. statements_in p.1) = in_turn (nothing entry_declarations refl) by_body (λ b c. omega arith) in
      let rest : Opened (both (λ vars (rest : List EntryDecl × List Stmt). (vars, rest.0, rest.1)) variable_declarations (pair_of entry_declarations body)) (λ p. statements_in p.2) = in_turn (nothing variable_declarations refl) entries (λ b c. omega arith) in
      in_turn (nothing chares_declared refl) rest (λ b c. omega arith)

  by_statements : Opened (content statements) statements_in
  by_statements = any_number by_statement

statements_by_depth : (depth : ℕ) (items : List Item) (b : List Stmt) → Inner depth (List Stmt) statements items b → openings items ≡ statements_in b
statements_by_depth zero items b h = absurd h
statements_by_depth (suc depth) items b h = (by_statements (Inner depth) (statements_by_depth depth) (none_by_depth depth)).told items b h

-- a program has as many statements as its items begin
pub statements_of_program : (depth : ℕ) (items : List Item) (parts : Parts) → Spells (Inner depth) program items parts → openings items ≡ statements_in parts.3
statements_of_program depth items parts h = (by_program (Inner depth) (statements_by_depth depth) (none_by_depth depth)).told items parts h
