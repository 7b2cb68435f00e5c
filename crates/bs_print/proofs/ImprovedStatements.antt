-- Acts, statements and programs that are spelled are improved by their canonical items.
use Rattle.std.proofs.Common.{◌≡◌, ℕ, zero, suc, List, [], ◌∷◌, ◌++◌, map, Option, Some, None, refl, sym, ap, subst, ◌∙◌, append_assoc}
use denote.Hole.Carrier
use Rattle.bs_tree.specs.declared.symbols.Word.{Word}
use Rattle.bs_tree.specs.declared.symbols.Word.TheVariants as w
use Rattle.bs_tree.specs.declared.symbols.Mark.TheVariants as m
use Rattle.bs_tree.specs.declared.tree.NameId.{NameId}
use Rattle.bs_tree.specs.declared.tree.VarDecl.{VarDecl}
use Rattle.bs_tree.specs.declared.tree.EntryDecl.{EntryDecl}
use Rattle.bs_tree.specs.declared.tree.Wait.{Wait}
use Rattle.bs_tree.specs.declared.tree.Expr.{Expr}
use Rattle.bs_tree.specs.declared.tree.Act as A
use Rattle.bs_tree.specs.declared.tree.Act.{Act}
use Rattle.bs_tree.specs.declared.tree.Act.TheVariants as a
use Rattle.bs_tree.specs.declared.tree.Act.TheOpen.{Act-F}
use Rattle.bs_tree.specs.declared.tree.Act.TheFolds.{fold-roll-Act}
use Rattle.bs_tree.specs.declared.tree.Stmt as S
use Rattle.bs_tree.specs.declared.tree.Stmt.{Stmt}
use Rattle.bs_tree.specs.declared.tree.Stmt.TheVariants as s
use Rattle.bs_tree.specs.declared.tree.Stmt.TheOpen.{Stmt-F}
use Rattle.bs_tree.specs.declared.tree.Stmt.TheFolds.{fold-roll-Stmt}
use Rattle.bs_tree.specs.Rule as g
use Rattle.bs_tree.specs.Rule.{Role, opening, outside, Item, Inside, whole_number, statements, acts, expression, expressions, names, loop_head, Rule, one, both, many, maybe, either, within, Spells}
use Rattle.bs_tree.specs.Grammar as r
use Rattle.bs_tree.specs.Grammar.{as_it_is, ahead, none_or, content, Inner, disjunction, Parts, program}
use Rattle.bs_print.specs.Expressions.{grouped, indexed, expression_items}
use Rattle.bs_print.specs.Statements.{after_commas, with_commas, braced, name_items, count_items, semicolon_items, ended_items, arguments_items, message_items, bytes_items, target_items, act_step, act_items, acts_items, names_items, wait_items, waits_items, setting_items, head_items, statement_step, statement_items, statements_items, length_items, variable_items, entry_items, variables_items, entries_items, chares_items, front_items, canonical_items}
use Rattle.bs_print.proofs.Leaner.{Leaner, behind}
use Rattle.bs_print.proofs.Spelling.{both_spelled}
use Rattle.bs_print.proofs.Improved.{Improved, Improves, improved_as, word_improves, mark_improves, name_improves, count_improves, both_improves, many_improves, maybe_improves, either_improves, within_improves}
use Rattle.bs_print.proofs.ImprovedExpressions.{InsideGood, good_improved, disjunction_good, expression_improves}

-- ---- what acts and statements are printed as

abbrev acts_else : Option (List Act) → List Item
acts_else None = []
acts_else (Some list) = (outside, g.word w.Else) ∷ braced outside (acts_items list)

abbrev block_else : Option (List Stmt) → List Item
block_else None = []
block_else (Some body) = (outside, g.word w.Else) ∷ braced outside (statements_items body)

set_printed : (x : NameId) (value : Expr) → act_items (a.Set x value) ≡ (outside, g.name x.0) ∷ (outside, g.mark m.Assign) ∷ ended_items value
unfolding act_items A.roll-Act denote.Hole.Carrier.roll
set_printed x value = fold-roll-Act (List Item) act_step (Act-F.Set x value)

set_at_printed : (x : NameId) (at value : Expr) → act_items (a.SetAt x at value) ≡ (outside, g.name x.0) ∷ (indexed outside (expression_items at) ++ (outside, g.mark m.Assign) ∷ ended_items value)
unfolding act_items A.roll-Act denote.Hole.Carrier.roll
set_at_printed x at value = fold-roll-Act (List Item) act_step (Act-F.SetAt x at value)

send_printed : (entry : NameId) (reference : Expr) (values : List Expr) (to : Expr) (bytes : Option Expr)
    → act_items (a.Send entry reference values to bytes) ≡ (outside, g.word w.Send) ∷ ((message_items entry reference values ++ target_items to bytes) ++ semicolon_items)
unfolding act_items A.roll-Act denote.Hole.Carrier.roll
send_printed entry reference values to bytes = fold-roll-Act (List Item) act_step (Act-F.Send entry reference values to bytes)

work_printed : (x : Expr) → act_items (a.Work x) ≡ (outside, g.word w.Work) ∷ ended_items x
unfolding act_items A.roll-Act denote.Hole.Carrier.roll
work_printed x = fold-roll-Act (List Item) act_step (Act-F.Work x)

emit_printed : (x : Expr) → act_items (a.Emit x) ≡ (outside, g.word w.Emit) ∷ ended_items x
unfolding act_items A.roll-Act denote.Hole.Carrier.roll
emit_printed x = fold-roll-Act (List Item) act_step (Act-F.Emit x)

act_if_printed : (test : Expr) (body : List Act) (other : Option (List Act)) → act_items (a.If test body other) ≡ (outside, g.word w.If) ∷ (grouped outside (expression_items test) ++ (braced outside (acts_items body) ++ acts_else other))
unfolding act_items acts_items A.roll-Act denote.Hole.Carrier.roll
act_if_printed test body None = fold-roll-Act (List Item) act_step (Act-F.If test body None)
act_if_printed test body (Some list) = fold-roll-Act (List Item) act_step (Act-F.If test body (Some list))

repeat_printed : (times : Expr) (body : List Act) → act_items (a.Repeat times body) ≡ (outside, g.word w.Repeat) ∷ (expression_items times ++ braced outside (acts_items body))
unfolding act_items acts_items A.roll-Act denote.Hole.Carrier.roll
repeat_printed times body = fold-roll-Act (List Item) act_step (Act-F.Repeat times body)

serial_printed : (list : List Act) → statement_items (s.Serial list) ≡ (opening, g.word w.Serial) ∷ braced outside (acts_items list)
unfolding statement_items S.roll-Stmt denote.Hole.Carrier.roll
serial_printed list = fold-roll-Stmt (List Item) statement_step (Stmt-F.Serial list)

when_printed : (waits : List Wait) (body : List Stmt) → statement_items (s.When waits body) ≡ (opening, g.word w.When) ∷ (waits_items waits ++ braced outside (statements_items body))
unfolding statement_items statements_items S.roll-Stmt denote.Hole.Carrier.roll
when_printed waits body = fold-roll-Stmt (List Item) statement_step (Stmt-F.When waits body)

overlap_printed : (body : List Stmt) → statement_items (s.Overlap body) ≡ (opening, g.word w.Overlap) ∷ braced outside (statements_items body)
unfolding statement_items statements_items S.roll-Stmt denote.Hole.Carrier.roll
overlap_printed body = fold-roll-Stmt (List Item) statement_step (Stmt-F.Overlap body)

for_printed : (start : NameId) (first test : Expr) (step : NameId) (next : Expr) (body : List Stmt)
    → statement_items (s.For start first test step next body) ≡ (opening, g.word w.For) ∷ (grouped outside (head_items start first test step next) ++ braced outside (statements_items body))
unfolding statement_items statements_items S.roll-Stmt denote.Hole.Carrier.roll
for_printed start first test step next body = fold-roll-Stmt (List Item) statement_step (Stmt-F.For start first test step next body)

while_printed : (test : Expr) (body : List Stmt) → statement_items (s.While test body) ≡ (opening, g.word w.While) ∷ (grouped outside (expression_items test) ++ braced outside (statements_items body))
unfolding statement_items statements_items S.roll-Stmt denote.Hole.Carrier.roll
while_printed test body = fold-roll-Stmt (List Item) statement_step (Stmt-F.While test body)

if_printed : (test : Expr) (body : List Stmt) (other : Option (List Stmt))
    → statement_items (s.If test body other) ≡ (opening, g.word w.If) ∷ (grouped outside (expression_items test) ++ (braced outside (statements_items body) ++ block_else other))
unfolding statement_items statements_items S.roll-Stmt denote.Hole.Carrier.roll
if_printed test body None = fold-roll-Stmt (List Item) statement_step (Stmt-F.If test body None)
if_printed test body (Some list) = fold-roll-Stmt (List Item) statement_step (Stmt-F.If test body (Some list))

seq_printed : (body : List Stmt) → statement_items (s.Seq body) ≡ braced opening (statements_items body)
unfolding statement_items statements_items S.roll-Stmt denote.Hole.Carrier.roll
seq_printed body = fold-roll-Stmt (List Item) statement_step (Stmt-F.Seq body)

-- a `send` without its word and its semicolon
abbrev sent_items : Act → List Item
sent_items (a.Send entry reference values to bytes) = message_items entry reference values ++ target_items to bytes
sent_items _ = []

abbrev cell_items : Option Expr → List Item
cell_items None = []
cell_items (Some at) = indexed outside (expression_items at)

abbrev body_items : List Stmt → List Item
body_items body = (outside, g.word w.Body) ∷ braced outside (statements_items body)

abbrev after_name_items : Option Expr × Expr → List Item
after_name_items (None, value) = (outside, g.mark m.Assign) ∷ ended_items value
after_name_items (Some at, value) = indexed outside (expression_items at) ++ (outside, g.mark m.Assign) ∷ ended_items value

regrouped : (a v e s t : List Item) (x y : Item) → a ++ (v ++ (e ++ x ∷ y ∷ (s ++ t))) ≡ (a ++ (v ++ (e ++ x ∷ y ∷ s))) ++ t
regrouped a v e s t x y = simp append_assoc

-- ---- shapes that recur

improves_as : {A : Type 0} (d : ℕ) (q : Rule A) (first better : A → List Item) → ((items : List Item) (x : A) → Spells (Inner d) q items x → first x ≡ better x) → Improves d q first → Improves d q better
improves_as d q first better same p items x s = improved_as q (first x) (better x) items items x x (same items x s) refl refl (p items x s)

then_improves : {A : Type 0} (d : ℕ) (role : Role) (v : Word) (q : Rule A) (each : A → List Item) → Improves d q each → Improves d (r.◌▸◌ (r.word role v) q) (λ x. (role, g.word v) ∷ each x)
then_improves d role v q each p = both_improves d _ (r.word role v) q _ each _ (λ _ c. refl) (word_improves d role v) p

-- a word, and two things behind it
then_both_improves : {A B C : Type 0} (d : ℕ) (role : Role) (v : Word) (f : B → C → A) (q : Rule B) (t : Rule C) (first : B → List Item) (second : C → List Item) (better : A → List Item)
    → ((b : B) (c : C) → (role, g.word v) ∷ (first b ++ second c) ≡ better (f b c)) → Improves d q first → Improves d t second → Improves d (r.◌▸◌ (r.word role v) (both f q t)) better
then_both_improves d role v f q t first second better is p k items a s =
    let inner = s.6 in
    let b = inner.2 in
    let c = inner.3 in
    let all = (role, g.word v) ∷ (first b ++ second c) in
    let same = inner.7 ∙ s.7 in
    let i = p inner.0 b inner.5 in
    let j = k inner.1 c inner.6 in
    let front = word_improves d role v s.0 s.2 s.5 in
    let behind_word = both_spelled f q t (first b) (second c) b c i.spelled j.spelled in
    improved_as (r.◌▸◌ (r.word role v) (both f q t)) all (better a) (s.0 ++ s.1) items (f b c) a (is b c ∙ ap better same) (sym s.4) same
    (record {
      spelled = both_spelled _ (r.word role v) (both f q t) ((role, g.word v) ∷ []) (first b ++ second c) s.2 (f b c) front.spelled behind_word;
      lean = behind ((role, g.word v) ∷ []) s.0 (first b ++ second c) s.1 front.lean (subst (λ zs. Leaner (first b ++ second c) zs) (sym inner.4) (behind (first b) inner.0 (second c) inner.1 i.lean j.lean));
    })

semicolon_improves : (d : ℕ) → Improves d r.semicolon (λ _. semicolon_items)
semicolon_improves d = mark_improves d outside m.Semicolon refl refl

commas_improves : {B : Type 0} (d : ℕ) (q : Rule B) (each : B → List Item) → Improves d q each → Improves d (r.with_commas q) (λ bs. with_commas (map each bs))
commas_improves d q each p =
    let one_more = both_improves d _ (r.mark outside m.Comma) q (λ _. (outside, g.mark m.Comma) ∷ []) each (λ b. (outside, g.mark m.Comma) ∷ each b) (λ _ c. refl) (mark_improves d outside m.Comma refl refl) p in
    both_improves d ahead q (many as_it_is (r.after_comma q)) each (λ bs. after_commas (map each bs)) (λ bs. with_commas (map each bs)) (λ b bs. refl) p
    (many_improves d (r.after_comma q) (λ b. (outside, g.mark m.Comma) ∷ each b) (λ bs. after_commas (map each bs)) refl (λ b bs. refl) one_more)

module _ (d : ℕ) (deeper : (B : Type 0) (inside : Inside B) (items : List Item) (b : B) → Inner d B inside items b → InsideGood inside items b) where
  expression_here : Improves d disjunction expression_items
  expression_here = expression_improves d deeper

  group_here : Improves d (r.group outside) (λ x. grouped outside (expression_items x))
  unfolding r.group
  group_here = within_improves d outside m.ParenLeft m.ParenRight as_it_is expression expression_items _ refl refl (λ b. refl) (λ items x i. good_improved items x (deeper Expr expression items x i))

  index_here : Improves d (r.index outside) (λ x. indexed outside (expression_items x))
  unfolding r.index
  index_here = within_improves d outside m.BracketLeft m.BracketRight as_it_is expression expression_items _ refl refl (λ b. refl) (λ items x i. good_improved items x (deeper Expr expression items x i))

  ended_here : Improves d r.ended ended_items
  unfolding r.ended ended_items
  ended_here = both_improves d _ disjunction r.semicolon expression_items (λ _. semicolon_items) ended_items (λ b c. refl) expression_here (semicolon_improves d)

  -- ---- acts

  act_list_here : Improves d r.act_list (λ list. braced outside (acts_items list))
  unfolding r.act_list
  act_list_here = within_improves d outside m.BraceLeft m.BraceRight as_it_is acts acts_items _ refl refl (λ b. refl) (deeper (List Act) acts)

  act_else_here : Improves d r.act_else acts_else
  unfolding r.act_else
  act_else_here = maybe_improves d as_it_is (r.◌▸◌ (r.word outside w.Else) r.act_list) _ acts_else refl (λ b. refl) (then_improves d outside w.Else r.act_list _ act_list_here)

  arguments_here : Improves d r.arguments arguments_items
  unfolding r.arguments arguments_items
  arguments_here = within_improves d outside m.ParenLeft m.ParenRight as_it_is expressions (λ xs. with_commas (map expression_items xs)) arguments_items refl refl (λ b. refl) (deeper (List Expr) expressions)

  message_here : Improves d r.message (λ sent. message_items sent.0 sent.1 sent.2)
  unfolding r.message r.addressed message_items
  message_here =
      let addressed = both_improves d (λ x y. (x, y)) (r.index outside) r.arguments (λ x. indexed outside (expression_items x)) arguments_items (λ (c : Expr × List Expr). indexed outside (expression_items c.0) ++ arguments_items c.1) (λ b c. refl) index_here arguments_here in
      both_improves d _ r.name r.addressed name_items (λ (c : Expr × List Expr). indexed outside (expression_items c.0) ++ arguments_items c.1) (λ (sent : NameId × Expr × List Expr). message_items sent.0 sent.1 sent.2) (λ b c. refl) (name_improves d) addressed

  bytes_here : Improves d r.bytes bytes_items
  unfolding r.bytes
  bytes_here = maybe_improves d as_it_is (r.◌▸◌ (r.word outside w.Bytes) disjunction) _ bytes_items refl (λ b. refl) (then_improves d outside w.Bytes disjunction _ expression_here)

  target_here : Improves d r.target (λ to. target_items to.0 to.1)
  unfolding r.target target_items
  target_here = both_improves d (λ x y. (x, y)) (r.◌▸◌ (r.word outside w.To) disjunction) r.bytes (λ x. (outside, g.word w.To) ∷ expression_items x) bytes_items (λ (c : Expr × Option Expr). target_items c.0 c.1) (λ b c. refl) (then_improves d outside w.To disjunction _ expression_here) bytes_here

  after_send_here : Improves d r.after_send (λ x. sent_items x ++ semicolon_items)
  unfolding r.after_send
  after_send_here =
      let sent = both_improves d (λ (sent : NameId × Expr × List Expr) (to : Expr × Option Expr). a.Send sent.0 sent.1 sent.2 to.0 to.1) r.message r.target (λ sent. message_items sent.0 sent.1 sent.2) (λ to. target_items to.0 to.1) sent_items (λ b c. refl) message_here target_here in
      both_improves d _ _ r.semicolon sent_items (λ _. semicolon_items) _ (λ b c. refl) sent (semicolon_improves d)

  send_here : Improves d (r.◌▸◌ (r.word outside w.Send) r.after_send) act_items
  unfolding r.after_send
  send_here = improves_as d _ (λ x. (outside, g.word w.Send) ∷ (sent_items x ++ semicolon_items)) act_items
      (λ items x s.
      let sent = s.6.5.2 in
      let to = s.6.5.3 in
      subst (λ y. (outside, g.word w.Send) ∷ (sent_items y ++ semicolon_items) ≡ act_items y) (s.6.5.7 ∙ s.6.7 ∙ s.7) (sym (send_printed sent.0 sent.1 sent.2 to.0 to.1)))
      (then_improves d outside w.Send r.after_send _ after_send_here)

  after_name_here : Improves d r.after_name after_name_items
  unfolding r.after_name r.cell_index r.assigned_value
  after_name_here =
      let cell = maybe_improves d as_it_is (r.index outside) (λ x. indexed outside (expression_items x)) cell_items refl (λ b. refl) index_here in
      let value = both_improves d _ (r.mark outside m.Assign) r.ended (λ _. (outside, g.mark m.Assign) ∷ []) ended_items (λ x. (outside, g.mark m.Assign) ∷ ended_items x) (λ _ c. refl) (mark_improves d outside m.Assign refl refl) ended_here in
      both_improves d (λ x y. (x, y)) r.cell_index r.assigned_value cell_items _ after_name_items by cell value
    where
      by : (b : Option Expr) (c : Expr) → cell_items b ++ (outside, g.mark m.Assign) ∷ ended_items c ≡ after_name_items (b, c)
      by None c = refl
      by (Some at) c = refl

  assignment_here : Improves d r.assignment act_items
  assignment_here = both_improves d r.assigned r.name r.after_name name_items after_name_items act_items by (name_improves d) after_name_here
    where
      by : (b : NameId) (c : Option Expr × Expr) → name_items b ++ after_name_items c ≡ act_items (r.assigned b c)
      by b (None, value) = sym (set_printed b value)
      by b (Some at, value) = sym (set_at_printed b at value)

  act_if_here : Improves d (r.◌▸◌ (r.word outside w.If) r.after_act_if) act_items
  unfolding r.after_act_if
  act_if_here =
      let rest = both_improves d (λ x y. (x, y)) r.act_list r.act_else (λ list. braced outside (acts_items list)) acts_else (λ (c : List Act × Option (List Act)). braced outside (acts_items c.0) ++ acts_else c.1) (λ b c. refl) act_list_here act_else_here in
      then_both_improves d outside w.If (λ test (rest : List Act × Option (List Act)). a.If test rest.0 rest.1) (r.group outside) _ (λ x. grouped outside (expression_items x)) _ act_items (λ b c. sym (act_if_printed b c.0 c.1)) group_here rest

  repeat_here : Improves d (r.◌▸◌ (r.word outside w.Repeat) r.after_repeat) act_items
  unfolding r.after_repeat
  repeat_here = then_both_improves d outside w.Repeat (λ times body. a.Repeat times body) disjunction r.act_list expression_items (λ list. braced outside (acts_items list)) act_items (λ b c. sym (repeat_printed b c)) expression_here act_list_here

  act_here : Improves d r.act act_items
  unfolding r.act
  act_here =
      let work = both_improves d (λ _ x. a.Work x) (r.word outside w.Work) r.ended (λ _. (outside, g.word w.Work) ∷ []) ended_items act_items (λ b c. sym (work_printed c)) (word_improves d outside w.Work) ended_here in
      let emit = both_improves d (λ _ x. a.Emit x) (r.word outside w.Emit) r.ended (λ _. (outside, g.word w.Emit) ∷ []) ended_items act_items (λ b c. sym (emit_printed c)) (word_improves d outside w.Emit) ended_here in
      either_improves d _ _ act_items assignment_here
      (either_improves d _ _ act_items send_here
      (either_improves d _ _ act_items work
      (either_improves d _ _ act_items emit
      (either_improves d _ _ act_items act_if_here repeat_here))))

  -- ---- statements

  block_here : Improves d r.block (λ body. braced outside (statements_items body))
  unfolding r.block
  block_here = within_improves d outside m.BraceLeft m.BraceRight as_it_is statements statements_items _ refl refl (λ b. refl) (deeper (List Stmt) statements)

  block_else_here : Improves d r.block_else block_else
  unfolding r.block_else
  block_else_here = maybe_improves d as_it_is (r.◌▸◌ (r.word outside w.Else) r.block) _ block_else refl (λ b. refl) (then_improves d outside w.Else r.block _ block_here)

  parameters_here : Improves d r.parameters names_items
  unfolding r.parameters names_items
  parameters_here = within_improves d outside m.ParenLeft m.ParenRight as_it_is names (λ xs. with_commas (map name_items xs)) names_items refl refl (λ b. refl) (deeper (List NameId) names)

  wait_here : Improves d r.wait wait_items
  unfolding r.wait r.awaited wait_items
  wait_here =
      let awaited = both_improves d (λ x y. (x, y)) (r.index outside) r.parameters (λ x. indexed outside (expression_items x)) names_items (λ (c : Expr × List NameId). indexed outside (expression_items c.0) ++ names_items c.1) (λ b c. refl) index_here parameters_here in
      both_improves d _ r.name r.awaited name_items _ wait_items (λ b c. refl) (name_improves d) awaited

  waits_here : Improves d r.waits waits_items
  unfolding r.waits waits_items
  waits_here = commas_improves d r.wait wait_items wait_here

  setting_here : Improves d r.setting (λ set. setting_items set.0 set.1)
  unfolding r.setting r.set_to setting_items
  setting_here =
      let value = both_improves d _ (r.mark outside m.Assign) disjunction (λ _. (outside, g.mark m.Assign) ∷ []) expression_items (λ x. (outside, g.mark m.Assign) ∷ expression_items x) (λ _ c. refl) (mark_improves d outside m.Assign refl refl) expression_here in
      both_improves d (λ x y. (x, y)) r.name r.set_to name_items _ (λ (set : NameId × Expr). setting_items set.0 set.1) (λ b c. refl) (name_improves d) value

  head_here : Improves d r.head (λ turns. grouped outside (head_items turns.0 turns.1 turns.2 turns.3 turns.4))
  unfolding r.head
  head_here = within_improves d outside m.ParenLeft m.ParenRight as_it_is loop_head (λ turns. head_items turns.0 turns.1 turns.2 turns.3 turns.4) _ refl refl (λ b. refl) (deeper _ loop_head)

  when_here : Improves d (r.◌▸◌ (r.word opening w.When) r.after_when) statement_items
  unfolding r.after_when
  when_here = then_both_improves d opening w.When (λ waited body. s.When waited body) r.waits r.block waits_items (λ body. braced outside (statements_items body)) statement_items (λ b c. sym (when_printed b c)) waits_here block_here

  for_here : Improves d (r.◌▸◌ (r.word opening w.For) r.after_for) statement_items
  unfolding r.after_for
  for_here = then_both_improves d opening w.For _ r.head r.block (λ turns. grouped outside (head_items turns.0 turns.1 turns.2 turns.3 turns.4)) (λ body. braced outside (statements_items body)) statement_items (λ b c. sym (for_printed b.0 b.1 b.2 b.3 b.4 c)) head_here block_here

  while_here : Improves d (r.◌▸◌ (r.word opening w.While) r.after_while) statement_items
  unfolding r.after_while
  while_here = then_both_improves d opening w.While (λ test body. s.While test body) (r.group outside) r.block (λ x. grouped outside (expression_items x)) (λ body. braced outside (statements_items body)) statement_items (λ b c. sym (while_printed b c)) group_here block_here

  if_here : Improves d (r.◌▸◌ (r.word opening w.If) r.after_if) statement_items
  unfolding r.after_if
  if_here =
      let rest = both_improves d (λ x y. (x, y)) r.block r.block_else (λ body. braced outside (statements_items body)) block_else (λ (c : List Stmt × Option (List Stmt)). braced outside (statements_items c.0) ++ block_else c.1) (λ b c. refl) block_here block_else_here in
      then_both_improves d opening w.If (λ test (rest : List Stmt × Option (List Stmt)). s.If test rest.0 rest.1) (r.group outside) _ (λ x. grouped outside (expression_items x)) _ statement_items (λ b c. sym (if_printed b c.0 c.1)) group_here rest

  sequence_here : Improves d r.sequence statement_items
  unfolding r.sequence
  sequence_here = within_improves d opening m.BraceLeft m.BraceRight s.Seq statements statements_items statement_items refl refl (λ b. sym (seq_printed b)) (deeper (List Stmt) statements)

  statement_here : Improves d r.statement statement_items
  unfolding r.statement
  statement_here =
      let serial = both_improves d (λ _ body. s.Serial body) (r.word opening w.Serial) r.act_list (λ _. (opening, g.word w.Serial) ∷ []) (λ list. braced outside (acts_items list)) statement_items (λ b c. sym (serial_printed c)) (word_improves d opening w.Serial) act_list_here in
      let overlap = both_improves d (λ _ body. s.Overlap body) (r.word opening w.Overlap) r.block (λ _. (opening, g.word w.Overlap) ∷ []) (λ body. braced outside (statements_items body)) statement_items (λ b c. sym (overlap_printed c)) (word_improves d opening w.Overlap) block_here in
      either_improves d _ _ statement_items serial
      (either_improves d _ _ statement_items when_here
      (either_improves d _ _ statement_items overlap
      (either_improves d _ _ statement_items for_here
      (either_improves d _ _ statement_items while_here
      (either_improves d _ _ statement_items if_here sequence_here)))))

  -- ---- inside brackets

  loop_head_here : Improves d (content loop_head) (λ h. head_items h.0 h.1 h.2 h.3 h.4)
  unfolding head_items
  loop_head_here =
      let start = both_improves d _ r.setting r.semicolon (λ set. setting_items set.0 set.1) (λ _. semicolon_items) (λ (set : NameId × Expr). setting_items set.0 set.1 ++ semicolon_items) (λ b c. refl) setting_here (semicolon_improves d) in
      let rest = both_improves d (λ test (step : NameId × Expr). (test, step.0, step.1)) r.ended r.setting ended_items (λ set. setting_items set.0 set.1) (λ (c : Expr × NameId × Expr). ended_items c.0 ++ setting_items c.1 c.2) (λ b c. refl) ended_here setting_here in
      both_improves d (λ (start : NameId × Expr) (rest : Expr × NameId × Expr). (start.0, start.1, rest.0, rest.1, rest.2)) _ _ _ _ (λ h. head_items h.0 h.1 h.2 h.3 h.4) (λ b c. refl) start rest

  inside_here : (B : Type 0) (inside : Inside B) (items : List Item) (b : B) → Spells (Inner d) (content inside) items b → InsideGood inside items b
  inside_here _ whole_number items b s = count_improves d items b s
  inside_here _ statements items b s = unfold statements_items in many_improves d r.statement statement_items statements_items refl (λ b bs. refl) statement_here items b s
  inside_here _ acts items b s = unfold acts_items in many_improves d r.act act_items acts_items refl (λ b bs. refl) act_here items b s
  inside_here _ expression items b s = disjunction_good d deeper items b s
  inside_here _ expressions items b s = maybe_improves d none_or (r.with_commas disjunction) _ (λ xs. with_commas (map expression_items xs)) refl (λ b. refl) (commas_improves d disjunction expression_items expression_here) items b s
  inside_here _ names items b s = maybe_improves d none_or (r.with_commas r.name) _ (λ xs. with_commas (map name_items xs)) refl (λ b. refl) (commas_improves d r.name name_items (name_improves d)) items b s
  inside_here _ loop_head items b s = loop_head_here items b s

  -- ---- programs

  chares_here : Improves d r.chares_declared chares_items
  unfolding r.chares_declared chares_items
  chares_here =
      let number = both_improves d _ r.count r.semicolon count_items (λ _. semicolon_items) (λ n. count_items n ++ semicolon_items) (λ b c. refl) (count_improves d) (semicolon_improves d) in
      both_improves d _ (r.word outside w.Chares) _ (λ _. (outside, g.word w.Chares) ∷ []) _ chares_items (λ b c. refl) (word_improves d outside w.Chares) number

  length_here : Improves d r.length_declared length_items
  unfolding r.length_declared r.length_in_brackets
  length_here =
      let brackets = within_improves d outside m.BracketLeft m.BracketRight as_it_is whole_number count_items (λ n. indexed outside (count_items n)) refl refl (λ b. refl) (deeper ℕ whole_number) in
      maybe_improves d as_it_is r.length_in_brackets (λ n. indexed outside (count_items n)) length_items refl (λ b. refl) brackets

  variable_here : Improves d r.variable_declaration variable_items
  unfolding r.variable_declaration r.var_ended r.after_var variable_items
  variable_here =
      let named = both_improves d (λ x cells. record { name = x; cells = cells }) r.name r.length_declared name_items length_items (λ (var : VarDecl). name_items var.name ++ length_items var.cells) (λ b c. refl) (name_improves d) length_here in
      let ended = both_improves d _ r.after_var r.semicolon _ (λ _. semicolon_items) (λ (var : VarDecl). (name_items var.name ++ length_items var.cells) ++ semicolon_items) (λ b c. refl) named (semicolon_improves d) in
      both_improves d _ (r.word outside w.Var) r.var_ended (λ _. (outside, g.word w.Var) ∷ []) _ variable_items (λ b c. refl) (word_improves d outside w.Var) ended

  entry_here : Improves d r.entry_declaration entry_items
  unfolding r.entry_declaration r.entry_ended r.after_entry r.parameters_declared entry_items
  entry_here =
      let brackets = within_improves d outside m.ParenLeft m.ParenRight as_it_is whole_number count_items (λ n. grouped outside (count_items n)) refl refl (λ b. refl) (deeper ℕ whole_number) in
      let named = both_improves d (λ x params. record { name = x; params = params }) r.name r.parameters_declared name_items (λ n. grouped outside (count_items n)) (λ (entry : EntryDecl). name_items entry.name ++ grouped outside (count_items entry.params)) (λ b c. refl) (name_improves d) brackets in
      let ended = both_improves d _ r.after_entry r.semicolon _ (λ _. semicolon_items) (λ (entry : EntryDecl). (name_items entry.name ++ grouped outside (count_items entry.params)) ++ semicolon_items) (λ b c. refl) named (semicolon_improves d) in
      both_improves d _ (r.word outside w.Entry) r.entry_ended (λ _. (outside, g.word w.Entry) ∷ []) _ entry_items (λ b c. refl) (word_improves d outside w.Entry) ended

  pub program_here : Improves d program canonical_items
  unfolding program r.variable_declarations r.entry_declarations r.body variables_items entries_items front_items canonical_items
  program_here =
      let vars = many_improves d r.variable_declaration variable_items variables_items refl (λ b bs. refl) variable_here in
      let entries = many_improves d r.entry_declaration entry_items entries_items refl (λ b bs. refl) entry_here in
      let body = then_improves d outside w.Body r.block _ block_here in
      let last = both_improves d (λ x y. (x, y)) r.entry_declarations r.body entries_items _ (λ (c : List EntryDecl × List Stmt). entries_items c.0 ++ body_items c.1) (λ b c. refl) entries body in
      let rest = both_improves d _ r.variable_declarations _ variables_items _ (λ (c : List VarDecl × List EntryDecl × List Stmt). variables_items c.0 ++ (entries_items c.1 ++ body_items c.2)) (λ b c. refl) vars last in
      both_improves d _ r.chares_declared _ chares_items _ canonical_items by chares_here rest
    where
      by : (b : ℕ) (c : List VarDecl × List EntryDecl × List Stmt) → chares_items b ++ (variables_items c.0 ++ (entries_items c.1 ++ body_items c.2)) ≡ canonical_items (b, c.0, c.1, c.2)
      by b c = regrouped (chares_items b) (variables_items c.0) (entries_items c.1) (statements_items c.2) ((outside, g.mark m.BraceRight) ∷ []) (outside, g.word w.Body) (outside, g.mark m.BraceLeft)

inside_good : (d : ℕ) (B : Type 0) (inside : Inside B) (items : List Item) (b : B) → Inner d B inside items b → InsideGood inside items b
inside_good zero B inside items b s = absurd s
inside_good (suc d) B inside items b s = inside_here d (inside_good d) B inside items b s

-- a program that is spelled is spelled by its canonical items, which are leaner
pub program_improved : (d : ℕ) (items : List Item) (parts : Parts) → Spells (Inner d) program items parts → Improved program (canonical_items parts) items parts
program_improved d items parts s = program_here d (inside_good d) items parts s
