-- The grammar of programs. `docs/program-text.md` says the same in prose.
use Rattle.std.specs.Prelude.{ℕ, zero, suc, ℤ, pos, negsuc, List, [], ◌∷◌, Option, Some, None}
use Rattle.bs_tree.specs.declared.symbols.Word.{Word}
use Rattle.bs_tree.specs.declared.symbols.Word.TheVariants as w
use Rattle.bs_tree.specs.declared.symbols.Mark.{Mark}
use Rattle.bs_tree.specs.declared.symbols.Mark.TheVariants as m
use Rattle.bs_tree.specs.declared.tree.NameId.{NameId}
use Rattle.bs_tree.specs.declared.tree.VarDecl.{VarDecl}
use Rattle.bs_tree.specs.declared.tree.EntryDecl.{EntryDecl}
use Rattle.bs_tree.specs.declared.tree.Wait.{Wait}
use Rattle.bs_tree.specs.declared.tree.Stmt.{Stmt}
use Rattle.bs_tree.specs.declared.tree.Stmt.TheVariants as s
use Rattle.bs_tree.specs.declared.tree.Act.{Act}
use Rattle.bs_tree.specs.declared.tree.Act.TheVariants as a
use Rattle.bs_tree.specs.declared.tree.Expr.{Expr}
use Rattle.bs_tree.specs.declared.tree.Expr.TheVariants as e
use Rattle.bs_tree.specs.declared.tree.Op2.{Op2}
use Rattle.bs_tree.specs.declared.tree.Op2.TheVariants as o
use Rattle.bs_tree.specs.Rule.{Item, Role, opening, outside, operand, operator, a_name, a_number, the_word, the_mark, an_operator, Inside, whole_number, statements, acts, expression, expressions, names, loop_head, Rule, one, both, many, maybe, either, within, Spells}

-- ---- shapes that recur

-- both, of which the tree keeps the second
infixr 20 ◌▸◌
abbrev pub ◌▸◌ : {A : Type 0} → Rule (Unit {0}) → Rule A → Rule A
r ▸ s = both (λ _ a. a) r s

-- both, of which the tree keeps the first
infixl 30 ◌◂◌
abbrev pub ◌◂◌ : {A : Type 0} → Rule A → Rule (Unit {0}) → Rule A
r ◂ s = both (λ a _. a) r s

-- both, of which the tree keeps the pair
abbrev pub pair_of : {A B : Type 0} → Rule A → Rule B → Rule (A × B)
pair_of r s = both (λ a b. (a, b)) r s

abbrev pub as_it_is : {A : Type 0} → A → A
as_it_is a = a

abbrev pub word : Role → Word → Rule (Unit {0})
word role w = one role (the_word w tt)

abbrev pub mark : Role → Mark → Rule (Unit {0})
mark role m = one role (the_mark m tt)

abbrev pub as_name : ℕ → NameId
as_name n = record { 0 = n }

abbrev pub name : Rule NameId
name = one outside (a_name as_name)

abbrev pub natural : ℤ → Option ℕ
natural (pos n) = Some n
natural (negsuc n) = None

abbrev pub count : Rule ℕ
count = one outside (a_number natural)

abbrev pub none_or : {A : Type 0} → Option (List A) → List A
none_or None = []
none_or (Some items) = items

abbrev pub ahead : {A : Type 0} → A → List A → List A
ahead item items = item ∷ items

abbrev pub after_comma : {A : Type 0} → Rule A → Rule A
after_comma r = mark outside m.Comma ▸ r

-- one or more with commas between them
abbrev pub with_commas : {A : Type 0} → Rule A → Rule (List A)
with_commas r = both ahead r (many as_it_is (after_comma r))

-- ---- expressions, from tight to loose

abbrev pub literal : ℤ → Option Expr
literal (pos n) = Some (e.Number (pos n))
literal (negsuc n) = None

abbrev pub variable : NameId → Option Expr → Expr
variable x None = e.Var x
variable x (Some index) = e.At x index

unfoldable pub index : Role → Rule Expr
index role = within role m.BracketLeft m.BracketRight as_it_is expression

unfoldable pub group : Role → Rule Expr
group role = within role m.ParenLeft m.ParenRight as_it_is expression

-- a scalar, or a cell of an array
abbrev pub cell : Rule Expr
cell = both variable (one operand (a_name as_name)) (maybe as_it_is (index operand))

unfoldable pub primary : Rule Expr
primary =
    either (one operand (a_number literal))
    (either cell
    (either (one operand (the_word w.This e.This))
    (either (one operand (the_word w.Chares e.Chares))
    (group operand))))

unfoldable pub unary : Rule Expr
unary =
    either (both (λ _ x. e.Neg x) (mark operand m.Minus) primary)
    (either (both (λ _ x. e.Not x) (mark operand m.Not) primary)
    primary)

abbrev pub multiplies : Mark → Option Op2
multiplies m.Star = Some o.Mul
multiplies m.Slash = Some o.Div
multiplies m.Percent = Some o.Rem
multiplies _ = None

abbrev pub adds : Mark → Option Op2
adds m.Plus = Some o.Add
adds m.Minus = Some o.Sub
adds _ = None

abbrev pub compares : Mark → Option Op2
compares m.Equal = Some o.Eq
compares m.NotEqual = Some o.Ne
compares m.Less = Some o.Lt
compares m.LessEqual = Some o.Le
compares m.Greater = Some o.Gt
compares m.GreaterEqual = Some o.Ge
compares _ = None

abbrev pub joins : Mark → Option Op2
joins m.And = Some o.And
joins _ = None

abbrev pub chooses : Mark → Option Op2
chooses m.Or = Some o.Or
chooses _ = None

-- an operator and its right operand
abbrev pub tail : (Mark → Option Op2) → Rule Expr → Rule (Op2 × Expr)
tail operators right = pair_of (one operator (an_operator operators)) right

-- grouped to the left
abbrev pub grouped : Expr → List (Op2 × Expr) → Expr
grouped x [] = x
grouped x (t ∷ ts) = grouped (e.Two t.0 x t.1) ts

abbrev pub compared : Expr → Option (Op2 × Expr) → Expr
compared x None = x
compared x (Some t) = e.Two t.0 x t.1

-- operands with operators between them
abbrev pub chain : (Mark → Option Op2) → Rule Expr → Rule Expr
chain operators r = both grouped r (many as_it_is (tail operators r))

unfoldable pub product : Rule Expr
product = chain multiplies unary

unfoldable pub sum : Rule Expr
sum = chain adds product

unfoldable pub comparison : Rule Expr
comparison = both compared sum (maybe as_it_is (tail compares sum))

unfoldable pub conjunction : Rule Expr
conjunction = chain joins comparison

-- an expression
unfoldable pub disjunction : Rule Expr
disjunction = chain chooses conjunction

-- ---- acts

abbrev pub semicolon : Rule (Unit {0})
semicolon = mark outside m.Semicolon

unfoldable pub ended : Rule Expr
ended = disjunction ◂ semicolon

unfoldable pub act_list : Rule (List Act)
act_list = within outside m.BraceLeft m.BraceRight as_it_is acts

abbrev pub assigned : NameId → Option Expr × Expr → Act
assigned x (None, value) = a.Set x value
assigned x (Some at, value) = a.SetAt x at value

unfoldable pub cell_index : Rule (Option Expr)
cell_index = maybe as_it_is (index outside)

unfoldable pub assigned_value : Rule Expr
assigned_value = mark outside m.Assign ▸ ended

unfoldable pub after_name : Rule (Option Expr × Expr)
after_name = pair_of cell_index assigned_value

abbrev pub assignment : Rule Act
assignment = both assigned name after_name

unfoldable pub arguments : Rule (List Expr)
arguments = within outside m.ParenLeft m.ParenRight as_it_is expressions

-- the reference number and the arguments
unfoldable pub addressed : Rule (Expr × List Expr)
addressed = pair_of (index outside) arguments

-- the entry, the reference number and the arguments
unfoldable pub message : Rule (NameId × Expr × List Expr)
message = both (λ entry (rest : Expr × List Expr). (entry, rest.0, rest.1)) name addressed

unfoldable pub bytes : Rule (Option Expr)
bytes = maybe as_it_is (word outside w.Bytes ▸ disjunction)

-- the target, and the number of bytes where one is given
unfoldable pub target : Rule (Expr × Option Expr)
target = pair_of (word outside w.To ▸ disjunction) bytes

unfoldable pub after_send : Rule Act
after_send = both (λ (sent : NameId × Expr × List Expr) (to : Expr × Option Expr). a.Send sent.0 sent.1 sent.2 to.0 to.1) message target ◂ semicolon

unfoldable pub act_else : Rule (Option (List Act))
act_else = maybe as_it_is (word outside w.Else ▸ act_list)

unfoldable pub after_act_if : Rule Act
after_act_if = both (λ test (rest : List Act × Option (List Act)). a.If test rest.0 rest.1) (group outside) (pair_of act_list act_else)

unfoldable pub after_repeat : Rule Act
after_repeat = both (λ times body. a.Repeat times body) disjunction act_list

unfoldable pub act : Rule Act
act =
    either assignment
    (either (word outside w.Send ▸ after_send)
    (either (both (λ _ x. a.Work x) (word outside w.Work) ended)
    (either (both (λ _ x. a.Emit x) (word outside w.Emit) ended)
    (either (word outside w.If ▸ after_act_if)
    (word outside w.Repeat ▸ after_repeat)))))

-- ---- statements

unfoldable pub block : Rule (List Stmt)
block = within outside m.BraceLeft m.BraceRight as_it_is statements

unfoldable pub parameters : Rule (List NameId)
parameters = within outside m.ParenLeft m.ParenRight as_it_is names

-- the reference number and the parameters
unfoldable pub awaited : Rule (Expr × List NameId)
awaited = pair_of (index outside) parameters

unfoldable pub wait : Rule Wait
wait = both (λ entry (rest : Expr × List NameId). record { entry = entry; reference = rest.0; params = rest.1 }) name awaited

unfoldable pub waits : Rule (List Wait)
waits = with_commas wait

unfoldable pub after_when : Rule Stmt
after_when = both (λ waited body. s.When waited body) waits block

unfoldable pub set_to : Rule Expr
set_to = mark outside m.Assign ▸ disjunction

-- a variable and what it is set to
unfoldable pub setting : Rule (NameId × Expr)
setting = pair_of name set_to

unfoldable pub head : Rule (NameId × Expr × Expr × NameId × Expr)
head = within outside m.ParenLeft m.ParenRight as_it_is loop_head

unfoldable pub after_for : Rule Stmt
after_for = both (λ (turns : NameId × Expr × Expr × NameId × Expr) body. s.For turns.0 turns.1 turns.2 turns.3 turns.4 body) head block

unfoldable pub after_while : Rule Stmt
after_while = both (λ test body. s.While test body) (group outside) block

unfoldable pub block_else : Rule (Option (List Stmt))
block_else = maybe as_it_is (word outside w.Else ▸ block)

unfoldable pub after_if : Rule Stmt
after_if = both (λ test (rest : List Stmt × Option (List Stmt)). s.If test rest.0 rest.1) (group outside) (pair_of block block_else)

unfoldable pub sequence : Rule Stmt
sequence = within opening m.BraceLeft m.BraceRight s.Seq statements

unfoldable pub statement : Rule Stmt
statement =
    either (both (λ _ body. s.Serial body) (word opening w.Serial) act_list)
    (either (word opening w.When ▸ after_when)
    (either (both (λ _ body. s.Overlap body) (word opening w.Overlap) block)
    (either (word opening w.For ▸ after_for)
    (either (word opening w.While ▸ after_while)
    (either (word opening w.If ▸ after_if)
    sequence)))))

-- ---- programs

unfoldable pub length_in_brackets : Rule ℕ
length_in_brackets = within outside m.BracketLeft m.BracketRight as_it_is whole_number

unfoldable pub length_declared : Rule (Option ℕ)
length_declared = maybe as_it_is length_in_brackets

unfoldable pub after_var : Rule VarDecl
after_var = both (λ x cells. record { name = x; cells = cells }) name length_declared

unfoldable pub var_ended : Rule VarDecl
var_ended = after_var ◂ semicolon

unfoldable pub variable_declaration : Rule VarDecl
variable_declaration = word outside w.Var ▸ var_ended

unfoldable pub parameters_declared : Rule ℕ
parameters_declared = within outside m.ParenLeft m.ParenRight as_it_is whole_number

unfoldable pub after_entry : Rule EntryDecl
after_entry = both (λ x params. record { name = x; params = params }) name parameters_declared

unfoldable pub entry_ended : Rule EntryDecl
entry_ended = after_entry ◂ semicolon

unfoldable pub entry_declaration : Rule EntryDecl
entry_declaration = word outside w.Entry ▸ entry_ended

unfoldable pub chares_declared : Rule ℕ
chares_declared = word outside w.Chares ▸ count ◂ semicolon

unfoldable pub variable_declarations : Rule (List VarDecl)
variable_declarations = many as_it_is variable_declaration

unfoldable pub entry_declarations : Rule (List EntryDecl)
entry_declarations = many as_it_is entry_declaration

-- what a program is besides its names: the number of chares, the declarations, and the body
abbrev pub Parts : Type 0
Parts = ℕ × List VarDecl × List EntryDecl × List Stmt

unfoldable pub body : Rule (List Stmt)
body = word outside w.Body ▸ block

unfoldable pub program : Rule Parts
program =
    both (λ chares (rest : List VarDecl × List EntryDecl × List Stmt). (chares, rest.0, rest.1, rest.2)) chares_declared
    (both (λ vars (rest : List EntryDecl × List Stmt). (vars, rest.0, rest.1)) variable_declarations
    (pair_of entry_declarations body))

-- ---- inside brackets

abbrev pub content : {A : Type 0} → Inside A → Rule A
content whole_number = count
content statements = many as_it_is statement
content acts = many as_it_is act
content expression = disjunction
content expressions = maybe none_or (with_commas disjunction)
content names = maybe none_or (with_commas name)
content loop_head =
    both (λ (start : NameId × Expr) (rest : Expr × NameId × Expr). (start.0, start.1, rest.0, rest.1, rest.2)) (setting ◂ semicolon)
    (both (λ test (step : NameId × Expr). (test, step.0, step.1)) ended setting)

-- what spells what inside brackets, with at most so many more brackets inside one another
abbrev pub Inner : ℕ → (B : Type 0) → Inside B → List Item → B → Type 0
Inner zero B inside items b = ⊥
Inner (suc depth) B inside items b = Spells (Inner depth) (content inside) items b
