-- How acts, statements and declarations are printed: the items that the grammar spells them with.
use Rattle.std.specs.Prelude.{ℕ, pos, List, [], ◌∷◌, ◌++◌, map, Option, Some, None}
use Rattle.std.specs.List.{flat_map}
use Rattle.bs_tree.specs.declared.symbols.Word.TheVariants as w
use Rattle.bs_tree.specs.declared.symbols.Mark.TheVariants as m
use Rattle.bs_tree.specs.declared.tree.NameId.{NameId}
use Rattle.bs_tree.specs.declared.tree.VarDecl.{VarDecl}
use Rattle.bs_tree.specs.declared.tree.EntryDecl.{EntryDecl}
use Rattle.bs_tree.specs.declared.tree.Wait.{Wait}
use Rattle.bs_tree.specs.declared.tree.Expr.{Expr}
use Rattle.bs_tree.specs.declared.tree.Act.{Act}
use Rattle.bs_tree.specs.declared.tree.Act.TheOpen.{Act-F}
use Rattle.bs_tree.specs.declared.tree.Act.TheFolds.{fold-Act}
use Rattle.bs_tree.specs.declared.tree.Stmt.{Stmt}
use Rattle.bs_tree.specs.declared.tree.Stmt.TheOpen.{Stmt-F}
use Rattle.bs_tree.specs.declared.tree.Stmt.TheFolds.{fold-Stmt}
use Rattle.bs_tree.specs.Rule.{name, number, word, mark, Role, opening, outside, Item}
use Rattle.bs_tree.specs.Grammar.{Parts}
use Rattle.bs_print.specs.Expressions.{bracketed, grouped, indexed, expression_items}

-- ---- shapes that recur

-- one behind the other
abbrev pub joined : List (List Item) → List Item
joined parts = flat_map (λ part. part) parts

-- one behind the other with a comma before each
abbrev pub after_commas : List (List Item) → List Item
after_commas parts = flat_map (λ part. (outside, mark m.Comma) ∷ part) parts

-- one behind the other with commas between them
abbrev pub with_commas : List (List Item) → List Item
with_commas [] = []
with_commas (part ∷ parts) = part ++ after_commas parts

-- in braces
abbrev pub braced : Role → List Item → List Item
braced role inner = bracketed role m.BraceLeft m.BraceRight inner

-- a name outside of expressions
abbrev pub name_items : NameId → List Item
name_items x = (outside, name x.0) ∷ []

-- a number outside of expressions
abbrev pub count_items : ℕ → List Item
count_items n = (outside, number (pos n)) ∷ []

-- a semicolon
abbrev pub semicolon_items : List Item
semicolon_items = (outside, mark m.Semicolon) ∷ []

-- an expression and its semicolon
unfoldable pub ended_items : Expr → List Item
ended_items x = expression_items x ++ semicolon_items

-- ---- acts

-- the arguments of a `send`, in parentheses
unfoldable pub arguments_items : List Expr → List Item
arguments_items values = grouped outside (with_commas (map expression_items values))

-- the entry, the reference number and the arguments of a `send`
unfoldable pub message_items : NameId → Expr → List Expr → List Item
message_items entry reference values = (outside, name entry.0) ∷ (indexed outside (expression_items reference) ++ arguments_items values)

-- the number of bytes of a `send`, where one is given
abbrev pub bytes_items : Option Expr → List Item
bytes_items None = []
bytes_items (Some bytes) = (outside, word w.Bytes) ∷ expression_items bytes

-- the target, and the number of bytes where one is given
unfoldable pub target_items : Expr → Option Expr → List Item
target_items to bytes = (outside, word w.To) ∷ (expression_items to ++ bytes_items bytes)

-- what stands behind `else`, where there is one
abbrev pub else_items : Option (List (List Item)) → List Item
else_items None = []
else_items (Some parts) = (outside, word w.Else) ∷ braced outside (joined parts)

-- one act, where each act inside it is given by its items
abbrev pub act_step : Act-F (List Item) → List Item
act_step (Act-F.Set x value) = (outside, name x.0) ∷ (outside, mark m.Assign) ∷ ended_items value
act_step (Act-F.SetAt x at value) = (outside, name x.0) ∷ (indexed outside (expression_items at) ++ (outside, mark m.Assign) ∷ ended_items value)
act_step (Act-F.Send entry reference values to bytes) = (outside, word w.Send) ∷ ((message_items entry reference values ++ target_items to bytes) ++ semicolon_items)
act_step (Act-F.Work x) = (outside, word w.Work) ∷ ended_items x
act_step (Act-F.Emit x) = (outside, word w.Emit) ∷ ended_items x
act_step (Act-F.If test body other) = (outside, word w.If) ∷ (grouped outside (expression_items test) ++ (braced outside (joined body) ++ else_items other))
act_step (Act-F.Repeat times body) = (outside, word w.Repeat) ∷ (expression_items times ++ braced outside (joined body))

-- one act
unfoldable pub act_items : Act → List Item
act_items = fold-Act (List Item) act_step

-- acts, one behind the other
unfoldable pub acts_items : List Act → List Item
acts_items acts = joined (map act_items acts)

-- ---- statements

-- parameters, in parentheses
unfoldable pub names_items : List NameId → List Item
names_items names = grouped outside (with_commas (map name_items names))

-- an entry with its reference number and its parameters
unfoldable pub wait_items : Wait → List Item
wait_items wait = (outside, name wait.entry.0) ∷ (indexed outside (expression_items wait.reference) ++ names_items wait.params)

-- what a `when` waits for
unfoldable pub waits_items : List Wait → List Item
waits_items waits = with_commas (map wait_items waits)

-- a variable and what it is set to
unfoldable pub setting_items : NameId → Expr → List Item
setting_items x value = (outside, name x.0) ∷ (outside, mark m.Assign) ∷ expression_items value

-- what stands behind `for` in parentheses
unfoldable pub head_items : NameId → Expr → Expr → NameId → Expr → List Item
head_items start first test step next = (setting_items start first ++ semicolon_items) ++ (ended_items test ++ setting_items step next)

-- one statement, where each statement inside it is given by its items
abbrev pub statement_step : Stmt-F (List Item) → List Item
statement_step (Stmt-F.Serial acts) = (opening, word w.Serial) ∷ braced outside (acts_items acts)
statement_step (Stmt-F.When waits body) = (opening, word w.When) ∷ (waits_items waits ++ braced outside (joined body))
statement_step (Stmt-F.Overlap body) = (opening, word w.Overlap) ∷ braced outside (joined body)
statement_step (Stmt-F.For start first test step next body) = (opening, word w.For) ∷ (grouped outside (head_items start first test step next) ++ braced outside (joined body))
statement_step (Stmt-F.While test body) = (opening, word w.While) ∷ (grouped outside (expression_items test) ++ braced outside (joined body))
statement_step (Stmt-F.If test body other) = (opening, word w.If) ∷ (grouped outside (expression_items test) ++ (braced outside (joined body) ++ else_items other))
statement_step (Stmt-F.Seq body) = braced opening (joined body)

-- one statement
unfoldable pub statement_items : Stmt → List Item
statement_items = fold-Stmt (List Item) statement_step

-- statements, one behind the other
unfoldable pub statements_items : List Stmt → List Item
statements_items body = joined (map statement_items body)

-- ---- programs

-- the number of cells of an array, in square brackets
abbrev pub length_items : Option ℕ → List Item
length_items None = []
length_items (Some cells) = indexed outside (count_items cells)

-- the declaration of a variable
unfoldable pub variable_items : VarDecl → List Item
variable_items var = (outside, word w.Var) ∷ (((outside, name var.name.0) ∷ length_items var.cells) ++ semicolon_items)

-- the declaration of an entry
unfoldable pub entry_items : EntryDecl → List Item
entry_items entry = (outside, word w.Entry) ∷ (((outside, name entry.name.0) ∷ grouped outside (count_items entry.params)) ++ semicolon_items)

-- the declarations of variables, one behind the other
unfoldable pub variables_items : List VarDecl → List Item
variables_items vars = joined (map variable_items vars)

-- the declarations of entries, one behind the other
unfoldable pub entries_items : List EntryDecl → List Item
entries_items entries = joined (map entry_items entries)

-- the number of chares
unfoldable pub chares_items : ℕ → List Item
chares_items n = (outside, word w.Chares) ∷ (outside, number (pos n)) ∷ semicolon_items

-- the items of a program but for its last brace
unfoldable pub front_items : Parts → List Item
front_items parts = chares_items parts.0 ++ (variables_items parts.1 ++ (entries_items parts.2 ++ (outside, word w.Body) ∷ (outside, mark m.BraceLeft) ∷ statements_items parts.3))

-- the items of a program, its names given by their numbers
unfoldable pub canonical_items : Parts → List Item
canonical_items parts = front_items parts ++ (outside, mark m.BraceRight) ∷ []
