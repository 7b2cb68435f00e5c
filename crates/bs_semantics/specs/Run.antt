-- The run of a statement: from a state, under a mail, at a path; and the history of a chare (docs/model.md).
use Rattle.std.specs.Prelude.{ℕ, zero, suc, ◌+◌, ℤ, pos, negsuc, Bool, false, ◌||◌, if◌then◌else◌, List, [], ◌∷◌, ◌++◌, Option, Some, None, Result, Ok, Err, map, max, slice_set, replicate, is_some}
use Rattle.std.specs.Ordering.{nat_cmp, ordering_then}
use Rattle.std.specs.Cmp.Lexicographic.{slice_cmp}
use Rattle.std.specs.declared.cmp.Ordering.{Ordering}
use Rattle.std.specs.declared.cmp.Ordering.TheVariants.{Less, Equal, Greater}
use Rattle.bs_tree.specs.declared.tree.NameId.{NameId}
use Rattle.bs_tree.specs.declared.tree.Wait.{Wait}
use Rattle.bs_tree.specs.declared.tree.Stmt.{Stmt}
use Rattle.bs_tree.specs.declared.tree.Stmt.TheOpen.{Stmt-F}
use Rattle.bs_tree.specs.declared.tree.Stmt.TheFolds.{fold-Stmt}
use Rattle.bs_tree.specs.declared.tree.Program.{Program}
use Rattle.bs_log.specs.declared.history.TrapKind.{TrapKind}
use Rattle.bs_log.specs.declared.history.Key.{Key}
use Rattle.bs_log.specs.declared.history.Origin.{Origin}
use Rattle.bs_log.specs.declared.history.Message.{Message}
use Rattle.bs_log.specs.declared.history.Block.{Block}
use Rattle.bs_log.specs.declared.history.Asked.{Asked}
use Rattle.bs_log.specs.declared.history.WaitAt.{WaitAt}
use Rattle.bs_log.specs.declared.history.TrapAt.{TrapAt}
use Rattle.bs_log.specs.declared.history.History.{History}
use Rattle.bs_semantics.specs.Layout.{place_of, entry_of, owns, all_cells}
use Rattle.bs_semantics.specs.Value.{Cells, Value, value_of}
use Rattle.bs_semantics.specs.Acts.{Parcel, Tally, Done, block_of, act_writes, any_writes}

-- a block cause: a block of the same chare
pub record Cause : Type 0 where
  pub path : List ℕ
  pub depth : ℕ

-- two sets, each in order: blocks of the chare itself, and messages
pub record Causes : Type 0 where
  pub after : List Cause
  pub mail : List Origin

-- the variables, and what the next block rests on
pub record State : Type 0 where
  pub cells : Cells
  pub causes : Causes

abbrev pub no_causes : Causes
no_causes = record { after = []; mail = [] }

abbrev pub cause_cmp : Cause → Cause → Ordering
cause_cmp a b = ordering_then (slice_cmp nat_cmp a.path b.path) (nat_cmp a.depth b.depth)

abbrev pub origin_cmp : Origin → Origin → Ordering
origin_cmp a b = ordering_then (nat_cmp a.chare b.chare) (ordering_then (slice_cmp nat_cmp a.path.0 b.path.0) (ordering_then (nat_cmp a.index b.index) (nat_cmp a.depth b.depth)))

-- x put into a set in order, which is left as it is if it holds x
abbrev pub place_by : {A : Type 0} → Ordering → A → A → List A → List A → List A
place_by Less x y ys more = x ∷ y ∷ ys
place_by Equal x y ys more = y ∷ ys
place_by Greater x y ys more = y ∷ more

abbrev pub put : {A : Type 0} → (A → A → Ordering) → A → List A → List A
put cmp x [] = x ∷ []
put cmp x (y ∷ ys) = place_by (cmp x y) x y ys (put cmp x ys)

abbrev pub put_all : {A : Type 0} → (A → A → Ordering) → List A → List A → List A
put_all cmp [] ys = ys
put_all cmp (x ∷ xs) ys = put cmp x (put_all cmp xs ys)

abbrev pub union : Causes → Causes → Causes
union a b = record { after = put_all cause_cmp a.after b.after; mail = put_all origin_cmp a.mail b.mail }

-- the greatest, 0 without any
abbrev pub greatest : {A : Type 0} → (A → ℕ) → List A → ℕ
greatest f [] = 0
greatest f (x ∷ xs) = max (f x) (greatest f xs)

-- the greatest depth of the causes, 0 without any
abbrev pub depth_of : Causes → ℕ
depth_of k = max (greatest (λ c. c.depth) k.after) (greatest (λ o. o.depth) k.mail)

-- what the mail holds for a key
abbrev pub Lookup : Type 0
Lookup = Key → Option Message

-- blocks, keys asked, traps and waits in the order of their paths, and the state at the end, if there is an end
pub record Run : Type 0 where
  pub blocks : List Block
  pub asked : List Asked
  pub traps : List TrapAt
  pub waits : List WaitAt
  pub end : Option State

-- what a statement does under a mail, with its number and path, from a state
abbrev pub Does : Type 0
Does = Lookup → ℕ → List ℕ → State → Run

-- what there is to say of a statement: how many statements it is, whether it writes the variable of a cell, and what it
-- does
pub record Meant : Type 0 where
  pub count : ℕ
  pub writes : ℕ → Bool
  pub does : Does

abbrev pub ends : State → Run
ends s = record { blocks = []; asked = []; traps = []; waits = []; end = Some s }

abbrev pub halts : List TrapAt → Run
halts ts = record { blocks = []; asked = []; traps = ts; waits = []; end = None }

abbrev pub trapped : ℕ → List ℕ → TrapKind → Run
trapped n path k = halts (record { path = record { 0 = path }; stmt = n; kind = k } ∷ [])

-- the second run after the first, if the first has an end
abbrev pub after : Run → Option Run → Run
after r None = r
after r (Some q) = record { blocks = r.blocks ++ q.blocks; asked = r.asked ++ q.asked; traps = r.traps ++ q.traps; waits = r.waits ++ q.waits; end = q.end }

abbrev pub from_end : Option State → (State → Run) → Option Run
from_end None next = None
from_end (Some s) next = Some (next s)

abbrev pub then_do : Run → (State → Run) → Run
then_do r next = after r (from_end r.end next)

-- on a value, or stopped by a trap
abbrev pub with : {A : Type 0} → ℕ → List ℕ → Result A TrapKind → (A → Run) → Run
with n path (Err k) next = trapped n path k
with n path (Ok v) next = next v

-- a test is true where it isn't 0
abbrev pub branch : ℤ → (State → Run) → (State → Run) → State → Run
branch (pos zero) first second s = second s
branch (pos (suc v)) first second s = first s
branch (negsuc v) first second s = first s

-- the acts of a block are signed by its chare, path and depth, and numbered from 1
abbrev pub signed : ℕ → List ℕ → ℕ → ℕ → List Parcel → List Message
signed this path depth k [] = []
signed this path depth k (m ∷ ms) = record { origin = record { chare = this; path = record { 0 = path }; index = k; depth = depth }; sent = m.sent; args = m.args } ∷ signed this path depth (k + 1) ms

abbrev pub made : ℕ → ℕ → List ℕ → Causes → Tally → Block
made this n path k t = record {
  path = record { 0 = path };
  stmt = n;
  depth = suc (depth_of k);
  cost = t.cost;
  after = map (λ c. record { 0 = c.path }) k.after;
  mail = k.mail;
  emits = t.emits;
  sends = signed this path (suc (depth_of k)) 1 t.sends;
}

-- the causes after a block are that block alone
abbrev pub alone : List ℕ → Causes → Causes
alone path k = record { after = record { path = path; depth = suc (depth_of k) } ∷ []; mail = [] }

-- a `serial`: a block that rests on the present causes, which are then that block alone; or a trap, and no block
abbrev pub serial : ℕ → ℕ → List ℕ → State → Done → Run
serial this n path s (Err k) = trapped n path k
serial this n path s (Ok t) = record { blocks = made this n path s.causes t ∷ []; asked = []; traps = []; waits = []; end = Some (record { cells = t.cells; causes = alone path s.causes }) }

-- a list of statements, from the place k on
abbrev pub in_turn : List Meant → ℕ → Does
in_turn [] k mail n path s = ends s
in_turn (d ∷ ds) k mail n path s = then_do (d.does mail n (path ++ k ∷ []) s) (in_turn ds (k + 1) mail (n + d.count) path)

-- the cells that a part writes are taken from it
abbrev pub mix : (ℕ → Bool) → ℕ → Cells → Cells → Cells
mix writes i [] ys = ys
mix writes i (x ∷ xs) [] = []
mix writes i (x ∷ xs) (y ∷ ys) = (if writes i then x else y) ∷ mix writes (i + 1) xs ys

abbrev pub recelled : (Cells → Cells) → Option State → Option State
recelled f None = None
recelled f (Some s) = Some (record { cells = f s.cells; causes = s.causes })

-- the run with its cells at the end changed
abbrev pub with_cells : (Cells → Cells) → Run → Run
with_cells f r = record { blocks = r.blocks; asked = r.asked; traps = r.traps; waits = r.waits; end = recelled f r.end }

abbrev pub both : (ℕ → Bool) → Option State → Option State → Option State
both writes None b = None
both writes (Some a) None = None
both writes (Some a) (Some b) = Some (record { cells = mix writes 0 b.cells a.cells; causes = union a.causes b.causes })

-- the run so far and one more part beside it
abbrev pub join : (ℕ → Bool) → Run → Run → Run
join writes r q = record { blocks = r.blocks ++ q.blocks; asked = r.asked ++ q.asked; traps = r.traps ++ q.traps; waits = r.waits ++ q.waits; end = both writes r.end q.end }

-- the parts of an overlap beside those so far: each from the same state
abbrev pub parts : Run → List Meant → ℕ → Does
parts r [] k mail n path s = r
parts r (d ∷ ds) k mail n path s = parts (join d.writes r (d.does mail n (path ++ k ∷ []) s)) ds (k + 1) mail (n + d.count) path s

-- no part yet: the variables as at the start, and no causes
abbrev pub no_part : State → Run
no_part s = ends (record { cells = s.cells; causes = no_causes })

abbrev pub overlap : List Meant → Does
overlap [] mail n path s = ends s
overlap (d ∷ ds) mail n path s = parts (no_part s) (d ∷ ds) 0 mail n path s

-- a state with one variable set
abbrev pub set_cell : ℕ → State → ℤ → State
set_cell at s v = record { cells = slice_set s.cells at v; causes = s.causes }

-- at most m turns of a loop, from the turn k on: `step` is what is done after each turn. A loop that would begin a further
-- turn has no end
abbrev pub turns : ℕ → (State → Value) → (ℕ → List ℕ → (State → Run) → State → Run) → List Meant → ℕ → Does
turns zero test step body k mail n path s = with n path (test s) (λ v. branch v (λ s. halts []) ends s)
turns (suc m) test step body k mail n path s =
    with n path (test s) (λ v. branch v (λ s. then_do (in_turn body 0 mail (n + 1) (path ++ k ∷ []) s) (step n path (turns m test step body (k + 1) mail n path))) ends s)

-- assigns, and goes on
abbrev pub assign : (State → Value) → ℕ → ℕ → List ℕ → (State → Run) → State → Run
assign value at n path next s = with n path (value s) (λ v. next (set_cell at s v))

abbrev pub no_step : ℕ → List ℕ → (State → Run) → State → Run
no_step n path next s = next s

-- the branch after `else`, if there is one
abbrev pub otherwise : Option (List Meant) → Does
otherwise None mail n path s = ends s
otherwise (Some ds) mail n path s = in_turn ds 0 mail n (path ++ 1 ∷ []) s

-- the keys of a `when`, from left to right
abbrev pub key_and : ℕ → Value → Result (List Key) TrapKind → Result (List Key) TrapKind
key_and entry (Err k) rest = Err k
key_and entry (Ok r) (Err k) = Err k
key_and entry (Ok r) (Ok ks) = Ok (record { entry = entry; reference = r } ∷ ks)

abbrev pub keys_of : Program → ℕ → List Wait → Cells → Result (List Key) TrapKind
keys_of p this [] cells = Ok []
keys_of p this (w ∷ ws) cells = key_and (entry_of p w.entry) (value_of p this w.reference cells) (keys_of p this ws cells)

abbrev pub held_and : Option Message → Option (List Message) → Option (List Message)
held_and (Some m) (Some ms) = Some (m ∷ ms)
held_and _ _ = None

-- the messages of all keys, if the mail holds all
abbrev pub held : Lookup → List Key → Option (List Message)
held mail [] = Some []
held mail (k ∷ ks) = held_and (mail k) (held mail ks)

-- the keys that the mail doesn't hold
abbrev pub missing : Lookup → List Key → List Key
missing mail [] = []
missing mail (k ∷ ks) = if is_some (mail k) then missing mail ks else k ∷ missing mail ks

-- the arguments of a message go to the parameters, from left to right
abbrev pub take_args : Program → List NameId → List ℤ → Cells → Cells
take_args p [] vs cells = cells
take_args p (x ∷ xs) [] cells = cells
take_args p (x ∷ xs) (v ∷ vs) cells = take_args p xs vs (slice_set cells (place_of p x).from v)

abbrev pub take_mail : Program → List Wait → List Message → Cells → Cells
take_mail p [] ms cells = cells
take_mail p (w ∷ ws) [] cells = cells
take_mail p (w ∷ ws) (m ∷ ms) cells = take_mail p ws ms (take_args p w.params m.args cells)

abbrev pub with_mail : List Message → Causes → Causes
with_mail ms k = record { after = k.after; mail = put_all origin_cmp (map (λ m. m.origin) ms) k.mail }

abbrev pub all_asked : ℕ → List ℕ → List Key → List Asked
all_asked n path ks = map (λ k. record { key = k; path = record { 0 = path }; stmt = n }) ks

abbrev pub all_waits : ℕ → List ℕ → List Key → List WaitAt
all_waits n path ks = map (λ k. record { path = record { 0 = path }; stmt = n; key = k }) ks

abbrev pub after_asking : List Asked → Run → Run
after_asking as' r = record { blocks = r.blocks; asked = as' ++ r.asked; traps = r.traps; waits = r.waits; end = r.end }

-- on with the messages where all are there, and otherwise a wait for those that are missing
abbrev pub go_on : Option (List Message) → List Asked → List WaitAt → (List Message → Run) → Run
go_on None asked waits next = record { blocks = []; asked = asked; traps = []; waits = waits; end = None }
go_on (Some ms) asked waits next = after_asking asked (next ms)

abbrev pub ask : Lookup → ℕ → List ℕ → List Key → (List Message → Run) → Run
ask mail n path ks next = go_on (held mail ks) (all_asked n path ks) (all_waits n path (missing mail ks)) next

abbrev pub took : Program → List Wait → State → List Message → State
took p ws s ms = record { cells = take_mail p ws ms s.cells; causes = with_mail ms s.causes }

abbrev pub counts : List Meant → ℕ
counts [] = 0
counts (d ∷ ds) = d.count + counts ds

abbrev pub else_counts : Option (List Meant) → ℕ
else_counts None = 0
else_counts (Some ds) = counts ds

abbrev pub any_part : List Meant → ℕ → Bool
any_part [] i = false
any_part (d ∷ ds) i = d.writes i || any_part ds i

abbrev pub else_part : Option (List Meant) → ℕ → Bool
else_part None i = false
else_part (Some ds) i = any_part ds i

abbrev pub params_own : Program → List NameId → ℕ → Bool
params_own p [] i = false
params_own p (x ∷ xs) i = owns p x i || params_own p xs i

abbrev pub waits_own : Program → List Wait → ℕ → Bool
waits_own p [] i = false
waits_own p (w ∷ ws) i = params_own p w.params i || waits_own p ws i

-- one statement, with what is to say of each statement inside in its place
abbrev pub does_step : Program → ℕ → ℕ → Stmt-F Meant → Does
does_step p limit this (Stmt-F.Serial acts) mail n path s = serial this n path s (block_of p this acts s.cells)
does_step p limit this (Stmt-F.When waits body) mail n path s =
    with n path (keys_of p this waits s.cells) (λ ks. ask mail n path ks (λ ms. in_turn body 0 mail (n + 1) path (took p waits s ms)))
does_step p limit this (Stmt-F.Overlap body) mail n path s = overlap body mail (n + 1) path s
does_step p limit this (Stmt-F.For x first test y step body) mail n path s =
    assign (λ s. value_of p this first s.cells) (place_of p x).from n path
    (turns (suc limit) (λ s. value_of p this test s.cells) (assign (λ s. value_of p this step s.cells) (place_of p y).from) body 0 mail n path) s
does_step p limit this (Stmt-F.While test body) mail n path s = turns (suc limit) (λ s. value_of p this test s.cells) no_step body 0 mail n path s
does_step p limit this (Stmt-F.If test body other) mail n path s =
    with n path (value_of p this test s.cells) (λ v. branch v (in_turn body 0 mail (n + 1) (path ++ 0 ∷ [])) (otherwise other mail (n + 1 + counts body) path) s)
does_step p limit this (Stmt-F.Seq body) mail n path s = in_turn body 0 mail (n + 1) path s

abbrev pub count_step : Stmt-F Meant → ℕ
count_step (Stmt-F.Serial acts) = 1
count_step (Stmt-F.When waits body) = 1 + counts body
count_step (Stmt-F.Overlap body) = 1 + counts body
count_step (Stmt-F.For x first test y step body) = 1 + counts body
count_step (Stmt-F.While test body) = 1 + counts body
count_step (Stmt-F.If test body other) = 1 + counts body + else_counts other
count_step (Stmt-F.Seq body) = 1 + counts body

-- whether the statement writes the variable of a cell
abbrev pub writes_step : Program → Stmt-F Meant → ℕ → Bool
writes_step p (Stmt-F.Serial acts) i = any_writes (map (act_writes p) acts) i
writes_step p (Stmt-F.When waits body) i = waits_own p waits i || any_part body i
writes_step p (Stmt-F.Overlap body) i = any_part body i
writes_step p (Stmt-F.For x first test y step body) i = owns p x i || owns p y i || any_part body i
writes_step p (Stmt-F.While test body) i = any_part body i
writes_step p (Stmt-F.If test body other) i = any_part body i || else_part other i
writes_step p (Stmt-F.Seq body) i = any_part body i

abbrev pub meant_step : Program → ℕ → ℕ → Stmt-F Meant → Meant
meant_step p limit this x = record { count = count_step x; writes = writes_step p x; does = does_step p limit this x }

abbrev pub meant : Program → ℕ → ℕ → Stmt → Meant
meant p limit this = fold-Stmt Meant (meant_step p limit this)

-- the whole body, from cells that are all 0 and no causes
abbrev pub start : Program → State
start p = record { cells = replicate (all_cells p.vars) (pos 0); causes = no_causes }

abbrev pub run : Program → ℕ → ℕ → Lookup → Run
run p limit this mail = in_turn (map (meant p limit this) p.body) 0 mail 1 [] (start p)

-- the history of a chare under a mail, where no loop does more than limit + 1 turns in one run of it
abbrev pub to_history : Run → History
to_history r = record { blocks = r.blocks; asked = r.asked; waits = r.waits; traps = r.traps; ended = is_some r.end }

abbrev pub history : Program → ℕ → ℕ → Lookup → History
history p limit this mail = to_history (run p limit this mail)
