-- A chare that runs, and what its statements did.
use Rattle.std.specs.Prelude.{◌≡◌, ◌≤◌, ◌<◌, ◌+◌, Bool, true, false, [], Option, Some, None, Result, Ok, Err}
use Rattle.bs_tree.specs.declared.tree.Program.{Program}
use Rattle.bs_tree.specs.declared.tree.Stmt.{Stmt}
use Rattle.bs_block.specs.Env.{MadeFor}
use Rattle.bs_match.specs.Mail.{lookup}
use Rattle.bs_history.specs.Mail.{with_extra}
use Rattle.std.specs.Option.{option_copied}
use Rattle.bs_semantics.specs.Run.{Lookup, Run, Meant, State as PlainState, ends, halts, depth_of, meant}
use Rattle.bs_history.specs.declared.ground.Ground.{Ground}
use Rattle.bs_history.specs.declared.ground.State.{State}
use Rattle.bs_history.specs.declared.trail.Trail.{Trail}
use Rattle.bs_history.specs.declared.fault.HistoryFault.{HistoryFault}
use Rattle.bs_history.specs.declared.fault.HistoryFault.TheVariants.{Long, Memory}
use Rattle.bs_history.specs.Trail.{so_far, run_size, IsWithin}

abbrev pub program_of : Ground → Program
program_of g = g.accepted.now.program

abbrev pub mail_of : Ground → Lookup
mail_of g = with_extra (option_copied g.more) (lookup g.mail.now)

abbrev pub means : Ground → Stmt → Meant
means g = meant (program_of g) g.limit g.this

abbrev pub state_of : State → PlainState
state_of s = record { cells = s.env.cells; causes = s.causes }

-- the state is that of the chare, no cause is deeper than the messages of the mail and the size so far allow, and what is
-- written is within the room
pub record IsReady (g : Ground) (t : Trail) (s : State) : Type 0 where
  pub made : MadeFor (program_of g) s.env
  pub this : s.env.this ≡ g.this
  pub shallow : depth_of s.causes ≤ 262144 + g.done + t.size
  pub within : IsWithin g.room t

-- a run that has written all, and has come to an end or to none
abbrev pub stopped : Bool → State → Run
stopped true s = ends (state_of s)
stopped false s = halts []

-- the whole run, behind what was written before, is what is written now with this run behind it
pub record Left (g : Ground) (r whole : Run) (old new : Trail) (s : State) : Type 0 where
  pub path : new.path.items ≡ old.path.items
  pub run : so_far new r ≡ so_far old whole
  pub ready : IsReady g new s
  pub more : old.size ≤ new.size

-- the run was done: nothing of it is left
abbrev pub Did : Ground → Run → Trail → Trail → State → Bool → Type 0
Did g r old new s ended = Left g (stopped ended s) r old new s

-- the run was done, or with it the size is above the limit
abbrev pub Runs : Ground → Run → Trail → Trail → State → Result Bool HistoryFault → Type 0
Runs g r old new s (Ok ended) = Did g r old new s ended
Runs g r old new s (Err Long) = g.room < run_size (so_far old r)
Runs g r old new s (Err Memory) = Unit {0}

-- on from a value, or nothing more
abbrev pub on : {A : Type 0} → Option A → (A → Run) → Run
on None next = halts []
on (Some v) next = next v

abbrev pub reached : Bool → State → Option PlainState
reached true s = Some (state_of s)
reached false s = None

-- the first part of runs was done, whatever comes next: it came to a value, or to nothing
pub record Goes (g : Ground) (A : Type 0) (runs : (A → Run) → Run) (old new : Trail) (s : State) (v : Option A) : Type 0 where
  pub path : new.path.items ≡ old.path.items
  pub run : (next : A → Run) → so_far new (on v next) ≡ so_far old (runs next)
  pub ready : IsReady g new s
  pub more : old.size ≤ new.size

-- with it alone the size is above the limit
abbrev pub IsLong : Ground → (A : Type 0) → ((A → Run) → Run) → Trail → Type 0
IsLong g A runs old = (next : A → Run) → g.room < run_size (so_far old (runs next))

-- a value was found, or a trap
abbrev pub Finds : Ground → (A : Type 0) → ((A → Run) → Run) → Trail → Trail → State → Result (Option A) HistoryFault → Type 0
Finds g A runs old new s (Ok v) = Goes g A runs old new s v
Finds g A runs old new s (Err Long) = IsLong g A runs old
Finds g A runs old new s (Err Memory) = Unit {0}

-- a step to a next state was done, or control stopped there
abbrev pub Steps : Ground → ((PlainState → Run) → Run) → Trail → Trail → State → Result Bool HistoryFault → Type 0
Steps g runs old new s (Ok ended) = Goes g PlainState runs old new s (reached ended s)
Steps g runs old new s (Err Long) = IsLong g PlainState runs old
Steps g runs old new s (Err Memory) = Unit {0}
