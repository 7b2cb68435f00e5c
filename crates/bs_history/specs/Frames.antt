-- What is left of a run that hasn't ended, and what a run leaves.
use Rattle.std.specs.Prelude.{◌≡◌, ◌≤◌, ◌<◌, ◌+◌, ◌-◌, ℕ, suc, Bool, true, false, IsTrue, List, [], ◌∷◌, map, length, Option, Some, None, Result, Ok, Err}
use Rattle.bs_tree.specs.Count.{statements_in}
use Rattle.bs_tree.specs.declared.tree.Stmt.{Stmt}
use Rattle.bs_tree.specs.declared.tree.Program.{Program}
use Rattle.bs_log.specs.declared.history.Key.{Key}
use Rattle.bs_log.specs.declared.history.Message.{Message}
use Rattle.bs_log.specs.declared.history.TrapKind.{TrapKind}
use Rattle.bs_check.specs.Known.{is_known}
use Rattle.bs_check.specs.Numbers.{StandsAt}
use Rattle.bs_check.specs.Fits.{are_fit, are_waits_fit}
use Rattle.bs_semantics.specs.Growth.{PartOf}
use Rattle.bs_semantics.specs.Value.{value_of}
use Rattle.bs_semantics.specs.Run.{Lookup, Run, State as PlainState, ends, halts, then_do, in_turn, turns, overlap, with, go_on, held, missing, all_waits, took, meant}
use Rattle.bs_history.specs.declared.ground.Ground.{Ground}
use Rattle.bs_history.specs.declared.ground.State.{State}
use Rattle.bs_history.specs.declared.trail.Trail.{Trail}
use Rattle.bs_history.specs.declared.frame.Frame.{Frame}
use Rattle.bs_history.specs.declared.frame.Frame.TheVariants.{Stuck, When, List as ListFrame, Loop, Overlap}
use Rattle.bs_history.specs.declared.fault.HistoryFault.{HistoryFault}
use Rattle.bs_history.specs.declared.fault.HistoryFault.TheVariants.{Long, Memory}
use Rattle.bs_history.specs.Control.{is_step_fit, step_in}
use Rattle.bs_history.specs.Trail.{so_far, run_size, lists_run}
use Rattle.bs_history.specs.Ground.{IsReady, Goes, IsLong, program_of, mail_of, means, state_of, stopped}

-- on with the messages of keys that are asked, where all are there, and otherwise a wait for those that are missing
abbrev pub awaited : Lookup → ℕ → List ℕ → List Key → (List Message → Run) → Run
awaited mail n path ks next = go_on (held mail ks) [] (all_waits n path (missing mail ks)) next

-- what a chare of a program does next, under a mail and from a state
abbrev pub does_next : Program → ℕ → ℕ → Frame → Lookup → PlainState → Run
does_next p limit this Stuck mail s = halts []
does_next p limit this (When w) mail s = awaited mail w.number w.path.items w.keys (λ ms. in_turn (map (meant p limit this) w.body.now) 0 mail (w.number + 1) w.path.items (took p w.waits.now s ms))
does_next p limit this (ListFrame l) mail s = in_turn (map (meant p limit this) l.list.now) l.place mail l.number l.path.items s
does_next p limit this (Loop l) mail s = step_in p this l.step l.number l.path.items (turns (suc limit - l.turn) (λ s. value_of p this l.condition.now s.cells) (step_in p this l.step) (map (meant p limit this) l.body.now) l.turn mail l.number l.path.items) s
does_next p limit this (Overlap o) mail s = overlap (map (meant p limit this) o.body.now) mail (o.number + 1) o.path.items s

-- a run, and then what is left, the first one first
abbrev pub and_then : Program → ℕ → ℕ → List Frame → Lookup → Run → Run
and_then p limit this [] mail r = r
and_then p limit this (f ∷ fs) mail r = and_then p limit this fs mail (then_do r (does_next p limit this f mail))

abbrev pub frame_does : Ground → Frame → Lookup → PlainState → Run
frame_does g = does_next (program_of g) g.limit g.this

abbrev pub unwound : Ground → List Frame → Lookup → Run → Run
unwound g = and_then (program_of g) g.limit g.this

-- what is left, from a state
abbrev pub left_of : Ground → List Frame → State → Lookup → Run
left_of g fs s mail = unwound g fs mail (ends (state_of s))

-- the statements of a list stand in the program from a number on, and keep the rules of the language
pub record IsListFit (p : Program) (n : ℕ) (body : List Stmt) : Type 0 where
  pub fits : IsTrue (are_fit p body)
  pub stands : StandsAt p n body
  pub numbers : n + statements_in body ≤ 10001

abbrev pub IsFrameFit : Program → Frame → Type 0
IsFrameFit p Stuck = Unit {0}
IsFrameFit p (When w) = IsListFit p (w.number + 1) w.body.now × IsTrue (are_waits_fit p w.waits.now)
IsFrameFit p (ListFrame l) = IsListFit p l.number l.list.now × (l.place ≤ l.number)
IsFrameFit p (Loop l) = IsListFit p (l.number + 1) l.body.now × IsTrue (is_known p l.condition.now) × IsTrue (is_step_fit p l.step)
IsFrameFit p (Overlap o) = IsListFit p (o.number + 1) o.body.now

-- what is left is of the program
abbrev pub AreFit : Program → List Frame → Type 0
AreFit p [] = Unit {0}
AreFit p (f ∷ fs) = IsFrameFit p f × AreFit p fs

-- what is left shows what it is under the present mail: it can't go on
pub record IsStill (g : Ground) (r : Run) (t : Trail) : Type 0 where
  pub shown : r ≡ lists_run t.shown
  pub size : t.shown.size ≡ run_size (lists_run t.shown)
  pub fits : t.size + t.shown.size ≤ g.room

abbrev pub Shows : Ground → List Frame → Trail → State → Type 0
Shows g [] t s = Unit {0}
Shows g (f ∷ fs) t s = IsStill g (left_of g (f ∷ fs) s (mail_of g)) t

-- under each mail that holds the present one, the whole run, behind what was written before, is what is written now with
-- this run behind it
pub record Ahead (g : Ground) (r whole : Lookup → Run) (old new : Trail) (s : State) : Type 0 where
  pub path : new.path.items ≡ old.path.items
  pub run : (b : Lookup) → PartOf (mail_of g) b → so_far new (r b) ≡ so_far old (whole b)
  pub ready : IsReady g new s
  pub more : old.size ≤ new.size

-- the run was done as far as it can be, and this is left
pub record Leaving (g : Ground) (whole : Lookup → Run) (old new : Trail) (s : State) (frames : List Frame) : Type 0 where
  pub ahead : Ahead g (left_of g frames s) whole old new s
  pub fit : AreFit (program_of g) frames
  pub shows : Shows g frames new s

-- the run was done as far as it can be, or under the present mail the size is above the limit with it
abbrev pub Leaves : Ground → (Lookup → Run) → Trail → Trail → State → Result (List Frame) HistoryFault → Type 0
Leaves g whole old new s (Ok frames) = Leaving g whole old new s frames
Leaves g whole old new s (Err Long) = g.room < run_size (so_far old (whole (mail_of g)))
Leaves g whole old new s (Err Memory) = Unit {0}

-- a run went on from what was left of it, as far as it can
pub record Resuming (g : Ground) (whole : Lookup → Run) (old new : Trail) (s : State) (frames : List Frame) : Type 0 where
  pub run : (b : Lookup) → PartOf (mail_of g) b → so_far new (left_of g frames s b) ≡ so_far old (whole b)
  pub ready : IsReady g new s
  pub more : old.size ≤ new.size
  pub fit : AreFit (program_of g) frames
  pub shows : Shows g frames new s

-- it went on, or under the present mail the size is above the limit with it
abbrev pub Resumes : Ground → (Lookup → Run) → Trail → Trail → State → Result (List Frame) HistoryFault → Type 0
Resumes g whole old new s (Ok frames) = Resuming g whole old new s frames
Resumes g whole old new s (Err Long) = g.room < run_size (so_far old (whole (mail_of g)))
Resumes g whole old new s (Err Memory) = Unit {0}

-- whether nothing is left
abbrev pub is_done : List Frame → Bool
is_done [] = true
is_done (f ∷ fs) = false

-- nothing is left of a run that ended, and of one that a trap stopped nothing can be done
abbrev pub stopped_at : Bool → List Frame
stopped_at true = []
stopped_at false = Stuck ∷ []
