-- What a chare does next, behind what it wrote.
use Rattle.std.specs.Prelude.{◌≡◌, ◌≤◌, ◌<◌, ◌+◌, ℕ, Bool, List, [], ◌++◌, None, Result, Ok, Err}
use Rattle.bs_tree.specs.declared.tree.Program.{Program}
use Rattle.bs_log.specs.declared.history.History.{History}
use Rattle.bs_log.specs.Size.{size}
use Rattle.bs_block.specs.Env.{MadeFor}
use Rattle.bs_semantics.specs.Growth.{PartOf}
use Rattle.bs_semantics.specs.Run.{Lookup, Run, ends, depth_of, history, run}
use Rattle.bs_history.specs.declared.course.Course.{Course}
use Rattle.bs_history.specs.declared.course.Stage.{Stage}
use Rattle.bs_history.specs.declared.trail.Lists.{Lists}
use Rattle.bs_history.specs.declared.fault.HistoryFault.{HistoryFault}
use Rattle.bs_history.specs.declared.fault.HistoryFault.TheVariants.{Long, Memory}
use Rattle.bs_history.specs.Trail.{lists_run, run_size}
use Rattle.bs_history.specs.Ground.{state_of}
use Rattle.bs_history.specs.Frames.{AreFit, and_then}

-- nothing is written
abbrev pub nothing : Run
nothing = record { blocks = []; asked = []; traps = []; waits = []; end = None }

-- what was written, and a run behind it
abbrev pub behind : Run → Run → Run
behind k r = record { blocks = k.blocks ++ r.blocks; asked = k.asked ++ r.asked; traps = k.traps ++ r.traps; waits = k.waits ++ r.waits; end = r.end }

-- behind what the chare wrote, this is what it does next: together they are its run, under each mail that holds this one
pub record IsCourse (p : Program) (limit this : ℕ) (mail : Lookup) (k : Run) (c : Course) : Type 0 where
  pub run : (b : Lookup) → PartOf mail b → behind k (and_then p limit this c.frames b (ends (state_of c.state))) ≡ run p limit this b
  pub fit : AreFit p c.frames
  pub made : MadeFor p c.state.env
  pub itself : c.state.env.this ≡ this
  pub shallow : depth_of c.state.causes ≤ 262144 + run_size k

-- the history of lists behind what was written, and lists behind those
abbrev pub told_by : Run → Lists → Lists → Bool → History
told_by k w s ended = record { blocks = k.blocks ++ (w.blocks ++ s.blocks); asked = k.asked ++ (w.asked ++ s.asked); waits = k.waits ++ (w.waits ++ s.waits); traps = k.traps ++ (w.traps ++ s.traps); ended = ended }

-- how far a chare has come under a mail
pub record IsStage (p : Program) (limit this : ℕ) (mail : Lookup) (k : Run) (s : Stage) : Type 0 where
  pub course : IsCourse p limit this mail (behind k (lists_run s.written)) s.course
  pub history : told_by k s.written s.shown s.ended ≡ history p limit this mail
  pub written : s.written.size ≡ run_size (lists_run s.written)
  pub shown : s.shown.size ≡ run_size (lists_run s.shown)
  pub small : run_size k + s.written.size + s.shown.size ≤ limit

-- it went on, or the size of its history is above the limit. Where memory is wanting, nothing is said
abbrev pub GoesOn : Program → ℕ → ℕ → Lookup → Run → Result Stage HistoryFault → Type 0
GoesOn p limit this mail k (Ok s) = IsStage p limit this mail k s
GoesOn p limit this mail k (Err Long) = limit < size (history p limit this mail)
GoesOn p limit this mail k (Err Memory) = Unit {0}
