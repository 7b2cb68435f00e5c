-- The parts of an overlap that are done.
use Rattle.std.specs.Prelude.{[], Option, Some, None}
use Rattle.bs_tree.specs.declared.tree.Program.{Program}
use Rattle.bs_block.specs.Env.{MadeFor}
use Rattle.bs_semantics.specs.Run.{Run, State as PlainState}
use Rattle.bs_history.specs.declared.ground.Ground.{Ground}
use Rattle.bs_history.specs.declared.ground.State.{State}
use Rattle.bs_history.specs.declared.trail.Trail.{Trail}
use Rattle.bs_history.specs.Ground.{IsReady, state_of}

abbrev pub state_in : Option State → Option PlainState
state_in (Some s) = Some (state_of s)
state_in None = None

-- the parts so far have a state that is ready, if all have ended
abbrev pub IsJoined : Ground → Trail → Option State → Type 0
IsJoined g t (Some s) = IsReady g t s
IsJoined g t None = Unit {0}

abbrev pub IsMade : Program → Option State → Type 0
IsMade p (Some s) = MadeFor p s.env
IsMade p None = Unit {0}

-- a run that has written all
abbrev pub bare : Option PlainState → Run
bare end = record { blocks = []; asked = []; traps = []; waits = []; end = end }
