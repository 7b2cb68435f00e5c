-- How far a chare is, and what stays of it.
use Rattle.std.specs.Prelude.{◌≡◌, Bool, true, false, List, [], ◌∷◌}
use Rattle.bs_log.specs.declared.history.TrapAt.{TrapAt}
use Rattle.bs_log.specs.declared.history.WaitAt.{WaitAt}
use Rattle.bs_log.specs.declared.history.History.{History}
use Rattle.bs_chare.specs.declared.chare.Chare.{Chare}
use Rattle.bs_chare.specs.declared.chare.ChareState.{ChareState}
use Rattle.bs_chare.specs.declared.chare.ChareState.TheVariants.{Idle, Trapped, Waits, Done}

-- where there is a wait, a chare that isn't trapped waits
abbrev pub waiting_or_done : List WaitAt → ChareState
waiting_or_done [] = Done
waiting_or_done (w ∷ ws) = Waits

-- a trap comes before a wait
abbrev pub stopped_by : List TrapAt → List WaitAt → ChareState
stopped_by [] ws = waiting_or_done ws
stopped_by (t ∷ ts) ws = Trapped

-- a chare is idle before it begins, and then what its history shows
abbrev pub shown : Bool → History → ChareState
shown false h = Idle
shown true h = stopped_by h.traps h.waits

abbrev pub state_of : Chare → ChareState
state_of c = shown c.begun c.history

-- a chare of the same program, number and limit
pub record IsSameChare (old new : Chare) : Type 0 where
  pub accepted : new.accepted.now ≡ old.accepted.now
  pub number : new.number ≡ old.number
  pub limit : new.limit ≡ old.limit
