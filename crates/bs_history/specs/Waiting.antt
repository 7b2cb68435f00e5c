-- The keys of a `when`, and their messages.
use Rattle.std.specs.Prelude.{◌≡◌, ℕ, Bool, true, false, List, [], Option, Some, None, Result, Ok, Err}
use Rattle.bs_tree.specs.declared.tree.Wait.{Wait}
use Rattle.bs_log.specs.declared.history.Key.{Key}
use Rattle.bs_log.specs.declared.history.Message.{Message}
use Rattle.bs_log.specs.declared.history.TrapKind.{TrapKind}
use Rattle.bs_block.specs.declared.done.BlockFault.{BlockFault}
use Rattle.bs_block.specs.declared.done.BlockFault.TheVariants.{Trap, Memory}
use Rattle.bs_semantics.specs.Run.{Run, all_asked, all_waits, held, missing, took}
use Rattle.bs_history.specs.declared.ground.Ground.{Ground}
use Rattle.bs_history.specs.declared.ground.State.{State}
use Rattle.bs_history.specs.declared.trail.Trail.{Trail}
use Rattle.bs_history.specs.Ground.{IsReady, mail_of, program_of, state_of}

-- the keys, or the first trap. Where memory is wanting, nothing is said
abbrev pub AreKeys : Result (List Key) TrapKind → Result (List Key) BlockFault → Type 0
AreKeys keys (Ok v) = keys ≡ Ok v
AreKeys keys (Err (Trap kind)) = keys ≡ Err kind
AreKeys keys (Err Memory) = Unit {0}

-- the messages of all keys, or that one is missing
abbrev pub AreHeld : Option (List Message) → Option (List Message) → Type 0
AreHeld None held = held ≡ None
AreHeld (Some v) held = held ≡ Some v

-- a key asked is written for each key
abbrev pub all_keys_asked : ℕ → List ℕ → List Key → Run
all_keys_asked n path ks = record { blocks = []; asked = all_asked n path ks; traps = []; waits = []; end = None }

-- the messages of all keys were taken
pub record Taken (g : Ground) (waits : List Wait) (keys : List Key) (old new : Trail) (s s' : State) : Type 0 where
  pub messages : List Message
  pub held : held (mail_of g) keys ≡ Some messages
  pub state : state_of s' ≡ took (program_of g) waits (state_of s) messages
  pub ready : IsReady g new s'
  pub same : new ≡ old

-- one is missing, and a wait is shown for each that is
pub record Missing (g : Ground) (keys : List Key) (n : ℕ) (old new : Trail) (s s' : State) : Type 0 where
  pub none : held (mail_of g) keys ≡ None
  pub shown : new ≡ record old { shown = record { blocks = []; asked = []; traps = []; waits = all_waits n old.path.items (missing (mail_of g) keys); size = 0 } }
  pub same : s' ≡ s

abbrev pub TakesHeld : Ground → List Wait → List Key → ℕ → Trail → Trail → State → State → Bool → Type 0
TakesHeld g waits keys n old new s s' true = Taken g waits keys old new s s'
TakesHeld g waits keys n old new s s' false = Missing g keys n old new s s'
