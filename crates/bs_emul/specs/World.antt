-- The chares of a program while messages are served.
use Rattle.std.specs.Prelude.{◌≡◌, ◌≤◌, ℕ, Bool, true, false, List, [], ◌∷◌, Some, Result, Ok, Err, length, slice_get}
use Rattle.bs_tree.specs.declared.tree.Program.{Program}
use Rattle.bs_log.specs.declared.history.Message.{Message}
use Rattle.bs_match.specs.Mail.{lookup}
use Rattle.bs_semantics.specs.Rounds.{mail_to}
use Rattle.bs_chare.specs.declared.chare.Chare.{Chare}
use Rattle.bs_emul.specs.declared.stop.Stop.{Stop}
use Rattle.bs_emul.specs.declared.world.World.{World}
use Rattle.bs_emul.specs.Reached.{IsReached}
use Rattle.bs_emul.specs.Stop.{IsStopped}

-- the chare of this number, begun, with those of the messages that go to it as its mail
pub record IsServed (p : Program) (limit : ℕ) (ms : List Message) (c : ℕ) (x : Chare) : Type 0 where
  pub program : x.accepted.now.program ≡ p
  pub bound : x.limit ≡ limit
  pub number : x.number ≡ c
  pub begun : x.begun ≡ true
  pub mail : lookup x.mail ≡ mail_to ms c

-- all chares
pub record AreServed (p : Program) (limit : ℕ) (ms : List Message) (xs : List Chare) : Type 0 where
  pub count : length xs ≡ p.chares
  pub some : 1 ≤ p.chares
  pub each : (c : ℕ) (x : Chare) → slice_get xs c ≡ Some x → IsServed p limit ms c x

-- these messages were served, the last one first
pub record IsWorld (p : Program) (limit : ℕ) (ms : List Message) (w : World) : Type 0 where
  pub chares : AreServed p limit ms w.chares.items
  pub reached : IsReached p limit ms w.queue.items

-- all messages were served
abbrev pub AreDone : Program → ℕ → List Chare → Type 0
AreDone p limit xs = (ms : List Message) × AreServed p limit ms xs × IsReached p limit ms []

-- one message more was served, or none was left
abbrev pub Serves : Program → ℕ → List Message → Result Bool Stop → World → Type 0
Serves p limit ms (Ok true) w = (m : Message) × IsWorld p limit (m ∷ ms) w
Serves p limit ms (Ok false) w = IsWorld p limit ms w × (w.queue.items ≡ [])
Serves p limit ms (Err stop) w = IsStopped p limit stop
