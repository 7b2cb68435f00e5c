-- What a chare keeps.
use Rattle.std.specs.Prelude.{◌≡◌, ◌≤◌, ℕ, Bool, true, false, List, [], ◌∷◌, Some}
use Rattle.bs_tree.specs.declared.tree.Program.{Program}
use Rattle.bs_log.specs.declared.history.Key.{Key}
use Rattle.bs_log.specs.declared.history.Message.{Message}
use Rattle.bs_log.specs.declared.history.TrapAt.{TrapAt}
use Rattle.bs_log.specs.declared.history.WaitAt.{WaitAt}
use Rattle.bs_log.specs.declared.history.History.{History}
use Rattle.bs_log.specs.Histories.{no_history}
use Rattle.bs_semantics.specs.Run.{Lookup, history}

-- the history that a chare tells: none before it begins, and then the one under its mail
abbrev pub told : Bool → Program → ℕ → ℕ → Lookup → History
told false p limit c mail = no_history
told true p limit c mail = history p limit c mail

-- a message that may come to a chare: it is sent to this chare, and is not too deep
pub record IsProper (c : ℕ) (m : Message) : Type 0 where
  pub to : m.sent.to ≡ c
  pub depth : m.origin.depth ≤ 262144

-- each message that a mail holds may come to the chare
abbrev pub HoldsProper : ℕ → Lookup → Type 0
HoldsProper c mail = (k : Key) (m : Message) → mail k ≡ Some m → (m.sent.to ≡ c) × (m.origin.depth ≤ 262144)
