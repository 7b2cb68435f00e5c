-- What histories that were taken anew are.
use Rattle.std.specs.Prelude.{◌≡◌, ◌≤◌, ◌<◌, ℕ, Bool, false, List, map, Some, Result, Ok, Err}
use Rattle.bs_tree.specs.declared.tree.Program.{Program}
use Rattle.bs_log.specs.declared.history.Key.{Key}
use Rattle.bs_log.specs.declared.history.Message.{Message}
use Rattle.bs_log.specs.declared.history.History.{History}
use Rattle.bs_log.specs.Size.{size, size_all}
use Rattle.bs_log.specs.Histories.{history_at}
use Rattle.bs_semantics.specs.Run.{Lookup, history}
use Rattle.bs_semantics.specs.Rounds.{chares}
use Rattle.bs_rounds.specs.declared.stop.Stop.{Stop}
use Rattle.bs_rounds.specs.declared.stop.Stop.TheVariants.{Long, Twice, Memory}
use Rattle.bs_rounds.specs.Posting.{flag, held}

-- no message of a mail is deeper than 262,144
abbrev pub IsShallow : Lookup → Type 0
IsShallow mail = (k : Key) (m : Message) → mail k ≡ Some m → m.origin.depth ≤ 262144

abbrev pub AreShallow : List (List Message) → Type 0
AreShallow mails = (c : ℕ) → IsShallow (held mails c)

-- the history of each chare that isn't marked is that under its mail
abbrev pub AreTaken : Program → ℕ → List (List Message) → List Bool → List History → Type 0
AreTaken p limit mails marks hs = (c : ℕ) → c < p.chares → flag marks c ≡ false → history_at hs c ≡ history p limit c (held mails c)

-- the history, whose size is at most the limit, or it is too long
abbrev pub IsTakenOne : ℕ → History → Result History Stop → Type 0
IsTakenOne limit h (Ok given) = (given ≡ h) × (size h ≤ limit)
IsTakenOne limit h (Err Long) = limit < size h
IsTakenOne limit h (Err Twice) = ⊥
IsTakenOne limit h (Err Memory) = Unit {0}

-- the histories of all chares under their mails
abbrev pub histories_under : Program → ℕ → List (List Message) → List History
histories_under p limit mails = map (λ c. history p limit c (held mails c)) (chares p)

-- the histories are those under the mails, of this size together, or one is too long
abbrev pub IsTaken : Program → ℕ → List (List Message) → Result ℕ Stop → List History → Type 0
IsTaken p limit mails (Ok together) hs = (hs ≡ histories_under p limit mails) × (together ≡ size_all hs)
IsTaken p limit mails (Err Long) hs = (c : ℕ) × (c < p.chares) × (limit < size (history p limit c (held mails c)))
IsTaken p limit mails (Err Twice) hs = ⊥
IsTaken p limit mails (Err Memory) hs = Unit {0}
