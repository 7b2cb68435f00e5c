-- What a round decides.
use Rattle.std.specs.Prelude.{◌≡◌, ℕ, ◌+◌, Bool, List, Option, Some, None}
use Rattle.bs_tree.specs.declared.tree.Program.{Program}
use Rattle.bs_log.specs.declared.history.Message.{Message}
use Rattle.bs_log.specs.declared.history.History.{History}
use Rattle.bs_semantics.specs.Verdict.{ambiguous}
use Rattle.bs_rounds.specs.declared.answer.Verdict.{Verdict}
use Rattle.bs_rounds.specs.declared.answer.Verdict.TheVariants.{Clean, Ambiguous, TooLong}
use Rattle.bs_rounds.specs.Answer.{IsAnswer, twice_of}
use Rattle.bs_rounds.specs.State.{IsAtRound}

-- the names are those of the histories
abbrev pub NamesTwice : List History → Verdict → Type 0
NamesTwice hs (Clean log) = ⊥
NamesTwice hs (Ambiguous t) = ambiguous hs ≡ Some (twice_of t)
NamesTwice hs TooLong = ⊥

-- the verdict, or all is as it is before the next round
abbrev pub IsDecided : Program → ℕ → Option Verdict → ℕ → ℕ → List (List Message) → List Bool → List History → Type 0
IsDecided p limit (Some v) n k mails marks hs = IsAnswer p limit v
IsDecided p limit None n k mails marks hs = (k ≡ n + 1) × IsAtRound p limit k mails marks hs
