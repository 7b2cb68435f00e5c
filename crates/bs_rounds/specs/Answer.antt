-- What the verdict on a program is told as.
use Rattle.std.specs.Prelude.{◌≡◌, ℕ, List, length}
use Rattle.bs_tree.specs.declared.tree.Program.{Program}
use Rattle.bs_log.specs.declared.history.History.{History}
use Rattle.bs_log.specs.Collected.{log_of}
use Rattle.bs_semantics.specs.Verdict as plain
use Rattle.bs_rounds.specs.declared.answer.At.{At}
use Rattle.bs_rounds.specs.declared.answer.Twice.{Twice}
use Rattle.bs_rounds.specs.declared.answer.Verdict.{Verdict}
use Rattle.bs_rounds.specs.declared.answer.Verdict.TheVariants.{Clean, Ambiguous, TooLong}

abbrev pub at_of : At → plain.At
at_of a = record { chare = a.chare; stmt = a.stmt }

abbrev pub twice_of : Twice → plain.Twice
twice_of t = record { asked = t.asked; chare = t.chare; key = t.key; first = at_of t.first; second = at_of t.second }

-- the log of the Clean round, the key that is sent or asked twice, or that a round is too long
abbrev pub IsAnswer : Program → ℕ → Verdict → Type 0
IsAnswer p limit (Clean log) = (hs : List History) × plain.IsVerdict p limit (plain.clean hs) × (log ≡ log_of hs (length p.entries))
IsAnswer p limit (Ambiguous t) = plain.IsVerdict p limit (plain.twice (twice_of t))
IsAnswer p limit TooLong = plain.IsVerdict p limit plain.too_long
