-- What comes of the verdict on a program (docs/model.md).
use Rattle.std.specs.Prelude.{◌≡◌, ℕ, length, Result, Ok, Err}
use Rattle.bs_log.specs.Collected.{log_of}
use Rattle.bs_log.specs.declared.log.Log.{Log}
use Rattle.bs_report.specs.declared.faults.Fault.TheVariants as fault
use Rattle.bs_rounds.specs.declared.answer.At.{At}
use Rattle.bs_rounds.specs.declared.answer.Twice.{Twice}
use Rattle.bs_semantics.specs.Verdict as rounds
use Rattle.bs_tree.specs.declared.tree.Program.{Program}
use Rattle.bs_top.specs.Step.{Step}
use Rattle.bs_top.specs.declared.stopped.Stopped.{Stopped}
use Rattle.bs_top.specs.declared.stopped.Stopped.TheVariants.{Refused}

abbrev pub at_told : rounds.At → At
at_told at = record { chare = at.chare; stmt = at.stmt }

-- a key that a chare is sent or asks twice, as its line tells it
abbrev pub twice_told : rounds.Twice → Twice
twice_told t = record { asked = t.asked; chare = t.chare; key = t.key; first = at_told t.first; second = at_told t.second }

-- a program is run only where its verdict is Clean
abbrev pub if_clean : ℕ → rounds.Verdict → Result (Unit {0}) Stopped
if_clean limit (rounds.clean histories) = Ok tt
if_clean limit (rounds.twice t) = Err (Refused (fault.Ambiguous (twice_told t)))
if_clean limit rounds.too_long = Err (Refused (fault.TooLong limit))

-- the verdict on the program at that limit of sizes
unfoldable pub judged : Program → ℕ → Step (Unit {0})
judged p limit result = (verdict : rounds.Verdict) × rounds.IsVerdict p limit verdict × (if_clean limit verdict ≡ result)

-- the log of the Clean round of a program, and nothing of any other verdict
abbrev pub log_if_clean : ℕ → ℕ → rounds.Verdict → Result Log Stopped
log_if_clean limit entries (rounds.clean histories) = Ok (log_of histories entries)
log_if_clean limit entries (rounds.twice t) = Err (Refused (fault.Ambiguous (twice_told t)))
log_if_clean limit entries rounds.too_long = Err (Refused (fault.TooLong limit))

-- the log of a program, where its verdict at that limit of sizes is Clean
unfoldable pub logged : Program → ℕ → Step Log
logged p limit result = (verdict : rounds.Verdict) × rounds.IsVerdict p limit verdict × (log_if_clean limit (length p.entries) verdict ≡ result)
