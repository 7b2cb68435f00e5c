-- What the log of a program's Clean round says of the serial machine model (docs/model.md).
use Rattle.std.specs.Prelude.{◌≡◌, ℕ, List, None, Some, length}
use Rattle.bs_tree.specs.declared.tree.Program.{Program}
use Rattle.bs_tree.specs.declared.tree.Path.{Path}
use Rattle.bs_log.specs.declared.history.Origin.{Origin}
use Rattle.bs_log.specs.declared.history.Block.{Block}
use Rattle.bs_log.specs.declared.log.Log.{Log}
use Rattle.bs_log.specs.declared.outcome.Outcome.{Outcome}
use Rattle.bs_log.specs.Collected.{log_of}
use Rattle.bs_log.specs.Lists.{Mem}
use Rattle.bs_log.specs.Messages.{sent}
use Rattle.bs_semantics.specs.Run.{history}
use Rattle.bs_semantics.specs.Rounds.{mail_to, chares, round}
use Rattle.bs_semantics.specs.Serial.{Machine, Started, find}
use Rattle.bs_times.specs.Net.{Starts, net_of}
use Rattle.bs_times.specs.Times.{IsConsistent}
use Rattle.bs_times.specs.Outcomes.{outcome_of}

-- the log of round n
abbrev pub log_at : Program → ℕ → ℕ → Log
log_at p limit n = log_of (round p limit n) (length p.entries)

-- the log has a consistent table on the machine, and the outcome is that of the log at each one
pub record IsTold (m : Machine) (log : Log) (o : Outcome) : Type 0 where
  pub some : (s : Starts) × IsConsistent (net_of log m) s
  pub is : (s : Starts) → IsConsistent (net_of log m) s → o ≡ outcome_of log m s

-- a block of the chare was started at this path
abbrev pub IsBegun : List Started → ℕ → List ℕ → Type 0
IsBegun bs c path = (b : Started) × (find bs c path ≡ Some b)

-- a block of round n that wasn't started, and whose causes were
pub record IsDue (p : Program) (limit n : ℕ) (bs : List Started) (c : ℕ) (x : Block) : Type 0 where
  pub chare : Mem c (chares p)
  pub block : Mem x (history p limit c (mail_to (sent (round p limit n)) c)).blocks
  pub fresh : find bs c x.path.0 ≡ None
  pub after : (q : Path) → Mem q x.after → IsBegun bs c q.0
  pub mail : (o : Origin) → Mem o x.mail → IsBegun bs o.chare o.path.0
