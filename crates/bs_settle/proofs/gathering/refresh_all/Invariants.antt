use Rattle.std.proofs.Common.{ℕ, List}
use Rattle.bs_times.specs.Net.{Net}
use Rattle.bs_settle.specs.Gathering.{AreRefreshed}
use Rattle.bs_settle.specs.Lines.{AreLines}
use Rattle.bs_settle.proofs.gathering.refresh_all.Given as goal

abbrev pub invariant-loop-place : goal.invariant-loop-place
invariant-loop-place l = (net : Net) (places : List ℕ) → AreLines net places l.fn.lines.items → AreRefreshed net l.place l.fn.lines.items l.lines.items l.gathered.items
