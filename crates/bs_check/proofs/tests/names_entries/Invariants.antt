use Rattle.std.proofs.Common.{◌<◌, All, take}
use Rattle.bs_check.proofs.tests.names_entries.Given as goal

abbrev pub invariant-loop-entry : goal.invariant-loop-entry
invariant-loop-entry l = All (λ x. x.name.0 < l.count) (take l.entry-index l.entries)
