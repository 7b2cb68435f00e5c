use Rattle.std.proofs.Common.{◌≡◌, take}
use Rattle.bs_history.proofs.causes.copy_causes.Given as goal

abbrev pub invariant-loop-cause : goal.invariant-loop-cause
invariant-loop-cause l = record {
  so_far : l.copy.items ≡ take l.cause-index l.causes;
}
