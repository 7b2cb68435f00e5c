use Rattle.std.proofs.Common.{◌≡◌, ◌++◌, drop}
use Rattle.bs_semantics.specs.Run.{all_waits, missing}
use Rattle.bs_history.specs.Ground.{mail_of}
use Rattle.bs_history.proofs.waiting.missing_waits.Given as goal

abbrev pub invariant-loop-key : goal.invariant-loop-key
invariant-loop-key l = record {
  so_far : l.waits ++ all_waits l.number l.trail.path.items (missing (mail_of l.ground) (drop l.key-index l.keys)) ≡ all_waits l.number l.trail.path.items (missing (mail_of l.ground) l.keys);
}
