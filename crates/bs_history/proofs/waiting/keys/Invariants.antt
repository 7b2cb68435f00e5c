use Rattle.std.proofs.Common.{◌≡◌, true, drop}
use Rattle.bs_semantics.specs.Run.{keys_of}
use Rattle.bs_check.specs.Fits.{are_waits_fit}
use Rattle.bs_history.specs.Ground.{program_of}
use Rattle.bs_history.proofs.Waits.{after_keys}
use Rattle.bs_history.proofs.waiting.keys.Given as goal

abbrev pub invariant-loop-wait : goal.invariant-loop-wait
invariant-loop-wait l = record {
  fits : are_waits_fit (program_of l.ground) (drop l.wait-index l.waits) ≡ true;
  so_far : after_keys l.keys (keys_of (program_of l.ground) l.env.this (drop l.wait-index l.waits) l.env.cells) ≡ keys_of (program_of l.ground) l.env.this l.waits l.env.cells;
}
