use Rattle.std.proofs.Common.{◌≡◌, drop}
use Rattle.bs_semantics.specs.Run.{held}
use Rattle.bs_history.specs.Ground.{mail_of}
use Rattle.bs_history.proofs.Waits.{after_held}
use Rattle.bs_history.proofs.waiting.held_messages.Given as goal

abbrev pub invariant-loop-key : goal.invariant-loop-key
invariant-loop-key l = record {
  so_far : after_held l.messages (held (mail_of l.ground) (drop l.key-index l.keys)) ≡ held (mail_of l.ground) l.keys;
}
