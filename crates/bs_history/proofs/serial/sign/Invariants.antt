use Rattle.std.proofs.Common.{◌≡◌, ◌≤◌, ◌+◌, ◌++◌, map, length}
use Rattle.bs_block.specs.Progress.{parcel_of}
use Rattle.bs_semantics.specs.Run.{signed}
use Rattle.bs_history.proofs.serial.sign.Given as goal

abbrev pub invariant-loop-send : goal.invariant-loop-send
invariant-loop-send l = record {
  few : l.index + length l.send-iterator.rest.items ≤ 262145;
  so_far : l.messages ++ signed l.this l.path.0 l.depth l.index (map parcel_of l.send-iterator.rest.items) ≡ signed l.this l.path.0 l.depth 1 (map parcel_of l.fn.sends.items);
}
