use Rattle.std.proofs.Common.{◌≡◌, drop}
use Rattle.bs_history.specs.Trail.{so_far, IsWithin}
use Rattle.bs_history.specs.Waiting.{all_keys_asked}
use Rattle.bs_history.proofs.waiting.write_asked.Given as goal

abbrev pub invariant-loop-key : goal.invariant-loop-key
invariant-loop-key l = record {
  path : l.trail.path.items ≡ l.fn.trail.path.items;
  left : so_far l.trail (all_keys_asked l.number l.trail.path.items (drop l.key-index l.keys)) ≡ so_far l.fn.trail (all_keys_asked l.number l.fn.trail.path.items l.keys);
  within : IsWithin l.ground.room l.trail;
}
