use Rattle.std.proofs.Common.{◌≡◌, ◌++◌, map}
use Rattle.bs_log.specs.declared.history.Message.{Message}
use Rattle.bs_history.proofs.causes.origins.Given as goal

abbrev pub invariant-loop-message : goal.invariant-loop-message
invariant-loop-message l = record {
  so_far : l.origins.items ++ map (λ (m : Message). m.origin) l.message-iterator.rest.items ≡ map (λ (m : Message). m.origin) l.fn.messages.items;
}
