use Rattle.std.proofs.Common.{◌≡◌, ◌++◌, drop, map}
use Rattle.bs_model.proofs.state.copy_sends.Given as goal

abbrev pub invariant-loop-message : goal.invariant-loop-message
invariant-loop-message l = l.sends ++ map (λ m. m.sent) (drop l.message-index l.messages) ≡ map (λ m. m.sent) l.messages
