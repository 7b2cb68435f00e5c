use Rattle.std.proofs.Common.{length}
use Rattle.bs_model.proofs.Delivery.{Delivering}
use Rattle.bs_model.proofs.mails.deliver.Given as goal

abbrev pub invariant-loop-message : goal.invariant-loop-message
invariant-loop-message l = Delivering l.limit l.fn.mails l.fn.messages.items l.mails l.heard.keys l.rest.items

abbrev pub decreases-loop-message : goal.decreases-loop-message
decreases-loop-message l = length l.rest.items
