use Rattle.std.proofs.Common.{◌++◌, ◌∙◌, append-nil, ap, map, sym}
use Rattle.bs_line.specs.Listing.{keyed}
use Rattle.bs_line.proofs.Keys.{in_order}
use Rattle.bs_line.proofs.choosing.in_order.Goals as goal

pub returns : goal.returns
returns c =
    in_order c.loop-key.mails c.args.keys.now.keys
    (sym (append-nil (map keyed c.loop-key.mails)) ∙ ap (λ ks. map keyed c.loop-key.mails ++ ks) (sym c.in-None.ensures.steps.0) ∙ c.loop-key.invariant)
    c.into_iter-key-iterator.ensures.into_iter_gives.4
