use Rattle.std.proofs.Common.{◌≡◌, ◌++◌, drop, map}
use Rattle.bs_log.specs.Collected.{mail_ref}
use Rattle.bs_log.specs.Linked.{AllCame}
use Rattle.bs_log.proofs.rows.mail_refs.Given as goal

abbrev pub invariant-loop-origin : goal.invariant-loop-origin
invariant-loop-origin l = record {
  linked : AllCame l.histories (drop l.origin-index l.origins);
  done : l.refs ++ map (mail_ref l.histories) (drop l.origin-index l.origins) ≡ map (mail_ref l.histories) l.origins;
}
