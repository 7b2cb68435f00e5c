use Rattle.std.proofs.Common.{rules, ap, ◌+◌}
use Rattle.atomic_table.proofs.Lists.{at_index}
use Rattle.bs_floor.proofs.Lookups.{as_item}
use Rattle.bs_floor.proofs.cell.Cell.serve_next.Goals as goal

pub returns-clause-ok : goal.returns-clause-ok
returns-clause-ok g c =
    let done = c.in_ok-sends.ensures.ok in
    let before = c.args.self.now in
    let item = c.index-as_slice-self.result in
    record {
      item = item;
      item_is = as_item before.posted before.served item (at_index before.posted before.served item (search rules) (search rules));
      sends_are = done.1;
      now = ap (λ s. record { station = s; posted = before.posted; served = before.served + 1 }) done.0;
    }
