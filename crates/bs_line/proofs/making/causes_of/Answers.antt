use Rattle.std.proofs.Common.{◌≡◌, ◌∙◌, get_or, subst, ap}
use Rattle.bs_log.specs.Lists.{Mem}
use Rattle.bs_schedule.proofs.Places.{place_mem}
use Rattle.bs_times.specs.Net.{row_of}
use Rattle.bs_line.proofs.Parts.{after_on, row_there}
use Rattle.bs_line.proofs.making.causes_of.Goals as goal

pub row_at-requires-clause-some : goal.row_at-requires-clause-some
row_at-requires-clause-some c = (row_there c.args.log.now c.args.machine.now c.requires.valid c.args.rows.now c.requires.rows c.args.number c.requires.on).0

pub row_at-requires-clause-most : goal.row_at-requires-clause-most
row_at-requires-clause-most c = (row_there c.args.log.now c.args.machine.now c.requires.valid c.args.rows.now c.requires.rows c.args.number c.requires.on).1

pub local_cause-requires-clause-on : goal.local_cause-requires-clause-on
local_cause-requires-clause-on c =
    let e : c.as_slice-cause-items.result.now ≡ (row_of c.args.log.now c.args.number).after = c.as_slice-cause-items.ensures ∙ ap (λ r. r.after) c.row_at.ensures in
    after_on c.args.log.now c.args.machine.now c.requires.valid c.args.rows.now c.requires.rows c.args.number _ c.requires.on (subst (λ xs. Mem (get_or c.as_slice-cause-items.result.now c.loop-cause.cause-index 0) xs) e (place_mem c.as_slice-cause-items.result.now c.loop-cause.cause-index 0 c.loop-cause-test.true))
