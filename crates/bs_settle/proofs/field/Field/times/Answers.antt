use Rattle.std.proofs.Common.{◌∙◌, length, ap}
use Rattle.bs_settle.specs.Field.{starts_of}
use Rattle.bs_settle.proofs.Consistent.{settled_times, starts_early}
use Rattle.bs_settle.proofs.Listed.{by_row_long}
use Rattle.bs_settle.proofs.field.Field.times.Goals as goal

pub timed_rows-requires-clause-each : goal.timed_rows-requires-clause-each
timed_rows-requires-clause-each c =
    let s = c.args.self.now in
    ap length (c.deref.ensures.value ∙ c.in_ok-starts.ensures) ∙ by_row_long 0 (starts_of s) (length s.log.now.rows)

pub timed_rows-requires-clause-early : goal.timed_rows-requires-clause-early
timed_rows-requires-clause-early c = starts_early c.args.self.now c.requires.field c.requires.clean c.deref.result.now (c.deref.ensures.value ∙ c.in_ok-starts.ensures)

pub returns : goal.returns
returns c = settled_times c.args.self.now c.requires.field c.requires.clean c.deref.result.now (c.deref.ensures.value ∙ c.in_ok-starts.ensures) c.in_ok-times.times c.in_ok-times.ensures.starts c.in_ok-times.ensures.ends
