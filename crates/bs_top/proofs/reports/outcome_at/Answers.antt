use Rattle.bs_top.proofs.reports.outcome_at.Goals as goal

pub outcome-requires-clause-times : goal.outcome-requires-clause-times
outcome-requires-clause-times c =
    let times = c.requires.times in
    record { table = times.table; starts = times.starts; ends = times.ends; in_range = times.in_range }
