use Rattle.std.proofs.Common.{◌∙◌}
use Rattle.bs_whatif.proofs.Ends.{span_of_times}
use Rattle.bs_whatif.proofs.spans.span_on.Goals as goal

pub returns : goal.returns
returns c =
    let times = c.in_ok-times in
    (times.ensures.table, times.ensures.is_consistent, c.span.ensures ∙ span_of_times c.args.log.now c.args.machine.now times.times times.ensures)
