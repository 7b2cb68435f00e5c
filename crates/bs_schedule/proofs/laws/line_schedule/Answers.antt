use Rattle.bs_schedule.proofs.Lines.{line_schedule}
use Rattle.bs_schedule.proofs.laws.line_schedule.Goals as goal

pub returns : goal.returns
returns c = line_schedule
