use Rattle.bs_schedule.proofs.Relabel.{whole_schedule}
use Rattle.bs_schedule.proofs.laws.whole_schedule.Goals as goal

pub returns : goal.returns
returns c = whole_schedule
