use Rattle.bs_times.proofs.SomeRun.{some_run}
use Rattle.bs_times.proofs.laws.some_run.Goals as goal

pub returns : goal.returns
returns c = some_run
