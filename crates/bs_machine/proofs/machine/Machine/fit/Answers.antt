use Rattle.bs_machine.proofs.Bounds.{has_bounds}
use Rattle.bs_machine.proofs.machine.Machine.fit.Goals as goal

pub returns-clause-bounds : goal.returns-clause-bounds
returns-clause-bounds c = has_bounds _
