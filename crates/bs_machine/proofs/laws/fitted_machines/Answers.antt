use Rattle.bs_machine.proofs.SomeFitted.{fitted_file, fitted_flat}
use Rattle.bs_machine.proofs.laws.fitted_machines.Goals as goal

pub returns-clause-file : goal.returns-clause-file
returns-clause-file c = fitted_file

pub returns-clause-flat : goal.returns-clause-flat
returns-clause-flat c = fitted_flat
