use Rattle.bs_check.proofs.Fitness.{all_fit, none_idle}
use Rattle.bs_check.proofs.laws.accepted_programs.Goals as goal

pub returns : goal.returns
returns c = record { fits = all_fit; busy = none_idle }
