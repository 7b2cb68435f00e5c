use Rattle.std.proofs.Common.{refl}
use Rattle.bs_times.proofs.Example.{first_wave, second_wave, third_wave, consistent}
use Rattle.bs_times.proofs.ValidExample.{log_is_valid, machine_is_timely}
use Rattle.bs_times.proofs.laws.worked_example.Goals as goal

pub returns : goal.returns
returns c = record {
  valid = log_is_valid;
  timely = machine_is_timely;
  first = (first_wave, refl, refl, refl);
  second = (second_wave, refl, refl, refl);
  third = (third_wave, refl, refl, refl, consistent);
  budget_is = refl;
}
