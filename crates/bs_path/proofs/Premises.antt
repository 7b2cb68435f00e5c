-- What the laws of times want is so of a valid log on a fitted machine.
use Rattle.bs_log.specs.declared.log.Log.{Log}
use Rattle.bs_log.specs.Valid.{IsValid}
use Rattle.bs_machine.specs.declared.fitted.Fitted.{Fitted}
use Rattle.bs_rows.specs.Rows.{net_on}
use Rattle.bs_times.specs.Machine.{machine_of}
use Rattle.bs_times.specs.Net.{Causal}
use Rattle.bs_times.proofs.Causal.{causal_net, fitted_is_timely}

pub causal : (log : Log) (m : Fitted) → IsValid log → Causal (net_on log m)
causal log m v = causal_net log (machine_of m) v (fitted_is_timely m)
