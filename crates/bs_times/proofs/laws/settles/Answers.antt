use Rattle.bs_times.proofs.Settles.{some_settles, one_settles, stays_still}
use Rattle.bs_times.proofs.laws.settles.Goals as goal

pub returns : goal.returns
returns c = record { some = some_settles; one = one_settles; stays = stays_still }
