use Rattle.std.proofs.Common.{◌∙◌, suc, sym}
use Rattle.bs_times.specs.Times.{SameTicks, arrival}
use Rattle.bs_times.proofs.Stays.{waves_stay}
use Rattle.bs_settle.proofs.laws.arrivals_settle.Goals as goal

pub returns : goal.returns
returns c net causal s table estimates same k ticks waves from j e m listed =
    let begin : SameTicks net (ticks 0) (arrival net s) = λ m l. from m l ∙ same m l in
    waves_stay net causal s table ticks waves begin (suc j) m listed ∙ sym (waves_stay net causal s table ticks waves begin j m listed)
