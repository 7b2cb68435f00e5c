use Rattle.bs_check.proofs.Agreeing.{writes_alike}
use Rattle.bs_check.proofs.Fitness.{spends_alike}
use Rattle.bs_check.proofs.Overlaps.{parts_apart}
use Rattle.bs_check.proofs.laws.names_and_cells.Goals as goal

pub returns : goal.returns
returns c = record { spends = spends_alike; writes = writes_alike; apart = parts_apart }
