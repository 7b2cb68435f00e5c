use Rattle.bs_semantics.proofs.laws.confluence.Goals as goal
use Rattle.bs_semantics.proofs.Confluence.{clean_closed, closed_clean, closed_only}

pub returns : goal.returns
returns c = record { clean = clean_closed; closed = closed_clean; only = closed_only }
