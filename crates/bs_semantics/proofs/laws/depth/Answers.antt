use Rattle.bs_semantics.proofs.laws.depth.Goals as goal
use Rattle.bs_semantics.proofs.Depth.{statement_deep}

pub returns : goal.returns
returns c p limit this st d a b w near n path s =
    let h = statement_deep d a b w near p limit this n path st s in
    record { blocks = h.blocks; end = h.end }
