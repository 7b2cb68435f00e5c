use Rattle.bs_check.proofs.Rows.{then_writes}
use Rattle.bs_check.proofs.uses.note_wait.Goals as goal

pub returns : goal.returns
returns c = then_writes _ _ _ _ _ _ c.note_expr.ensures c.note_params.ensures
