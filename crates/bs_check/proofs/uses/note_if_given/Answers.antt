use Rattle.std.proofs.Common.{refl}
use Rattle.bs_check.proofs.Rows.{noted_none, noted_as}
use Rattle.bs_check.proofs.uses.note_if_given.Goals as goal

pub returns-in_default : goal.returns-in_default
returns-in_default c = noted_as _ _ _ _ _ _ (noted_none c.args.touches.now) (λ n. rw c.in_default.is refl) (λ n. refl)
