use Rattle.std.proofs.Common.{◌∙◌, sym}
use Rattle.bs_check.proofs.Rows.{unshared}
use Rattle.bs_check.proofs.interference.first_shared.Goals as goal

pub returns-then-not-may_clash : goal.returns-then-not-may_clash
returns-then-not-may_clash c = sym (unshared c.args.touches.now c.requires.flagged (sym c.may_clash.ensures ∙ c.if-not-may_clash.true) 0 c.args.vars.now)
