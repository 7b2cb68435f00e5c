use Rattle.bs_check.proofs.Rows.{nothing_yet, behind_next, flagged_start}
use Rattle.bs_check.proofs.touches.Touches.start.Goals as goal

pub returns-clause-behind : goal.returns-clause-behind
returns-clause-behind c = behind_next c.args.self.now c.args.overlap c.requires

pub returns-clause-nothing : goal.returns-clause-nothing
returns-clause-nothing c name = nothing_yet c.args.self.now c.args.overlap name c.requires

pub returns-clause-flagged : goal.returns-clause-flagged
returns-clause-flagged c = flagged_start _ (λ name. nothing_yet c.args.self.now c.args.overlap name c.requires)
