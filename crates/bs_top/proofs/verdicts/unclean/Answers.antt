use Rattle.bs_top.proofs.Simulating.{named_too_long, named_twice}
use Rattle.bs_top.proofs.verdicts.unclean.Goals as goal

pub returns-in-Ok-Ambiguous-clause-cause : goal.returns-in-Ok-Ambiguous-clause-cause
returns-in-Ok-Ambiguous-clause-cause c =
    named_twice c.args.accepted.now.program c.args.limit c.in-Ok-Ambiguous.twice (rw c.in-Ok-Ambiguous.field-0-is at c.in-Ok-Ambiguous.ensures)

pub returns-in-Ok-TooLong-clause-cause : goal.returns-in-Ok-TooLong-clause-cause
returns-in-Ok-TooLong-clause-cause c =
    named_too_long c.args.accepted.now.program c.args.limit (rw c.in-Ok-TooLong.field-0-is at c.in-Ok-TooLong.ensures)
