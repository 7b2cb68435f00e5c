use Rattle.std.proofs.Common.{arith}
use Rattle.bs_check.proofs.Everything.{inside_overlap, fewer}
use Rattle.bs_check.proofs.Fitting.{fitting}
use Rattle.bs_check.proofs.statements.shares.Goals as goal

pub interference-requires-clause-few_vars : goal.interference-requires-clause-few_vars
interference-requires-clause-few_vars c = let few = (fitting c.args.names.now.program c.args.names.now.is_within).vars in rw c.as_slice.ensures few

pub interference-requires-clause-few_parts : goal.interference-requires-clause-few_parts
interference-requires-clause-few_parts c =
    let few = rw (c.in-Overlap.is, inside_overlap c.in-Overlap.parts) at c.requires.few in
    omega (arith, few, fewer c.in-Overlap.parts)
