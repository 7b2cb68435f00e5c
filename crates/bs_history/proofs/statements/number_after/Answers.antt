use Rattle.std.proofs.Common.{[], arith}
use Rattle.bs_check.proofs.Standing.{end_found, is_number, one_at_least}
use Rattle.bs_history.specs.Ground.{program_of}
use Rattle.bs_history.proofs.statements.number_after.Goals as goal

pub after-requires : goal.after-requires
after-requires c = is_number (program_of c.args.ground.now) c.args.number c.args._stmt.now [] c.requires

pub returns : goal.returns
returns c =
    let value = end_found (program_of c.args.ground.now) c.args.number c.args._stmt.now [] c.requires c.after.result c.after.ensures in
    let one = one_at_least c.args._stmt.now in
    record { value = value; rises = omega (arith, value, one); stands = c.requires }
