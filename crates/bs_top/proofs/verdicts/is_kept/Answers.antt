use Rattle.bs_top.proofs.Simulating.{histories_of}
use Rattle.bs_top.proofs.verdicts.is_kept.Goals as goal

pub returns : goal.returns
returns c =
    let p = c.args.accepted.now.program in
    let is = histories_of p c.args._limit c.args.log.now c.requires.log in
    c.logs_are_written.ensures.verdict p c.args._limit is.0 c.args.log.now c.requires.limit.1 c.program-program.ensures.whole c.program-program.ensures.kept is.1 is.2 c.has_words.ensures
