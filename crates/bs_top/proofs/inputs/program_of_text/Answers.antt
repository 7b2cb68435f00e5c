use Rattle.bs_top.specs.Inputs.{program_in}
use Rattle.bs_top.specs.Step.{Told}
use Rattle.bs_top.specs.Stopped.{stopped_for_program}
use Rattle.bs_top.proofs.Simulating.{bad_program, itself}
use Rattle.bs_top.proofs.Wholes.{is_whole}
use Rattle.bs_top.proofs.Stages.{at_stop}
use Rattle.bs_top.proofs.inputs.program_of_text.Goals as goal

pub returns-in_err-parse-clause-told : goal.returns-in_err-parse-clause-told
returns-in_err-parse-clause-told c =
    at_stop (Told itself (program_in c.args.text.now)) (stopped_for_program c.in_err-parse.field-0.0) c.from_residual.result c.from_residual.ensures.1
    (bad_program c.args.text.now c.in_err-parse.field-0.0 c.in_err-parse.ensures.err)

pub returns-clause-told : goal.returns-clause-told
unfolding program_in
returns-clause-told c = c.in_ok-parse.ensures.ok

pub returns-clause-whole : goal.returns-clause-whole
returns-clause-whole c =
    let p = c.in_ok-parse.field-0 in
    let spells = c.in_ok-parse.ensures.ok in
    is_whole p (c.spelled_programs.ensures.statements c.args.text.now p spells) (λ n in'. c.spelled_programs.ensures.known c.args.text.now p n spells in')
