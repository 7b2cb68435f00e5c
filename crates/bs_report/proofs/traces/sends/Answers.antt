use Rattle.std.proofs.Common.{◌≡◌, ◌∙◌, length, ap, arith}
use Rattle.bs_times.specs.Net.{row_of}
use Rattle.bs_report.proofs.Causes.{few_sends}
use Rattle.bs_report.proofs.traces.sends.Goals as goal

pub overflow_cast-result : goal.overflow_cast-result
overflow_cast-result c =
    let is : length c.as_slice.result.now ≡ length (row_of c.args.log.now c.args.row).sends = ap length (c.as_slice.ensures ∙ ap (λ r. r.sends) c.row_at.ensures) in
    omega (arith, is, few_sends c.args.log.now c.args.row c.requires.valid c.requires.some c.requires.most)

pub returns-clause-few : goal.returns-clause-few
returns-clause-few c =
    let is : length c.as_slice.result.now ≡ length (row_of c.args.log.now c.args.row).sends = ap length (c.as_slice.ensures ∙ ap (λ r. r.sends) c.row_at.ensures) in
    omega (arith, is, few_sends c.args.log.now c.args.row c.requires.valid c.requires.some c.requires.most)
