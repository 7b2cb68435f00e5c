use Rattle.std.proofs.Common.{◌∙◌, ap, map, subst, sym}
use Rattle.bs_log.specs.declared.log.Log.{Log}
use Rattle.bs_log.specs.Lists.{Mem}
use Rattle.bs_log.specs.Valid.{IsValid}
use Rattle.bs_times.specs.Net.{net_of}
use Rattle.bs_whatif.specs.Rescaled.{SameMessages, rescaled_row}
use Rattle.bs_whatif.proofs.ValidAgain.{all_cheap, same_messages, valid_again}
use Rattle.bs_whatif.proofs.scaling.rescale.Goals as goal

pub scaled_rows-requires-clause-cheap : goal.scaled_rows-requires-clause-cheap
scaled_rows-requires-clause-cheap c r m = all_cheap c.args.log.now c.requires.valid r (subst (Mem r) c.as_slice.ensures m)

pub returns-clause-valid : goal.returns-clause-valid
returns-clause-valid c =
    let log = c.args.log.now in
    let rows = c.in_ok-rows.ensures ∙ ap (map (rescaled_row c.args.stmt c.args.num c.args.den)) c.as_slice.ensures in
    let is = c.in_ok-copy.ensures ∙ (λ i. record log { rows = rows i }) in
    subst IsValid (sym is) (valid_again log c.args.stmt c.args.num c.args.den c.requires.valid c.requires.fraction)

pub returns-clause-listed : goal.returns-clause-listed
returns-clause-listed c machine =
    let log = c.args.log.now in
    let rows = c.in_ok-rows.ensures ∙ ap (map (rescaled_row c.args.stmt c.args.num c.args.den)) c.as_slice.ensures in
    let is = c.in_ok-copy.ensures ∙ (λ i. record log { rows = rows i }) in
    subst (λ (l : Log). SameMessages (net_of log machine) (net_of l machine)) (sym is) (same_messages log c.args.stmt c.args.num c.args.den machine)
