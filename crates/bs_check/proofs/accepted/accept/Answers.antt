use Rattle.bs_check.proofs.Fitting.{fitting}
use Rattle.bs_check.proofs.accepted.accept.Goals as goal

pub invariant_of-result-clause-has_chares : goal.invariant_of-result-clause-has_chares
invariant_of-result-clause-has_chares c =
    let fits = fitting c.args.names.program c.args.names.is_within in
    (fits.least, fits.most)
