use Rattle.std.proofs.Common.{◌≡◌, None, subst, arith}
use Rattle.std.proofs.lemmas.Result.{err_from_is_err_and}
use Rattle.bs_tree.specs.declared.tree.Program.{Program}
use Rattle.bs_check.specs.Refusal.{declarations_rule, IsRefused}
use Rattle.bs_check.proofs.Everything.{every_counted}
use Rattle.bs_check.proofs.Fitting.{fitting}
use Rattle.bs_check.proofs.Verdict.{kept_all, refused_at}
use Rattle.bs_check.proofs.checker.check.Goals as goal

pub check_body-requires-clause-few : goal.check_body-requires-clause-few
check_body-requires-clause-few c =
    let names = c.in_ok-names.names in
    omega (arith, names.is_whole.statements, every_counted names.program.body)

pub returns-in_err-check_body-clause-err : goal.returns-in_err-check_body-clause-err
returns-in_err-check_body-clause-err c =
    let given = err_from_is_err_and c.from_residual-in_err-check_body.result c.from_residual-in_err-check_body.ensures.1 in
    let names = c.in_ok-names.names in
    let ok : declarations_rule names.program ≡ None = rw c.in_ok-names.ensures.program c.in_ok-names.ensures.ok in
    let refused = refused_at names.program c.in_err-check_body.field-0.0 ok c.in_err-check_body.ensures.walked in
    let same = subst (λ (p : Program). IsRefused p c.in_err-check_body.field-0.0) c.in_ok-names.ensures.program refused in
    rw (given.1, given.2) (λ other. same)

pub ends_of-requires : goal.ends_of-requires
ends_of-requires c =
    let names = c.in_ok-names.names in
    omega (arith, names.is_whole.statements, every_counted names.program.body)

pub accept-requires-clause-kept : goal.accept-requires-clause-kept
accept-requires-clause-kept c =
    let names = c.in_ok-names.names in
    let ok : declarations_rule names.program ≡ None = rw c.in_ok-names.ensures.program c.in_ok-names.ensures.ok in
    kept_all names.program c.in_ok-check_body.field-0 ok c.in_ok-check_body.ensures.walked

pub returns-clause-chares : goal.returns-clause-chares
returns-clause-chares c =
    let fits = fitting c.in_ok-names.names.program c.in_ok-names.names.is_within in
    rw c.accept.ensures (fits.least, fits.most)
