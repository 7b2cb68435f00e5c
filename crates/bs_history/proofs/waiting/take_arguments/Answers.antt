use Rattle.std.proofs.Common.{◌≡◌, ◌<◌, true, length, map, arith, sym, subst, ◌∙◌}
use Rattle.bs_check.specs.Known.{all_true, is_scalar}
use Rattle.bs_check.specs.Fits.{is_wait_fit}
use Rattle.bs_history.proofs.Waits.{each_at, params_fit, mail_end}
use Rattle.bs_history.proofs.waiting.take_arguments.Goals as goal

pub take_values-requires-clause-fits : goal.take_values-requires-clause-fits
take_values-requires-clause-fits c =
    let p = c.args.accepted.now.program in
    let a = c.loop-at-test.true in
    let m = c.min-at-end.ensures in
    let l : c.loop-at.at < length c.args.waits.now = omega (arith, a, m) in
    let w = subst (λ w. is_wait_fit p w ≡ true) (sym c.index-waits-at.is) (each_at (is_wait_fit p) c.args.waits.now c.loop-at.at c.index-waits-at.result l c.requires.fits) in
    subst (λ xs. all_true (map (is_scalar p) xs) ≡ true) (sym c.as_slice.ensures) (params_fit p c.index-waits-at.result w)

pub returns-clause-taken : goal.returns-clause-taken
returns-clause-taken c =
    let a = c.loop-at-test.false in
    let m = c.min-at-end.ensures in
    let inv = c.loop-at.invariant in
    let e = mail_end c.args.accepted.now.program c.loop-at.env.cells c.args.waits.now c.args.messages.now c.loop-at.at (omega (arith, a, m)) in
    λ i. record { this = inv.this i; cells = (sym e ∙ inv.left) i }
