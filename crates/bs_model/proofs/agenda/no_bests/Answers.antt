use Rattle.std.proofs.Common.{◌∙◌, arith}
use Rattle.bs_model.proofs.agenda.no_bests.Goals as goal

pub returns : goal.returns
returns c =
    let end = c.loop-chare-test.false in
    let most = c.loop-chare.auto._chare-end in
    (c.loop-chare.invariant.count ∙ omega (arith, end, most), λ d l. c.loop-chare.invariant.each d (omega (arith, l, end)))
