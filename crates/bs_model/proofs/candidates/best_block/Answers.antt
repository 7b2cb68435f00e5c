use Rattle.std.proofs.Common.{◌+◌, refl, sym, subst, arith}
use Rattle.std.proofs.lemmas.Option.{slice_get_read}
use Rattle.bs_model.specs.Ready.{candidate_in}
use Rattle.bs_model.proofs.Choices.{BestBelow, best_more, best_whole}
use Rattle.bs_model.proofs.candidates.best_block.Goals as goal

pub loop-at-preserved : goal.loop-at-preserved
loop-at-preserved c =
    let f = candidate_in c.args.machine.now c.args.book.now c.args.chare in
    let xs = c.args.blocks.now in
    let k = c.loop-at.at in
    subst (λ best. BestBelow f xs (k + 1) best) (sym c.better-best.ensures)
    (best_more f xs k c.index-blocks-at.result (slice_get_read xs _ k _ refl c.loop-at-test.true c.index-blocks-at.is) c.loop-at.best c.in_ok-ready.ready (sym c.in_ok-ready.ensures) c.loop-at.invariant)

pub returns : goal.returns
returns c = best_whole _ _ c.loop-at.at c.loop-at.best (omega (arith, c.loop-at-test.false)) c.loop-at.invariant
