use Rattle.std.proofs.Common.{◌≡◌, ◌∙◌, ◌<◌, true, sym, ap, subst, length, arith}
use Rattle.std.proofs.lemmas.List.{get_or_default}
use Rattle.std.proofs.lemmas.Result.{err_from_is_err_and}
use Rattle.bs_log.specs.declared.history.Asked.{Asked}
use Rattle.bs_log.specs.Lists.{Apart}
use Rattle.bs_log.specs.Messages.{one_asked}
use Rattle.bs_log.specs.Histories.{no_history, history_at}
use Rattle.bs_rounds.specs.Posting.{flag}
use Rattle.bs_rounds.proofs.Items.{false_is}
use Rattle.bs_rounds.proofs.Asked.{one_more, asks_twice}
use Rattle.bs_rounds.proofs.asking.ask_once.Goals.{then-fresh-chare+in_ok-are_apart, else-fresh-chare}
use Rattle.bs_rounds.proofs.asking.ask_once.Goals as goal

pub returns-in_err-are_apart : goal.returns-in_err-are_apart
returns-in_err-are_apart c =
    let l = c.loop-chare in
    let given = err_from_is_err_and c.from_residual.result c.from_residual.ensures.1 in
    let same = c.index-histories-chare.is ∙ get_or_default c.args.histories.now l.chare c.index-histories-chare.result no_history c.loop-chare-test.true in
    rw (given.1, given.2) (asks_twice c.args.fresh.now c.args.histories.now l.chare c.as_slice.result.now c.loop-chare-test.true (c.as_slice.ensures ∙ ap (λ h. h.asked) same) c.in_err-are_apart.field-0.0 c.in_err-are_apart.ensures)

pub loop-chare-preserved : goal.loop-chare-preserved
loop-chare-preserved c =
    let l = c.loop-chare in
    let P = λ (k : _). flag c.args.fresh.now k ≡ true → Apart one_asked (history_at c.args.histories.now k).asked in
    let same = c.index-histories-chare.is ∙ get_or_default c.args.histories.now l.chare c.index-histories-chare.result no_history c.loop-chare-test.true in
    elim c.if-fresh-chare.branch [
      | then-fresh-chare+in_ok-are_apart w ↦ one_more P l.chare l.invariant (λ t. subst (Apart one_asked) (w.as_slice.ensures ∙ ap (λ h. h.asked) same) w.in_ok-are_apart.ensures)
      | else-fresh-chare w ↦ one_more P l.chare l.invariant (λ t. absurd (false_is (flag c.args.fresh.now l.chare) w.if-fresh-chare.false t))
    ]

pub returns : goal.returns
returns c k w = c.loop-chare.invariant k (omega (arith, w, c.loop-chare-test.false))
