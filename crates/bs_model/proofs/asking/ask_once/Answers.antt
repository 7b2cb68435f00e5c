use Rattle.std.proofs.Common.{sym, subst, arith}
use Rattle.std.proofs.lemmas.Result.{err_from_is_err_and}
use Rattle.bs_rounds.proofs.Items.{next_item, none_left}
use Rattle.bs_log.specs.Lists.{Apart}
use Rattle.bs_log.specs.Messages.{one_asked}
use Rattle.bs_model.specs.Asking.{AskOnce}
use Rattle.bs_model.proofs.Denying.{denies_also}
use Rattle.bs_model.proofs.asking.ask_once.Goals as goal

pub returns-in_err-are_apart-clause-stopped : goal.returns-in_err-are_apart-clause-stopped
returns-in_err-are_apart-clause-stopped c =
    let l = c.loop-history in
    let next = next_item c.args.histories.now l.history-index c.history-item.result c.loop-history-test.true c.history-item.is in
    let given = err_from_is_err_and c.from_residual.result c.from_residual.ensures.1 in
    rw (given.1, given.2) (denies_also _ _ (λ h. subst (Apart one_asked) (sym c.as_slice.ensures) (subst AskOnce next (l.invariant.rest h)).0) c.in_err-are_apart.field-0.0 c.in_err-are_apart.ensures.stopped)

pub loop-history-preserved : goal.loop-history-preserved
loop-history-preserved c =
    let l = c.loop-history in
    let next = next_item c.args.histories.now l.history-index c.history-item.result c.loop-history-test.true c.history-item.is in
    let asked = subst (Apart one_asked) c.as_slice.ensures c.in_ok-are_apart.ensures.apart in
    record {
      whole = λ h. l.invariant.whole (subst AskOnce (sym next) (asked, h));
      rest = λ h. (subst AskOnce next (l.invariant.rest h)).1;
    }

pub returns-clause-once : goal.returns-clause-once
returns-clause-once c =
    let l = c.loop-history in
    let none = none_left c.args.histories.now l.history-index (omega (arith, c.loop-history-test.false)) in
    l.invariant.whole (subst AskOnce (sym none) tt)
