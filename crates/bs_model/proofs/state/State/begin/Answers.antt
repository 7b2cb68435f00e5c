use Rattle.std.proofs.Common.{◌<◌, ◌≤◌, ◌≡◌, ◌+◌, ℕ, [], List, Option, Some, get_or, sym, ap, subst, ◌∙◌, arith}
use Rattle.std.proofs.lemmas.Result.{err_from_is_err_and}
use Rattle.bs_log.specs.Size.{size, size_all}
use Rattle.bs_log.specs.declared.history.Message.{Message}
use Rattle.bs_log.specs.declared.history.History.{History}
use Rattle.bs_match.specs.Mail.{lookup}
use Rattle.bs_semantics.specs.Run.{history}
use Rattle.bs_model.specs.declared.candidates.Best.{Best}
use Rattle.bs_model.specs.Next.{IsBest, best_among}
use Rattle.bs_model.specs.Ready.{candidate_in}
use Rattle.bs_model.proofs.Beginning.{first_short, first_together, follows_none}
use Rattle.bs_model.proofs.Denying.{denies_also}
use Rattle.bs_model.proofs.Pushing.{Pushed, pushed_more}
use Rattle.bs_model.proofs.Renewal.{Renewing, renews_set}
use Rattle.bs_model.proofs.Sizing.{size_push}
use Rattle.bs_model.proofs.state.State.begin.Goals as goal

pub returns-in_err-history-clause-stopped : goal.returns-in_err-history-clause-stopped
returns-in_err-history-clause-stopped c =
    let p = c.args.accepted.now.program in
    let limit = c.args.limit in
    let k = c.loop-chare.chare in
    let lt : k < p.chares = omega (arith, c.loop-chare-test.true, c.chares-chares.ensures) in
    let given = err_from_is_err_and c.from_residual-in_err-history.result c.from_residual-in_err-history.ensures.1 in
    rw (given.1, given.2)
    (denies_also _ _ (λ h. subst (λ (mail : List Message). size (history p limit k (lookup mail)) ≤ limit) (sym c.new-mail.ensures) (first_short p limit h.0 h.1 k lt)) c.in_err-history.field-0.0 c.in_err-history.ensures.stopped)

pub loop-chare-preserved : goal.loop-chare-preserved
loop-chare-preserved c =
    let p = c.args.accepted.now.program in
    let limit = c.args.limit in
    let m = c.args.machine.now in
    let book = c.new-book.result in
    let k = c.loop-chare.chare in
    let history_is = c.in_ok-history.ensures.taken ∙ ap (λ (mail : List Message). history p limit k (lookup mail)) c.new-mail.ensures in
    let P = λ (c' : ℕ) (o : Option (List Message)). o ≡ Some [] in
    let Q = λ (c' : ℕ) (o : Option History). o ≡ Some (history p limit c' (lookup [])) in
    let R = λ (c' : ℕ) (o : Option (Option Best)). best_among m book c' (Some (history p limit c' (lookup []))) o in
    let lt : k < m.chares = omega (arith, c.loop-chare-test.true, c.chares-chares.ensures, c.requires.chares) in
    let pushed = ap size_all c.in_ok-push.ensures in
    let both = size_push c.loop-chare.histories.items c.in_ok-history.history in
    let short = c.in_ok-history.ensures.short in
    record {
      mails = subst (λ xs. Pushed P (k + 1) xs) (sym c.in_ok-push-2.ensures) (pushed_more P k c.loop-chare.mails.items c.new-mail.result c.loop-chare.invariant.mails (ap (λ mail. Some mail) c.new-mail.ensures));
      histories = subst (λ xs. Pushed Q (k + 1) xs) (sym c.in_ok-push.ensures) (pushed_more Q k c.loop-chare.histories.items c.in_ok-history.history c.loop-chare.invariant.histories (ap (λ h. Some h) history_is));
      size = omega (arith, pushed, both, c.size-size.ensures, short, c.requires.limit, c.loop-chare.invariant.size);
      bound = omega (arith, c.size-size.ensures, short, c.requires.limit, c.loop-chare.invariant.bound);
      bests = subst (λ xs. Renewing R m.chares (k + 1) xs) (sym c.in_ok-best_at.ensures.bests) (renews_set R m.chares k c.loop-chare.agenda.bests.items c.in_ok-best.best lt c.loop-chare.invariant.bests
          (subst (λ blocks. IsBest (candidate_in m book k) blocks c.in_ok-best.best) (c.as_slice.ensures ∙ ap (λ (h : History). h.blocks) history_is) c.in_ok-best.ensures));
      free = λ q. ap (λ (xs : List ℕ). get_or xs q 0) c.in_ok-best_at.ensures.ends ∙ c.loop-chare.invariant.free q;
      agenda = c.in_ok-best_at.ensures.agenda;
    }

pub returns-then-size-limit-clause-stopped : goal.returns-then-size-limit-clause-stopped
returns-then-size-limit-clause-stopped c h =
    let p = c.args.accepted.now.program in
    let limit = c.args.limit in
    let all : c.loop-chare.chare ≡ p.chares = omega (arith, c.loop-chare-test.false, c.loop-chare.auto.chare-end, c.chares-chares.ensures) in
    let Q = λ (c' : ℕ) (o : Option History). o ≡ Some (history p limit c' (lookup [])) in
    let low = first_together p limit h.0 h.1 c.loop-chare.histories.items (subst (λ k. Pushed Q k c.loop-chare.histories.items) all c.loop-chare.invariant.histories) in
    omega (arith, low, c.loop-chare.invariant.size, c.if-size-limit.true)

pub returns-clause-begun : goal.returns-clause-begun
returns-clause-begun c =
    let p = c.args.accepted.now.program in
    let limit = c.args.limit in
    let m = c.args.machine.now in
    let book = c.new-book.result in
    let all : c.loop-chare.chare ≡ p.chares = omega (arith, c.loop-chare-test.false, c.loop-chare.auto.chare-end, c.chares-chares.ensures) in
    let P = λ (c' : ℕ) (o : Option (List Message)). o ≡ Some [] in
    let Q = λ (c' : ℕ) (o : Option History). o ≡ Some (history p limit c' (lookup [])) in
    let R = λ (c' : ℕ) (o : Option (Option Best)). best_among m book c' (Some (history p limit c' (lookup []))) o in
    follows_none p limit m _ c.new-book.ensures c.loop-chare.invariant.agenda c.loop-chare.invariant.free
    (subst (λ k. Pushed P k c.loop-chare.mails.items) all c.loop-chare.invariant.mails)
    (subst (λ k. Pushed Q k c.loop-chare.histories.items) all c.loop-chare.invariant.histories)
    c.requires.chares (λ d l. c.loop-chare.invariant.bests.done d (subst (λ k. d < k) (sym all) l)) (record { is = c.loop-chare.invariant.size; most = omega (arith, c.if-size-limit.false) })
