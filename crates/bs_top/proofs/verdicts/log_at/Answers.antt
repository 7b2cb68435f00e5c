use Rattle.std.proofs.Common.{subst}
use Rattle.bs_emul.specs.Emulated.{IsEmulated}
use Rattle.bs_log.specs.declared.log.Log.{Log}
use Rattle.bs_top.proofs.Simulating.{is_judged, is_logged, never_clean_at, no_log_told, unclean_told}
use Rattle.bs_top.proofs.verdicts.log_at.Goals as goal

pub unclean-requires-clause-unclean : goal.unclean-requires-clause-unclean
unclean-requires-clause-unclean c =
    let p = c.args.accepted.now.program in
    never_clean_at p c.args.limit (subst (IsEmulated p c.args.limit) c.in-Unclean.is c.in_ok-log.ensures)

pub is_kept-requires-clause-log : goal.is_kept-requires-clause-log
is_kept-requires-clause-log c =
    let p = c.args.accepted.now.program in
    is_logged p c.args.limit c.in-Logged.log (subst (IsEmulated p c.args.limit) c.in-Logged.is c.in_ok-log.ensures)

pub returns-in-Logged-clause-told : goal.returns-in-Logged-clause-told
returns-in-Logged-clause-told c =
    let p = c.args.accepted.now.program in
    is_logged p c.args.limit c.in-Logged.log (subst (IsEmulated p c.args.limit) c.in-Logged.is c.in_ok-log.ensures)

pub returns-in-Unclean-clause-told : goal.returns-in-Unclean-clause-told
returns-in-Unclean-clause-told c = no_log_told c.args.accepted.now.program c.args.limit c.unclean.result c.unclean.ensures.cause

pub returns-in-Logged-clause-judged : goal.returns-in-Logged-clause-judged
returns-in-Logged-clause-judged c =
    let p = c.args.accepted.now.program in
    is_judged p c.args.limit c.in-Logged.log (subst (IsEmulated p c.args.limit) c.in-Logged.is c.in_ok-log.ensures)

pub returns-in-Unclean-clause-judged : goal.returns-in-Unclean-clause-judged
returns-in-Unclean-clause-judged c = unclean_told c.args.accepted.now.program c.args.limit (λ (l : Log). tt) c.unclean.result c.unclean.ensures.cause
