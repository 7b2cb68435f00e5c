use Rattle.std.proofs.Common.{◌≡◌, ◌≤◌, List, sym, ap, subst, ◌∙◌}
use Rattle.std.proofs.lemmas.Result.{err_from_is_err_and}
use Rattle.bs_log.specs.declared.history.Message.{Message}
use Rattle.bs_log.specs.Size.{size}
use Rattle.bs_log.specs.Lists.{Apart}
use Rattle.bs_log.specs.Messages.{one_asked}
use Rattle.bs_match.specs.Mail.{lookup, with_message}
use Rattle.bs_semantics.specs.Run.{Lookup}
use Rattle.bs_chare.specs.Chare.{HoldsProper}
use Rattle.bs_chare.specs.Fault.{IsRunFault, history_under}
use Rattle.bs_chare.proofs.Mails.{proper_with, part_with}
use Rattle.bs_chare.proofs.Steps.{told_begun, sent_newly}
use Rattle.bs_chare.proofs.chare.Chare.go_on.Goals as goal

pub run-requires : goal.run-requires
run-requires c =
    let self = c.args.self.now in
    let held : lookup c.put.new.mail ≡ with_message c.args.message (lookup c.in_ok-mail.mail) = c.in_ok-put.ensures.held in
    proper_with self.number (lookup c.in_ok-mail.mail) (lookup c.put.new.mail) c.args.message (subst (λ (ms : List Message). HoldsProper self.number (lookup ms)) (sym c.in_ok-mail.ensures) self.is_proper) c.requires.proper held

pub returns-in_err-history-clause-fault : goal.returns-in_err-history-clause-fault
returns-in_err-history-clause-fault c =
    let self = c.args.self.now in
    let held : lookup c.put.new.mail ≡ with_message c.args.message (lookup self.mail) = c.in_ok-put.ensures.held ∙ ap (λ (ms : List Message). with_message c.args.message (lookup ms)) c.in_ok-mail.ensures in
    let fault : IsRunFault self.limit (history_under self (with_message c.args.message (lookup self.mail))) c.in_err-history.field-0.0 = subst (λ (l : Lookup). IsRunFault self.limit (history_under self l) c.in_err-history.field-0.0) held c.in_err-history.ensures in
    let given = err_from_is_err_and c.from_residual-in_err-history.result c.from_residual-in_err-history.ensures.1 in
    rw (given.1, given.2) fault

pub invariant_of-self : goal.invariant_of-self
invariant_of-self c =
    let self = c.args.self.now in
    let run = c.in_ok-history.ensures in
    let held : lookup c.put.new.mail ≡ with_message c.args.message (lookup c.in_ok-mail.mail) = c.in_ok-put.ensures.held in
    record {
      is_chare = self.is_chare;
      limit_in_range = self.limit_in_range;
      is_proper = proper_with self.number (lookup c.in_ok-mail.mail) (lookup c.put.new.mail) c.args.message (subst (λ (ms : List Message). HoldsProper self.number (lookup ms)) (sym c.in_ok-mail.ensures) self.is_proper) c.requires.proper held;
      is_told = run.same ∙ sym (told_begun self.begun self.accepted.now.program self.limit self.number (lookup c.put.new.mail) c.requires.begun);
      is_small = subst (λ h. size h ≤ self.limit) (sym run.same) run.size;
      asks_once = subst (λ h. Apart one_asked h.asked) (sym run.same) run.asked;
    }

pub returns-clause-news : goal.returns-clause-news
returns-clause-news c =
    let self = c.args.self.now in
    let held : lookup c.put.new.mail ≡ with_message c.args.message (lookup self.mail) = c.in_ok-put.ensures.held ∙ ap (λ (ms : List Message). with_message c.args.message (lookup ms)) c.in_ok-mail.ensures in
    sent_newly self.accepted.now.program self.limit self.number (lookup self.mail) (lookup c.put.new.mail) self.history c.in_ok-history.history c.as_slice-before.result.now c.as_slice.result.now c.in_ok-sent.sent
    (part_with (lookup self.mail) (lookup c.put.new.mail) c.args.message c.requires.free held)
    (self.is_told ∙ told_begun self.begun self.accepted.now.program self.limit self.number (lookup self.mail) c.requires.begun)
    c.in_ok-history.ensures.same c.as_slice-before.ensures c.as_slice.ensures c.in_ok-sent.ensures
