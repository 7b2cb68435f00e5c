use Rattle.std.proofs.Common.{slice_set, ap, sym, subst, ◌∙◌}
use Rattle.std.proofs.lemmas.Result.{err_from_is_err_and}
use Rattle.bs_match.specs.Mail.{with_message}
use Rattle.bs_model.specs.Mails.{CanPut}
use Rattle.bs_model.proofs.Delivery.{Delivering, delivers_none, in_range, can_put, mail_here, delivers_more}
use Rattle.bs_model.proofs.Denying.{denies_also}
use Rattle.bs_model.proofs.mails.deliver.Goals as goal

pub loop-message-init : goal.loop-message-init
loop-message-init c = subst (λ heard. Delivering c.args.limit c.args.mails.now c.args.messages.items c.args.mails.now heard c.args.messages.items) (sym c.new-heard.ensures.empty) (delivers_none c.args.limit c.args.mails.now c.args.messages.items c.requires)

pub bounds-mails-to : goal.bounds-mails-to
bounds-mails-to c =
    let d = subst (λ rest. Delivering c.args.limit c.args.mails.now c.args.messages.items c.loop-message.mails c.loop-message.heard.keys rest) c.in-Some.ensures.items c.loop-message.invariant in
    in_range c.args.limit c.args.mails.now c.args.messages.items c.loop-message.mails c.loop-message.heard.keys _ c.in-Some.message d

pub returns-in_err-put-clause-stopped : goal.returns-in_err-put-clause-stopped
returns-in_err-put-clause-stopped c =
    let d = subst (λ rest. Delivering c.args.limit c.args.mails.now c.args.messages.items c.loop-message.mails c.loop-message.heard.keys rest) c.in-Some.ensures.items c.loop-message.invariant in
    let m = c.in-Some.message in
    let mails = c.loop-message.mails in
    let l = in_range c.args.limit c.args.mails.now c.args.messages.items mails c.loop-message.heard.keys _ m d in
    let same = mail_here mails m.sent.to c.index-mails-to.result l in
    let given = err_from_is_err_and c.from_residual-in_err-put.result c.from_residual-in_err-put.ensures.1 in
    rw (given.1, given.2) (denies_also _ _ (λ h. subst (CanPut c.args.limit m) same (can_put c.args.limit c.args.mails.now c.args.messages.items mails c.loop-message.heard.keys _ m d h)) c.in_err-put.field-0.0 c.in_err-put.ensures.stopped)

pub loop-message-preserved : goal.loop-message-preserved
loop-message-preserved c =
    let d = subst (λ rest. Delivering c.args.limit c.args.mails.now c.args.messages.items c.loop-message.mails c.loop-message.heard.keys rest) c.in-Some.ensures.items c.loop-message.invariant in
    let m = c.in-Some.message in
    let mails = c.loop-message.mails in
    let l = in_range c.args.limit c.args.mails.now c.args.messages.items mails c.loop-message.heard.keys _ m d in
    let same = sym (mail_here mails m.sent.to c.index-mails-to.result l) in
    subst (λ heard. Delivering c.args.limit c.args.mails.now c.args.messages.items (slice_set mails m.sent.to c.put.new.mail) heard c.pop.new.self.items) (sym c.in_ok-list.ensures)
    (delivers_more c.args.limit c.args.mails.now c.args.messages.items mails c.loop-message.heard.keys _ m d c.put.new.mail (c.in_ok-put.ensures.held ∙ ap (with_message m) same) (subst (CanPut c.args.limit m) same c.in_ok-put.ensures.given))
