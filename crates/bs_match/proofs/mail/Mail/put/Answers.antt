use Rattle.std.proofs.Common.{refl, sym, ap, subst, ◌∙◌}
use Rattle.std.specs.Option.{is_some}
use Rattle.bs_match.specs.Keyed.{AreKeyed}
use Rattle.bs_match.specs.Mail.{lookup, with_message}
use Rattle.bs_match.proofs.Finds.{finds_none, finds_some, keyed_with, finds_with}
use Rattle.bs_match.proofs.mail.Mail.put.Goals as goal

pub returns-then-contains_key-clause-fault : goal.returns-then-contains_key-clause-fault
returns-then-contains_key-clause-fault c = (refl, ap (λ held. is_some (lookup held c.args.message.sent.key)) (sym c.self.view_is) ∙ finds_some c.self.inside.messages c.args.message.sent.key c.self.invariant (sym c.contains_key.ensures ∙ c.if-contains_key.true))

pub invariant_of-self : goal.invariant_of-self
invariant_of-self c = subst AreKeyed (sym c.in-Ok.ensures.entries) (keyed_with c.self.inside.messages.entries c.args.message c.self.invariant)

pub returns-in-Ok-clause-free : goal.returns-in-Ok-clause-free
returns-in-Ok-clause-free c = ap (λ held. lookup held c.args.message.sent.key) (sym c.self.view_is) ∙ finds_none c.self.inside.messages c.args.message.sent.key c.self.invariant (sym c.contains_key.ensures ∙ c.if-contains_key.false)

pub returns-in-Ok-clause-held : goal.returns-in-Ok-clause-held
returns-in-Ok-clause-held c = finds_with c.self.inside.messages c.insert.new.self c.args.message c.self.invariant (invariant_of-self c) c.in-Ok.ensures.updates ∙ ap (λ held. with_message c.args.message (lookup held)) c.self.view_is

pub returns-clause-fault : goal.returns-clause-fault
returns-clause-fault c = (ap (λ pair. pair.1) c.in-Err.ensures.value_returned, ap (λ held. lookup held c.args.message.sent.key) (sym c.self.view_is) ∙ finds_none c.self.inside.messages c.args.message.sent.key c.self.invariant (sym c.contains_key.ensures ∙ c.if-contains_key.false))
