use Rattle.std.proofs.Common.{◌≡◌, ◌++◌, sym, ap, subst, ◌∙◌}
use Rattle.std.specs.List.Sorted.{IsStrictlySortedBy}
use Rattle.std.specs.Map.{keys_of, values_of}
use Rattle.bs_match.specs.Keyed.{AreKeyed}
use Rattle.bs_log.specs.Messages.{key_cmp}
use Rattle.bs_match.proofs.Finds.{taken_over}
use Rattle.bs_match.proofs.mail.Mail.copy.Goals as goal

pub loop-key-preserved-in_ok-insert : goal.loop-key-preserved-in_ok-insert
loop-key-preserved-in_ok-insert c =
    let h = c.loop-key.invariant in
    let same : c.insert.new.self.entries ++ c.next.new.self ≡ c.loop-key.messages.entries ++ c.loop-key.key-iterator = taken_over c.loop-key.messages.entries c.loop-key.key-iterator c.next.new.self c.insert.new.self.entries c.in-Some.key.now c.in-Some.message.now c.in_ok-message.message c.in-Some.ensures.steps c.in_ok-message.ensures c.in_ok-insert.ensures.entries h.ordered in
    record {
      keyed = subst AreKeyed (sym same) h.keyed;
      ordered = subst (λ es. IsStrictlySortedBy key_cmp (keys_of es)) (sym same) h.ordered;
      all = ap values_of same ∙ h.all;
    }

pub loop-key-preserved : goal.loop-key-preserved
loop-key-preserved c =
    let h = c.loop-key.invariant in
    let same : c.insert.new.self.entries ++ c.next.new.self ≡ c.loop-key.messages.entries ++ c.loop-key.key-iterator = taken_over c.loop-key.messages.entries c.loop-key.key-iterator c.next.new.self c.insert.new.self.entries c.in-Some.key.now c.in-Some.message.now c.in_ok-message.message c.in-Some.ensures.steps c.in_ok-message.ensures c.in_ok-insert.ensures.entries h.ordered in
    record {
      keyed = subst AreKeyed (sym same) h.keyed;
      ordered = subst (λ es. IsStrictlySortedBy key_cmp (keys_of es)) (sym same) h.ordered;
      all = ap values_of same ∙ h.all;
    }
