use Rattle.std.proofs.Common.{◌≡◌, ◌++◌}
use Rattle.std.specs.List.Sorted.{IsStrictlySortedBy}
use Rattle.std.specs.Map.{keys_of, values_of}
use Rattle.bs_match.specs.Keyed.{AreKeyed}
use Rattle.bs_log.specs.Messages.{key_cmp}
use Rattle.bs_match.proofs.mail.Mail.copy.Given as goal

abbrev pub invariant-loop-key : goal.invariant-loop-key
invariant-loop-key l = record {
  keyed : AreKeyed (l.messages.entries ++ l.key-iterator);
  ordered : IsStrictlySortedBy key_cmp (keys_of (l.messages.entries ++ l.key-iterator));
  all : values_of (l.messages.entries ++ l.key-iterator) ≡ l.self;
}
