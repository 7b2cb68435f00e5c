use Rattle.std.proofs.Common.{◌≡◌, ℕ, Bool, Result, length, drop}
use Rattle.bs_semantics.specs.Run.{Lookup}
use Rattle.bs_rounds.specs.declared.stop.Stop.{Stop}
use Rattle.bs_log.specs.Messages.{AreFor}
use Rattle.bs_rounds.specs.Posting.{IsPosted, flag, held}
use Rattle.bs_rounds.proofs.posting.post_messages.Given as goal

abbrev pub invariant-loop-message : goal.invariant-loop-message
invariant-loop-message l = record {
  mails : length l.mails.items ≡ length l.initial.mails.items;
  news : length l.news.items ≡ length l.initial.news.items;
  targets : AreFor (length l.mails.items) (drop l.message-index l.messages);
  posted : (r : Result (Unit {0}) Stop) (after : ℕ → Lookup) (new : ℕ → Bool) → IsPosted (drop l.message-index l.messages) (held l.mails.items) (flag l.news.items) r after new → IsPosted l.messages (held l.initial.mails.items) (flag l.initial.news.items) r after new;
}
