use Rattle.std.proofs.Common.{◌≡◌, ℕ, Bool, Result, length, drop}
use Rattle.bs_semantics.specs.Run.{Lookup}
use Rattle.bs_rounds.specs.declared.stop.Stop.{Stop}
use Rattle.bs_log.specs.Messages.{AreFor}
use Rattle.bs_rounds.specs.Posting.{IsPosted, flag, held, sent_by}
use Rattle.bs_rounds.proofs.posting.post_all.Given as goal

abbrev pub invariant-loop-chare : goal.invariant-loop-chare
invariant-loop-chare l = record {
  mails : length l.mails.items ≡ length l.initial.mails.items;
  news : length l.news.items ≡ length l.initial.news.items;
  targets : AreFor (length l.mails.items) (sent_by (drop l.chare l.fresh) (drop l.chare l.histories));
  posted : (r : Result (Unit {0}) Stop) (after : ℕ → Lookup) (new : ℕ → Bool) → IsPosted (sent_by (drop l.chare l.fresh) (drop l.chare l.histories)) (held l.mails.items) (flag l.news.items) r after new → IsPosted (sent_by l.fresh l.histories) (held l.initial.mails.items) (flag l.initial.news.items) r after new;
}
