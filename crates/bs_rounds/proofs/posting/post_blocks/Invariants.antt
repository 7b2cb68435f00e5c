use Rattle.std.proofs.Common.{◌≡◌, ℕ, Bool, Result, length, drop}
use Rattle.bs_semantics.specs.Run.{Lookup}
use Rattle.bs_log.specs.Messages.{sends_of, AreFor}
use Rattle.bs_rounds.specs.declared.stop.Stop.{Stop}
use Rattle.bs_rounds.specs.Posting.{IsPosted, flag, held}
use Rattle.bs_rounds.proofs.posting.post_blocks.Given as goal

abbrev pub invariant-loop-block : goal.invariant-loop-block
invariant-loop-block l = record {
  mails : length l.mails.items ≡ length l.initial.mails.items;
  news : length l.news.items ≡ length l.initial.news.items;
  targets : AreFor (length l.mails.items) (sends_of (drop l.block-index l.blocks));
  posted : (r : Result (Unit {0}) Stop) (after : ℕ → Lookup) (new : ℕ → Bool) → IsPosted (sends_of (drop l.block-index l.blocks)) (held l.mails.items) (flag l.news.items) r after new → IsPosted (sends_of l.blocks) (held l.initial.mails.items) (flag l.initial.news.items) r after new;
}
