use Rattle.std.proofs.Common.{◌≡◌, ◌<◌, ℕ, true}
use Rattle.bs_log.specs.Lists.{Apart}
use Rattle.bs_log.specs.Messages.{one_asked}
use Rattle.bs_log.specs.Histories.{history_at}
use Rattle.bs_rounds.specs.Posting.{flag}
use Rattle.bs_rounds.proofs.asking.ask_once.Given as goal

abbrev pub invariant-loop-chare : goal.invariant-loop-chare
invariant-loop-chare l = (c : ℕ) → c < l.chare → flag l.fresh c ≡ true → Apart one_asked (history_at l.histories c).asked
