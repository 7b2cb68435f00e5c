use Rattle.std.proofs.Common.{◌≡◌, ℕ, length, slice_get}
use Rattle.bs_log.specs.Size.{size_all}
use Rattle.bs_model.specs.But.{HoldsBut}
use Rattle.bs_model.specs.Mails.{history_at}
use Rattle.bs_model.proofs.Sizing.{AreLow}
use Rattle.bs_model.proofs.mails.renew.Given as goal

abbrev pub invariant-loop-chare : goal.invariant-loop-chare
invariant-loop-chare l = record {
  count : length l.histories ≡ length l.mails;
  histories : HoldsBut l.chare-iterator (length l.mails) (λ (c : ℕ). slice_get l.histories c ≡ history_at l.accepted.program l.limit l.mails c);
  together : l.together ≡ size_all l.histories;
  low : AreLow l.histories;
}
