-- Lines that hold other ticks than before (docs/model.md).
use Rattle.std.specs.Prelude.{◌≡◌, ℕ, map}
use Rattle.bs_log.specs.declared.log.MailRef.{MailRef}
use Rattle.bs_line.specs.Line.{given_of, starts_of, used_of}
use Rattle.bs_settle.specs.declared.field.Field.{Field}
use Rattle.bs_settle.specs.Field.{AreFieldLines, IsSameField}

-- what the lines used, gave and started is as before
pub record IsHolding (old new : Field) : Type 0 where
  pub same : IsSameField old new
  pub lines : AreFieldLines new
  pub used : (m : MailRef) → map (λ line. used_of line m) new.lines.items ≡ map (λ line. used_of line m) old.lines.items
  pub given : (m : MailRef) → map (λ line. given_of line m) new.lines.items ≡ map (λ line. given_of line m) old.lines.items
  pub starts : (i : ℕ) → map (λ line. starts_of line i) new.lines.items ≡ map (λ line. starts_of line i) old.lines.items
  pub begun : map (λ line. line.begun) new.lines.items ≡ map (λ line. line.begun) old.lines.items
