use Rattle.std.proofs.Common.{◌≡◌, length, map}
use Rattle.bs_log.specs.declared.log.MailRef.{MailRef}
use Rattle.bs_line.specs.Line.{given_of, held_of}
use Rattle.bs_settle.specs.Field.{AreFieldLines, IsSameField}
use Rattle.bs_settle.proofs.field.Field.begin_anew.Given as goal

abbrev pub invariant-loop-place : goal.invariant-loop-place
invariant-loop-place l =
    AreFieldLines l.self
    × (length l.self.lines.items ≡ length l.fn.self.lines.items)
    × IsSameField l.fn.self l.self
    × ((m : MailRef) → map (λ line. held_of line m) l.self.lines.items ≡ map (λ line. held_of line m) l.fn.self.lines.items)
    × ((m : MailRef) → map (λ line. given_of line m) l.self.lines.items ≡ map (λ line. given_of line m) l.fn.self.lines.items)
