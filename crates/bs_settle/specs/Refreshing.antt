-- Fields whose dirty lines were recomputed, before what they answered is held (docs/model.md).
use Rattle.std.specs.Prelude.{◌≡◌, ◌⊎◌, ℕ, List, Some, slice_get}
use Rattle.bs_log.specs.declared.log.MailRef.{MailRef}
use Rattle.bs_line.specs.declared.corrections.Correction.{Correction}
use Rattle.bs_line.specs.declared.line.Line.{Line}
use Rattle.bs_settle.specs.declared.field.Field.{Field}
use Rattle.bs_settle.specs.Changes.{AreChanges}
use Rattle.bs_settle.specs.Field.{IsSameField, given_of, net_in, ticks_of}
use Rattle.bs_settle.specs.Lines.{AreLines, IsFresh, given_in, held_in}

-- each line was recomputed from the ticks that it holds
abbrev pub AreFresh : Field → Field → Type 0
AreFresh old new = (k : ℕ) (line : Line) → slice_get new.lines.items k ≡ Some line → IsFresh (net_in old) line

-- the ticks that are held are the same, each line is as it was or was recomputed from them, and these are the changes of
-- what is given
pub record IsRefreshing (old new : Field) (list : List Correction) : Type 0 where
  pub same : IsSameField old new
  pub lines : AreLines (net_in old) old.places.items new.lines.items
  pub held : (m : MailRef) → held_in (net_in old) old.places.items new.lines.items m ≡ ticks_of old m
  pub either : (k : ℕ) (line : Line) → slice_get new.lines.items k ≡ Some line → (slice_get old.lines.items k ≡ Some line) ⊎ IsFresh (net_in old) line
  pub changes : AreChanges (net_in old) (given_of old) (given_in (net_in old) old.places.items new.lines.items) list
