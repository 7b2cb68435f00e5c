-- Lines that were recomputed, and what they answered (docs/model.md).
use Rattle.std.specs.Prelude.{◌≡◌, ◌≢◌, ◌≤◌, ◌<◌, ℕ, List, Some, map, length, slice_get}
use Rattle.bs_log.specs.declared.log.MailRef.{MailRef}
use Rattle.bs_log.specs.Lists.{Mem}
use Rattle.bs_times.specs.Net.{Net}
use Rattle.bs_line.specs.declared.corrections.Correction.{Correction}
use Rattle.bs_line.specs.declared.line.Line.{Line}
use Rattle.bs_line.specs.Line.{given_of, held_of}
use Rattle.bs_line.specs.Layout.{GoesFrom}
use Rattle.bs_settle.specs.Changes.{HasChange}
use Rattle.bs_settle.specs.Lines.{IsFresh, IsLineOf}

-- what a line gives for a message isn't what it gave, and the correction says so
pub record IsLineChange (net : Net) (old new : Line) (c : Correction) : Type 0 where
  pub goes : GoesFrom net old.processor c.mail
  pub to : c.to ≡ net.goes_to c.mail
  pub was : c.was.0 ≡ given_of old c.mail
  pub tick : c.tick.0 ≡ given_of new c.mail
  pub differs : given_of old c.mail ≢ given_of new c.mail

-- the line was recomputed where it was dirty, from what it holds, and these are the changes
pub record IsRefreshed (net : Net) (old new : Line) (list : List Correction) : Type 0 where
  pub line : IsLineOf net new
  pub fresh : IsFresh net new
  pub processor : new.processor ≡ old.processor
  pub held : (m : MailRef) → held_of new m ≡ held_of old m
  pub sound : (c : Correction) → Mem c list → IsLineChange net old new c
  pub all : (m : MailRef) → GoesFrom net old.processor m → given_of old m ≢ given_of new m → HasChange list m

-- the first n lines were refreshed, and these are the changes of all of them; the others are as they were
pub record AreRefreshed (net : Net) (n : ℕ) (old new : List Line) (list : List Correction) : Type 0 where
  pub length : length new ≡ length old
  pub line : (k : ℕ) (a b : Line) → slice_get old k ≡ Some a → slice_get new k ≡ Some b → k < n → IsLineOf net b × IsFresh net b
  pub rest : (k : ℕ) → n ≤ k → slice_get new k ≡ slice_get old k
  pub processors : map (λ line. line.processor) new ≡ map (λ line. line.processor) old
  pub held : (m : MailRef) → map (λ line. held_of line m) new ≡ map (λ line. held_of line m) old
  pub sound : (c : Correction) → Mem c list → (k : ℕ) × (a b : Line) × (k < n) × (slice_get old k ≡ Some a) × (slice_get new k ≡ Some b) × IsLineChange net a b c
  pub all : (k : ℕ) (a b : Line) → k < n → slice_get old k ≡ Some a → slice_get new k ≡ Some b → (m : MailRef) → GoesFrom net a.processor m → given_of a m ≢ given_of b m → HasChange list m
