-- Worlds of corrections, and waves whose lines are recomputed at different times (docs/model.md).
use Rattle.std.specs.Prelude.{◌≡◌, ◌≢◌, ◌⊎◌, ◌==◌, ◌&&◌, ℕ, suc, Bool, true, false, if◌then◌else◌, List, [], ◌∷◌, Option, Some, None}
use Rattle.bs_log.specs.declared.log.MailRef.{MailRef}
use Rattle.bs_log.specs.Lists.{Mem}
use Rattle.bs_times.specs.Net.{Net, Starts, Ticks}
use Rattle.bs_times.specs.Times.{HasLine, IsLine, IsListed, IsWave, SameTicks, arrival}

pub record World : Type 0 where
  pub held : Ticks  -- the tick that the receiver's line holds
  pub used : Ticks  -- the tick that it used last
  pub given : Ticks  -- the tick that the sender's line gave last
  pub begun : ℕ → Bool  -- the lines that were recomputed at some time

-- a line is dirty where it was never recomputed, or where a tick that it holds isn't the one that it used last
abbrev pub IsDirty : Net → World → ℕ → Type 0
IsDirty net w p = (HasLine net p × (w.begun p ≡ false)) ⊎ ((m : MailRef) × IsListed net m × (net.goes_to m ≡ p) × (w.held m ≢ w.used m))

-- the ticks that line p gave last are its arrivals by the ticks that it holds
pub record IsUpToDate (net : Net) (w : World) (p : ℕ) : Type 0 where
  pub table : Starts
  pub line : IsLine net p w.held table
  pub gave : (m : MailRef) → IsListed net m → net.home m.row ≡ p → w.given m ≡ arrival net table m

-- each tick is held as it was given last, and each line that isn't dirty is up to date
pub record IsEven (net : Net) (w : World) : Type 0 where
  pub as_given : (m : MailRef) → IsListed net m → w.held m ≡ w.given m
  pub up_to_date : (p : ℕ) → HasLine net p → (IsDirty net w p → ⊥) → IsUpToDate net w p

-- the first world from estimates: they are held and given, and no line was recomputed
abbrev pub first_world : Ticks → World
first_world estimates = record { held = estimates; used = estimates; given = estimates; begun = λ p. false }

-- ---- steps

-- in the course of a wave: the world, the lines that were recomputed, and the corrections that were answered and not set
pub record Race : Type 0 where
  pub world : World
  pub done : List ℕ
  pub unset : MailRef → Option ℕ

-- a correction is answered where the arrival isn't the tick given last
abbrev pub correction : ℕ → ℕ → Option ℕ
correction was tick = if was == tick then None else Some tick

-- line p is recomputed to a table: it uses what it holds, and gives its arrivals
abbrev pub recomputed : Net → ℕ → Starts → Race → Race
recomputed net p table a = record {
  world = record {
    held = a.world.held;
    used = λ m. if net.goes_to m == p then a.world.held m else a.world.used m;
    given = λ m. if net.home m.row == p then arrival net table m else a.world.given m;
    begun = λ k. if k == p then true else a.world.begun k;
  };
  done = p ∷ a.done;
  unset = λ m. if net.home m.row == p then correction (a.world.given m) (arrival net table m) else a.unset m;
}

abbrev pub same_mail : MailRef → MailRef → Bool
same_mail m k = (m.row == k.row) && (m.index == k.index)

-- a correction is set: its receiver's line holds the tick
abbrev pub set_at : MailRef → ℕ → Race → Race
set_at k tick a = record {
  world = record a.world { held = λ m. if same_mail m k then tick else a.world.held m };
  done = a.done;
  unset = λ m. if same_mail m k then None else a.unset m;
}

-- the steps of a wave that begins in the world w: a line that is dirty at the beginning is recomputed, once; a correction
-- that was answered is set, but not at such a line before it is recomputed
pub data Races (net : Net) (w : World) : Race → Type 0 where
  begins : Races net w (record { world = w; done = []; unset = λ m. None })
  recomputes : (a : Race) (p : ℕ) (table : Starts) → Races net w a → IsDirty net w p → (Mem p a.done → ⊥) → IsLine net p a.world.held table → Races net w (recomputed net p table a)
  sets : (a : Race) (k : MailRef) (tick : ℕ) → Races net w a → IsListed net k → a.unset k ≡ Some tick → (IsDirty net w (net.goes_to k) → Mem (net.goes_to k) a.done) → Races net w (set_at k tick a)

-- a racing wave from w to v: all dirty lines were recomputed, and all corrections set
pub record IsRacingWave (net : Net) (w v : World) : Type 0 where
  pub race : Race
  pub races : Races net w race
  pub ends : v ≡ race.world
  pub all_done : (p : ℕ) → IsDirty net w p → Mem p race.done
  pub all_set : (m : MailRef) → IsListed net m → race.unset m ≡ None

abbrev pub AreRacingWaves : Net → (ℕ → World) → Type 0
AreRacingWaves net worlds = (k : ℕ) → IsRacingWave net (worlds k) (worlds (suc k))

-- what a racing wave comes to: the ticks held are changed by one wave, the world is even, and each line used what was held
pub record Raced (net : Net) (w v : World) : Type 0 where
  pub wave : IsWave net w.held v.held
  pub even : IsEven net v
  pub used : SameTicks net v.used w.held
  pub begun : (p : ℕ) → HasLine net p → v.begun p ≡ true

-- ---- the same without steps

-- each dirty line gives its arrivals by the ticks held at the beginning, the others give nothing new, and all that is given
-- is held afterwards
pub record IsBatch (net : Net) (w v : World) : Type 0 where
  pub table : ℕ → Starts
  pub line : (p : ℕ) → IsDirty net w p → IsLine net p w.held (table p)
  pub gives : (p : ℕ) (m : MailRef) → IsDirty net w p → IsListed net m → net.home m.row ≡ p → v.given m ≡ arrival net (table p) m
  pub keeps : (m : MailRef) → IsListed net m → (IsDirty net w (net.home m.row) → ⊥) → v.given m ≡ w.given m
  pub held : (m : MailRef) → IsListed net m → v.held m ≡ v.given m
  pub used : (m : MailRef) → IsListed net m → IsDirty net w (net.goes_to m) → v.used m ≡ w.held m
  pub unused : (m : MailRef) → IsListed net m → (IsDirty net w (net.goes_to m) → ⊥) → v.used m ≡ w.used m
  pub begins : (p : ℕ) → IsDirty net w p → v.begun p ≡ true
  pub begun : (p : ℕ) → (IsDirty net w p → ⊥) → v.begun p ≡ w.begun p
