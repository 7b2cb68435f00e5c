-- What the waves of a field come to (docs/model.md).
use Rattle.std.specs.Prelude.{◌≡◌, ◌≢◌, ◌≤◌, ◌<◌, ◌⊎◌, ℕ, suc, Option, Some, None}
use Rattle.bs_log.specs.declared.log.MailRef.{MailRef}
use Rattle.bs_log.specs.Rising.{IsLower}
use Rattle.bs_times.specs.Net.{Net, Ticks}
use Rattle.bs_times.specs.Times.{AreWaves, IsListed, IsStill, SameTicks, Settles, budget}
use Rattle.bs_times.specs.Racing.{IsDirty}
use Rattle.bs_line.specs.declared.corrections.Correction.{Correction}
use Rattle.bs_settle.specs.declared.field.Field.{Field}
use Rattle.bs_settle.specs.declared.settling.BudgetSpent.{BudgetSpent}
use Rattle.bs_settle.specs.declared.settling.SettleFault.{SettleFault}
use Rattle.bs_settle.specs.declared.settling.SettleFault.TheVariants as fault
use Rattle.bs_settle.specs.Field.{net_in, ticks_of, world_of}

-- no line is dirty
abbrev pub IsClean : Field → Type 0
IsClean field = (p : ℕ) → IsDirty (net_in field) (world_of field) p → ⊥

-- the least message whose tick isn't what it was, with both ticks
pub record IsLeastChange (net : Net) (old new : Ticks) (mail : MailRef) (was tick : ℕ) : Type 0 where
  pub listed : IsListed net mail
  pub kept : was ≡ old mail
  pub due : tick ≡ new mail
  pub differs : old mail ≢ new mail
  pub least : (m : MailRef) → IsListed net m → old m ≢ new m → (m ≡ mail) ⊎ IsLower mail m

-- P holds of the waves from these estimates
abbrev pub OfWaves : Net → Ticks → ((ℕ → Ticks) → Type 0) → Type 0
OfWaves net estimates P = (ticks : ℕ → Ticks) → AreWaves net ticks → SameTicks net (ticks 0) estimates → P ticks

-- wave n, counted from 1, changes no tick
abbrev pub StillAt : Net → Ticks → ℕ → Type 0
StillAt net estimates n = OfWaves net estimates (λ ticks. (k : ℕ) → suc k ≡ n → IsStill net ticks k)

-- wave n, counted from 1, is the first that changes no tick
pub record SettlesAt (net : Net) (estimates : Ticks) (n : ℕ) : Type 0 where
  pub some : 1 ≤ n
  pub settles : OfWaves net estimates (λ ticks. (k : ℕ) → suc k ≡ n → Settles net ticks k)

-- wave n changes this message before all others
abbrev pub ChangesAt : Net → Ticks → ℕ → MailRef → ℕ → ℕ → Type 0
ChangesAt net estimates n mail kept due = OfWaves net estimates (λ ticks. (k : ℕ) → suc k ≡ n → IsLeastChange net (ticks k) (ticks (suc k)) mail kept due)

-- the budget isn't enough: it has a last wave, which still changes a tick
pub record IsSpent (net : Net) (estimates : Ticks) (most : ℕ) (s : BudgetSpent) : Type 0 where
  pub waves : s.waves ≡ most
  pub some : 1 ≤ most
  pub few : most < budget net
  pub last : ChangesAt net estimates most s.mail s.kept.0 s.due.0

abbrev pub IsFault : Net → Ticks → ℕ → SettleFault → Type 0
IsFault net estimates waves (fault.BudgetSpent s) = IsSpent net estimates waves s
IsFault net estimates waves fault.Memory = Unit {0}

-- the field after waves, which ended with one that changes no tick, or with the last of the budget and its least change
abbrev pub AreWithin : Field → Field → ℕ → Option Correction → Type 0
AreWithin old new waves None = IsClean new × StillAt (net_in old) (ticks_of old) waves
AreWithin old new waves (Some c) = ChangesAt (net_in old) (ticks_of old) waves c.mail c.was.0 c.tick.0
