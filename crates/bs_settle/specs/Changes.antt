-- Which ticks changed, and in which order they are answered (docs/model.md).
use Rattle.std.specs.Prelude.{◌≡◌, ◌≢◌, ◌↔◌, ◌<◌, ◌^◌, ℕ, if◌then◌else◌, List, [], ◌∷◌}
use Rattle.bs_log.specs.declared.log.MailRef.{MailRef}
use Rattle.bs_log.specs.Rising.{IsLower}
use Rattle.bs_log.specs.Lists.{InOrder, Mem}
use Rattle.bs_times.specs.Net.{Net, Ticks}
use Rattle.bs_times.specs.Times.{IsListed}
use Rattle.bs_times.specs.Racing.{same_mail}
use Rattle.bs_line.specs.declared.corrections.Correction.{Correction}

-- the tick of a listed message was one and is another, and the correction says so
pub record IsChange (net : Net) (old new : Ticks) (c : Correction) : Type 0 where
  pub listed : IsListed net c.mail
  pub to : c.to ≡ net.goes_to c.mail
  pub was : c.was.0 ≡ old c.mail
  pub tick : c.tick.0 ≡ new c.mail
  pub differs : old c.mail ≢ new c.mail

-- the message has a correction among these
abbrev pub HasChange : List Correction → MailRef → Type 0
HasChange cs m = (c : Correction) × Mem c cs × (c.mail ≡ m)

-- a correction for each message whose tick changed, and no other, in some order
pub record AreChanges (net : Net) (old new : Ticks) (cs : List Correction) : Type 0 where
  pub sound : (c : Correction) → Mem c cs → IsChange net old new c
  pub all : (m : MailRef) → IsListed net m → old m ≢ new m → HasChange cs m

-- their messages rise
abbrev pub ChangesRise : List Correction → Type 0
ChangesRise cs = InOrder (λ c d. IsLower c.mail d.mail) cs

-- the same corrections, in the order of their messages
pub record AreOrdered (cs : List Correction) (list : List Correction) : Type 0 where
  pub rises : ChangesRise list
  pub same : (c : Correction) → Mem c list ↔ Mem c cs

-- no two of them are of one message
abbrev pub AreApart : List Correction → Type 0
AreApart cs = (c d : Correction) → Mem c cs → Mem d cs → c.mail ≡ d.mail → c ≡ d

-- what message m is held at after these are set, one after the other, where it was held at `tick`
abbrev pub held_after : List Correction → MailRef → ℕ → ℕ
held_after [] m tick = tick
held_after (c ∷ cs) m tick = held_after cs m (if same_mail c.mail m then c.tick.0 else tick)

-- a listed message, with the processor that it goes to and a tick that isn't too great
pub record CanBeHeld (net : Net) (mail : MailRef) (p tick : ℕ) : Type 0 where
  pub listed : IsListed net mail
  pub goes : net.goes_to mail ≡ p
  pub early : tick < 2 ^ 110
