-- When a chare takes no step.
use Rattle.std.specs.Prelude.{◌≡◌, ◌≤◌, ◌<◌, ℕ, true, Result, Ok, Err, None, IsSome}
use Rattle.bs_log.specs.declared.history.Message.{Message}
use Rattle.bs_log.specs.declared.history.History.{History}
use Rattle.bs_log.specs.Size.{size}
use Rattle.bs_log.specs.Lists.{Apart}
use Rattle.bs_log.specs.Messages.{one_asked}
use Rattle.bs_match.specs.Mail.{lookup, with_message}
use Rattle.bs_semantics.specs.Run.{Lookup, history}
use Rattle.bs_chare.specs.declared.fault.ChareFault.{ChareFault}
use Rattle.bs_chare.specs.declared.fault.ChareFault.TheVariants.{TwoSent, TwoAsked, Long, Memory}
use Rattle.bs_chare.specs.declared.chare.Chare.{Chare}
use Rattle.bs_chare.specs.Asked.{IsTwoAsked}

-- the history is too long, or it isn't and a key is asked for twice in it. Where memory is wanting, nothing is said
abbrev pub IsRunFault : ℕ → History → ChareFault → Type 0
IsRunFault limit h (TwoSent m) = ⊥
IsRunFault limit h (TwoAsked k p q) = (size h ≤ limit) × IsTwoAsked h.asked k p q
IsRunFault limit h Long = limit < size h
IsRunFault limit h Memory = Unit {0}

-- a history that is neither too long nor asks for a key twice
pub record IsRun (limit : ℕ) (h given : History) : Type 0 where
  pub same : given ≡ h
  pub size : size h ≤ limit
  pub asked : Apart one_asked h.asked

-- the history, or why it isn't told
abbrev pub Runs : ℕ → History → Result History ChareFault → Type 0
Runs limit h (Ok given) = IsRun limit h given
Runs limit h (Err fault) = IsRunFault limit h fault

-- the history of a chare under a mail
abbrev pub history_under : Chare → Lookup → History
history_under c mail = history c.accepted.now.program c.limit c.number mail

-- a chare that has begun, and whose mail holds no message of this key
pub record IsOpen (c : Chare) (m : Message) : Type 0 where
  pub begun : c.begun ≡ true
  pub free : lookup c.mail m.sent.key ≡ None

-- a message is refused: one of its key is held, and it comes back; or none is, the chare has begun, and the history with
-- the message is refused. Where memory is wanting, nothing more is said than that none is held
abbrev pub IsRefused : Chare → Message → ChareFault → Type 0
IsRefused c m (TwoSent back) = (back ≡ m) × IsSome (lookup c.mail m.sent.key)
IsRefused c m (TwoAsked k p q) = IsOpen c m × IsRunFault c.limit (history_under c (with_message m (lookup c.mail))) (TwoAsked k p q)
IsRefused c m Long = IsOpen c m × IsRunFault c.limit (history_under c (with_message m (lookup c.mail))) Long
IsRefused c m Memory = lookup c.mail m.sent.key ≡ None
