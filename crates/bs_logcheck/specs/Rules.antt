-- Which rule a line of a log breaks, and the first line that breaks one (docs/log.md).
use Rattle.std.specs.Prelude.{◌≡◌, ◌⊎◌, ◌≤◌, ◌<◌, ℕ, suc, false, Option, Some, None}
use Rattle.bs_log.specs.declared.history.Sent.{Sent}
use Rattle.bs_log.specs.declared.log.MailRef.{MailRef}
use Rattle.bs_log.specs.declared.log.Row.{Row}
use Rattle.bs_log.specs.declared.log.TrapRow.{TrapRow}
use Rattle.bs_log.specs.declared.log.WaitRow.{WaitRow}
use Rattle.bs_log.specs.declared.log.Log.{Log}
use Rattle.bs_log.specs.Rising.{IsLower}
use Rattle.bs_log.specs.Valid.{IsBlockCause, IsMailCause, deepest, sends_in, one_send, one_wait, is_awaited, TrapIsLower, WaitIsUpTo}
use Rattle.bs_log.specs.Lists.{Mem}
use Rattle.bs_logcheck.specs.declared.rule.LogRule.{LogRule}
use Rattle.bs_logcheck.specs.declared.rule.LogRule.TheVariants.{BadLine, BadReference, BadDepth, TwiceUsed, Limits}
use Rattle.bs_logcheck.specs.Lines.{Line, RowLine, AfterLine, MailLine, EmitLine, SendLine, TrapLine, WaitLine, IsLine}

-- one before this one, if there is one, stands so to it
abbrev pub Follows : {A : Type 0} → (A → A → Type 0) → Option A → A → Type 0
Follows R None x = Unit {0}
Follows R (Some y) x = R y x

-- the chare of a row is one of the chares, and isn't below that of the row before it
pub record RowRefers (l : Log) (before : Option ℕ) (r : Row) : Type 0 where
  pub chare : r.chare < l.chares
  pub order : Follows (λ a b. a ≤ b) before r.chare

-- a block cause is an earlier row of the same chare, above the block cause before it
pub record AfterRefers (l : Log) (k : ℕ) (r : Row) (before : Option ℕ) (n : ℕ) : Type 0 where
  pub cause : IsBlockCause l k r.chare n
  pub order : Follows (λ a b. a < b) before n

-- a message cause is a send of some row to this chare, above the message cause before it
pub record MailRefers (l : Log) (r : Row) (before : Option MailRef) (m : MailRef) : Type 0 where
  pub cause : IsMailCause l r.chare m
  pub order : Follows IsLower before m

-- a send goes to one of the chares and of the entries; its offset is at most the row's cost, and not below that before it
pub record SendRefers (l : Log) (r : Row) (before : Option Sent) (s : Sent) : Type 0 where
  pub target : s.to < l.chares
  pub entry : s.key.entry < l.entries
  pub order : Follows (λ a b. a.offset ≤ b.offset) before s
  pub within : s.offset ≤ r.cost

-- a trap is at one of the chares, above the trap before it
pub record TrapRefers (l : Log) (before : Option TrapRow) (t : TrapRow) : Type 0 where
  pub chare : t.chare < l.chares
  pub order : Follows TrapIsLower before t

-- a wait is at one of the chares, for one of the entries, and not below the wait before it; nothing that it waits for is sent
pub record WaitRefers (l : Log) (before : Option WaitRow) (w : WaitRow) : Type 0 where
  pub chare : w.chare < l.chares
  pub entry : w.key.entry < l.entries
  pub order : Follows WaitIsUpTo before w
  pub lacks : (s : Sent) → Mem s (sends_in l.rows) → is_awaited w s ≡ false

-- what a line refers to is there, in its order
abbrev pub Refers : Log → Line → Type 0
Refers l (RowLine before r) = RowRefers l before r
Refers l (AfterLine k r before n) = AfterRefers l k r before n
Refers l (MailLine r before m) = MailRefers l r before m
Refers l EmitLine = Unit {0}
Refers l (SendLine r earlier before s) = SendRefers l r before s
Refers l (TrapLine before t) = TrapRefers l before t
Refers l (WaitLine earlier before w) = WaitRefers l before w

-- the depth of a row is 1 more than the greatest depth of the rows that its causes name, or 1 where they name none
abbrev pub HasDepth : Log → Line → Type 0
HasDepth l (RowLine before r) = r.depth ≡ suc (deepest l r)
HasDepth l (AfterLine k r before n) = Unit {0}
HasDepth l (MailLine r before m) = Unit {0}
HasDepth l EmitLine = Unit {0}
HasDepth l (SendLine r earlier before s) = Unit {0}
HasDepth l (TrapLine before t) = Unit {0}
HasDepth l (WaitLine earlier before w) = Unit {0}

-- no earlier send has the target and the key of a send, and no earlier wait the chare and the key of a wait
abbrev pub IsNew : Line → Type 0
IsNew (RowLine before r) = Unit {0}
IsNew (AfterLine k r before n) = Unit {0}
IsNew (MailLine r before m) = Unit {0}
IsNew EmitLine = Unit {0}
IsNew (SendLine r earlier before s) = (e : Sent) → Mem e earlier → one_send e s ≡ false
IsNew (TrapLine before t) = Unit {0}
IsNew (WaitLine earlier before w) = (e : WaitRow) → Mem e earlier → one_wait e w ≡ false

-- a line keeps a rule; the first and the last of them are about texts of which there is no log, so no line of a log breaks them
abbrev pub Keeps : Log → Line → LogRule → Type 0
Keeps l x BadLine = Unit {0}
Keeps l x BadReference = Refers l x
Keeps l x BadDepth = HasDepth l x
Keeps l x TwiceUsed = IsNew x
Keeps l x Limits = Unit {0}

-- the line of this number breaks the rule
pub record Breaks (l : Log) (number : ℕ) (rule : LogRule) : Type 0 where
  pub line : Line
  pub is_line : IsLine l number line
  pub broken : Keeps l line rule → ⊥

-- the order of the rules
abbrev pub rule_number : LogRule → ℕ
rule_number BadLine = 1
rule_number BadReference = 2
rule_number BadDepth = 3
rule_number TwiceUsed = 4
rule_number Limits = 5

-- a line comes before another one, or is the same line, and its rule isn't above the other's
abbrev pub IsUpTo : ℕ → LogRule → ℕ → LogRule → Type 0
IsUpTo m r n s = (m < n) ⊎ ((m ≡ n) × (rule_number r ≤ rule_number s))

-- the first line that breaks a rule, and the least rule that it breaks
pub record IsFirstBroken (l : Log) (number : ℕ) (rule : LogRule) : Type 0 where
  pub breaks : Breaks l number rule
  pub first : (n : ℕ) (s : LogRule) → Breaks l n s → IsUpTo number rule n s

-- no line breaks a rule
abbrev pub IsSound : Log → Type 0
IsSound l = (n : ℕ) (r : LogRule) → Breaks l n r → ⊥
