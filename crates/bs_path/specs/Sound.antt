-- The rules that a chain keeps that is sound, and the first of them that is broken (docs/model.md). Places of a chain are
-- counted from 0.
use Rattle.std.specs.Prelude.{◌≡◌, ◌≤◌, ◌<◌, ◌+◌, ℕ, zero, suc, List, Option, Some, None, length, slice_get}
use Rattle.std.specs.List.{sum_by}
use Rattle.bs_log.specs.Lists.{Mem}
use Rattle.bs_times.specs.Net.{Net, Starts, HasRow}
use Rattle.bs_path.specs.declared.links.Link.{Link}
use Rattle.bs_path.specs.declared.links.Link.TheVariants as link
use Rattle.bs_path.specs.declared.links.ChainRow.{ChainRow}
use Rattle.bs_path.specs.declared.links.Chain.{Chain}
use Rattle.bs_path.specs.declared.rules.ChainRule.{ChainRule}
use Rattle.bs_path.specs.declared.rules.ChainRule.TheVariants as rule
use Rattle.bs_path.specs.Chain.{IsJustBefore, span_of}

-- a link leads from row j to row i: it names row j, and that is the row before row i on its processor, a block cause of it,
-- or the sender of a message cause of it
abbrev pub Leads : Net → Starts → (j i : ℕ) → Link → Type 0
Leads net s j i link.First = ⊥
Leads net s j i (link.Processor k) = (k ≡ j) × IsJustBefore net s k i
Leads net s j i (link.After k) = (k ≡ j) × Mem k (net.after i)
Leads net s j i (link.Mail m) = (m.row ≡ j) × Mem m (net.mail i)

-- the ticks from the start of row j to what the link names: its end, or the message's arrival
abbrev pub takes : Net → ℕ → Link → ℕ
takes net j link.First = 0
takes net j (link.Processor k) = net.duration j
takes net j (link.After k) = net.duration j
takes net j (link.Mail m) = net.travel m

-- the link of the first row, and of a row behind another
abbrev pub LinkHolds : Net → Starts → Option ChainRow → ChainRow → Type 0
LinkHolds net s None r = (r.link ≡ link.First) × (s r.row ≡ 0)
LinkHolds net s (Some b) r = Leads net s b.row r.row r.link

-- the step of the first row, and of a row behind another
abbrev pub StepHolds : Net → Option ChainRow → ChainRow → Type 0
StepHolds net None r = r.step ≡ 0
StepHolds net (Some b) r = (r.step ≡ takes net b.row r.link) × (b.start + r.step ≡ r.start)

-- how long the last row takes, and 0 without rows
abbrev pub rest_after : Net → Option ChainRow → ℕ
rest_after net None = 0
rest_after net (Some b) = net.duration b.row

-- the end of a chain whose last row is given: span and rest are right, and the steps and the rest add up to the span
pub record EndHolds (net : Net) (s : Starts) (c : Chain) (last : Option ChainRow) : Type 0 where
  pub span : c.span ≡ span_of net s
  pub rest : c.rest ≡ rest_after net last
  pub sum : sum_by (λ r. r.step) c.rows + c.rest ≡ c.span

-- a rule at a row behind another one, or at a first row
abbrev pub RowHolds : Net → Starts → Option ChainRow → ChainRow → ChainRule → Type 0
RowHolds net s last r rule.BadRow = HasRow net r.row
RowHolds net s last r rule.BadStart = r.start ≡ s r.row
RowHolds net s last r rule.BadLink = LinkHolds net s last r
RowHolds net s last r rule.BadStep = StepHolds net last r
RowHolds net s last r rule.BadEnd = Unit {0}

-- and behind the last row, where only the end of the chain is asked
abbrev pub LastHolds : Net → Starts → Chain → Option ChainRow → ChainRule → Type 0
LastHolds net s c last rule.BadRow = Unit {0}
LastHolds net s c last rule.BadStart = Unit {0}
LastHolds net s c last rule.BadLink = Unit {0}
LastHolds net s c last rule.BadStep = Unit {0}
LastHolds net s c last rule.BadEnd = EndHolds net s c last

-- a rule where these stand before and at a place
abbrev pub Holds : Net → Starts → Chain → (last next : Option ChainRow) → ChainRule → Type 0
Holds net s c last (Some r) = RowHolds net s last r
Holds net s c last None = LastHolds net s c last

-- the row before a place
abbrev pub before : List ChainRow → ℕ → Option ChainRow
before rows zero = None
before rows (suc k) = slice_get rows k

-- a rule holds at a place
abbrev pub HoldsAt : Net → Starts → Chain → ℕ → ChainRule → Type 0
HoldsAt net s c k rule = Holds net s c (before c.rows k) (slice_get c.rows k) rule

-- no rule is broken, at no row and not at the end
abbrev pub IsSound : Net → Starts → Chain → Type 0
IsSound net s c = (k : ℕ) → k ≤ length c.rows → (rule : ChainRule) → HoldsAt net s c k rule

-- the number of a rule
abbrev pub number_of : ChainRule → ℕ
number_of rule.BadRow = 1
number_of rule.BadStart = 2
number_of rule.BadLink = 3
number_of rule.BadStep = 4
number_of rule.BadEnd = 5

-- the first of some rules that is broken
pub record IsFirstRule (P : ChainRule → Type 0) (rule : ChainRule) : Type 0 where
  pub broken : P rule → ⊥
  pub earlier : (other : ChainRule) → number_of other < number_of rule → P other

-- the first place at which a rule is broken, and the first rule that is broken there
pub record IsFirstBroken (net : Net) (s : Starts) (c : Chain) (place : ℕ) (rule : ChainRule) : Type 0 where
  pub within : place ≤ length c.rows
  pub here : IsFirstRule (HoldsAt net s c place) rule
  pub earlier : (k : ℕ) → k < place → (other : ChainRule) → HoldsAt net s c k other
