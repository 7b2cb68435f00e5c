-- What is known of a chain while its places are gone through.
use Rattle.std.specs.Prelude.{◌≡◌, ◌≤◌, ◌<◌, ℕ, Option, Some, None}
use Rattle.bs_log.specs.declared.log.Log.{Log}
use Rattle.bs_rows.specs.Rows.{IsSend}
use Rattle.bs_times.specs.Net.{Net, Starts, HasRow}
use Rattle.bs_times.specs.Times.{IsOn}
use Rattle.bs_path.specs.declared.links.Link.{Link}
use Rattle.bs_path.specs.declared.links.Link.TheVariants as link
use Rattle.bs_path.specs.declared.links.ChainRow.{ChainRow}
use Rattle.bs_path.specs.declared.rules.ChainRule.{ChainRule}
use Rattle.bs_path.specs.Sound.{IsFirstRule, RowHolds}

-- the row before a place, if there is one, is in the log and starts when it should
abbrev pub IsKnown : Net → Starts → Option ChainRow → Type 0
IsKnown net s None = Unit {0}
IsKnown net s (Some b) = HasRow net b.row × (b.start ≡ s b.row)

-- all rules hold at a row, or this is the first that is broken
abbrev pub IsVerdict : Net → Starts → Option ChainRow → ChainRow → Option ChainRule → Type 0
IsVerdict net s last r None = (rule : ChainRule) → RowHolds net s last r rule
IsVerdict net s last r (Some rule) = IsFirstRule (RowHolds net s last r) rule

-- a message that a link names is one that is sent
abbrev pub NamesSend : Log → Link → Type 0
NamesSend log link.First = Unit {0}
NamesSend log (link.Processor j) = Unit {0}
NamesSend log (link.After j) = Unit {0}
NamesSend log (link.Mail m) = IsSend log m

-- of the first n rows, none of processor p starts between these ticks
abbrev pub NoneBetween : Net → Starts → (n p first second : ℕ) → Type 0
NoneBetween net s n p first second = (k : ℕ) → IsOn net p k → k ≤ n → s k < second → s k ≤ first
