-- When the keys that chares ask for are apart.
use Rattle.std.specs.Prelude.{◌≡◌, ◌<◌, ℕ, Bool, true, List, length, Result, Ok, Err}
use Rattle.bs_log.specs.declared.history.Asked.{Asked}
use Rattle.bs_log.specs.declared.history.History.{History}
use Rattle.bs_log.specs.Lists.{Apart}
use Rattle.bs_log.specs.Messages.{one_asked}
use Rattle.bs_log.specs.Histories.{history_at}
use Rattle.bs_rounds.specs.declared.stop.Stop.{Stop}
use Rattle.bs_rounds.specs.declared.stop.Stop.TheVariants.{Long, Twice, Memory}
use Rattle.bs_rounds.specs.Posting.{flag}

-- no key is asked for twice, or one is
abbrev pub IsAskedOnce : List Asked → Result (Unit {0}) Stop → Type 0
IsAskedOnce asked (Ok u) = Apart one_asked asked
IsAskedOnce asked (Err Long) = ⊥
IsAskedOnce asked (Err Twice) = Apart one_asked asked → ⊥
IsAskedOnce asked (Err Memory) = Unit {0}

-- a chare that asks for a key twice
pub record AsksTwice (hs : List History) : Type 0 where
  pub chare : ℕ
  pub within : chare < length hs
  pub twice : Apart one_asked (history_at hs chare).asked → ⊥

-- no marked chare asks for a key twice, or some chare does
abbrev pub AreAskedOnce : List Bool → List History → Result (Unit {0}) Stop → Type 0
AreAskedOnce marks hs (Ok u) = (c : ℕ) → c < length hs → flag marks c ≡ true → Apart one_asked (history_at hs c).asked
AreAskedOnce marks hs (Err Long) = ⊥
AreAskedOnce marks hs (Err Twice) = AsksTwice hs
AreAskedOnce marks hs (Err Memory) = Unit {0}
