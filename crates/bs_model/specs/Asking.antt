-- What is tested of histories at the end.
use Rattle.std.specs.Prelude.{List}
use Rattle.bs_log.specs.declared.history.History.{History}
use Rattle.bs_log.specs.Lists.{Apart, Each}
use Rattle.bs_log.specs.Messages.{one_asked}

-- no chare asks for a key twice
abbrev pub AskOnce : List History → Type 0
AskOnce hs = Each (λ h. Apart one_asked h.asked) hs
