-- How a mail stores its messages.
use Rattle.std.specs.Prelude.{◌≡◌, List, [], ◌∷◌}
use Rattle.bs_log.specs.declared.history.Key.{Key}
use Rattle.bs_log.specs.declared.history.Message.{Message}

-- each message stands at its own key
abbrev pub AreKeyed : List (Key × Message) → Type 0
AreKeyed [] = Unit {0}
AreKeyed (e ∷ es) = (e.0 ≡ e.1.sent.key) × AreKeyed es
