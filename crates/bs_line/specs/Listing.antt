-- Messages as keys of an ordered set, and rows one after another.
use Rattle.std.specs.Prelude.{◌↔◌, ◌⊎◌, ℕ, Bool, if◌then◌else◌, List, [], ◌∷◌}
use Rattle.bs_log.specs.declared.log.MailRef.{MailRef}
use Rattle.bs_log.specs.Lists.{Mem}

abbrev pub keyed : MailRef → ℕ × ℕ
keyed m = (m.row, m.index)

-- these messages are added to the keys, and nothing else is
abbrev pub HasAdded : List MailRef → List (ℕ × ℕ) → List (ℕ × ℕ) → Type 0
HasAdded mails old new = (m : MailRef) → Mem (keyed m) new ↔ (Mem (keyed m) old ⊎ Mem m mails)

-- one row, or none
abbrev pub row_if : Bool → ℕ → List ℕ
row_if b i = if b then i ∷ [] else []
