-- Which calls of a desk in memory are to fail.
use Rattle.std.specs.Prelude.{◌≡◌, ◌≢◌, ◌+◌, ◌==◌, ℕ, min, List, [], ◌∷◌, ◌++◌, Bool, true, false, Result, Err}
use Rattle.std.specs.List.{list_any}
use Rattle.bs_desk.specs.declared.desk.DeskFault.{DeskFault}
use Rattle.bs_desk.specs.declared.desk.DeskFault.TheVariants.{Failed}
use Rattle.bs_desk.specs.Outside.{most}

-- how many calls of one kind were made, and the numbers of those that are to fail, which count from 1
pub record Planned : Type 0 where
  pub made : ℕ
  pub failing : List ℕ

-- no call was made, and none is to fail
abbrev pub all_well : Planned
all_well = record { made = 0; failing = [] }

-- the number of the next call; it stands still at 2^64 - 1
abbrev pub next : Planned → ℕ
next p = min (p.made + 1) most

-- the next call is to fail
abbrev pub is_due : Planned → Bool
is_due p = list_any (λ nth. nth == next p) p.failing

-- after one more call
abbrev pub counted : Planned → Planned
counted p = record p { made = next p }

-- where the call of that number is to fail too
abbrev pub also_failing : ℕ → Planned → Planned
also_failing nth p = record p { failing = p.failing ++ nth ∷ [] }

-- the answer is `Failed` exactly where the call is to fail
abbrev pub FailsWhere : {A : Type 0} → Bool → Result A DeskFault → Type 0
FailsWhere true result = result ≡ Err Failed
FailsWhere false result = result ≢ Err Failed
