-- A block so far, beside the cells of its chare.
use Rattle.std.specs.Prelude.{◌≡◌, ◌^◌, ◌+◌, ℕ, true, false, nat_lt, nat_le, [], map, Result, Ok, Err}
use Rattle.bs_log.specs.declared.history.TrapKind.{TrapKind}
use Rattle.bs_log.specs.declared.history.TrapKind.TheVariants as trap
use Rattle.bs_semantics.specs.Acts.{Parcel, Tally, Done}
use Rattle.bs_block.specs.declared.done.Send.{Send}
use Rattle.bs_block.specs.declared.done.BlockFault.{BlockFault}
use Rattle.bs_block.specs.declared.done.BlockFault.TheVariants.{Trap, Memory}
use Rattle.bs_block.specs.declared.progress.Progress.{Progress}
use Rattle.bs_block.specs.Env.{ChareCells}

abbrev pub parcel_of : Send → Parcel
parcel_of s = record { sent = s.sent; args = s.args }

abbrev pub tally_of : ChareCells → Progress → Tally
tally_of e g = record { cells = e.cells; cost = g.cost; steps = g.steps; sends = map parcel_of g.sends; emits = g.emits }

-- a block that has done nothing: its cost begins at 1
abbrev pub begun : Progress
begun = record { steps = 0; cost = 1; sends = []; emits = [] }

-- one more step, or a trap where the steps are spent
abbrev pub Steps : Progress → Progress → Result Unit TrapKind → Type 0
Steps old new (Ok _) = (nat_lt old.steps 100000 ≡ true) × (new ≡ record old { steps = old.steps + 1 })
Steps old new (Err kind) = (nat_lt old.steps 100000 ≡ false) × (kind ≡ trap.Steps)

-- more cost, or a trap where it would be too much
abbrev pub Works : ℕ → Progress → Progress → Result Unit TrapKind → Type 0
Works n old new (Ok _) = (nat_le (old.cost + n) (2 ^ 32) ≡ true) × (new ≡ record old { cost = old.cost + n })
Works n old new (Err kind) = (nat_le (old.cost + n) (2 ^ 32) ≡ false) × (kind ≡ trap.CostRange)

-- what a call left of a block that was to come to this: the block so far, or its trap. Where memory is wanting, nothing
-- is said
abbrev pub Leaves : Done → Tally → Result Unit BlockFault → Type 0
Leaves done now (Ok _) = done ≡ Ok now
Leaves done now (Err (Trap kind)) = done ≡ Err kind
Leaves done now (Err Memory) = Unit {0}
