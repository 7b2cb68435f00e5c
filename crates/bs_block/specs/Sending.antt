-- What a send puts together.
use Rattle.std.specs.Prelude.{◌≡◌, ℕ, ◌-◌, ◌^◌, List, [], ◌∷◌, ◌++◌, length, map, Option, Result, Ok, Err}
use Rattle.bs_tree.specs.declared.tree.NameId.{NameId}
use Rattle.bs_tree.specs.declared.tree.Expr.{Expr}
use Rattle.bs_tree.specs.declared.tree.Program.{Program}
use Rattle.bs_log.specs.declared.history.TrapKind.{TrapKind}
use Rattle.bs_log.specs.declared.history.TrapKind.TheVariants.{Target, BytesRange}
use Rattle.bs_semantics.specs.Layout.{entry_of}
use Rattle.bs_semantics.specs.Value.{Cells, value_of}
use Rattle.bs_semantics.specs.Acts.{Parcel, Tally, Done, with_value, values_of, bytes_value, upto}
use Rattle.bs_block.specs.declared.done.Send.{Send}
use Rattle.bs_block.specs.declared.done.BlockFault.{BlockFault}
use Rattle.bs_block.specs.declared.done.BlockFault.TheVariants.{Trap, Memory}
use Rattle.bs_block.specs.Progress.{parcel_of}

abbrev pub with_parcel : {A : Type 0} → Result A TrapKind → (A → Result Parcel TrapKind) → Result Parcel TrapKind
with_parcel (Err kind) f = Err kind
with_parcel (Ok v) f = f v

-- the message and its arguments, or the first trap: all four parts are evaluated before the target and then the bytes
-- are tested. Its offset is the cost so far
abbrev pub parcel_value : Program → ℕ → NameId → Expr → List Expr → Expr → Option Expr → ℕ → Cells → Result Parcel TrapKind
parcel_value p this entry reference args target bytes offset cells =
    with_parcel (value_of p this reference cells) (λ r.
    with_parcel (values_of (map (value_of p this) args) cells) (λ vs.
    with_parcel (value_of p this target cells) (λ c.
    with_parcel (bytes_value p this bytes (length args) cells) (λ b.
    with_parcel (upto (p.chares - 1) Target c) (λ to.
    with_parcel (upto (2 ^ 30) BytesRange b) (λ n.
    Ok (record { sent = record { to = to; key = record { entry = entry_of p entry; reference = r }; bytes = n; offset = offset }; args = vs })))))))

-- the message, or its trap. Where memory is wanting, nothing is said
abbrev pub IsParcel : Result Parcel TrapKind → Result Send BlockFault → Type 0
IsParcel parcel (Ok send) = parcel ≡ Ok (parcel_of send)
IsParcel parcel (Err (Trap kind)) = parcel ≡ Err kind
IsParcel parcel (Err Memory) = Unit {0}

-- the block so far, and the message behind those that it sent, or the trap
abbrev pub sent : Program → ℕ → NameId → Expr → List Expr → Expr → Option Expr → Tally → Done
sent p this entry reference args target bytes t = with_value (parcel_value p this entry reference args target bytes t.cost t.cells) (λ m. Ok (record t { sends = t.sends ++ m ∷ [] }))
