-- What a list of acts does: a block, or a trap (docs/model.md).
use Rattle.std.specs.Prelude.{ℕ, zero, suc, ◌+◌, ◌*◌, ◌-◌, ◌^◌, ℤ, pos, negsuc, nat_lt, nat_le, Bool, false, ◌||◌, if◌then◌else◌, List, [], ◌∷◌, ◌++◌, Option, Some, None, Result, Ok, Err, map, slice_set, length}
use Rattle.bs_tree.specs.declared.tree.Expr.{Expr}
use Rattle.bs_tree.specs.declared.tree.Act.{Act}
use Rattle.bs_tree.specs.declared.tree.Act.TheOpen.{Act-F}
use Rattle.bs_tree.specs.declared.tree.Act.TheFolds.{fold-Act}
use Rattle.bs_log.specs.declared.history.Sent.{Sent}
use Rattle.bs_tree.specs.declared.tree.Program.{Program}
use Rattle.bs_log.specs.declared.history.TrapKind.{TrapKind}
use Rattle.bs_log.specs.declared.history.TrapKind.TheVariants.{Target, WorkRange, BytesRange, CostRange, Steps}
use Rattle.bs_semantics.specs.Layout.{place_of, entry_of, owns}
use Rattle.bs_semantics.specs.Value.{Cells, Value, value_of, is_zero, indexed}

-- what was sent, and its arguments
pub record Parcel : Type 0 where
  pub sent : Sent
  pub args : List ℤ

-- a block so far: its cells, its cost and steps, what it sent and the values it emitted
pub record Tally : Type 0 where
  pub cells : Cells
  pub cost : ℕ
  pub steps : ℕ
  pub sends : List Parcel
  pub emits : List ℤ

abbrev pub Done : Type 0
Done = Result Tally TrapKind

abbrev pub Acting : Type 0
Acting = Tally → Done

abbrev pub with_value : {A : Type 0} → Result A TrapKind → (A → Done) → Done
with_value (Err k) f = Err k
with_value (Ok v) f = f v

-- one more step, of 100,000 at most
abbrev pub stepped : Tally → Acting → Done
stepped t f = if nat_lt t.steps 100000 then f (record t { steps = t.steps + 1 }) else Err Steps

abbrev pub do_all : List Acting → Acting
do_all [] t = Ok t
do_all (a ∷ as') t = with_value (a t) (do_all as')

abbrev pub do_else : Option (List Acting) → Acting
do_else None t = Ok t
do_else (Some ds) t = do_all ds t

-- each turn is a step
abbrev pub times : ℕ → List Acting → Acting
times zero ds t = Ok t
times (suc n) ds t = stepped t (λ t'. with_value (do_all ds t') (times n ds))

-- a number below 1 is no turn
abbrev pub count_turns : ℤ → ℕ
count_turns (pos n) = n
count_turns (negsuc n) = 0

abbrev pub values_of : List (Cells → Value) → Cells → Result (List ℤ) TrapKind
values_of [] cells = Ok []
values_of (e ∷ es) cells = first (e cells) (values_of es cells)
  where
    first : Value → Result (List ℤ) TrapKind → Result (List ℤ) TrapKind
    first (Err k) rest = Err k
    first (Ok v) (Err k) = Err k
    first (Ok v) (Ok vs) = Ok (v ∷ vs)

-- a number from 0 to the limit, or the trap
abbrev pub upto : ℕ → TrapKind → ℤ → Result ℕ TrapKind
upto n k (negsuc v) = Err k
upto n k (pos v) = if nat_le v n then Ok v else Err k

-- without a number of bytes they are 8 for each argument
abbrev pub bytes_value : Program → ℕ → Option Expr → ℕ → Cells → Value
bytes_value p this None n cells = Ok (pos (8 * n))
bytes_value p this (Some e) n cells = value_of p this e cells

abbrev pub choose_acts : ℤ → Acting → Acting → Acting
choose_acts v first second t = if is_zero v then second t else first t

-- the cost of a block is at most 2^32
abbrev pub worked : Tally → ℕ → Done
worked t n = if nat_le (t.cost + n) (2 ^ 32) then Ok (record t { cost = t.cost + n }) else Err CostRange

-- one act, with what each act inside does in its place
abbrev pub act_step : Program → ℕ → Act-F Acting → Acting
act_step p this (Act-F.Set x e) t = stepped t (λ t. with_value (value_of p this e t.cells) (λ v. Ok (record t { cells = slice_set t.cells (place_of p x).from v })))
act_step p this (Act-F.SetAt x i e) t = stepped t (λ t.
    with_value (value_of p this i t.cells) (λ j. with_value (value_of p this e t.cells) (λ v.
    with_value (indexed (place_of p x).cells j) (λ k. Ok (record t { cells = slice_set t.cells ((place_of p x).from + k) v })))))
act_step p this (Act-F.Send entry reference args target bytes) t = stepped t (λ t.
    with_value (value_of p this reference t.cells) (λ r.
    with_value (values_of (map (value_of p this) args) t.cells) (λ vs.
    with_value (value_of p this target t.cells) (λ c.
    with_value (bytes_value p this bytes (length args) t.cells) (λ b.
    with_value (upto (p.chares - 1) Target c) (λ c.
    with_value (upto (2 ^ 30) BytesRange b) (λ b.
    Ok (record t { sends = t.sends ++ record { sent = record { to = c; key = record { entry = entry_of p entry; reference = r }; bytes = b; offset = t.cost }; args = vs } ∷ [] }))))))))
act_step p this (Act-F.Work e) t = stepped t (λ t. with_value (value_of p this e t.cells) (λ v. with_value (upto (2 ^ 30) WorkRange v) (worked t)))
act_step p this (Act-F.Emit e) t = stepped t (λ t. with_value (value_of p this e t.cells) (λ v. Ok (record t { emits = t.emits ++ v ∷ [] })))
act_step p this (Act-F.If e body other) t = stepped t (λ t. with_value (value_of p this e t.cells) (λ v. choose_acts v (do_all body) (do_else other) t))
act_step p this (Act-F.Repeat e body) t = stepped t (λ t. with_value (value_of p this e t.cells) (λ v. times (count_turns v) body t))

abbrev pub act_of : Program → ℕ → Act → Acting
act_of p this = fold-Act Acting (act_step p this)

-- the block of a list of acts: its cost begins at 1 and its steps at 0. It is closed to the proofs about runs, which
-- need nothing of it
unfoldable pub block_of : Program → ℕ → List Act → Cells → Done
block_of p this acts cells = do_all (map (act_of p this) acts) (record { cells = cells; cost = 1; steps = 0; sends = []; emits = [] })

-- whether an act writes the variable of a cell
abbrev pub any_writes : List (ℕ → Bool) → ℕ → Bool
any_writes [] i = false
any_writes (w ∷ ws) i = w i || any_writes ws i

abbrev pub else_writes : Option (List (ℕ → Bool)) → ℕ → Bool
else_writes None i = false
else_writes (Some ws) i = any_writes ws i

abbrev pub act_writes_step : Program → Act-F (ℕ → Bool) → ℕ → Bool
act_writes_step p (Act-F.Set x e) i = owns p x i
act_writes_step p (Act-F.SetAt x k e) i = owns p x i
act_writes_step p (Act-F.Send entry reference args target bytes) i = false
act_writes_step p (Act-F.Work e) i = false
act_writes_step p (Act-F.Emit e) i = false
act_writes_step p (Act-F.If e body other) i = any_writes body i || else_writes other i
act_writes_step p (Act-F.Repeat e body) i = any_writes body i

abbrev pub act_writes : Program → Act → ℕ → Bool
act_writes p = fold-Act (ℕ → Bool) (act_writes_step p)
