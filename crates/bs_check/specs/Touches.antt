-- What is known of the variables of an `overlap` once some of its parts were looked at.
use Rattle.std.specs.Prelude.{◌≡◌, ◌<◌, ◌+◌, ℕ, ◌==◌, Bool, true, false, ◌||◌, if◌then◌else◌, List, [], ◌∷◌, length, Option, Some, None, All, slice_get}
use Rattle.bs_tree.specs.declared.tree.NameId.{NameId}
use Rattle.bs_tree.specs.declared.tree.Stmt.{Stmt}
use Rattle.bs_tree.specs.declared.tree.VarDecl.{VarDecl}
use Rattle.bs_tree.specs.Reads.{stmt_reads, stmt_writes}
use Rattle.bs_check.specs.Interference.{Pair, or_else_rule}
use Rattle.bs_check.specs.declared.fault.Rule.{Rule}
use Rattle.bs_check.specs.declared.touches.Touch.{Touch}
use Rattle.bs_check.specs.declared.touches.Touches.{Touches}

-- the first part that touches the variable, whether that part writes it, and the first later part that clashes with it
pub record Holder : Type 0 where
  pub part : ℕ
  pub writes : Bool
  pub other : Option ℕ

abbrev pub Seen : Type 0
Seen = Option Holder

abbrev pub or_part : Option ℕ → Bool → ℕ → Option ℕ
or_part (Some k) clashes part = Some k
or_part None true part = Some part
or_part None false part = None

abbrev pub held : ℕ → Bool → Holder → Holder
held part writes h = if h.part == part then record h { writes = h.writes || writes } else record h { other = or_part h.other (h.writes || writes) part }

abbrev pub touched : ℕ → Bool → Seen → Seen
touched part writes None = Some (record { part = part; writes = writes; other = None })
touched part writes (Some h) = Some (held part writes h)

-- once something that stands in this part was looked at, where it reads or writes the variable
unfoldable pub note : ℕ → Bool → Bool → Seen → Seen
note part reads writes seen = if reads || writes then touched part writes seen else seen

-- what stands in a row of the table for an `overlap`
abbrev pub seen_in : ℕ → Touch → Seen
seen_in overlap t = if t.overlap == overlap then Some (record { part = t.part; writes = t.writes; other = t.other }) else None

abbrev pub seen_if : ℕ → Option Touch → Seen
seen_if overlap None = None
seen_if overlap (Some t) = seen_in overlap t

-- what stands in the table for a name
unfoldable pub seen : Touches → NameId → Seen
seen ts name = seen_if ts.overlap (slice_get ts.touches.items name.0)

abbrev pub size : Touches → ℕ
size ts = length ts.touches.items

-- each row is of an `overlap` below this one
unfoldable pub IsBehind : Touches → ℕ → Type 0
IsBehind ts overlap = All (λ t. t.overlap < overlap) ts.touches.items

abbrev pub pair_with : ℕ → Option ℕ → Option Pair
pair_with k None = None
pair_with k (Some j) = Some (record { one = k; other = j })

abbrev pub pair_of : Seen → Option Pair
pair_of None = None
pair_of (Some h) = pair_with h.part h.other

-- where the table says that no two parts clash, none do
unfoldable pub IsFlagged : Touches → Type 0
IsFlagged ts = ts.clashes ≡ false → (name : NameId) → pair_of (seen ts name) ≡ None

pub record Keeps (old new : Touches) : Type 0 where
  pub size : size new ≡ size old
  pub overlap : new.overlap ≡ old.overlap
  pub part : new.part ≡ old.part
  pub behind : (n : ℕ) → old.overlap < n → IsBehind old n → IsBehind new n
  pub flagged : IsFlagged old → IsFlagged new

-- something that reads and writes these names was looked at
pub record Noted (old new : Touches) (reads writes : NameId → Bool) : Type 0 where
  pub keeps : Keeps old new
  pub noted : (name : NameId) → name.0 < size old → seen new name ≡ note old.part (reads name) (writes name) (seen old name)

-- nothing but the part that is looked at may differ in the frame
pub record Follows (old new : Touches) : Type 0 where
  pub size : size new ≡ size old
  pub overlap : new.overlap ≡ old.overlap
  pub behind : (n : ℕ) → old.overlap < n → IsBehind old n → IsBehind new n
  pub flagged : IsFlagged old → IsFlagged new

-- once parts, the first of which has this number, were looked at
abbrev pub after_parts : NameId → ℕ → List Stmt → Seen → Seen
after_parts name k [] s = s
after_parts name k (a ∷ parts) s = after_parts name (k + 1) parts (note k (stmt_reads name a) (stmt_writes name a) s)

-- among variables, the first of which has this number, the first for which a clash stands in the table
abbrev pub shared_from : ℕ → List VarDecl → Touches → Option Rule
shared_from v [] ts = None
shared_from v (d ∷ ds) ts = or_else_rule v (pair_of (seen ts d.name)) (shared_from (v + 1) ds ts)
