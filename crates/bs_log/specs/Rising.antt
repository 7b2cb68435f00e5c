-- Blocks that stand in their order, and causes that do, in blocks and in rows (docs/model.md).
use Rattle.std.specs.Prelude.{◌≡◌, ◌⊎◌, ◌<◌, List}
use Rattle.std.specs.Ordering.{nat_cmp, ordering_then}
use Rattle.std.specs.Cmp.Lexicographic.{slice_cmp}
use Rattle.std.specs.declared.cmp.Ordering.TheVariants.{Less}
use Rattle.bs_log.specs.declared.history.Origin.{Origin}
use Rattle.bs_log.specs.declared.history.Block.{Block}
use Rattle.bs_log.specs.declared.log.MailRef.{MailRef}
use Rattle.bs_log.specs.declared.log.Row.{Row}
use Rattle.bs_log.specs.Lists.{InOrder}
use Rattle.bs_log.specs.Paths.{IsBelow}

-- the path of each block is below those of all later ones
abbrev pub Rising : List Block → Type 0
Rising = InOrder (λ x y. IsBelow x.path.0 y.path.0)

-- messages are ordered by (chare, path, place of the send)
abbrev pub IsBefore : Origin → Origin → Type 0
IsBefore a b = ordering_then (nat_cmp a.chare b.chare) (ordering_then (slice_cmp nat_cmp a.path.0 b.path.0) (nat_cmp a.index b.index)) ≡ Less

-- block causes rise by path, and message causes by (chare, path, place of the send)
pub record CausesRise (x : Block) : Type 0 where
  pub after : InOrder (λ q r. IsBelow q.0 r.0) x.after
  pub mail : InOrder IsBefore x.mail

-- messages of a log are ordered by (row, place of the send)
abbrev pub IsLower : MailRef → MailRef → Type 0
IsLower a b = (a.row < b.row) ⊎ ((a.row ≡ b.row) × (a.index < b.index))

-- block causes rise by row, and message causes by (row, place of the send)
pub record RowRises (r : Row) : Type 0 where
  pub after : InOrder (λ m n. m < n) r.after
  pub mail : InOrder IsLower r.mail
