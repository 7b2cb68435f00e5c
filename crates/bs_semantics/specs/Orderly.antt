-- What every history is like: its lists rise by path, and each block rests on blocks before it and on messages of its
-- mail (docs/model.md).
use Rattle.std.specs.Prelude.{◌≡◌, ◌⊎◌, ◌≤◌, ◌<◌, ℕ, suc, true, List, [], ◌∷◌, Some, None, map, max}
use Rattle.bs_tree.specs.declared.tree.Program.{Program}
use Rattle.bs_tree.specs.Count.{statements_in}
use Rattle.bs_log.specs.declared.history.Key.{Key}
use Rattle.bs_log.specs.declared.history.Origin.{Origin}
use Rattle.bs_log.specs.declared.history.Message.{Message}
use Rattle.bs_log.specs.declared.history.Block.{Block}
use Rattle.bs_log.specs.declared.history.Asked.{Asked}
use Rattle.bs_log.specs.declared.history.WaitAt.{WaitAt}
use Rattle.bs_log.specs.declared.history.TrapAt.{TrapAt}
use Rattle.bs_log.specs.declared.history.History.{History}
use Rattle.bs_log.specs.Lists.{Mem, InOrder}
use Rattle.bs_log.specs.Paths.{IsBelow, IsUpTo}
use Rattle.bs_log.specs.Rising.{Rising}
use Rattle.bs_semantics.specs.Acts.{Parcel}
use Rattle.bs_semantics.specs.Run.{Lookup, signed, greatest}

-- the block causes are blocks that P holds of, and the depth is 1 more than the greatest of all causes
pub record RestsOn (P : Block → Type 0) (x : Block) : Type 0 where
  pub causes : List Block
  pub known : (b : Block) → Mem b causes → P b
  pub after : x.after ≡ map (λ b. b.path) causes
  pub depth : x.depth ≡ suc (max (greatest (λ b. b.depth) causes) (greatest (λ o. o.depth) x.mail))

-- each rests on blocks that P holds of and on those before it
abbrev pub EachRestsOn : (Block → Type 0) → List Block → Type 0
EachRestsOn P [] = Unit {0}
EachRestsOn P (x ∷ xs) = RestsOn P x × EachRestsOn (λ b. (b ≡ x) ⊎ P b) xs

-- a message of the mail has this origin
pub record CameBy (mail : Lookup) (o : Origin) : Type 0 where
  pub key : Key
  pub message : Message
  pub is_held : mail key ≡ Some message
  pub is_from : message.origin ≡ o

-- blocks and traps rise by path, and no key is asked or waited for at a path above that of a later one; each block rests
-- on blocks before it, its messages are signed by it and counted from 1, and its message causes came by the mail; no key
-- that is waited for is in the mail; and where the body ended there is no trap and no wait
pub record IsOrderly (c : ℕ) (mail : Lookup) (h : History) : Type 0 where
  pub rising : Rising h.blocks
  pub asked : InOrder (λ x y. IsUpTo x.path.0 y.path.0) h.asked
  pub traps : InOrder (λ x y. IsBelow x.path.0 y.path.0) h.traps
  pub waits : InOrder (λ x y. IsUpTo x.path.0 y.path.0) h.waits
  pub earlier : EachRestsOn (λ b. ⊥) h.blocks
  pub signed : (x : Block) → Mem x h.blocks → (ps : List Parcel) × (x.sends ≡ signed c x.path.0 x.depth 1 ps)
  pub came : (x : Block) → Mem x h.blocks → (o : Origin) → Mem o x.mail → CameBy mail o
  pub lacks : (w : WaitAt) → Mem w h.waits → mail w.key ≡ None
  pub quiet : h.ended ≡ true → (h.traps ≡ []) × (h.waits ≡ [])

-- a number of one of the program's statements, which are counted from 1
abbrev pub IsStatement : Program → ℕ → Type 0
IsStatement p n = (1 ≤ n) × (n ≤ statements_in p.body)

-- all that a history holds stands at statements of the program; the traps rise by statement, and no wait stands at a
-- statement above that of a later one
pub record IsNumbered (p : Program) (h : History) : Type 0 where
  pub blocks : (x : Block) → Mem x h.blocks → IsStatement p x.stmt
  pub asked : (a : Asked) → Mem a h.asked → IsStatement p a.stmt
  pub traps : (t : TrapAt) → Mem t h.traps → IsStatement p t.stmt
  pub waits : (w : WaitAt) → Mem w h.waits → IsStatement p w.stmt
  pub trap_order : InOrder (λ x y. x.stmt < y.stmt) h.traps
  pub wait_order : InOrder (λ x y. x.stmt ≤ y.stmt) h.waits

-- messages of the mail that come from one place have one depth
abbrev pub PlacesHaveOneDepth : Lookup → Type 0
PlacesHaveOneDepth mail = (o u : Origin) → CameBy mail o → CameBy mail u → o.chare ≡ u.chare → o.path.0 ≡ u.path.0 → o.index ≡ u.index → o.depth ≡ u.depth
