-- How deep runs and sets of histories go (docs/model.md).
use Rattle.std.specs.Prelude.{◌≡◌, ◌≤◌, ◌<◌, ℕ, List, [], ◌∷◌, ◌++◌, Some, length}
use Rattle.bs_log.specs.declared.history.Key.{Key}
use Rattle.bs_log.specs.declared.history.Message.{Message}
use Rattle.bs_log.specs.declared.history.Block.{Block}
use Rattle.bs_log.specs.declared.history.History.{History}
use Rattle.bs_log.specs.Lists.{Mem}
use Rattle.bs_semantics.specs.Run.{Lookup, Run, State, Does, depth_of}
use Rattle.bs_semantics.specs.Growth.{PartOf}

-- the messages of depth less than d that the mail b holds, the mail a holds
abbrev pub HoldsBelow : ℕ → Lookup → Lookup → Type 0
HoldsBelow d a b = (k : Key) (m : Message) → b k ≡ Some m → m.origin.depth < d → a k ≡ Some m

-- the blocks of depth at most d of the run q are blocks of r, and an end of q whose causes have a depth less than d is
-- the end of r
pub record ReachesDepth (d : ℕ) (r q : Run) : Type 0 where
  pub blocks : (x : Block) → Mem x q.blocks → x.depth ≤ d → Mem x r.blocks
  pub end : (e : State) → q.end ≡ Some e → depth_of e.causes < d → r.end ≡ Some e

-- from each state, at each path, a part of a mail that lacks none of its messages of depth less than d lacks none of the
-- blocks of depth at most d
abbrev pub RunReaches : Does → Type 0
RunReaches does = (d : ℕ) (a b : Lookup) → PartOf a b → HoldsBelow d a b → (n : ℕ) (path : List ℕ) (s : State) → ReachesDepth d (does a n path s) (does b n path s)

abbrev pub all_blocks : List History → List Block
all_blocks [] = []
all_blocks (h ∷ hs) = h.blocks ++ all_blocks hs

-- no block is deeper than there are blocks
abbrev pub IsShallow : List History → Type 0
IsShallow hs = (x : Block) → Mem x (all_blocks hs) → x.depth ≤ length (all_blocks hs)
