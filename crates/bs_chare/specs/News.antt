-- What a chare sends newly.
use Rattle.std.specs.Prelude.{◌≡◌, ◌⊎◌, Bool, false, if◌then◌else◌, List, [], ◌∷◌, ◌++◌, drop}
use Rattle.bs_log.specs.declared.history.Message.{Message}
use Rattle.bs_log.specs.declared.history.Block.{Block}
use Rattle.bs_log.specs.Messages.{same_path}
use Rattle.bs_log.specs.Lists.{Mem}
use Rattle.bs_semantics.specs.Growth.{Subsequence}

-- these are the messages that are sent and weren't sent before, in the order in which they are sent
pub record AreNews (before sent news : List Message) : Type 0 where
  pub order : Subsequence Message news sent
  pub unsent : (m : Message) → Mem m news → Mem m before → ⊥
  pub all : (m : Message) → Mem m sent → Mem m before ⊎ Mem m news

-- whether the first of some blocks is at the path of this one
abbrev pub is_head : List Block → Block → Bool
is_head [] b = false
is_head (x ∷ xs) b = same_path x.path b.path

-- what blocks send, but for those that are met at the paths of earlier ones, which are gone through in step
abbrev pub fresh : List Block → List Block → List Message
fresh xs [] = []
fresh xs (b ∷ bs) = if is_head xs b then fresh (drop 1 xs) bs else b.sends ++ fresh xs bs
