-- The states that the serial machine model reaches, and how its outcome shows a round (docs/model.md).
use Rattle.std.specs.Prelude.{◌≡◌, ℕ, ◌+◌, List, [], ◌∷◌, ◌++◌, map}
use Rattle.bs_tree.specs.declared.tree.Program.{Program}
use Rattle.bs_log.specs.declared.history.Block.{Block}
use Rattle.bs_log.specs.declared.history.History.{History}
use Rattle.bs_log.specs.declared.outcome.Outcome.{Outcome}
use Rattle.bs_log.specs.Collected.{traps_from, waits_from}
use Rattle.bs_semantics.specs.Rounds.{round}
use Rattle.bs_semantics.specs.Serial.{Machine, Started, IsClean, IsNext, row_of}

-- the model begins with nothing started, and in a clean state it starts the next block
pub data IsReached (p : Program) (limit : ℕ) (m : Machine) : List Started → Type 0 where
  begins : IsReached p limit m []
  goes_on : (bs : List Started) (b : Started) → IsReached p limit m bs → IsClean p limit bs → IsNext m p limit bs b → IsReached p limit m (b ∷ bs)

-- a block of a chare
pub record Placed : Type 0 where
  pub chare : ℕ
  pub block : Block

-- the blocks of histories, those of the chares from c on, in the order of (chare, path)
abbrev pub blocks_from : ℕ → List History → List Placed
blocks_from c [] = []
blocks_from c (h ∷ hs) = map (λ x. record { chare = c; block = x }) h.blocks ++ blocks_from (c + 1) hs

-- without its start
abbrev pub placed : Started → Placed
placed b = record { chare = b.chare; block = b.block }

-- the rows of an outcome are the blocks of round n in order, each once and with its start, and the traps and waits are
-- those of round n
pub record Shows (p : Program) (limit : ℕ) (m : Machine) (n : ℕ) (o : Outcome) : Type 0 where
  pub started : List Started
  pub blocks : map placed started ≡ blocks_from 0 (round p limit n)
  pub rows : o.rows ≡ map (row_of m) started
  pub traps : o.traps ≡ traps_from 0 (round p limit n)
  pub waits : o.waits ≡ waits_from 0 (round p limit n)
