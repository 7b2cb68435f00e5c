-- What a test of histories by themselves can ask, without the program's body: closed sets pass it (docs/model.md).
use Rattle.std.specs.Prelude.{◌≡◌, ◌≤◌, ℕ, List, length}
use Rattle.bs_tree.specs.declared.tree.Program.{Program}
use Rattle.bs_log.specs.declared.history.History.{History}
use Rattle.bs_log.specs.Size.{size_all}
use Rattle.bs_log.specs.Sound.{AreSound, Once}

-- the histories are as many as the program's chares, each is sound, each key is sent and asked once, and their size is at
-- most the limit
pub record Passes (p : Program) (limit : ℕ) (hs : List History) : Type 0 where
  pub count : length hs ≡ p.chares
  pub sound : AreSound hs 0 hs
  pub once : Once hs
  pub size : size_all hs ≤ limit
