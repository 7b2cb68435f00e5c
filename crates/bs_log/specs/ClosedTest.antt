-- What a test of histories by themselves can ask, without the program's body: closed sets pass it (docs/model.md).
use Rattle.std.specs.Prelude.{◌≤◌, List, length}
use Rattle.bs_log.specs.declared.history.History.{History}
use Rattle.bs_log.specs.Size.{size_all}
use Rattle.bs_log.specs.Sound.{AreSound, Once}

-- the histories are those of the chares from 0 on: there are some and not too many, each is sound, each key is sent and
-- asked once, and together they are not too large
pub record LooksClosed (hs : List History) : Type 0 where
  pub some : 1 ≤ length hs
  pub count : length hs ≤ 65536
  pub sound : AreSound hs 0 hs
  pub once : Once hs
  pub size : size_all hs ≤ 262144
