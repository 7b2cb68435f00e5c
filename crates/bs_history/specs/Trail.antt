-- What is written of a history.
use Rattle.std.specs.Prelude.{◌≡◌, ◌≤◌, ◌<◌, ℕ, ◌+◌, List, [], ◌∷◌, ◌++◌, length, sum_by, None, Result, Ok, Err}
use Rattle.bs_log.specs.declared.history.Key.{Key}
use Rattle.bs_log.specs.declared.history.Block.{Block}
use Rattle.bs_log.specs.Size.{block_size, size}
use Rattle.bs_semantics.specs.Run.{Run, to_history}
use Rattle.bs_history.specs.declared.trail.Trail.{Trail}
use Rattle.bs_history.specs.declared.trail.Lists.{Lists}
use Rattle.bs_history.specs.declared.fault.HistoryFault.{HistoryFault}
use Rattle.bs_history.specs.declared.fault.HistoryFault.TheVariants.{Long, Memory}

-- what was written, and a run behind it
abbrev pub so_far : Trail → Run → Run
so_far t r = record { blocks = t.blocks ++ r.blocks; asked = t.asked ++ r.asked; traps = t.traps ++ r.traps; waits = t.waits ++ r.waits; end = r.end }

abbrev pub run_size : Run → ℕ
run_size r = size (to_history r)

-- the size of what was written is known, and it is at most the limit
pub record IsWithin (limit : ℕ) (t : Trail) : Type 0 where
  pub size : t.size ≡ sum_by block_size t.blocks + length t.asked + length t.traps
  pub most : t.size ≤ limit

-- what a run wrote stands behind what was there
pub record Wrote (limit : ℕ) (r : Run) (old new : Trail) : Type 0 where
  pub path : new.path.items ≡ old.path.items
  pub blocks : new.blocks ≡ old.blocks ++ r.blocks
  pub asked : new.asked ≡ old.asked ++ r.asked
  pub traps : new.traps ≡ old.traps ++ r.traps
  pub waits : new.waits ≡ old.waits ++ r.waits
  pub within : IsWithin limit new

-- it was written, or with it the size is above the limit
abbrev pub Writes : ℕ → Run → Trail → Trail → Result Unit HistoryFault → Type 0
Writes limit r old new (Ok _) = Wrote limit r old new
Writes limit r old new (Err Long) = limit < run_size (so_far old r)
Writes limit r old new (Err Memory) = Unit {0}

-- a run that wrote these lists and has come to no end
abbrev pub lists_run : Lists → Run
lists_run l = record { blocks = l.blocks; asked = l.asked; traps = l.traps; waits = l.waits; end = None }

-- what a run wrote, of this size, stands behind what was there
pub record Added (r : Run) (more : ℕ) (old new : Trail) : Type 0 where
  pub path : new.path.items ≡ old.path.items
  pub blocks : new.blocks ≡ old.blocks ++ r.blocks
  pub asked : new.asked ≡ old.asked ++ r.asked
  pub traps : new.traps ≡ old.traps ++ r.traps
  pub waits : new.waits ≡ old.waits ++ r.waits
  pub size : new.size ≡ old.size + more

abbrev pub a_block : Block → Run
a_block b = record { blocks = b ∷ []; asked = []; traps = []; waits = []; end = None }

abbrev pub an_asked : ℕ → List ℕ → Key → Run
an_asked n path k = record { blocks = []; asked = record { key = k; path = record { 0 = path }; stmt = n } ∷ []; traps = []; waits = []; end = None }
