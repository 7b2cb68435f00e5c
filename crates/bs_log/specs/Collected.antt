-- The log of histories: their blocks as rows in the order of (chare, path), numbered from 1, and then their traps and
-- their waits (docs/model.md).
use Rattle.std.specs.Prelude.{ℕ, suc, ◌+◌, ◌==◌, Bool, ◌&&◌, if◌then◌else◌, List, [], ◌∷◌, ◌++◌, map, length, sum_by}
use Rattle.bs_tree.specs.declared.tree.Path.{Path}
use Rattle.bs_log.specs.declared.history.Origin.{Origin}
use Rattle.bs_log.specs.declared.history.Block.{Block}
use Rattle.bs_log.specs.declared.history.WaitAt.{WaitAt}
use Rattle.bs_log.specs.declared.history.TrapAt.{TrapAt}
use Rattle.bs_log.specs.declared.history.History.{History}
use Rattle.bs_log.specs.declared.log.MailRef.{MailRef}
use Rattle.bs_log.specs.declared.log.Row.{Row}
use Rattle.bs_log.specs.declared.log.TrapRow.{TrapRow}
use Rattle.bs_log.specs.declared.log.WaitRow.{WaitRow}
use Rattle.bs_log.specs.declared.log.Log.{Log}
use Rattle.bs_log.specs.Messages.{same_path}

-- where a block stands
pub record Site : Type 0 where
  pub chare : ℕ
  pub path : Path

abbrev pub site : ℕ → Block → Site
site c x = record { chare = c; path = x.path }

-- where the blocks of histories stand, in the order of (chare, path); the first history is that of the chare c
abbrev pub sites_from : ℕ → List History → List Site
sites_from c [] = []
sites_from c (h ∷ hs) = map (site c) h.blocks ++ sites_from (c + 1) hs

-- the place of the first that passes, from 0, or the length
abbrev pub place : {X : Type 0} → (X → Bool) → List X → ℕ
place p [] = 0
place p (x ∷ xs) = if p x then 0 else suc (place p xs)

abbrev pub is_site : ℕ → Path → Site → Bool
is_site c p s = (s.chare == c) && same_path s.path p

-- the number of the row of a block, from 1
unfoldable pub number_of : List History → ℕ → Path → ℕ
number_of hs c p = place (is_site c p) (sites_from 0 hs) + 1

abbrev pub mail_ref : List History → Origin → MailRef
mail_ref hs o = record { row = number_of hs o.chare o.path; index = o.index }

-- the row of a block, with the rows that it names
unfoldable pub row_of : List History → ℕ → Block → Row
row_of hs c x = record {
  chare = c;
  stmt = x.stmt;
  depth = x.depth;
  cost = x.cost;
  after = map (number_of hs c) x.after;
  mail = map (mail_ref hs) x.mail;
  emits = x.emits;
  sends = map (λ m. m.sent) x.sends;
}

abbrev pub rows_from : List History → ℕ → List History → List Row
rows_from all c [] = []
rows_from all c (h ∷ hs) = map (row_of all c) h.blocks ++ rows_from all (c + 1) hs

abbrev pub trap_row : ℕ → TrapAt → TrapRow
trap_row c t = record { chare = c; stmt = t.stmt; kind = t.kind }

abbrev pub traps_from : ℕ → List History → List TrapRow
traps_from c [] = []
traps_from c (h ∷ hs) = map (trap_row c) h.traps ++ traps_from (c + 1) hs

abbrev pub wait_row : ℕ → WaitAt → WaitRow
wait_row c w = record { chare = c; stmt = w.stmt; key = w.key }

abbrev pub waits_from : ℕ → List History → List WaitRow
waits_from c [] = []
waits_from c (h ∷ hs) = map (wait_row c) h.waits ++ waits_from (c + 1) hs

-- the log of the histories of the chares from 0 on, of a program with so many entries
unfoldable pub log_of : List History → ℕ → Log
log_of hs entries = record {
  chares = length hs;
  entries = entries;
  rows = rows_from hs 0 hs;
  traps = traps_from 0 hs;
  waits = waits_from 0 hs;
}

-- how many blocks there are
abbrev pub blocks_in : List History → ℕ
blocks_in hs = sum_by (λ h. length h.blocks) hs
