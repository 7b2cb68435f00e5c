-- The serial machine model: blocks are started one at a time, the least start first, and all histories are taken anew
-- at each step (docs/model.md).
use Rattle.std.specs.Prelude.{◌≡◌, ◌≤◌, ◌<◌, ◌⊎◌, ℕ, ◌+◌, ◌-◌, ◌==◌, max, ◌&&◌, if◌then◌else◌, List, [], ◌∷◌, ◌++◌, map, Option, Some, None, slice_get}
use Rattle.std.specs.Ordering.{nat_cmp, ordering_then}
use Rattle.std.specs.Cmp.Lexicographic.{slice_cmp}
use Rattle.std.specs.Str.{bytes_eq}
use Rattle.std.specs.declared.cmp.Ordering.{Ordering}
use Rattle.std.specs.declared.cmp.Ordering.TheVariants.{Less}
use Rattle.bs_tree.specs.declared.tree.Program.{Program}
use Rattle.bs_tree.specs.declared.tree.Path.{Path}
use Rattle.bs_log.specs.declared.history.Origin.{Origin}
use Rattle.bs_log.specs.declared.history.Message.{Message}
use Rattle.bs_log.specs.declared.history.Block.{Block}
use Rattle.bs_log.specs.declared.history.History.{History}
use Rattle.bs_log.specs.declared.outcome.OutRow.{OutRow}
use Rattle.bs_log.specs.declared.outcome.Outcome.{Outcome}
use Rattle.bs_log.specs.Size.{size_all}
use Rattle.bs_log.specs.Collected.{traps_from, waits_from}
use Rattle.bs_log.specs.Lists.{Mem}
use Rattle.bs_log.specs.Sound.{Once}
use Rattle.bs_semantics.specs.Run.{greatest, put_all, history}
use Rattle.bs_semantics.specs.Rounds.{chares, histories, mail_to}

-- the processor of a chare, the latency from one processor to another for a number of bytes, and the duration of a cost
pub record Machine : Type 0 where
  pub home : ℕ → ℕ
  pub latency : ℕ → ℕ → ℕ → ℕ
  pub duration : ℕ → ℕ

-- a block that was started. A state is a list of these, the last one first
pub record Started : Type 0 where
  pub chare : ℕ
  pub block : Block
  pub start : ℕ

-- the mail is what the started blocks sent
abbrev pub messages : List Started → List Message
messages [] = []
messages (b ∷ bs) = b.block.sends ++ messages bs

abbrev pub histories_at : Program → ℕ → List Started → List History
histories_at p limit bs = histories p limit (messages bs)

-- a state is clean where its histories aren't too long, and no chare is sent or asks one key twice
pub record IsClean (p : Program) (limit : ℕ) (bs : List Started) : Type 0 where
  pub size : size_all (histories_at p limit bs) ≤ limit
  pub once : Once (histories_at p limit bs)

-- the started block of a chare at a path
abbrev pub find : List Started → ℕ → List ℕ → Option Started
find [] c path = None
find (b ∷ bs) c path = if (b.chare == c) && bytes_eq b.block.path.0 path then Some b else find bs c path

-- a block of a chare that wasn't started, and whose block causes were
pub record IsEnabled (p : Program) (limit : ℕ) (bs : List Started) (c : ℕ) (x : Block) : Type 0 where
  pub chare : Mem c (chares p)
  pub block : Mem x (history p limit c (mail_to (messages bs) c)).blocks
  pub fresh : find bs c x.path.0 ≡ None
  pub causes : (q : Path) → Mem q x.after → (b : Started) × (find bs c q.0 ≡ Some b)

module _ (m : Machine) where
  abbrev pub end_of : Started → ℕ
  end_of b = b.start + m.duration b.block.cost

  abbrev pub end_found : Option Started → ℕ
  end_found None = 0
  end_found (Some b) = end_of b

  -- when a message arrives: the start of its block, the duration of its offset, and the latency
  abbrev pub arrival_of : ℕ → Started → Option Message → ℕ
  arrival_of c b None = 0
  arrival_of c b (Some s) = b.start + m.duration s.sent.offset + m.latency (m.home b.chare) (m.home c) s.sent.bytes

  abbrev pub arrival_found : ℕ → Origin → Option Started → ℕ
  arrival_found c o None = 0
  arrival_found c o (Some b) = arrival_of c b (slice_get b.block.sends (o.index - 1))

  -- the greatest of the ends of the block causes and the arrivals of the message causes, 0 without causes
  abbrev pub ready : List Started → ℕ → Block → ℕ
  ready bs c x = max (greatest (λ q. end_found (find bs c q.0)) x.after) (greatest (λ o. arrival_found c o (find bs o.chare o.path.0)) x.mail)

  -- the end of the last block that was started on a processor
  abbrev pub free : List Started → ℕ → ℕ
  free [] q = 0
  free (b ∷ bs) q = if m.home b.chare == q then end_of b else free bs q

  abbrev pub would_start : List Started → ℕ → Block → ℕ
  would_start bs c x = max (ready bs c x) (free bs (m.home c))

  -- the order of (ready tick, chare, path)
  abbrev pub Earlier : List Started → ℕ → Block → ℕ → Block → Type 0
  Earlier bs c x d y = (ready bs c x < ready bs d y) ⊎ ((ready bs c x ≡ ready bs d y) × ((c < d) ⊎ ((c ≡ d) × (slice_cmp nat_cmp x.path.0 y.path.0 ≡ Less))))

  -- the candidate of a processor: its enabled block of least (ready tick, chare, path)
  pub record IsCandidate (p : Program) (limit : ℕ) (bs : List Started) (q c : ℕ) (x : Block) : Type 0 where
    pub enabled : IsEnabled p limit bs c x
    pub home : m.home c ≡ q
    pub least : (d : ℕ) (y : Block) → IsEnabled p limit bs d y → m.home d ≡ q → ((c ≡ d) × (x ≡ y)) ⊎ Earlier bs c x d y

  -- the candidate of least (start, processor)
  pub record IsNext (p : Program) (limit : ℕ) (bs : List Started) (b : Started) : Type 0 where
    pub candidate : IsCandidate p limit bs (m.home b.chare) b.chare b.block
    pub start : b.start ≡ would_start bs b.chare b.block
    pub least : (q d : ℕ) (y : Block) → IsCandidate p limit bs q d y → (b.start < would_start bs d y) ⊎ ((b.start ≡ would_start bs d y) × (m.home b.chare ≤ q))

  -- ---- the outcome of a state

  abbrev pub started_cmp : Started → Started → Ordering
  started_cmp a b = ordering_then (nat_cmp a.chare b.chare) (slice_cmp nat_cmp a.block.path.0 b.block.path.0)

  abbrev pub row_of : Started → OutRow
  row_of b = record { chare = b.chare; stmt = b.block.stmt; processor = m.home b.chare; start = b.start; end = end_of b; values = b.block.emits }

  -- the started blocks in the order of (chare, path)
  abbrev pub rows_of : List Started → List OutRow
  rows_of bs = map row_of (put_all started_cmp bs [])

  abbrev pub outcome : Program → ℕ → List Started → Outcome
  outcome p limit bs = record { rows = rows_of bs; traps = traps_from 0 (histories_at p limit bs); waits = waits_from 0 (histories_at p limit bs) }

-- what the model gives: an outcome, or nothing where some state isn't clean
pub data Simulated : Type 0 where
  timed : Outcome → Simulated
  unclean : Simulated

-- what the model gives from a state on
pub data Gives (p : Program) (limit : ℕ) (m : Machine) : List Started → Simulated → Type 0 where
  stops : (bs : List Started) → (IsClean p limit bs → ⊥) → Gives p limit m bs unclean
  ends : (bs : List Started) → IsClean p limit bs → ((c : ℕ) (x : Block) → IsEnabled p limit bs c x → ⊥) → Gives p limit m bs (timed (outcome m p limit bs))
  starts : (bs : List Started) (b : Started) (r : Simulated) → IsClean p limit bs → IsNext m p limit bs b → Gives p limit m (b ∷ bs) r → Gives p limit m bs r

-- the model begins with nothing started
abbrev pub IsSerial : Program → ℕ → Machine → Simulated → Type 0
IsSerial p limit m r = Gives p limit m [] r
