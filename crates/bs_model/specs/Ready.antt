-- When a block is ready, as the book of the started blocks shows it.
use Rattle.std.specs.Prelude.{◌≡◌, ◌≤◌, ◌<◌, ℕ, ◌+◌, ◌-◌, ◌^◌, max, List, [], ◌∷◌, Option, Some, None, slice_get, All}
use Rattle.bs_tree.specs.declared.tree.Path.{Path}
use Rattle.bs_log.specs.declared.history.Origin.{Origin}
use Rattle.bs_log.specs.declared.history.Block.{Block}
use Rattle.bs_log.specs.declared.history.Sent.{Sent}
use Rattle.bs_machine.specs.declared.fitted.Fitted.{Fitted}
use Rattle.bs_machine.specs.Fitted.{processors_of, home_of, latency_of, duration_of}
use Rattle.bs_semantics.specs.Run.{greatest}
use Rattle.bs_model.specs.declared.book.Begun.{Begun}
use Rattle.bs_model.specs.declared.book.Book.{Book}
use Rattle.bs_model.specs.Book.{found}

-- a send that the machine can time
pub record IsTimeable (s : Sent) : Type 0 where
  pub least : 1 ≤ s.offset
  pub most : s.offset ≤ 2 ^ 32
  pub bytes : s.bytes ≤ 2 ^ 30

-- a block that lies on a processor, early enough to add times to it
pub record IsBooked (m : Fitted) (b : Begun) : Type 0 where
  pub processor : b.row.processor < processors_of m
  pub start : b.row.start < 2 ^ 100
  pub sends : All IsTimeable b.sends

abbrev pub AreBooked : Fitted → Book → Type 0
AreBooked m book = (c : ℕ) (path : List ℕ) (b : Begun) → found book c path ≡ Some b → IsBooked m b

-- the greater of two ticks, where both are there
abbrev pub later : Option Begun → Option ℕ → Option ℕ
later None _ = None
later (Some b) None = None
later (Some b) (Some tick) = Some (max b.row.end tick)

-- the greatest end of the blocks at these paths of a chare, where all of them were started
abbrev pub ends_in : Book → ℕ → List Path → Option ℕ
ends_in book c [] = Some 0
ends_in book c (q ∷ qs) = later (found book c q.0) (ends_in book c qs)

-- the greater of both, where the first is there
abbrev pub ready_where : Option ℕ → ℕ → Option ℕ
ready_where None arrivals = None
ready_where (Some ends) arrivals = Some (max ends arrivals)

-- a tick, unless the block was started
abbrev pub ready_unless : Option Begun → Option ℕ → Option ℕ
ready_unless None ready = ready
ready_unless (Some b) ready = None

module _ (m : Fitted) where
  -- when a send of a started block arrives at a chare
  abbrev pub arrival_of_send : ℕ → Begun → Option Sent → ℕ
  arrival_of_send c b None = 0
  arrival_of_send c b (Some s) = b.row.start + duration_of m s.offset + latency_of m b.row.processor (home_of m c) s.bytes

  abbrev pub arrival_in : Begun → ℕ → ℕ → ℕ
  arrival_in b index c = arrival_of_send c b (slice_get b.sends (index - 1))

  abbrev pub arrival_at : ℕ → ℕ → Option Begun → ℕ
  arrival_at c index None = 0
  arrival_at c index (Some b) = arrival_in b index c

  -- the greatest tick at which one of these messages arrives at a chare
  abbrev pub arrivals_in : Book → ℕ → List Origin → ℕ
  arrivals_in book c os = greatest (λ o. arrival_at c o.index (found book o.chare o.path.0)) os

  -- the ready tick of a block that isn't started, and whose block causes are
  abbrev pub candidate_in : Book → ℕ → Block → Option ℕ
  candidate_in book c x = ready_unless (found book c x.path.0) (ready_where (ends_in book c x.after) (arrivals_in book c x.mail))
