-- Ends, arrivals, ready ticks, the table of one processor and of all, and waves (docs/model.md).
use Rattle.std.specs.Prelude.{◌≡◌, ◌<◌, ◌+◌, ◌⊎◌, ◌↔◌, ◌*◌, ℕ, zero, suc, max, List, [], ◌∷◌, map}
use Rattle.bs_log.specs.declared.log.MailRef.{MailRef}
use Rattle.bs_log.specs.Lists.{Mem}
use Rattle.bs_times.specs.Net.{Net, Starts, Ticks, HasRow}

-- the greatest of a list, and 0 for none
abbrev pub greatest : List ℕ → ℕ
greatest [] = 0
greatest (x ∷ xs) = max x (greatest xs)

-- a block ends at its start and its duration
abbrev pub end_of : Net → Starts → ℕ → ℕ
end_of net s i = s i + net.duration i

-- a message arrives at its sender's start and what it takes from there
abbrev pub arrival : Net → Starts → Ticks
arrival net s m = s m.row + net.travel m

-- the ready tick: the greatest of the ends of the block causes and the ticks held for the message causes, 0 without causes
abbrev pub ready : Net → Ticks → Starts → ℕ → ℕ
ready net held s i = max (greatest (map (end_of net s) (net.after i))) (greatest (map held (net.mail i)))

-- row i comes before row j in the order of (ready tick, number)
abbrev pub Comes : Starts → ℕ → ℕ → Type 0
Comes r i j = (r i < r j) ⊎ ((r i ≡ r j) × (i < j))

-- row i comes before all of these
abbrev pub First : Starts → ℕ → List ℕ → Type 0
First r i [] = Unit {0}
First r i (j ∷ js) = Comes r i j × First r i js

-- The rows stand in the order of (ready tick, number). Each starts at the greater of its ready tick and the end before
-- it, the first of them at the greater of its ready tick and `last`.
abbrev pub Runs : (ready ends s : Starts) → ℕ → List ℕ → Type 0
Runs r e s last [] = Unit {0}
Runs r e s last (i ∷ is) = (s i ≡ max (r i) last) × First r i is × Runs r e s (e i) is

-- row i runs on processor p
abbrev pub IsOn : Net → ℕ → ℕ → Type 0
IsOn net p i = HasRow net i × (net.home i ≡ p)

-- processor p has a row, and so a line
abbrev pub HasLine : Net → ℕ → Type 0
HasLine net p = (i : ℕ) × IsOn net p i

-- the table of processor p, where its messages arrive at the ticks that are held: its rows run in their order
pub record IsLine (net : Net) (p : ℕ) (held : Ticks) (s : Starts) : Type 0 where
  pub order : List ℕ
  pub all : (i : ℕ) → IsOn net p i ↔ Mem i order
  pub runs : Runs (ready net held s) (end_of net s) s 0 order

-- the tables of all processors
abbrev pub IsTable : Net → Ticks → Starts → Type 0
IsTable net held s = (p : ℕ) → IsLine net p held s

-- a consistent table: each message arrives when the table itself says
abbrev pub IsConsistent : Net → Starts → Type 0
IsConsistent net s = IsTable net (arrival net s) s

-- ---- waves

-- a message that some row names as a cause
abbrev pub IsListed : Net → MailRef → Type 0
IsListed net m = (i : ℕ) × HasRow net i × Mem m (net.mail i)

-- one wave: the ticks held after it are the arrivals by the tables over the ticks held before it
pub record IsWave (net : Net) (held given : Ticks) : Type 0 where
  pub table : Starts
  pub lines : IsTable net held table
  pub arrives : (m : MailRef) → IsListed net m → given m ≡ arrival net table m

-- waves one after another; the first begins from the estimates `ticks 0`
abbrev pub AreWaves : Net → (ℕ → Ticks) → Type 0
AreWaves net ticks = (k : ℕ) → IsWave net (ticks k) (ticks (suc k))

-- the same ticks for all listed messages
abbrev pub SameTicks : Net → Ticks → Ticks → Type 0
SameTicks net held given = (m : MailRef) → IsListed net m → held m ≡ given m

-- wave k + 1, counted from 1, changes no tick
abbrev pub IsStill : Net → (ℕ → Ticks) → ℕ → Type 0
IsStill net ticks k = SameTicks net (ticks (suc k)) (ticks k)

-- it is the first such wave, and settles the run
pub record Settles (net : Net) (ticks : ℕ → Ticks) (k : ℕ) : Type 0 where
  pub still : IsStill net ticks k
  pub first : (j : ℕ) → j < k → IsStill net ticks j → ⊥

-- the greatest of f 1 .. f n
abbrev pub greatest_to : (ℕ → ℕ) → ℕ → ℕ
greatest_to f zero = 0
greatest_to f (suc n) = max (greatest_to f n) (f (suc n))

-- so many waves are enough
abbrev pub budget : Net → ℕ
budget net = net.rows * (greatest_to net.depth net.rows + 1) + 2
