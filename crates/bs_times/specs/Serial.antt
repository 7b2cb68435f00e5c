-- Starting the rows of a log one at a time, the least start first (docs/model.md).
use Rattle.std.specs.Prelude.{◌≡◌, ◌≤◌, ◌==◌, ◌⊎◌, ℕ, max, if◌then◌else◌, List, [], ◌∷◌}
use Rattle.bs_log.specs.declared.log.MailRef.{MailRef}
use Rattle.bs_log.specs.Lists.{Mem}
use Rattle.bs_times.specs.Net.{Net, Starts, HasRow}
use Rattle.bs_times.specs.Times.{Comes, end_of, arrival, ready}

-- the end of the last row that was started on p, and 0 where none was; the last one started stands first
abbrev pub free : Net → Starts → List ℕ → ℕ → ℕ
free net s [] p = 0
free net s (i ∷ done) p = if net.home i == p then end_of net s i else free net s done p

-- the causes of row k are started
pub record AreStarted (net : Net) (done : List ℕ) (k : ℕ) : Type 0 where
  pub after : (x : ℕ) → Mem x (net.after k) → Mem x done
  pub mail : (m : MailRef) → Mem m (net.mail k) → Mem m.row done

-- a row that isn't started, and whose causes are
pub record IsEnabled (net : Net) (done : List ℕ) (k : ℕ) : Type 0 where
  pub row : HasRow net k
  pub fresh : Mem k done → ⊥
  pub causes : AreStarted net done k

-- its ready tick, where messages arrive when the starts say
abbrev pub due : Net → Starts → ℕ → ℕ
due net s k = ready net (arrival net s) s k

abbrev pub would_start : Net → Starts → List ℕ → ℕ → ℕ
would_start net s done k = max (due net s k) (free net s done (net.home k))

-- row i starts next: of its processor's enabled rows it is the one of least (ready tick, number), no enabled row would
-- start before it, and it starts at the greater of its ready tick and the last end on its processor
pub record IsPick (net : Net) (s : Starts) (done : List ℕ) (i : ℕ) : Type 0 where
  pub enabled : IsEnabled net done i
  pub candidate : (k : ℕ) → IsEnabled net done k → net.home k ≡ net.home i → (i ≡ k) ⊎ Comes (due net s) i k
  pub least : (k : ℕ) → IsEnabled net done k → would_start net s done i ≤ would_start net s done k
  pub start : s i ≡ would_start net s done i

-- these rows were started one after the other, the last one first
abbrev pub IsRun : Net → Starts → List ℕ → Type 0
IsRun net s [] = Unit {0}
IsRun net s (i ∷ done) = IsPick net s done i × IsRun net s done
