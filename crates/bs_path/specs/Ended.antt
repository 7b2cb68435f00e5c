-- How the link of a row is found: which row ends on its processor when it starts, and which of its causes.
use Rattle.std.specs.Prelude.{◌≡◌, ◌≤◌, ◌==◌, ℕ, Bool, if◌then◌else◌, Option, Some, None, find}
use Rattle.std.specs.declared.cmp.Ordering.{Ordering}
use Rattle.std.specs.Ordering.{nat_cmp, ordering_then}
use Rattle.bs_log.specs.declared.log.MailRef.{MailRef}
use Rattle.bs_times.specs.Net.{Net, Starts}
use Rattle.bs_times.specs.Times.{IsOn, arrival, end_of, greatest_to}
use Rattle.bs_path.specs.declared.links.Link.{Link}
use Rattle.bs_path.specs.declared.links.Link.TheVariants as link

-- a processor and a tick are ordered by the processor first
abbrev pub key_cmp : ℕ × ℕ → ℕ × ℕ → Ordering
key_cmp a b = ordering_then (nat_cmp a.0 b.0) (nat_cmp a.1 b.1)

-- of the first n rows, the row that ends on processor p at tick t, or none
abbrev pub EndsAt : Net → Starts → (n p t : ℕ) → Option ℕ → Type 0
EndsAt net s n p t None = (k : ℕ) → IsOn net p k → k ≤ n → end_of net s k ≡ t → ⊥
EndsAt net s n p t (Some k) = IsOn net p k × (end_of net s k ≡ t)

-- whether a row ends, and whether a message arrives, at a tick
abbrev pub ends_at : Net → Starts → ℕ → ℕ → Bool
ends_at net s t k = end_of net s k == t

abbrev pub arrives_at : Net → Starts → ℕ → MailRef → Bool
arrives_at net s t m = arrival net s m == t

-- the link by the first block cause, if there is one, or the first message cause
abbrev pub by_cause : Option ℕ → Option MailRef → Link
by_cause (Some j) m = link.After j
by_cause None (Some m) = link.Mail m
by_cause None None = link.First

-- the link by the first cause that ends or arrives at a tick
abbrev pub first_cause : Net → Starts → (i t : ℕ) → Link
first_cause net s i t = by_cause (find (ends_at net s t) (net.after i)) (find (arrives_at net s t) (net.mail i))

-- the link by the row that ends on the processor, if there is one, or by a cause
abbrev pub by_row : Option ℕ → Link → Link
by_row (Some j) other = link.Processor j
by_row None other = other

-- the link of a row, where this is the row that ends on its processor when it starts
abbrev pub link_by : Net → Starts → ℕ → Option ℕ → Link
link_by net s i j = if s i == 0 then link.First else by_row j (first_cause net s i (s i))

-- of the first n rows the one of least number that ends last, or none where n is 0
abbrev pub EndsLast : Net → Starts → ℕ → Option ℕ → Type 0
EndsLast net s n None = n ≡ 0
EndsLast net s n (Some i) = (1 ≤ i) × (i ≤ n) × (end_of net s i ≡ greatest_to (end_of net s) n) × ((k : ℕ) → 1 ≤ k → k ≤ n → end_of net s k ≡ greatest_to (end_of net s) n → i ≤ k)
