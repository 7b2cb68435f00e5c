-- The critical chain of a log: the rows that its span waits for, one after the other (docs/model.md). Rows are numbered
-- from 1.
use Rattle.std.specs.Prelude.{◌≡◌, ◌≤◌, ◌<◌, ◌-◌, ◌^◌, ℕ, List, [], ◌∷◌, ◌++◌, Option, Some, None, slice_index_or}
use Rattle.std.specs.List.{All}
use Rattle.bs_log.specs.Rising.{IsLower}
use Rattle.bs_log.specs.Lists.{Mem}
use Rattle.bs_settle.specs.declared.times.Times.{Times}
use Rattle.bs_settle.specs.Timed.{numbers}
use Rattle.bs_times.specs.Net.{Net, Starts, HasRow}
use Rattle.bs_times.specs.Times.{IsOn, arrival, end_of, greatest_to}
use Rattle.bs_path.specs.declared.links.Link.{Link}
use Rattle.bs_path.specs.declared.links.Link.TheVariants as link
use Rattle.bs_path.specs.declared.links.ChainRow.{ChainRow}
use Rattle.bs_path.specs.declared.links.Chain.{Chain}

-- the starts by number, from those of all rows in their order
abbrev pub start_in : List ℕ → Starts
start_in starts i = slice_index_or starts (i - 1) 0

-- the same from times
abbrev pub starts_of : Times → Starts
starts_of times = start_in (numbers times.starts)

-- the greatest end, and 0 without rows
abbrev pub span_of : Net → Starts → ℕ
span_of net s = greatest_to (end_of net s) net.rows

-- row j is the one that the processor of row i ran just before it
pub record IsJustBefore (net : Net) (s : Starts) (j i : ℕ) : Type 0 where
  pub there : IsOn net (net.home i) j
  pub earlier : s j < s i
  pub last : (k : ℕ) → IsOn net (net.home i) k → s k < s i → s k ≤ s j

-- the row that a link names
abbrev pub comes_from : Link → Option ℕ
comes_from link.First = None
comes_from (link.Processor j) = Some j
comes_from (link.After j) = Some j
comes_from (link.Mail m) = Some m.row

-- A link fits a row where it names what ends or arrives just when the row starts: the row before it on its processor, a
-- block cause or a message cause. No such link is needed where the row starts at tick 0.
abbrev pub Fits : Net → Starts → ℕ → Link → Type 0
Fits net s i link.First = s i ≡ 0
Fits net s i (link.Processor j) = IsJustBefore net s j i × (end_of net s j ≡ s i)
Fits net s i (link.After j) = Mem j (net.after i) × (end_of net s j ≡ s i)
Fits net s i (link.Mail m) = Mem m (net.mail i) × (arrival net s m ≡ s i)

-- links are asked in this order: the processor, block causes by their numbers, messages by (row, place of the send)
abbrev pub IsAskedBefore : Link → Link → Type 0
IsAskedBefore (link.Processor j) (link.After k) = Unit {0}
IsAskedBefore (link.Processor j) (link.Mail m) = Unit {0}
IsAskedBefore (link.After j) (link.After k) = j < k
IsAskedBefore (link.After j) (link.Mail m) = Unit {0}
IsAskedBefore (link.Mail m) (link.Mail n) = IsLower m n
IsAskedBefore a b = ⊥

-- the link of a row: the first that fits
pub record IsLinkOf (net : Net) (s : Starts) (i : ℕ) (l : Link) : Type 0 where
  pub fits : Fits net s i l
  pub first : (other : Link) → Fits net s i other → IsAskedBefore other l → ⊥

-- how many ticks a row starts after the one that its link names, and 0 where it names none
abbrev pub step_from : Starts → ℕ → Option ℕ → ℕ
step_from s i None = 0
step_from s i (Some j) = s i - s j

-- what a chain says of a row with this link
abbrev pub row_of_chain : Starts → ℕ → Link → ChainRow
row_of_chain s i l = record { row = i; start = s i; step = step_from s i (comes_from l); link = l }

-- the rows that lead to row i, and row i itself: before it comes the row that its link names, with the rows that lead there
pub data LeadTo (net : Net) (s : Starts) : ℕ → List ChainRow → Type 0 where
  begins : (i : ℕ) (l : Link) → HasRow net i → IsLinkOf net s i l → comes_from l ≡ None → LeadTo net s i (row_of_chain s i l ∷ [])
  goes_on : (i j : ℕ) (l : Link) (rows : List ChainRow) → HasRow net i → IsLinkOf net s i l → comes_from l ≡ Some j → LeadTo net s j rows → LeadTo net s i (rows ++ row_of_chain s i l ∷ [])

-- row i is the one of least number that ends at the span
pub record IsLast (net : Net) (s : Starts) (i : ℕ) : Type 0 where
  pub row : HasRow net i
  pub ends : end_of net s i ≡ span_of net s
  pub least : (k : ℕ) → HasRow net k → end_of net s k ≡ span_of net s → i ≤ k

-- the critical chain, with the span, and the duration of its last row: the rows that lead to the last one, and none where
-- there are no rows
pub record IsCritical (net : Net) (s : Starts) (c : Chain) : Type 0 where
  pub span : c.span ≡ span_of net s
  pub none : net.rows ≡ 0 → (c.rows ≡ []) × (c.rest ≡ 0)
  pub some : 1 ≤ net.rows → (i : ℕ) × IsLast net s i × LeadTo net s i c.rows × (c.rest ≡ net.duration i)

-- where the numbers of a chain lie: starts, steps and the span below 2^109, the rest below 2^48
pub record IsInRange (c : Chain) : Type 0 where
  pub rows : All (λ r. (r.start < 2 ^ 109) × (r.step ≤ r.start)) c.rows
  pub rest : c.rest < 2 ^ 48
  pub span : c.span < 2 ^ 109
