-- What holds of the rows that lead to a row: they are in the log, and their numbers in range.
use Rattle.std.proofs.Common.{◌≤◌, ◌<◌, ◌^◌, ℕ, List, [], Option, Some, None, arith}
use Rattle.std.specs.List.{All}
use Rattle.std.proofs.lemmas.List.Elements.{All-nil, All-cons, All-push}
use Rattle.bs_times.specs.Net.{Net, Starts, HasRow}
use Rattle.bs_path.specs.declared.links.Link.{Link}
use Rattle.bs_path.specs.declared.links.ChainRow.{ChainRow}
use Rattle.bs_path.specs.Chain.{LeadTo, begins, comes_from, goes_on, row_of_chain, step_from}

all_of : (P : ChainRow → Type 0) (net : Net) (s : Starts) → ((i : ℕ) (l : Link) → HasRow net i → P (row_of_chain s i l)) → (i : ℕ) (rows : List ChainRow) → LeadTo net s i rows → All P rows
all_of P net s h _ _ (begins i l has is e) = All-cons P (row_of_chain s i l) [] (h i l has) (All-nil P)
all_of P net s h _ _ (goes_on i j l rows has is e way) = All-push P rows (row_of_chain s i l) (all_of P net s h j rows way) (h i l has)

pub all_there : (net : Net) (s : Starts) (i : ℕ) (rows : List ChainRow) → LeadTo net s i rows → All (λ (r : ChainRow). (1 ≤ r.row) × (r.row ≤ net.rows)) rows
all_there net s = all_of (λ (r : ChainRow). (1 ≤ r.row) × (r.row ≤ net.rows)) net s (λ i l has. has)

step_most : (s : Starts) (i : ℕ) (o : Option ℕ) → step_from s i o ≤ s i
step_most s i None = omega arith
step_most s i (Some j) = omega arith

pub all_small : (net : Net) (s : Starts) → ((i : ℕ) → HasRow net i → s i < 2 ^ 109) → (i : ℕ) (rows : List ChainRow) → LeadTo net s i rows → All (λ (r : ChainRow). (r.start < 2 ^ 109) × (r.step ≤ r.start)) rows
all_small net s early = all_of (λ (r : ChainRow). (r.start < 2 ^ 109) × (r.step ≤ r.start)) net s (λ i l has. (early i has, step_most s i (comes_from l)))
