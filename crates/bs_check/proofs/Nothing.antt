-- A list of no kinds.
use Rattle.std.proofs.Common.{◌≡◌, ℕ, zero, suc, replicate, None, refl}
use Rattle.bs_check.specs.Table.{kind_in}

pub none_in : (count n : ℕ) → kind_in (replicate count None) n ≡ None
none_in zero n = refl
none_in (suc count) zero = refl
none_in (suc count) (suc n) = none_in count n
