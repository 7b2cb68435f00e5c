-- The ticks of a block's causes, one after the other.
use Rattle.std.proofs.Common.{◌≡◌, ℕ, max, Option, Some, None, refl, ap, arith}
use Rattle.bs_model.specs.declared.book.Begun.{Begun}
use Rattle.bs_model.specs.Ready.{later}

-- a tick raised to another one, if it is there
abbrev pub raised : ℕ → Option ℕ → Option ℕ
raised latest None = None
raised latest (Some tick) = Some (max latest tick)

pub raised_first : (o : Option ℕ) → raised 0 o ≡ o
raised_first None = refl
raised_first (Some tick) = ap (λ t. Some t) (omega arith)

pub raised_later : (b : Begun) (latest : ℕ) (o : Option ℕ) → raised (max b.row.end latest) o ≡ raised latest (later (Some b) o)
raised_later b latest None = refl
raised_later b latest (Some tick) = ap (λ t. Some t) (omega arith)
