-- The words of a line, read from left to right.
use Rattle.std.specs.Prelude.{ℕ, ℤ, ◌==◌, nat_le, List, [], ◌∷◌, Option, Some, None, Result, Ok, Err, if◌then◌else◌}
use Rattle.bs_num.specs.declared.fault.NumFault.{NumFault}
use Rattle.bs_num.specs.Decimal.{number_in, signed_in}

infixl 10 ◌>>=◌
abbrev pub ◌>>=◌ : {A B : Type 0} → Option A → (A → Option B) → Option B
(Some x) >>= f = f x
None >>= f = None

-- the byte stands in front of the first of two parts
abbrev pub with_first : ℕ → Option (List ℕ × List ℕ) → Option (List ℕ × List ℕ)
with_first b None = None
with_first b (Some p) = Some (b ∷ p.0, p.1)

-- a text up to the first mark, and what stands behind that mark
abbrev pub cut : ℕ → List ℕ → Option (List ℕ × List ℕ)
cut mark [] = None
cut mark (b ∷ bs) = if b == mark then Some ([], bs) else with_first b (cut mark bs)

-- what stands behind a word at the front of a text
abbrev pub behind : List ℕ → List ℕ → Option (List ℕ)
behind [] text = Some text
behind (w ∷ ws) [] = None
behind (w ∷ ws) (b ∷ bs) = if w == b then behind ws bs else None

-- a number that was read, where it isn't below the least
abbrev pub not_below : ℕ → Result ℕ NumFault → Option ℕ
not_below least (Ok n) = if nat_le least n then Some n else None
not_below least (Err fault) = None

-- a plain decimal in a range
unfoldable pub number_of : ℕ → ℕ → List ℕ → Option ℕ
number_of least most text = not_below least (number_in most text)

-- the same, and what stands behind the space after it
unfoldable pub number_before : ℕ → ℕ → List ℕ → Option (ℕ × List ℕ)
number_before least most text = do
  p ← cut 32 text
  n ← number_of least most p.0
  Some (n, p.1)

abbrev pub read_one : Result ℤ NumFault → Option ℤ
read_one (Ok z) = Some z
read_one (Err fault) = None

-- a decimal of 64 bits with its sign
unfoldable pub signed_of : List ℕ → Option ℤ
signed_of text = read_one (signed_in text)

unfoldable pub signed_before : List ℕ → Option (ℤ × List ℕ)
signed_before text = do
  p ← cut 32 text
  z ← signed_of p.0
  Some (z, p.1)
