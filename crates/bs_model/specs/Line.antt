-- Numbers that wait in a line, each with its tick.
use Rattle.std.specs.Prelude.{◌≡◌, ◌≤◌, ◌<◌, ◌⊎◌, ◌↔◌, ℕ, ◌==◌, if◌then◌else◌, Option, Some, None, IsTrue, slice_get}
use Rattle.std.specs.declared.cmp.Ordering.{Ordering}
use Rattle.std.specs.Ordering.{nat_cmp, ordering_then}
use Rattle.std.specs.BTreeSet.{contains}
use Rattle.bs_model.specs.declared.line.Line.{Line}

-- the order of (tick, number)
abbrev pub key_cmp : ℕ × ℕ → ℕ × ℕ → Ordering
key_cmp x y = ordering_then (nat_cmp x.0 y.0) (nat_cmp x.1 y.1)

-- those wait that have a tick, each by it
abbrev pub IsLine : (ℕ → Option ℕ) → Line → Type 0
IsLine f line = (t : ℕ × ℕ) → IsTrue (contains key_cmp line.keys t) ↔ (f t.1 ≡ Some t.0)

-- the first of a line
abbrev pub first_of : Line → Option (ℕ × ℕ)
first_of line = slice_get line.keys.keys 0

-- a number that has this tick, as no other one has a lesser one, and no lesser number the same one
pub record IsFirstAt (f : ℕ → Option ℕ) (t : ℕ × ℕ) : Type 0 where
  pub is : f t.1 ≡ Some t.0
  pub least : (n tick : ℕ) → f n ≡ Some tick → (t.0 < tick) ⊎ ((t.0 ≡ tick) × (t.1 ≤ n))

-- of the numbers that have a tick the first one of the least tick, if any has one
abbrev pub IsFirst : (ℕ → Option ℕ) → Option (ℕ × ℕ) → Type 0
IsFirst f None = (n : ℕ) → f n ≡ None
IsFirst f (Some t) = IsFirstAt f t

-- the ticks with another one at a number
abbrev pub put_at : (ℕ → Option ℕ) → ℕ → Option ℕ → ℕ → Option ℕ
put_at f number tick n = if n == number then tick else f n

-- a number has this tick now, and each other one has what it had
pub record IsChanged (f g : ℕ → Option ℕ) (number : ℕ) (tick : Option ℕ) : Type 0 where
  pub at : g number ≡ tick
  pub others : (n : ℕ) → (n ≡ number → ⊥) → g n ≡ f n
