-- Who asks for a key.
use Rattle.std.specs.Prelude.{◌≡◌, ◌≤◌, ℕ, Bool, true, false, if◌then◌else◌, List, [], ◌∷◌, Option, Some, None, Result, Ok, Err, filter, length}
use Rattle.std.specs.Coded.{×_prop, Π_prop, Unit-prop, Coded-set, coded_bool}
use Rattle.std.specs.Ordering.{is_lt}
use Rattle.std.specs.declared.cmp.Ordering.TheVariants.{Less}
use Rattle.bs_tree.specs.declared.tree.Path.{Path}
use Rattle.bs_log.specs.declared.history.Key.{Key}
use Rattle.bs_log.specs.declared.history.Asked.{Asked}
use Rattle.bs_log.specs.Messages.{key_cmp, same_key, one_asked}
use Rattle.bs_log.specs.Lists.{Mem, Apart}
use Rattle.bs_chare.specs.declared.fault.ChareFault.{ChareFault}
use Rattle.bs_chare.specs.declared.fault.ChareFault.TheVariants.{TwoSent, TwoAsked, Long, Memory}

-- those that ask for a key, in their order
abbrev pub askers : Key → List Asked → List Asked
askers k xs = filter (λ a. same_key a.key k) xs

-- how often a key is asked for
abbrev pub times : List Asked → Key → ℕ
times xs k = length (askers k xs)

-- the first two that ask for a key are at these paths
pub record IsAskedBy (xs : List Asked) (k : Key) (p q : Path) : Type 0 where
  pub first : Asked
  pub second : Asked
  pub rest : List Asked
  pub are : askers k xs ≡ first ∷ second ∷ rest
  pub first_path : first.path ≡ p
  pub second_path : second.path ≡ q

-- no key that is met twice is below this one
abbrev pub IsLeast : (Key → ℕ) → Key → Type 0
IsLeast met k = (j : Key) → 2 ≤ met j → is_lt (key_cmp j k) ≡ false

-- the least key that is met twice, or none is
abbrev pub IsLeastTwice : (Key → ℕ) → Option Key → Type 0
IsLeastTwice met None = (j : Key) → met j ≤ 1
IsLeastTwice met (Some k) = (2 ≤ met k) × IsLeast met k

-- the lesser key
abbrev pub lesser : Option Key → Key → Key
lesser None k = k
lesser (Some j) k = if is_lt (key_cmp j k) then j else k

-- the key is asked for twice, and no lesser one is; the first two that ask for it are at these paths
pub record IsTwoAsked (xs : List Asked) (k : Key) (p q : Path) : Type 0 where
  pub askers_are : IsAskedBy xs k p q
  pub least : IsLeast (times xs) k

-- a fault that names the first two that ask for a key
abbrev pub IsNamed : List Asked → Key → ChareFault → Type 0
IsNamed xs k (TwoSent m) = ⊥
IsNamed xs k (TwoAsked j p q) = (j ≡ k) × IsAskedBy xs k p q
IsNamed xs k Long = ⊥
IsNamed xs k Memory = ⊥

-- no key is asked for twice, or the least one is named
abbrev pub AreAskedOnce : List Asked → Result (Unit {0}) ChareFault → Type 0
AreAskedOnce xs (Ok u) = Apart one_asked xs
AreAskedOnce xs (Err (TwoSent m)) = ⊥
AreAskedOnce xs (Err (TwoAsked k p q)) = IsTwoAsked xs k p q
AreAskedOnce xs (Err Long) = ⊥
AreAskedOnce xs (Err Memory) = Unit {0}

-- there is one way to be asked once
pub apart_prop : (xs : List Asked) → IsProp (Apart one_asked xs)
apart_prop [] = Unit-prop
apart_prop (x ∷ xs) = ×_prop (Π_prop (λ y. Π_prop (λ m. Coded-set coded_bool _ _))) (apart_prop xs)
