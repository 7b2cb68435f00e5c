-- Keys that are put into a set one by one.
use Rattle.std.proofs.Common.{◌≡◌, ◌⊎◌, ◌<◌, ◌≤◌, inl, inr, ℕ, ◌+◌, Bool, true, false, cond, ◌||◌, List, [], ◌∷◌, Option, Some, None, refl, sym, ap, ap₂, subst, ◌∙◌, is_some, Err, length, arith}
use Rattle.std.proofs.lemmas.Bool.{cases_lt}
use Rattle.std.specs.Ordering.{is_eq}
use Rattle.std.specs.BTreeMap.{BTreeMap, get_by, Updates}
use Rattle.bs_log.specs.declared.history.Key.{Key}
use Rattle.bs_log.specs.declared.history.Asked.{Asked}
use Rattle.bs_log.specs.declared.history.History.{History}
use Rattle.bs_log.specs.Messages.{key_cmp, same_key, one_asked}
use Rattle.bs_log.specs.Lists.{Mem, Apart}
use Rattle.bs_log.specs.Histories.{history_at}
use Rattle.bs_match.proofs.Keys.{is_same}
use Rattle.bs_rounds.specs.declared.stop.Stop.{Stop}
use Rattle.bs_rounds.specs.declared.stop.Stop.TheVariants.{Long, Twice, Memory}
use Rattle.bs_rounds.specs.Asking.{IsAskedOnce, AreAskedOnce}
use Rattle.bs_rounds.specs.Posting.{flag}

-- whether a set of keys has one
abbrev pub has : BTreeMap Key (Unit {0}) → Key → Bool
has keys k = is_some (get_by (key_cmp k) keys)

-- keys that are apart, of which none is in a set
abbrev pub Unlisted : (Key → Bool) → List Asked → Type 0
Unlisted listed xs = Apart one_asked xs × ((a : Asked) → Mem a xs → listed a.key ≡ false)

or_parts : (s t : Bool) → (s || t) ≡ false → (s ≡ false) × (t ≡ false)
or_parts true t e = absurd (cc)
or_parts false t e = (refl, e)

or_from : (s t : Bool) → s ≡ false → t ≡ false → (s || t) ≡ false
or_from true t e f = e
or_from false t e f = f

module _ (old new : Key → Bool) (a : Asked) (xs : List Asked) (more : (k : Key) → new k ≡ (same_key a.key k || old k)) where
  pub without : old a.key ≡ false → Unlisted new xs → Unlisted old (a ∷ xs)
  without e h = ((λ y i. (parts y i).0, h.0), by_side)
    where
      parts : (y : Asked) → Mem y xs → (same_key a.key y.key ≡ false) × (old y.key ≡ false)
      parts y i = or_parts _ _ (sym (more y.key) ∙ h.1 y i)

      by_side : (y : Asked) → Mem y (a ∷ xs) → old y.key ≡ false
      by_side y (inl q) = ap (λ y. old y.key) q ∙ e
      by_side y (inr i) = (parts y i).1

  pub listed : Unlisted old (a ∷ xs) → Unlisted new xs
  listed h = (h.0.1, λ y i. more y.key ∙ or_from _ _ (h.0.0 y i) (h.1 y (inr i)))

some_if : (t : Bool) (o : Option (Unit {0})) → is_some (cond t (Some tt) o) ≡ (t || is_some o)
some_if true o = refl
some_if false o = refl

pub has_more : (old new : BTreeMap Key (Unit {0})) (k : Key) → Updates key_cmp old new k (Some tt) → (q : Key) → has new q ≡ (same_key k q || has old q)
has_more old new k u q = ap is_some (u.0 q) ∙ (some_if (is_eq (key_cmp k q)) (get_by (key_cmp q) old) ∙ ap (λ t. t || has old q) (is_same k q))

-- one chare more
pub one_more : (P : ℕ → Type 0) (i : ℕ) → ((c : ℕ) → c < i → P c) → P i → (c : ℕ) → c < i + 1 → P c
one_more P i h p c l = by_order (cases_lt c i)
  where
    by_order : (c < i) ⊎ (i ≤ c) → P c
    by_order (inl k) = h c k
    by_order (inr k) = let e : i ≡ c = omega (arith, k, l) in subst P e p

pub asks_twice : (marks : List Bool) (hs : List History) (c : ℕ) (asked : List Asked) → c < length hs → asked ≡ (history_at hs c).asked → (e : Stop) → IsAskedOnce asked (Err e) → AreAskedOnce marks hs (Err e)
asks_twice marks hs c asked l is Long h = h
asks_twice marks hs c asked l is Twice h = record { chare = c; within = l; twice = λ k. h (subst (Apart one_asked) (sym is) k) }
asks_twice marks hs c asked l is Memory h = tt
