-- A step that gives one thing at most, and several of them one after another.
use Rattle.std.proofs.Common.{◌≡◌, sym, ◌∙◌, subst, inl, inr, Result, Ok, Err}
use Rattle.bs_top.specs.declared.stopped.Stopped.{Stopped}
use Rattle.bs_top.specs.Step.{Step, gives, and_then}

abbrev pub IsOne : {A : Type 0} → Step A → Type 0
IsOne {A} step = (r s : Result A Stopped) → step r → step s → r ≡ s

pub one_given : {A : Type 0} (wanted : Result A Stopped) → IsOne (gives wanted)
one_given wanted r s a b = sym a ∙ b

abbrev ok : {A : Type 0} → A → Result A Stopped
ok a = Ok a

abbrev err : (A : Type 0) → Stopped → Result A Stopped
err A s = Err s

same_value : {A : Type 0} {a b : A} → ok a ≡ ok b → a ≡ b
same_value e = cc

not_both : {A B : Type 0} {a : A} {stop : Stopped} → ok a ≡ Err stop → B
not_both e = absurd (cc)

same_stop : (A B : Type 0) (s t : Stopped) → err A s ≡ err A t → err B s ≡ err B t
same_stop A B s t e = cc

module _ {A B : Type 0} (first : Step A) (next : A → Step B) (one_first : IsOne first) where
  -- where the first step gives a value, the second one is taken with it
  pub past : (a : A) → first (Ok a) → (r : Result B Stopped) → and_then first next r → next a r
  past a h (Ok r) k = subst (λ c. next c (Ok r)) (same_value (one_first (Ok k.0) (Ok a) k.1 h)) k.2
  past a h (Err s) (inl k) = not_both (one_first (Ok a) (Err s) h k)
  past a h (Err s) (inr k) = subst (λ c. next c (Err s)) (same_value (one_first (Ok k.0) (Ok a) k.1 h)) k.2

  module _ (one_next : (a : A) → first (Ok a) → IsOne (next a)) where
    by_next : (r s : Result B Stopped) (a b : A) → first (Ok a) → first (Ok b) → next a r → next b s → r ≡ s
    by_next r s a b h k n m = one_next b k r s (subst (λ c. next c r) (same_value (one_first (Ok a) (Ok b) h k)) n) m

    pub one_where : IsOne (and_then first next)
    one_where (Ok r) (Ok s) h k = by_next (Ok r) (Ok s) h.0 k.0 h.1 k.1 h.2 k.2
    one_where (Ok r) (Err s) h (inl k) = not_both (one_first (Ok h.0) (Err s) h.1 k)
    one_where (Ok r) (Err s) h (inr k) = by_next (Ok r) (Err s) h.0 k.0 h.1 k.1 h.2 k.2
    one_where (Err r) (Ok s) (inl h) k = not_both (one_first (Ok k.0) (Err r) k.1 h)
    one_where (Err r) (Ok s) (inr h) k = by_next (Err r) (Ok s) h.0 k.0 h.1 k.1 h.2 k.2
    one_where (Err r) (Err s) (inl h) (inl k) = same_stop A B r s (one_first (Err r) (Err s) h k)
    one_where (Err r) (Err s) (inl h) (inr k) = not_both (one_first (Ok k.0) (Err r) k.1 h)
    one_where (Err r) (Err s) (inr h) (inl k) = not_both (one_first (Ok h.0) (Err s) h.1 k)
    one_where (Err r) (Err s) (inr h) (inr k) = by_next (Err r) (Err s) h.0 k.0 h.1 k.1 h.2 k.2

  pub one_after : ((a : A) → IsOne (next a)) → IsOne (and_then first next)
  one_after one_next = one_where (λ a h. one_next a)
