-- The order of keys, and when two are the same.
use Rattle.std.proofs.Common.{◌≡◌, ℕ, ◌==◌, true, ◌&&◌, sym, ap, ap₂, ◌∙◌, int_eq, eqb-true}
use Rattle.std.specs.declared.cmp.Ordering.TheVariants.{Equal}
use Rattle.std.specs.Ordering.{nat_cmp, int_cmp, is_eq}
use Rattle.std.specs.Cmp.{IsTotalOrder, nat_cmp_total, int_cmp_total, tied_then, unsigned_ties}
use Rattle.std.proofs.lemmas.Bool.{and_parts, and_from}
use Rattle.std.proofs.lemmas.Bool.Decides.{Decides-int_eq}
use Rattle.std.proofs.lemmas.Cmp.{int_eq_equiv, nat_eq_equiv, then_total, on_total}
use Rattle.bs_log.specs.declared.history.Key.{Key}
use Rattle.bs_log.specs.Messages.{same_key, key_cmp}

pub key_cmp_total : IsTotalOrder key_cmp
key_cmp_total = then_total (on_total (λ k. k.entry) nat_cmp_total) (on_total (λ k. k.reference) int_cmp_total)

same_number : (m n : ℕ) → is_eq (nat_cmp m n) ≡ (m == n)
same_number m n = sym (unsigned_ties m n)

pub is_same : (a b : Key) → is_eq (key_cmp a b) ≡ same_key a b
is_same a b = sym (tied_then (nat_cmp a.entry b.entry) (int_cmp a.reference b.reference)) ∙ ap (λ t. t && int_eq a.reference b.reference) (same_number a.entry b.entry)

pub same_key_symm : (a b : Key) → same_key a b ≡ same_key b a
same_key_symm a b = ap₂ (λ s t. s && t) (nat_eq_equiv.symm a.entry b.entry) (int_eq_equiv.symm a.reference b.reference)

pub same_key_is : (a b : Key) → same_key a b ≡ true → a ≡ b
same_key_is a b e = let two = and_parts (a.entry == b.entry) (int_eq a.reference b.reference) e in key_is (eqb-true _ _ two.0) ((Decides-int_eq _ _).0 two.1)
  where
    key_is : a.entry ≡ b.entry → a.reference ≡ b.reference → a ≡ b
    key_is e r = λ i. record { entry = e i; reference = r i }

pub same_key_refl : (a : Key) → same_key a a ≡ true
same_key_refl a = and_from _ _ (nat_eq_equiv.refl a.entry) (int_eq_equiv.refl a.reference)

pub equal_is : (a b : Key) → key_cmp a b ≡ Equal → a ≡ b
equal_is a b e = same_key_is a b (sym (is_same a b) ∙ ap is_eq e)
