-- The messages of a mail, and one message more.
use Rattle.std.proofs.Common.{◌≡◌, ◌⊎◌, ◌<◌, ◌≤◌, inl, inr, ℕ, zero, suc, ◌+◌, Bool, true, false, if◌then◌else◌, List, [], ◌∷◌, Option, Some, None, refl, sym, ap, subst, ◌∙◌, length, get_or, map, arith}
use Rattle.std.specs.Ordering.{is_eq}
use Rattle.std.specs.declared.cmp.Ordering.TheVariants.{Less}
use Rattle.std.specs.List.{AllByRecursion}
use Rattle.std.specs.List.Sorted.{IsStrictlySortedBy}
use Rattle.bs_log.specs.declared.history.Key.{Key}
use Rattle.bs_log.specs.declared.history.Message.{Message}
use Rattle.bs_log.specs.Messages.{key_cmp, same_key}
use Rattle.bs_log.specs.Lists.{Mem}
use Rattle.bs_match.specs.Mail.{HasRisingKeys, lookup, with_message}
use Rattle.bs_match.proofs.Keys.{is_same, same_key_is, same_key_refl}
use Rattle.bs_semantics.specs.Run.{Lookup}
use Rattle.bs_semantics.specs.Growth.{PartOf}
use Rattle.bs_semantics.proofs.Options.{none_some, some_same}
use Rattle.bs_chare.specs.Chare.{IsProper, HoldsProper}

-- ---- each message is found by its key, as the keys rise

at_itself : (t : Bool) (x m : Message) (o : Option Message) → t ≡ true → x ≡ m → (if t then Some x else o) ≡ Some m
at_itself true x m o e q = ap Some q
at_itself false x m o e q = absurd (cc)

at_other : (t : Bool) (x m : Message) (o : Option Message) → t ≡ false → o ≡ Some m → (if t then Some x else o) ≡ Some m
at_other true x m o e q = absurd (cc)
at_other false x m o e q = q

each_of : (P : Key → Type 0) (xs : List Message) (m : Message) → AllByRecursion P (map (λ m. m.sent.key) xs) → Mem m xs → P m.sent.key
each_of P [] m h i = absurd i
each_of P (x ∷ xs) m h (inl e) = subst (λ m. P m.sent.key) (sym e) h.0
each_of P (x ∷ xs) m h (inr i) = each_of P xs m h.1 i

found : (ms : List Message) → HasRisingKeys ms → (m : Message) → Mem m ms → lookup ms m.sent.key ≡ Some m
unfolding IsStrictlySortedBy
found [] h m i = absurd i
found (x ∷ xs) h m (inl e) = at_itself _ x m _ (ap (λ y. same_key y.sent.key m.sent.key) (sym e) ∙ same_key_refl m.sent.key) (sym e)
found (x ∷ xs) h m (inr i) = at_other _ x m _ (sym (is_same x.sent.key m.sent.key) ∙ ap is_eq (each_of (λ k. key_cmp x.sent.key k ≡ Less) xs m h.0 i)) (found xs h.1 m i)

at_index : {A : Type 0} (xs : List A) (k : ℕ) (d : A) → k < length xs → Mem (get_or xs k d) xs
at_index [] k d l = absurd (omega (arith, l))
at_index (x ∷ xs) zero d l = inl refl
at_index (x ∷ xs) (suc k) d l = inr (at_index xs k d (omega (arith, l)))

pub all_shallow : (c : ℕ) (ms : List Message) → HasRisingKeys ms → HoldsProper c (lookup ms) → (k : ℕ) (d : Message) → k < length ms → (get_or ms k d).origin.depth ≤ 262144
all_shallow c ms h s k d l = let m = get_or ms k d in (s m.sent.key m (found ms h m (at_index ms k d l))).1

-- ---- one message more

from_if : (t : Bool) (m x : Message) (o : Option Message) → (if t then Some m else o) ≡ Some x → (o ≡ Some x) ⊎ (m ≡ x)
from_if true m x o e = inr (some_same e)
from_if false m x o e = inl e

pub proper_with : (c : ℕ) (mail new : Lookup) (m : Message) → HoldsProper c mail → IsProper c m → new ≡ with_message m mail → HoldsProper c new
proper_with c mail new m h p e k x i = by_side (from_if (same_key m.sent.key k) m x (mail k) (sym (ap (λ l. l k) e) ∙ i))
  where
    by_side : (mail k ≡ Some x) ⊎ (m ≡ x) → (x.sent.to ≡ c) × (x.origin.depth ≤ 262144)
    by_side (inl q) = h k x q
    by_side (inr q) = subst (λ y. (y.sent.to ≡ c) × (y.origin.depth ≤ 262144)) q (p.to, p.depth)

stays_if : (t : Bool) (m x : Message) (o : Option Message) → (t ≡ true → o ≡ None) → o ≡ Some x → (if t then Some m else o) ≡ Some x
stays_if true m x o f e = absurd (none_some (sym (f refl) ∙ e))
stays_if false m x o f e = e

pub part_with : (mail new : Lookup) (m : Message) → mail m.sent.key ≡ None → new ≡ with_message m mail → PartOf mail new
part_with mail new m free e k x i = ap (λ l. l k) e ∙ stays_if (same_key m.sent.key k) m x (mail k) (λ s. ap mail (sym (same_key_is m.sent.key k s)) ∙ free) i
