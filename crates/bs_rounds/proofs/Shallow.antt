-- Each message of a mail is found by its key, as the keys rise.
use Rattle.std.proofs.Common.{◌≡◌, ◌⊎◌, ◌<◌, ◌≤◌, inl, inr, ℕ, zero, suc, ◌+◌, Bool, true, false, if◌then◌else◌, List, [], ◌∷◌, Option, Some, None, refl, sym, ap, subst, ◌∙◌, length, get_or, map, arith}
use Rattle.std.specs.Ordering.{is_eq}
use Rattle.std.specs.declared.cmp.Ordering.TheVariants.{Less}
use Rattle.std.specs.List.{AllByRecursion}
use Rattle.std.specs.List.Sorted.{IsStrictlySortedBy}
use Rattle.bs_log.specs.declared.history.Key.{Key}
use Rattle.bs_log.specs.declared.history.Message.{Message}
use Rattle.bs_log.specs.Messages.{key_cmp, same_key}
use Rattle.bs_log.specs.Lists.{Mem}
use Rattle.bs_match.specs.Mail.{HasRisingKeys, lookup}
use Rattle.bs_match.proofs.Keys.{is_same, same_key_refl}
use Rattle.bs_rounds.specs.Taking.{IsShallow}

at_itself : (t : Bool) (x m : Message) (o : Option Message) → t ≡ true → x ≡ m → (if t then Some x else o) ≡ Some m
at_itself true x m o e q = ap Some q
at_itself false x m o e q = absurd (cc)

at_other : (t : Bool) (x m : Message) (o : Option Message) → t ≡ false → o ≡ Some m → (if t then Some x else o) ≡ Some m
at_other true x m o e q = absurd (cc)
at_other false x m o e q = q

each_of : (P : Key → Type 0) (xs : List Message) (m : Message) → AllByRecursion P (map (λ m. m.sent.key) xs) → Mem m xs → P m.sent.key
each_of P [] m h i = absurd i
each_of P (x ∷ xs) m h (inl e) = subst (λ m. P m.sent.key) (sym e) h.0
each_of P (x ∷ xs) m h (inr i) = each_of P xs m h.1 i

found : (ms : List Message) → HasRisingKeys ms → (m : Message) → Mem m ms → lookup ms m.sent.key ≡ Some m
unfolding IsStrictlySortedBy
found [] h m i = absurd i
found (x ∷ xs) h m (inl e) = at_itself _ x m _ (ap (λ y. same_key y.sent.key m.sent.key) (sym e) ∙ same_key_refl m.sent.key) (sym e)
found (x ∷ xs) h m (inr i) = at_other _ x m _ (sym (is_same x.sent.key m.sent.key) ∙ ap is_eq (each_of (λ k. key_cmp x.sent.key k ≡ Less) xs m h.0 i)) (found xs h.1 m i)

pub at_index : {A : Type 0} (xs : List A) (k : ℕ) (d : A) → k < length xs → Mem (get_or xs k d) xs
at_index [] k d l = absurd (omega (arith, l))
at_index (x ∷ xs) zero d l = inl refl
at_index (x ∷ xs) (suc k) d l = inr (at_index xs k d (omega (arith, l)))

pub all_shallow : (ms : List Message) → HasRisingKeys ms → IsShallow (lookup ms) → (k : ℕ) (d : Message) → k < length ms → (get_or ms k d).origin.depth ≤ 262144
all_shallow ms h s k d l = let m = get_or ms k d in s m.sent.key m (found ms h m (at_index ms k d l))
