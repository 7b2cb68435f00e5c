-- One message that is put into a mail.
use Rattle.std.proofs.Common.{◌≡◌, ◌⊎◌, ◌<◌, ◌≤◌, inl, inr, ℕ, Bool, true, false, if◌then◌else◌, List, [], ◌∷◌, Option, Some, None, refl, sym, ap, subst, ◌∙◌, length, get_or, set, arith}
use Rattle.std.proofs.lemmas.Bool.{cases_lt}
use Rattle.std.proofs.lemmas.List.{get_or_default, get_or-set_same, get_or-set_other}
use Rattle.bs_log.specs.declared.history.Key.{Key}
use Rattle.bs_log.specs.declared.history.Message.{Message}
use Rattle.bs_log.specs.Lists.{Mem}
use Rattle.bs_log.specs.Messages.{same_key}
use Rattle.bs_match.specs.Mail.{lookup, with_message}
use Rattle.bs_match.proofs.Keys.{same_key_is, same_key_refl}
use Rattle.bs_semantics.specs.Run.{Lookup}
use Rattle.bs_semantics.proofs.Options.{none_some, some_same}
use Rattle.bs_rounds.specs.Posting.{flag, held, IsOneOf, IsKnown, HasNews, ArePosted, Clash}

-- the mail that is read is the chare's
pub reads : (mails : List (List Message)) (at : ℕ) (mail : List Message) (k : Key) → at < length mails → mail ≡ get_or mails at mail → lookup mail k ≡ held mails at k
reads mails at mail k l e = ap (λ ms. lookup ms k) (e ∙ get_or_default mails at mail [] l)

pub known_one : (F : ℕ → Lookup) (f : ℕ → Bool) (m known : Message) → F m.sent.to m.sent.key ≡ Some known → known.origin ≡ m.origin → ArePosted (m ∷ []) F f F f
known_one F f m known e o = record {
  stays = λ c k x q. q;
  from = λ c k x q. inl q;
  known = λ x i. is_known x i;
  marked = λ c q. q;
  same = λ c q. refl;
  news = λ c q. inl q;
}
  where
    is_known : (x : Message) → Mem x (m ∷ []) → IsKnown F x
    is_known x (inl q) = subst (IsKnown F) (sym q) (record { message = known; is_held = e; origin = o })
    is_known x (inr i) = absurd i

pub clash_one : (F : ℕ → Lookup) (m known : Message) → F m.sent.to m.sent.key ≡ Some known → (known.origin ≡ m.origin → ⊥) → Clash (m ∷ []) F
clash_one F m known e d = record { first = known; second = m; is_first = inl e; is_second = inl refl; differ = d }

same_or_not : (a b : ℕ) → (a ≡ b) ⊎ (a ≡ b → ⊥)
same_or_not a b = by_order (cases_lt a b) (cases_lt b a)
  where
    by_order : (a < b) ⊎ (b ≤ a) → (b < a) ⊎ (a ≤ b) → (a ≡ b) ⊎ (a ≡ b → ⊥)
    by_order (inl l) k = inr (λ e. omega (arith, l, e))
    by_order (inr l) (inl k) = inr (λ e. omega (arith, k, e))
    by_order (inr l) (inr k) = let e : a ≡ b = omega (arith, l, k) in inl e

no_longer : {A : Type 0} (t : Bool) → t ≡ true → t ≡ false → A
no_longer t e q = absurd (cc)

stays_if : (t : Bool) (m x : Message) (o : Option Message) → (t ≡ true → o ≡ None) → o ≡ Some x → (if t then Some m else o) ≡ Some x
stays_if true m x o f e = absurd (none_some (sym (f refl) ∙ e))
stays_if false m x o f e = e

from_if : (t : Bool) (m x : Message) (o : Option Message) → (if t then Some m else o) ≡ Some x → (o ≡ Some x) ⊎ ((t ≡ true) × (x ≡ m))
from_if true m x o e = inr (refl, sym (some_same e))
from_if false m x o e = inl e

at_itself : (t : Bool) (m : Message) (o : Option Message) → t ≡ true → (if t then Some m else o) ≡ Some m
at_itself true m o e = refl
at_itself false m o e = absurd (cc)

module _ (m : Message) (F : ℕ → Lookup) (f : ℕ → Bool) (G : ℕ → Lookup) (g : ℕ → Bool)
    (free : F m.sent.to m.sent.key ≡ None)
    (at_it : G m.sent.to ≡ with_message m (F m.sent.to))
    (else_where : (c : ℕ) → (c ≡ m.sent.to → ⊥) → F c ≡ G c)
    (marked_it : g m.sent.to ≡ true)
    (marked_else : (c : ℕ) → (c ≡ m.sent.to → ⊥) → f c ≡ g c) where
  free_at : (k : Key) → same_key m.sent.key k ≡ true → F m.sent.to k ≡ None
  free_at k s = ap (F m.sent.to) (sym (same_key_is m.sent.key k s)) ∙ free

  held_now : G m.sent.to m.sent.key ≡ Some m
  held_now = ap (λ l. l m.sent.key) at_it ∙ at_itself (same_key m.sent.key m.sent.key) m (F m.sent.to m.sent.key) (same_key_refl m.sent.key)

  stays_at : (k : Key) (x : Message) → F m.sent.to k ≡ Some x → G m.sent.to k ≡ Some x
  stays_at k x e = ap (λ l. l k) at_it ∙ stays_if (same_key m.sent.key k) m x (F m.sent.to k) (free_at k) e

  stays : (c : ℕ) (k : Key) (x : Message) → (c ≡ m.sent.to) ⊎ (c ≡ m.sent.to → ⊥) → F c k ≡ Some x → G c k ≡ Some x
  stays c k x (inl q) e = ap (λ n. G n k) q ∙ stays_at k x (ap (λ n. F n k) (sym q) ∙ e)
  stays c k x (inr d) e = ap (λ l. l k) (sym (else_where c d)) ∙ e

  from_at : (c : ℕ) (k : Key) (x : Message) → c ≡ m.sent.to → (F m.sent.to k ≡ Some x) ⊎ ((same_key m.sent.key k ≡ true) × (x ≡ m)) → (F c k ≡ Some x) ⊎ IsOneOf (m ∷ []) c k x
  from_at c k x q (inl e) = inl (ap (λ n. F n k) q ∙ e)
  from_at c k x q (inr h) = inr (record { member = inl h.1; to = ap (λ y. y.sent.to) h.1 ∙ sym q; key = ap (λ y. y.sent.key) h.1 ∙ same_key_is m.sent.key k h.0 })

  from : (c : ℕ) (k : Key) (x : Message) → (c ≡ m.sent.to) ⊎ (c ≡ m.sent.to → ⊥) → G c k ≡ Some x → (F c k ≡ Some x) ⊎ IsOneOf (m ∷ []) c k x
  from c k x (inl q) e = from_at c k x q (from_if (same_key m.sent.key k) m x (F m.sent.to k) (sym (ap (λ l. l k) at_it) ∙ (ap (λ n. G n k) (sym q) ∙ e)))
  from c k x (inr d) e = inl (ap (λ l. l k) (else_where c d) ∙ e)

  is_known : (x : Message) → Mem x (m ∷ []) → IsKnown G x
  is_known x (inl q) = subst (IsKnown G) (sym q) (record { message = m; is_held = held_now; origin = refl })
  is_known x (inr i) = absurd i

  marked : (c : ℕ) → (c ≡ m.sent.to) ⊎ (c ≡ m.sent.to → ⊥) → f c ≡ true → g c ≡ true
  marked c (inl q) e = ap g q ∙ marked_it
  marked c (inr d) e = sym (marked_else c d) ∙ e

  same : (c : ℕ) → (c ≡ m.sent.to) ⊎ (c ≡ m.sent.to → ⊥) → g c ≡ false → F c ≡ G c
  same c (inl q) e = no_longer (g c) (ap g q ∙ marked_it) e
  same c (inr d) e = else_where c d

  news : (c : ℕ) → (c ≡ m.sent.to) ⊎ (c ≡ m.sent.to → ⊥) → g c ≡ true → (f c ≡ true) ⊎ HasNews (F c) (G c)
  news c (inl q) e = inr (subst (λ n. HasNews (F n) (G n)) (sym q) (record { key = m.sent.key; message = m; was = free; is = held_now }))
  news c (inr d) e = inl (marked_else c d ∙ e)

  put_posted : ArePosted (m ∷ []) F f G g
  put_posted = record {
    stays = λ c k x. stays c k x (same_or_not c m.sent.to);
    from = λ c k x. from c k x (same_or_not c m.sent.to);
    known = is_known;
    marked = λ c. marked c (same_or_not c m.sent.to);
    same = λ c. same c (same_or_not c m.sent.to);
    news = λ c. news c (same_or_not c m.sent.to);
  }

pub put_one : (mails : List (List Message)) (marks : List Bool) (m : Message) (mail : List Message) → length marks ≡ length mails → m.sent.to < length mails → held mails m.sent.to m.sent.key ≡ None
    → lookup mail ≡ with_message m (held mails m.sent.to) → ArePosted (m ∷ []) (held mails) (flag marks) (held (set mails m.sent.to mail)) (flag (set marks m.sent.to true))
put_one mails marks m mail n l free is = put_posted m (held mails) (flag marks) (held (set mails m.sent.to mail)) (flag (set marks m.sent.to true)) free
    (ap lookup (get_or-set_same mails m.sent.to mail [] l) ∙ is)
    (λ c d. ap lookup (sym (get_or-set_other mails m.sent.to c mail [] d)))
    (get_or-set_same marks m.sent.to true false (omega (arith, n, l)))
    (λ c d. sym (get_or-set_other marks m.sent.to c true false d))
