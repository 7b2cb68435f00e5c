-- Look-ups in what was sent.
use Rattle.std.proofs.Common.{◌≡◌, inl, inr, ℕ, ◌==◌, Bool, true, false, if◌then◌else◌, List, [], ◌∷◌, Option, Some, None, refl, sym, ap, ap₂, subst, ◌∙◌, int_eq, eqb-true}
use Rattle.std.proofs.lemmas.Bool.{and_parts, and_from}
use Rattle.std.proofs.lemmas.Bool.Decides.{Decides-int_eq}
use Rattle.std.proofs.lemmas.Cmp.{int_eq_equiv, nat_eq_equiv}
use Rattle.bs_log.specs.declared.history.Key.{Key}
use Rattle.bs_log.specs.declared.history.Message.{Message}
use Rattle.bs_log.specs.Lists.{Mem, Apart}
use Rattle.bs_log.specs.Messages.{is_for, same_key, one_key}
use Rattle.bs_semantics.specs.Run.{Lookup}
use Rattle.bs_semantics.specs.Rounds.{mail_to, SameMail}
use Rattle.bs_semantics.specs.Growth.{Subsequence, none, keep, skip, PartOf}
use Rattle.bs_semantics.proofs.Options.{none_some, some_same}
use Rattle.bs_semantics.proofs.Subsequences.{member}

key_is : (a b : Key) → a.entry ≡ b.entry → a.reference ≡ b.reference → a ≡ b
key_is a b e r = λ i. record { entry = e i; reference = r i }

pub is_for_is : (c : ℕ) (k : Key) (m : Message) → is_for c k m ≡ true → (m.sent.to ≡ c) × (m.sent.key ≡ k)
is_for_is c k m e =
    let one = and_parts (m.sent.to == c) (same_key m.sent.key k) e in
    let two = and_parts (m.sent.key.entry == k.entry) (int_eq m.sent.key.reference k.reference) one.1 in
    (eqb-true _ _ one.0, key_is _ _ (eqb-true _ _ two.0) ((Decides-int_eq _ _).0 two.1))

pub is_for_itself : (m : Message) → is_for m.sent.to m.sent.key m ≡ true
is_for_itself m = and_from _ _ (nat_eq_equiv.refl m.sent.to) (and_from _ _ (nat_eq_equiv.refl m.sent.key.entry) (int_eq_equiv.refl m.sent.key.reference))

found_if : (c : ℕ) (k : Key) (x m : Message) (xs : List Message) (t : Bool) → is_for c k x ≡ t → (mail_to xs c k ≡ Some m → Mem m xs × (is_for c k m ≡ true)) → (if t then Some x else mail_to xs c k) ≡ Some m → Mem m (x ∷ xs) × (is_for c k m ≡ true)
found_if c k x m xs true p is e = (inl (sym (some_same e)), subst (λ m. is_for c k m ≡ true) (some_same e) p)
found_if c k x m xs false p is e = let h = is e in (inr h.0, h.1)

pub found : (ms : List Message) (c : ℕ) (k : Key) (m : Message) → mail_to ms c k ≡ Some m → Mem m ms × (is_for c k m ≡ true)
found [] c k m e = absurd (none_some e)
found (x ∷ xs) c k m e = found_if c k x m xs (is_for c k x) refl (found xs c k m) e

true_false : {A : Type 0} → true ≡ false → A
true_false e = absurd (cc)

-- two of one key in a list whose keys are apart
clash : {A : Type 0} (c : ℕ) (k : Key) (x m : Message) (xs : List Message) → ((y : Message) → Mem y xs → one_key x y ≡ false) → is_for c k x ≡ true → Mem m xs → is_for c k m ≡ true → A
clash c k x m xs h p i q =
    let at = is_for_is c k m q in
    let one : one_key x m ≡ is_for c k x = ap₂ (λ c k. is_for c k x) at.0 at.1 in
    true_false (sym p ∙ (sym one ∙ h m i))

part_keep : (c : ℕ) (k : Key) (x m : Message) (xs ys : List Message) (t : Bool) → (mail_to xs c k ≡ Some m → mail_to ys c k ≡ Some m) → (if t then Some x else mail_to xs c k) ≡ Some m → (if t then Some x else mail_to ys c k) ≡ Some m
part_keep c k x m xs ys true is e = e
part_keep c k x m xs ys false is e = is e

part_skip : (c : ℕ) (k : Key) (y m : Message) (ys : List Message) (t : Bool) → is_for c k y ≡ t → ((z : Message) → Mem z ys → one_key y z ≡ false) → mail_to ys c k ≡ Some m → (if t then Some y else mail_to ys c k) ≡ Some m
part_skip c k y m ys true p h e = let at = found ys c k m e in clash c k y m ys h p at.0 at.1
part_skip c k y m ys false p h e = e

-- a list with gaps holds no more, where the larger one's keys are apart
pub part : (xs ys : List Message) → Subsequence Message xs ys → Apart one_key ys → (c : ℕ) → PartOf (mail_to xs c) (mail_to ys c)
part _ _ none h c k m e = e
part _ _ (keep x xs ys s) h c k m e = part_keep c k x m xs ys (is_for c k x) (part xs ys s h.1 c k m) e
part _ _ (skip y xs ys s) h c k m e = part_skip c k y m ys (is_for c k y) refl h.0 (part xs ys s h.1 c k m e)

hits_other : (x m : Message) (xs : List Message) (t : Bool) → is_for m.sent.to m.sent.key x ≡ t → one_key x m ≡ false → mail_to xs m.sent.to m.sent.key ≡ Some m → (if t then Some x else mail_to xs m.sent.to m.sent.key) ≡ Some m
hits_other x m xs true p q e = true_false (sym p ∙ q)
hits_other x m xs false p q e = e

hits_first : (x m : Message) (xs : List Message) (t : Bool) → m ≡ x → is_for m.sent.to m.sent.key x ≡ t → (if t then Some x else mail_to xs m.sent.to m.sent.key) ≡ Some m
hits_first x m xs true q p = ap Some (sym q)
hits_first x m xs false q p = true_false (sym (subst (λ x. is_for m.sent.to m.sent.key x ≡ true) q (is_for_itself m)) ∙ p)

-- each message of such a list is found
pub hits : (xs : List Message) → Apart one_key xs → (m : Message) → Mem m xs → mail_to xs m.sent.to m.sent.key ≡ Some m
hits [] h m i = absurd i
hits (x ∷ xs) h m (inl e) = hits_first x m xs _ e refl
hits (x ∷ xs) h m (inr i) = hits_other x m xs _ refl (h.0 m i) (hits xs h.1 m i)

pub hits_at : (xs : List Message) → Apart one_key xs → (m : Message) → Mem m xs → (c : ℕ) (k : Key) → is_for c k m ≡ true → mail_to xs c k ≡ Some m
hits_at xs h m i c k e = let at = is_for_is c k m e in ap₂ (mail_to xs) (sym at.0) (sym at.1) ∙ hits xs h m i

-- two look-ups that are part of one another are one
pub one_lookup : (a b : Lookup) → PartOf a b → PartOf b a → a ≡ b
one_lookup a b u v = λ i k. at k (a k) (b k) (u k) (v k) i
  where
    at : (k : Key) (x y : Option Message) → ((m : Message) → x ≡ Some m → y ≡ Some m) → ((m : Message) → y ≡ Some m → x ≡ Some m) → x ≡ y
    at k None None p q = refl
    at k None (Some m) p q = q m refl
    at k (Some m) y p q = sym (p m refl)

-- a list with gaps that holds all that the larger one holds is all of it
pub all_held : (xs ys : List Message) → Subsequence Message xs ys → Apart one_key ys → ((m : Message) → Mem m ys → Mem m xs) → xs ≡ ys
all_held _ _ none h f = refl
all_held _ _ (keep x xs ys s) h f = ap (λ zs. x ∷ zs) (all_held xs ys s h.1 (λ m i. other m i (f m (inr i))))
  where
    other : (m : Message) → Mem m ys → Mem m (x ∷ xs) → Mem m xs
    other m i (inl e) = true_false (sym (is_for_itself m) ∙ (ap (is_for m.sent.to m.sent.key) e ∙ h.0 m i))
    other m i (inr j) = j
all_held _ _ (skip y xs ys s) h f = true_false (sym (is_for_itself y) ∙ h.0 y (member y xs ys s (f y (inl refl))))

-- so where the two hold the same, they are one
pub same_list : (xs ys : List Message) → Subsequence Message xs ys → Apart one_key ys → SameMail ys xs → xs ≡ ys
same_list xs ys s h f = all_held xs ys s h (λ m i. (found xs m.sent.to m.sent.key m (sym (f m.sent.to m.sent.key) ∙ hits ys h m i)).0)

-- messages that are all in a list whose keys are apart
pub part_in : (xs ys : List Message) → Apart one_key ys → ((m : Message) → Mem m xs → Mem m ys) → (c : ℕ) → PartOf (mail_to xs c) (mail_to ys c)
part_in xs ys k f c key m e = let at = found xs c key m e in hits_at ys k m (f m at.0) c key at.1

record HasFor (xs : List Message) (c : ℕ) (k : Key) : Type 0 where
  message : Message
  is : mail_to xs c k ≡ Some message

has_if : (x : Message) (xs : List Message) (c : ℕ) (k : Key) (t : Bool) → is_for c k x ≡ t → (t ≡ false → HasFor xs c k) → HasFor (x ∷ xs) c k
has_if x xs c k true p f = record { message = x; is = rw p refl }
has_if x xs c k false p f = let h = f refl in record { message = h.message; is = rw p h.is }

has_for : (xs : List Message) (c : ℕ) (k : Key) (m : Message) → Mem m xs → is_for c k m ≡ true → HasFor xs c k
has_for [] c k m i e = absurd i
has_for (x ∷ xs) c k m (inl q) e = has_if x xs c k (is_for c k x) refl (λ f. true_false (sym e ∙ (ap (is_for c k) q ∙ f)))
has_for (x ∷ xs) c k m (inr i) e = has_if x xs c k (is_for c k x) refl (λ f. has_for xs c k m i e)

-- the order of a mail doesn't matter, nor does it if a message stands twice
pub same_messages : (xs ys : List Message) → Apart one_key ys → ((m : Message) → Mem m xs → Mem m ys) → ((m : Message) → Mem m ys → Mem m xs) → SameMail xs ys
same_messages xs ys k f g c = λ key. ap (λ l. l key) (one_lookup (mail_to xs c) (mail_to ys c) (part_in xs ys k f c) back)
  where
    back : PartOf (mail_to ys c) (mail_to xs c)
    back key m e =
        let at = found ys c key m e in
        let h = has_for xs c key m (g m at.0) at.1 in
        h.is ∙ (sym (part_in xs ys k f c key h.message h.is) ∙ e)

-- messages that are all in a list, which are all in one whose keys are apart
pub part_among : (xs ys zs : List Message) → Apart one_key zs → ((m : Message) → Mem m xs → Mem m ys) → ((m : Message) → Mem m ys → Mem m zs) → (c : ℕ) → PartOf (mail_to xs c) (mail_to ys c)
part_among xs ys zs k f g c key m e =
    let at = found xs c key m e in
    let h = has_for ys c key m (f m at.0) at.1 in
    h.is ∙ (sym (part_in ys zs k g c key h.message h.is) ∙ hits_at zs k m (g m (f m at.0)) c key at.1)
