-- The mail of what was sent.
use Rattle.std.proofs.Common.{◌≡◌, ℕ, ◌==◌, Bool, true, false, if◌then◌else◌, ◌&&◌, List, [], ◌∷◌, ◌++◌, Option, Some, None, refl, sym, ap, ◌∙◌, inl, inr, ◌⊎◌}
use Rattle.std.proofs.lemmas.Bool.{and_from}
use Rattle.std.proofs.lemmas.Cmp.{nat_eq_equiv}
use Rattle.std.specs.Option.{option_or}
use Rattle.bs_log.specs.declared.history.Key.{Key}
use Rattle.bs_log.specs.declared.history.Message.{Message}
use Rattle.bs_log.specs.Lists.{Mem, Apart}
use Rattle.bs_log.specs.Messages.{is_for, same_key, one_key}
use Rattle.bs_semantics.specs.Rounds.{mail_to}
use Rattle.bs_semantics.proofs.Options.{none_some, some_same}
use Rattle.bs_semantics.proofs.Mails.{is_for_is, found}
use Rattle.bs_match.specs.Mail.{lookup, with_message}
use Rattle.bs_match.specs.Filled.{filled, NoneRefused, AreThoseTo}
use Rattle.bs_match.proofs.Keys.{same_key_is, same_key_refl}

true_false : {A : Type 0} → true ≡ false → A
true_false e = absurd (cc)

-- ---- one message more

appended_if : (t : Bool) (x : Message) (o p q : Option Message) → p ≡ option_or o q → (if t then Some x else p) ≡ option_or (if t then Some x else o) q
appended_if true x o p q e = refl
appended_if false x o p q e = e

appended : (ms : List Message) (m : Message) (c : ℕ) (k : Key) → mail_to (ms ++ m ∷ []) c k ≡ option_or (mail_to ms c k) (if is_for c k m then Some m else None)
appended [] m c k = refl
appended (x ∷ ms) m c k = appended_if (is_for c k x) x (mail_to ms c k) (mail_to (ms ++ m ∷ []) c k) _ (appended ms m c k)

or_none : {A : Type 0} (o : Option A) → option_or o None ≡ o
or_none None = refl
or_none (Some x) = refl

adds_if : (t : Bool) (m : Message) (o : Option Message) → (t ≡ true → o ≡ None) → (if t then Some m else o) ≡ option_or o (if t then Some m else None)
adds_if true m o f = ap (λ o. option_or o (Some m)) (sym (f refl))
adds_if false m o f = sym (or_none o)

pub adds : (ms held : List Message) (m : Message) → lookup held ≡ mail_to ms m.sent.to → lookup held m.sent.key ≡ None → with_message m (lookup held) ≡ mail_to (ms ++ m ∷ []) m.sent.to
adds ms held m e n = λ i k. at k i
  where
    to_itself : (k : Key) → same_key m.sent.key k ≡ is_for m.sent.to k m
    to_itself k = ap (λ t. t && same_key m.sent.key k) (sym (nat_eq_equiv.refl m.sent.to))

    free : (k : Key) → same_key m.sent.key k ≡ true → lookup held k ≡ None
    free k s = ap (lookup held) (sym (same_key_is m.sent.key k s)) ∙ n

    at : (k : Key) → with_message m (lookup held) k ≡ mail_to (ms ++ m ∷ []) m.sent.to k
    at k = adds_if (same_key m.sent.key k) m (lookup held k) (free k)
        ∙ (ap (λ l. option_or (l k) (if same_key m.sent.key k then Some m else None)) e
        ∙ (ap (λ t. option_or (mail_to ms m.sent.to k) (if t then Some m else None)) (to_itself k) ∙ sym (appended ms m m.sent.to k)))

other_chare : (m : Message) (c : ℕ) (k : Key) (t : Bool) → is_for c k m ≡ t → (m.sent.to ≡ c → ⊥) → t ≡ false
other_chare m c k true e f = absurd (f (is_for_is c k m e).0)
other_chare m c k false e f = refl

pub skips : (ms : List Message) (m : Message) (c : ℕ) → (m.sent.to ≡ c → ⊥) → mail_to (ms ++ m ∷ []) c ≡ mail_to ms c
skips ms m c f = λ i k. at k i
  where
    at : (k : Key) → mail_to (ms ++ m ∷ []) c k ≡ mail_to ms c k
    at k = appended ms m c k ∙ (ap (λ t. option_or (mail_to ms c k) (if t then Some m else None)) (other_chare m c k _ refl f) ∙ or_none _)

-- ---- keys that are apart

in_front : (m : Message) (ms : List Message) (y : Message) → Mem y ms → Mem y (ms ++ m ∷ [])
in_front m [] y i = absurd i
in_front m (x ∷ ms) y (inl e) = inl e
in_front m (x ∷ ms) y (inr i) = inr (in_front m ms y i)

at_end : (m : Message) (ms : List Message) → Mem m (ms ++ m ∷ [])
at_end m [] = inl refl
at_end m (x ∷ ms) = inr (at_end m ms)

front_or_end : (m : Message) (ms : List Message) (y : Message) → Mem y (ms ++ m ∷ []) → Mem y ms ⊎ (y ≡ m)
front_or_end m [] y (inl e) = inr e
front_or_end m [] y (inr i) = absurd i
front_or_end m (x ∷ ms) y (inl e) = inl (inl e)
front_or_end m (x ∷ ms) y (inr i) = further (front_or_end m ms y i)
  where
    further : Mem y ms ⊎ (y ≡ m) → Mem y (x ∷ ms) ⊎ (y ≡ m)
    further (inl i) = inl (inr i)
    further (inr e) = inr e

pub apart_from : (ms : List Message) (m : Message) → Apart one_key (ms ++ m ∷ []) → Apart one_key ms × (mail_to ms m.sent.to m.sent.key ≡ None)
apart_from [] m h = (tt, refl)
apart_from (x ∷ ms) m h =
    let rest = apart_from ms m h.1 in
    ((λ y i. h.0 y (in_front m ms y i), rest.0), ap (λ t. if t then Some x else mail_to ms m.sent.to m.sent.key) (h.0 m (at_end m ms)) ∙ rest.1)

not_first : (t : Bool) (x : Message) (o : Option Message) → (if t then Some x else o) ≡ None → (t ≡ false) × (o ≡ None)
not_first true x o e = absurd (none_some (sym e))
not_first false x o e = (refl, e)

pub apart : (ms : List Message) (m : Message) → Apart one_key ms → mail_to ms m.sent.to m.sent.key ≡ None → Apart one_key (ms ++ m ∷ [])
apart [] m h n = (λ y i. absurd i, tt)
apart (x ∷ ms) m h n = (λ y i. of y (front_or_end m ms y i), apart ms m h.1 one.1)
  where
    one : (is_for m.sent.to m.sent.key x ≡ false) × (mail_to ms m.sent.to m.sent.key ≡ None)
    one = not_first (is_for m.sent.to m.sent.key x) x _ n

    of : (y : Message) → Mem y ms ⊎ (y ≡ m) → one_key x y ≡ false
    of y (inl i) = h.0 y i
    of y (inr e) = ap (one_key x) e ∙ one.0

-- ---- any order

with_it : (t : Bool) (x m : Message) (o : Option Message) → t ≡ true → x ≡ m → (if t then Some x else o) ≡ Some m
with_it true x m o e q = ap Some q
with_it false x m o e q = true_false (sym e)

without_it : (t : Bool) (x m : Message) (o : Option Message) → (t ≡ true → o ≡ None) → o ≡ Some m → (if t then Some x else o) ≡ Some m
without_it true x m o f e = absurd (none_some (sym (f refl) ∙ e))
without_it false x m o f e = e

-- each message that was put is found
filled_finds : (ps : List Message) (m : Message) → NoneRefused ps → Mem m ps → filled ps m.sent.key ≡ Some m
filled_finds [] m h i = absurd i
filled_finds (x ∷ ps) m h (inl e) = with_it (same_key x.sent.key m.sent.key) x m _ (ap (λ y. same_key y.sent.key m.sent.key) (sym e) ∙ same_key_refl m.sent.key) (sym e)
filled_finds (x ∷ ps) m h (inr i) = without_it (same_key x.sent.key m.sent.key) x m _ (λ s. ap (filled ps) (sym (same_key_is x.sent.key m.sent.key s)) ∙ h.0) (filled_finds ps m h.1 i)

filled_if : (t : Bool) (x m : Message) (ps : List Message) (k : Key) (o : Option Message) → same_key x.sent.key k ≡ t → (o ≡ Some m → Mem m ps × (m.sent.key ≡ k)) → (if t then Some x else o) ≡ Some m → Mem m (x ∷ ps) × (m.sent.key ≡ k)
filled_if true x m ps k o s f e = (inl (sym (some_same e)), ap (λ y. y.sent.key) (sym (some_same e)) ∙ same_key_is x.sent.key k s)
filled_if false x m ps k o s f e = let h = f e in (inr h.0, h.1)

-- each message that is found was put
filled_from : (ps : List Message) (k : Key) (m : Message) → filled ps k ≡ Some m → Mem m ps × (m.sent.key ≡ k)
filled_from [] k m e = absurd (none_some e)
filled_from (x ∷ ps) k m e = filled_if (same_key x.sent.key k) x m ps k (filled ps k) refl (filled_from ps k m) e

is_for_from : (c : ℕ) (k : Key) (m : Message) → m.sent.to ≡ c → m.sent.key ≡ k → is_for c k m ≡ true
is_for_from c k m e q = and_from _ _ (ap (λ n. n == c) e ∙ nat_eq_equiv.refl c) (ap (λ x. same_key x k) q ∙ same_key_refl k)

none_for : (ms : List Message) (c : ℕ) (k : Key) (m : Message) → mail_to ms c k ≡ None → Mem m ms → is_for c k m ≡ false
none_for [] c k m e i = absurd i
none_for (x ∷ ms) c k m e (inl q) = ap (is_for c k) q ∙ (not_first (is_for c k x) x _ e).0
none_for (x ∷ ms) c k m e (inr i) = none_for ms c k m (not_first (is_for c k x) x _ e).1 i

pub any_order : (ms ps : List Message) (c : ℕ) → NoneRefused ps → AreThoseTo c ms ps → filled ps ≡ mail_to ms c
any_order ms ps c h t = λ i k. at k (mail_to ms c k) (filled ps k) refl refl i
  where
    at : (k : Key) (o p : Option Message) → mail_to ms c k ≡ o → filled ps k ≡ p → p ≡ o
    at k (Some m) p e q = let f = found ms c k m e in let is = is_for_is c k m f.1 in sym q ∙ (ap (filled ps) (sym is.1) ∙ filled_finds ps m h (t.all m f.0 is.0))
    at k None None e q = refl
    at k None (Some m) e q = let f = filled_from ps k m q in let g = t.only m f.0 in true_false (sym (is_for_from c k m g.1 f.1) ∙ none_for ms c k m e g.0)
