-- Messages that are put into mails, the last one first.
use Rattle.std.proofs.Common.{◌≡◌, ◌≤◌, ◌<◌, ◌⊎◌, inl, inr, ℕ, ◌==◌, Bool, true, false, if◌then◌else◌, List, [], ◌∷◌, ◌++◌, Option, Some, None, length, slice_set, get_or, map, refl, sym, ap, ap₂, subst, ◌∙◌, arith, eqb-true}
use Rattle.std.proofs.lemmas.Bool.{eqb-false}
use Rattle.std.proofs.lemmas.List.{length-set}
use Rattle.std.proofs.lemmas.Option.{slice_get-get_or}
use Rattle.std.specs.BTreeSet.{insert_key}
use Rattle.std.specs.Ordering.{is_eq, nat_cmp}
use Rattle.std.specs.declared.cmp.Ordering.TheVariants.{Less}
use Rattle.std.specs.List.{AllByRecursion}
use Rattle.std.specs.List.Sorted.{IsStrictlySortedBy}
use Rattle.bs_log.specs.declared.history.Message.{Message}
use Rattle.bs_log.specs.Messages.{key_cmp, one_key, same_key, AreFor}
use Rattle.bs_log.specs.Lists.{Mem, Apart}
use Rattle.bs_match.specs.Mail.{lookup, with_message}
use Rattle.bs_match.proofs.Keys.{is_same, same_key_is, same_key_refl}
use Rattle.bs_match.proofs.Sent.{apart, apart_from}
use Rattle.bs_semantics.specs.Run.{Lookup}
use Rattle.bs_semantics.specs.Rounds.{mail_to}
use Rattle.bs_semantics.proofs.Mails.{found, hits, is_for_is}
use Rattle.bs_semantics.proofs.Members.{mem_left, mem_right, mem_cases}
use Rattle.bs_model.specs.Mails.{mail_in, mail_at, mail_after, AreDelivered, AreKept, CanDeliver, CanPut, IsShallow}
use Rattle.bs_model.proofs.But.{but_none, but_one}
use Rattle.bs_model.proofs.Places.{get_set_same, get_set_other, mem_at}

abbrev put_one : ℕ → Lookup → Message → Lookup
put_one c mail m = if m.sent.to == c then with_message m mail else mail

after_push : (c : ℕ) (mail : Lookup) (ms : List Message) (m : Message) → mail_after c mail (ms ++ m ∷ []) ≡ mail_after c (put_one c mail m) ms
after_push c mail [] m = refl
after_push c mail (x ∷ ms) m = ap (λ (l : Lookup). if x.sent.to == c then with_message x l else l) (after_push c mail ms m)

-- the messages so far, from the last one on, were put into the mails
pub record Delivering (limit : ℕ) (old : List (List Message)) (all : List Message) (now : List (List Message)) (heard : List ℕ) (rest : List Message) : Type 0 where
  pub count : length now ≡ length old
  pub mails : (c : ℕ) → c < length old → mail_after c (mail_at now c) rest ≡ mail_after c (mail_at old c) all
  pub kept : AreKept old heard now
  pub target : AreFor (length old) rest
  pub left : CanDeliver limit old all → CanDeliver limit now rest
  pub given : CanDeliver limit now rest → CanDeliver limit old all

pub delivers_none : (limit : ℕ) (old : List (List Message)) (all : List Message) → AreFor (length old) all → Delivering limit old all old [] all
delivers_none limit old all target = record { count = refl; mails = λ c l. refl; kept = but_none (length old) _ (λ c l. refl); target = target; left = λ h. h; given = λ h. h }

pub none_if : {A : Type 0} (o : Option A) → ((x : A) → o ≡ Some x → ⊥) → o ≡ None
none_if None f = refl
none_if (Some x) f = absurd (f x refl)

not_none : {A : Type 0} (o : Option A) (x : A) → o ≡ None → o ≡ Some x → ⊥
not_none o x e f = cc

module _ (limit : ℕ) (old : List (List Message)) (all : List Message) (mails : List (List Message)) (heard : List ℕ) (rest : List Message) (m : Message) (d : Delivering limit old all mails heard (rest ++ m ∷ [])) where
  pub is_last : Mem m (rest ++ m ∷ [])
  is_last = mem_right m rest (m ∷ []) (inl refl)

  pub in_range : m.sent.to < length mails
  in_range = let l = d.target m is_last in let k = d.count in omega (arith, l, k)

  -- what is asked of all is asked of this one
  pub can_put : CanDeliver limit old all → CanPut limit m (mail_at mails m.sent.to)
  can_put h = (d.left h).each m is_last

  module _ (held : List Message) (is : lookup held ≡ with_message m (mail_at mails m.sent.to)) (can : CanPut limit m (mail_at mails m.sent.to)) where
    abbrev after : List (List Message)
    after = slice_set mails m.sent.to held

    at_other : (c : ℕ) → (m.sent.to ≡ c → ⊥) → mail_at after c ≡ mail_at mails c
    at_other c n = ap mail_in (get_set_other mails m.sent.to c held n)

    at_it : mail_at after m.sent.to ≡ with_message m (mail_at mails m.sent.to)
    at_it = ap mail_in (get_set_same mails m.sent.to held in_range) ∙ is

    at_if : (c : ℕ) (t : Bool) → (m.sent.to == c) ≡ t → mail_at after c ≡ (if t then with_message m (mail_at mails c) else mail_at mails c)
    at_if c true e = subst (λ c. mail_at after c ≡ with_message m (mail_at mails c)) (eqb-true _ _ e) at_it
    at_if c false e = at_other c (eqb-false _ _ e)

    at : (c : ℕ) → mail_at after c ≡ put_one c (mail_at mails c) m
    at c = at_if c (m.sent.to == c) refl

    -- what is held of the key of another message, which isn't this one's
    found_key : (y : Message) (t : Bool) → same_key m.sent.key y.sent.key ≡ t → (t ≡ true → ⊥) → (if t then Some m else mail_at mails y.sent.to y.sent.key) ≡ mail_at mails y.sent.to y.sent.key
    found_key y true k n = absurd (n refl)
    found_key y false k n = refl

    found_if : (y : Message) (t : Bool) → (m.sent.to == y.sent.to) ≡ t → (m.sent.to ≡ y.sent.to → m.sent.key ≡ y.sent.key → ⊥) → (if t then with_message m (mail_at mails y.sent.to) else mail_at mails y.sent.to) y.sent.key ≡ mail_at mails y.sent.to y.sent.key
    found_if y true e n = found_key y (same_key m.sent.key y.sent.key) refl (λ k. n (eqb-true _ _ e) (same_key_is _ _ k))
    found_if y false e n = refl

    found_other : (y : Message) → (m.sent.to ≡ y.sent.to → m.sent.key ≡ y.sent.key → ⊥) → mail_at after y.sent.to y.sent.key ≡ mail_at mails y.sent.to y.sent.key
    found_other y n = ap (λ (l : Lookup). l y.sent.key) (at y.sent.to) ∙ found_if y (m.sent.to == y.sent.to) refl n

    -- this message is found at its key
    key_here : (t : Bool) → same_key m.sent.key m.sent.key ≡ t → t ≡ true → (if t then Some m else mail_at mails m.sent.to m.sent.key) ≡ Some m
    key_here true k e = refl
    key_here false k e = absurd (cc)

    found_here : mail_at after m.sent.to m.sent.key ≡ Some m
    found_here = ap (λ (l : Lookup). l m.sent.key) at_it ∙ key_here (same_key m.sent.key m.sent.key) refl (same_key_refl m.sent.key)

    -- where all can be delivered, the rest can
    rest_left : CanDeliver limit mails (rest ++ m ∷ []) → CanDeliver limit after rest
    rest_left h = record { apart = parts.0; each = λ y i. let k = h.each y (mem_left y rest (m ∷ []) i) in record { free = found_other y (other y i) ∙ k.free; low = k.low } }
      where
        parts : Apart one_key rest × (mail_to rest m.sent.to m.sent.key ≡ None)
        parts = apart_from rest m h.apart

        other : (y : Message) → Mem y rest → m.sent.to ≡ y.sent.to → m.sent.key ≡ y.sent.key → ⊥
        other y i t k = not_none (mail_to rest m.sent.to m.sent.key) y parts.1 (ap₂ (mail_to rest) t k ∙ hits rest parts.0 y i)

    -- where the rest can be delivered, all could
    all_given : CanDeliver limit after rest → CanDeliver limit mails (rest ++ m ∷ [])
    all_given h = record { apart = apart rest m h.apart (none_if (mail_to rest m.sent.to m.sent.key) no_other); each = λ y i. by_side y (mem_cases y rest (m ∷ []) i) }
      where
        not_here : (y : Message) → Mem y rest → m.sent.to ≡ y.sent.to → m.sent.key ≡ y.sent.key → ⊥
        not_here y i t k = not_none (mail_at after y.sent.to y.sent.key) m (h.each y i).free (ap₂ (mail_at after) (sym t) (sym k) ∙ found_here)

        no_other : (y : Message) → mail_to rest m.sent.to m.sent.key ≡ Some y → ⊥
        no_other y e =
            let f = found rest m.sent.to m.sent.key y e in
            let q = is_for_is m.sent.to m.sent.key y f.1 in
            not_here y f.0 (sym q.0) (sym q.1)

        by_side : (y : Message) → Mem y rest ⊎ Mem y (m ∷ []) → CanPut limit y (mail_at mails y.sent.to)
        by_side y (inl i) = let k = h.each y i in record { free = sym (found_other y (not_here y i)) ∙ k.free; low = k.low }
        by_side y (inr (inl e)) = subst (λ (y : Message). CanPut limit y (mail_at mails y.sent.to)) (sym e) can
        by_side y (inr (inr i)) = absurd i

    pub delivers_more : Delivering limit old all after (insert_key nat_cmp heard m.sent.to) rest
    delivers_more = record {
      count = length-set mails m.sent.to held ∙ d.count;
      mails = λ c l. ap (λ mail. mail_after c mail rest) (at c) ∙ (sym (after_push c (mail_at mails c) rest m) ∙ d.mails c l);
      kept = but_one heard (length old) m.sent.to _ _ (d.target m is_last) d.kept (λ c l other same. at_other c other ∙ same);
      target = λ x i. d.target x (mem_left x rest (m ∷ []) i);
      left = λ h. rest_left (d.left h);
      given = λ h. d.given (all_given h);
    }

none_to_put : (limit : ℕ) (mails : List (List Message)) → CanDeliver limit mails []
none_to_put limit mails = record { apart = tt; each = λ m i. absurd i }

pub delivered : (limit : ℕ) (old : List (List Message)) (all : List Message) (mails : List (List Message)) (heard : List ℕ) → Delivering limit old all mails heard [] → AreDelivered old all mails × AreKept old heard mails × CanDeliver limit old all
delivered limit old all mails heard d = (record { count = d.count; mails = d.mails }, d.kept, d.given (none_to_put limit mails))

-- ---- a message of a mail is found

pub mail_here : (mails : List (List Message)) (c : ℕ) (d : List Message) → c < length mails → mail_at mails c ≡ lookup (get_or mails c d)
mail_here mails c d l = ap mail_in (slice_get-get_or mails c d l)

above : (x m : Message) (ms : List Message) → AllByRecursion (λ k. key_cmp x.sent.key k ≡ Less) (map (λ m. m.sent.key) ms) → Mem m ms → key_cmp x.sent.key m.sent.key ≡ Less
above x m [] h i = absurd i
above x m (y ∷ ms) h (inl e) = subst (λ y. key_cmp x.sent.key y.sent.key ≡ Less) (sym e) h.0
above x m (y ∷ ms) h (inr i) = above x m ms h.1 i

passed : (x m : Message) (ms : List Message) (t : Bool) → same_key x.sent.key m.sent.key ≡ t → t ≡ false → lookup ms m.sent.key ≡ Some m → (if t then Some x else lookup ms m.sent.key) ≡ Some m
passed x m ms true e f s = absurd (cc)
passed x m ms false e f s = s

hit : (x m : Message) (ms : List Message) (t : Bool) → same_key x.sent.key m.sent.key ≡ t → m ≡ x → (if t then Some x else lookup ms m.sent.key) ≡ Some m
hit x m ms true e q = ap (λ x. Some x) (sym q)
hit x m ms false e q = let r : same_key x.sent.key m.sent.key ≡ true = subst (λ m. same_key x.sent.key m.sent.key ≡ true) (sym q) (same_key_refl x.sent.key) in absurd (cc)

pub looked : (ms : List Message) → IsStrictlySortedBy key_cmp (map (λ m. m.sent.key) ms) → (m : Message) → Mem m ms → lookup ms m.sent.key ≡ Some m
unfolding IsStrictlySortedBy
looked [] h m i = absurd i
looked (x ∷ ms) h m (inl e) = hit x m ms (same_key x.sent.key m.sent.key) refl e
looked (x ∷ ms) h m (inr i) = passed x m ms (same_key x.sent.key m.sent.key) refl (sym (is_same x.sent.key m.sent.key) ∙ ap is_eq (above x m ms h.0 i)) (looked ms h.1 m i)

pub all_shallow : (ms : List Message) → IsStrictlySortedBy key_cmp (map (λ m. m.sent.key) ms) → IsShallow ms → (k : ℕ) (d : Message) → k < length ms → (get_or ms k d).origin.depth ≤ 262144
all_shallow ms h s k d l = let m = get_or ms k d in s m.sent.key m (looked ms h m (mem_at ms k d l))
