-- Nothing is named exactly where nothing is sent or asked twice.
use Rattle.std.proofs.Common.{◌≡◌, ◌≢◌, ◌≤◌, ◌<◌, ◌⊎◌, inl, inr, ℕ, ◌+◌, ◌==◌, Bool, true, false, ◌&&◌, if◌then◌else◌, List, [], ◌∷◌, ◌++◌, Option, Some, None, refl, sym, ap, ap₂, ◌∙◌, arith}
use Rattle.std.proofs.lemmas.Cmp.{nat_eq_equiv}
use Rattle.std.proofs.lemmas.Bool.Decides.{eqb_tells}
use Rattle.bs_log.specs.declared.history.Block.{Block}
use Rattle.bs_log.specs.declared.history.Message.{Message}
use Rattle.bs_log.specs.declared.history.Asked.{Asked}
use Rattle.bs_log.specs.declared.history.History.{History}
use Rattle.bs_log.specs.Lists.{Mem, Apart, Each}
use Rattle.bs_log.specs.Sound.{Once}
use Rattle.bs_log.specs.Messages.{one_key, one_asked, same_key, sends_of, sent}
use Rattle.bs_semantics.specs.Verdict.{At, Twice, Mark, marks_of_sends, marks_of_blocks, marks_of_asked, sent_marks, asked_marks, alike, second_of, least, first_twice, ambiguous}
use Rattle.bs_semantics.proofs.Options.{none_some}
use Rattle.bs_semantics.proofs.Members.{mem_left, mem_cases}

some_none : {A B : Type 0} {x : A} → Some x ≡ None → B
some_none e = absurd (none_some (sym e))

least_none : (a b : Option Twice) → least a b ≡ None → (a ≡ None) × (b ≡ None)
least_none None b e = (refl, e)
least_none (Some a) None e = some_none e
least_none (Some a) (Some b) e = some_none e

none_least : (a b : Option Twice) → a ≡ None → b ≡ None → least a b ≡ None
none_least a b p q = ap₂ least p q

second_none : (a : Mark) (bs : List Mark) → second_of a bs ≡ None → (b : Mark) → Mem b bs → alike a b ≡ false
second_none a [] e b m = absurd m
second_none a (x ∷ bs) e b m = by_test (alike a x) refl e m (second_none a bs)
  where
    by_test : (t : Bool) → alike a x ≡ t → (if t then Some (record { asked = a.asked; chare = a.chare; key = a.key; first = a.at; second = x.at }) else second_of a bs) ≡ None → Mem b (x ∷ bs) → (second_of a bs ≡ None → (b : Mark) → Mem b bs → alike a b ≡ false) → alike a b ≡ false
    by_test true p e m f = some_none e
    by_test false p e (inl q) f = ap (alike a) q ∙ p
    by_test false p e (inr m) f = f e b m

none_second : (a : Mark) (bs : List Mark) → ((b : Mark) → Mem b bs → alike a b ≡ false) → second_of a bs ≡ None
none_second a [] h = refl
none_second a (x ∷ bs) h = rw (h x (inl refl)) (none_second a bs (λ b m. h b (inr m)))

pub named_apart : (ms : List Mark) → first_twice ms ≡ None → Apart alike ms
named_apart [] e = tt
named_apart (a ∷ ms) e = let h = least_none _ _ e in (second_none a ms h.0, named_apart ms h.1)

pub apart_named : (ms : List Mark) → Apart alike ms → first_twice ms ≡ None
apart_named [] h = refl
apart_named (a ∷ ms) h = none_least _ _ (none_second a ms h.0) (apart_named ms h.1)

data Match : List Mark → List Message → Type 0 where
  none : Match [] []
  more : (a : Mark) (m : Message) (as' : List Mark) (ms : List Message) → a.chare ≡ m.sent.to → a.key ≡ m.sent.key → Match as' ms → Match (a ∷ as') (m ∷ ms)

match_append : (as' bs : List Mark) (ms ns : List Message) → Match as' ms → Match bs ns → Match (as' ++ bs) (ms ++ ns)
match_append _ bs _ ns none k = k
match_append _ bs _ ns (more a m as' ms p q h) k = more a m (as' ++ bs) (ms ++ ns) p q (match_append as' bs ms ns h k)

match_sends : (at : At) (ms : List Message) → Match (marks_of_sends at ms) ms
match_sends at [] = none
match_sends at (m ∷ ms) = more _ m _ ms refl refl (match_sends at ms)

match_blocks : (c : ℕ) (bs : List Block) → Match (marks_of_blocks c bs) (sends_of bs)
match_blocks c [] = none
match_blocks c (b ∷ bs) = match_append _ _ _ _ (match_sends _ b.sends) (match_blocks c bs)

match_sent : (c : ℕ) (hs : List History) → Match (sent_marks c hs) (sent hs)
match_sent c [] = none
match_sent c (h ∷ hs) = match_append _ _ _ _ (match_blocks c h.blocks) (match_sent (c + 1) hs)

alike_is : (a b : Mark) (m n : Message) → a.chare ≡ m.sent.to → a.key ≡ m.sent.key → b.chare ≡ n.sent.to → b.key ≡ n.sent.key → alike a b ≡ one_key m n
alike_is a b m n p q r s = ap₂ (λ x y. x && y) (ap₂ (λ x y. x == y) p r) (ap₂ same_key q s)

apart_left : (a : Mark) (m : Message) (as' : List Mark) (ms : List Message) → a.chare ≡ m.sent.to → a.key ≡ m.sent.key → Match as' ms → ((b : Mark) → Mem b as' → alike a b ≡ false) → (n : Message) → Mem n ms → one_key m n ≡ false
apart_left a m _ _ p q none h n i = absurd i
apart_left a m _ _ p q (more b k as' ms r s t) h n (inl e) = ap (one_key m) e ∙ (sym (alike_is a b m k p q r s) ∙ h b (inl refl))
apart_left a m _ _ p q (more b k as' ms r s t) h n (inr i) = apart_left a m as' ms p q t (λ b j. h b (inr j)) n i

apart_right : (a : Mark) (m : Message) (as' : List Mark) (ms : List Message) → a.chare ≡ m.sent.to → a.key ≡ m.sent.key → Match as' ms → ((n : Message) → Mem n ms → one_key m n ≡ false) → (b : Mark) → Mem b as' → alike a b ≡ false
apart_right a m _ _ p q none h b i = absurd i
apart_right a m _ _ p q (more c k as' ms r s t) h b (inl e) = ap (alike a) e ∙ (alike_is a c m k p q r s ∙ h k (inl refl))
apart_right a m _ _ p q (more c k as' ms r s t) h b (inr i) = apart_right a m as' ms p q t (λ n j. h n (inr j)) b i

to_messages : (as' : List Mark) (ms : List Message) → Match as' ms → Apart alike as' → Apart one_key ms
to_messages _ _ none h = tt
to_messages _ _ (more a m as' ms p q t) h = (apart_left a m as' ms p q t h.0, to_messages as' ms t h.1)

to_marks : (as' : List Mark) (ms : List Message) → Match as' ms → Apart one_key ms → Apart alike as'
to_marks _ _ none h = tt
to_marks _ _ (more a m as' ms p q t) h = (apart_right a m as' ms p q t h.0, to_marks as' ms t h.1)

-- asked: the marks of one chare, and those of later ones
alike_asked : (c : ℕ) (a b : Asked) → alike (record { asked = true; chare = c; key = a.key; at = record { chare = c; stmt = a.stmt } }) (record { asked = true; chare = c; key = b.key; at = record { chare = c; stmt = b.stmt } }) ≡ one_asked a b
alike_asked c a b = rw (nat_eq_equiv.refl c) refl

abbrev mark_of : ℕ → Asked → Mark
mark_of c a = record { asked = true; chare = c; key = a.key; at = record { chare = c; stmt = a.stmt } }

record Stems (c : ℕ) (as' : List Asked) (b : Mark) : Type 0 where
  from : Asked
  is_in : Mem from as'
  is : b ≡ mark_of c from

stems_more : (c : ℕ) (a : Asked) (as' : List Asked) (b : Mark) → Stems c as' b → Stems c (a ∷ as') b
stems_more c a as' b s = record { from = s.from; is_in = inr s.is_in; is = s.is }

stems : (c : ℕ) (as' : List Asked) (b : Mark) → Mem b (marks_of_asked c as') → Stems c as' b
stems c [] b m = absurd m
stems c (a ∷ as') b (inl e) = record { from = a; is_in = inl refl; is = e }
stems c (a ∷ as') b (inr m) = stems_more c a as' b (stems c as' b m)

marked : (c : ℕ) (as' : List Asked) (a : Asked) → Mem a as' → Mem (mark_of c a) (marks_of_asked c as')
marked c [] a m = absurd m
marked c (x ∷ as') a (inl e) = inl (ap (mark_of c) e)
marked c (x ∷ as') a (inr m) = inr (marked c as' a m)

asked_apart : (c : ℕ) (as' : List Asked) → Apart alike (marks_of_asked c as') → Apart one_asked as'
asked_apart c [] h = tt
asked_apart c (a ∷ as') h = ((λ b m. sym (alike_asked c a b) ∙ h.0 _ (marked c as' b m)), asked_apart c as' h.1)

apart_asked : (c : ℕ) (as' : List Asked) → Apart one_asked as' → Apart alike (marks_of_asked c as')
apart_asked c [] h = tt
apart_asked c (a ∷ as') h = ((λ b m. let s = stems c as' b m in ap (alike (mark_of c a)) s.is ∙ (alike_asked c a s.from ∙ h.0 s.from s.is_in)), apart_asked c as' h.1)

apart_front : (as' bs : List Mark) → Apart alike (as' ++ bs) → Apart alike as'
apart_front [] bs h = tt
apart_front (a ∷ as') bs h = ((λ b m. h.0 b (mem_left b as' bs m)), apart_front as' bs h.1)

apart_back : (as' bs : List Mark) → Apart alike (as' ++ bs) → Apart alike bs
apart_back [] bs h = h
apart_back (a ∷ as') bs h = apart_back as' bs h.1

apart_both : (as' bs : List Mark) → Apart alike as' → Apart alike bs → ((a b : Mark) → Mem a as' → Mem b bs → alike a b ≡ false) → Apart alike (as' ++ bs)
apart_both [] bs h k f = k
apart_both (a ∷ as') bs h k f = ((λ b m. by_side b (mem_cases b as' bs m)), apart_both as' bs h.1 k (λ x b m n. f x b (inr m) n))
  where
    by_side : (b : Mark) → Mem b as' ⊎ Mem b bs → alike a b ≡ false
    by_side b (inl m) = h.0 b m
    by_side b (inr m) = f a b (inl refl) m

later : (c : ℕ) (hs : List History) (b : Mark) → Mem b (asked_marks c hs) → c ≤ b.chare
later c [] b m = absurd m
later c (h ∷ hs) b m = by_side (mem_cases b (marks_of_asked c h.asked) (asked_marks (c + 1) hs) m) (later (c + 1) hs b)
  where
    by_side : Mem b (marks_of_asked c h.asked) ⊎ Mem b (asked_marks (c + 1) hs) → (Mem b (asked_marks (c + 1) hs) → c + 1 ≤ b.chare) → c ≤ b.chare
    by_side (inl m) f = let e = ap (λ b. b.chare) (stems c h.asked b m).is in omega (arith, e)
    by_side (inr m) f = let l = f m in omega (arith, l)

unlike : (a b : Mark) → a.chare < b.chare → alike a b ≡ false
unlike a b l = by_test (eqb_tells a.chare b.chare)
  where
    by_test : (((a.chare == b.chare) ≡ true) × (a.chare ≡ b.chare)) ⊎ (((a.chare == b.chare) ≡ false) × (a.chare ≢ b.chare)) → alike a b ≡ false
    by_test (inl h) = let e = h.1 in absurd (omega (arith, e, l))
    by_test (inr h) = rw h.0 refl

each_apart : (c : ℕ) (hs : List History) → Apart alike (asked_marks c hs) → Each (λ h. Apart one_asked h.asked) hs
each_apart c [] h = tt
each_apart c (x ∷ hs) h = (asked_apart c x.asked (apart_front (marks_of_asked c x.asked) (asked_marks (c + 1) hs) h), each_apart (c + 1) hs (apart_back (marks_of_asked c x.asked) (asked_marks (c + 1) hs) h))

apart_each : (c : ℕ) (hs : List History) → Each (λ h. Apart one_asked h.asked) hs → Apart alike (asked_marks c hs)
apart_each c [] h = tt
apart_each c (x ∷ hs) h = apart_both (marks_of_asked c x.asked) (asked_marks (c + 1) hs) (apart_asked c x.asked h.0) (apart_each (c + 1) hs h.1)
    (λ a b m n. let e = ap (λ a. a.chare) (stems c x.asked a m).is in let l = later (c + 1) hs b n in unlike a b (omega (arith, e, l)))

pub once_of : (hs : List History) → ambiguous hs ≡ None → Once hs
once_of hs e =
    let h = least_none _ _ e in
    record { sent = to_messages _ _ (match_sent 0 hs) (named_apart _ h.0); asked = each_apart 0 hs (named_apart _ h.1) }

pub of_once : (hs : List History) → Once hs → ambiguous hs ≡ None
of_once hs h = none_least _ _ (apart_named _ (to_marks _ _ (match_sent 0 hs) h.sent)) (apart_named _ (apart_each 0 hs h.asked))
