-- The least of two, where the first is kept on a tie.
use Rattle.std.proofs.Common.{◌≡◌, Bool, true, false, Option, Some, None, refl, sym, ap, ◌∙◌}
use Rattle.std.specs.declared.cmp.Ordering.{Ordering}
use Rattle.std.specs.declared.cmp.Ordering.TheVariants.{Less, Equal, Greater}
use Rattle.std.specs.Ordering.{is_gt, is_eq, ordering_reverse}
use Rattle.std.specs.Cmp.{IsTotalOrder, nat_cmp_total}
use Rattle.std.proofs.lemmas.Cmp.{then_total, on_total, upto}
use Rattle.bs_semantics.specs.Verdict.{Twice, twice_cmp, lesser, least}
use Rattle.bs_match.proofs.Keys.{key_cmp_total}

pub twice_total : IsTotalOrder twice_cmp
twice_total = then_total (on_total (λ t. t.chare) nat_cmp_total) (on_total (λ t. t.key) key_cmp_total)

abbrev pub lesser_of : Twice → Twice → Twice
lesser_of a b = lesser a b (twice_cmp a b)

pub keeps : (a b : Twice) → is_gt (twice_cmp a b) ≡ false → lesser_of a b ≡ a
keeps a b h = by_order (twice_cmp a b) h
  where
    by_order : (o : Ordering) → is_gt o ≡ false → lesser a b o ≡ a
    by_order Less h = refl
    by_order Equal h = refl
    by_order Greater h = absurd (cc)

greater : (o : Ordering) → is_gt o ≡ true → o ≡ Greater
greater Less h = absurd (cc)
greater Equal h = absurd (cc)
greater Greater h = refl

takes : (a b : Twice) → is_gt (twice_cmp a b) ≡ true → lesser_of a b ≡ b
takes a b h = ap (lesser a b) (greater (twice_cmp a b) h)

reversed : (a b : Twice) (o : Ordering) → twice_cmp a b ≡ o → twice_cmp b a ≡ ordering_reverse o
reversed a b o h = twice_total.antisymm b a ∙ ap ordering_reverse h

past : (a b c : Twice) → is_gt (twice_cmp a b) ≡ true → is_gt (twice_cmp b c) ≡ true → is_gt (twice_cmp a c) ≡ true
past a b c p q = ap is_gt (reversed c a Less (twice_total.trans c b a (reversed b c Greater (greater _ q)) (reversed a b Greater (greater _ p))))

lesser_assoc : (a b c : Twice) (s t : Bool) → is_gt (twice_cmp a b) ≡ s → is_gt (twice_cmp b c) ≡ t → lesser_of a (lesser_of b c) ≡ lesser_of (lesser_of a b) c
lesser_assoc a b c false false p q = (ap (lesser_of a) (keeps b c q) ∙ keeps a b p) ∙ sym (ap (λ x. lesser_of x c) (keeps a b p) ∙ keeps a c (upto twice_total a b c p q))
lesser_assoc a b c false true p q = ap (lesser_of a) (takes b c q) ∙ sym (ap (λ x. lesser_of x c) (keeps a b p))
lesser_assoc a b c true false p q = (ap (lesser_of a) (keeps b c q) ∙ takes a b p) ∙ sym (ap (λ x. lesser_of x c) (takes a b p) ∙ keeps b c q)
lesser_assoc a b c true true p q = (ap (lesser_of a) (takes b c q) ∙ takes a c (past a b c p q)) ∙ sym (ap (λ x. lesser_of x c) (takes a b p) ∙ takes b c q)

pub least_assoc : (a b c : Option Twice) → least a (least b c) ≡ least (least a b) c
least_assoc None b c = refl
least_assoc (Some a) None c = refl
least_assoc (Some a) (Some b) None = refl
least_assoc (Some a) (Some b) (Some c) = ap (λ x. Some x) (lesser_assoc a b c _ _ refl refl)

pub least_none : (a : Option Twice) → least a None ≡ a
least_none None = refl
least_none (Some a) = refl

-- one that isn't below the first changes nothing
pub absorbs : (u w : Twice) (f : Option Twice) → twice_cmp u w ≡ Equal → least (least (Some u) f) (Some w) ≡ least (Some u) f
absorbs u w None e = ap (λ x. Some x) (keeps u w (ap is_gt e))
absorbs u w (Some f) e = ap (λ x. Some x) (by_test (is_gt (twice_cmp u f)) refl)
  where
    below : is_gt (twice_cmp u f) ≡ true → is_gt (twice_cmp f u) ≡ false
    below p = ap is_gt (reversed u f Greater (greater _ p))

    by_test : (t : Bool) → is_gt (twice_cmp u f) ≡ t → lesser_of (lesser_of u f) w ≡ lesser_of u f
    by_test false p = ap (λ x. lesser_of x w) (keeps u f p) ∙ (keeps u w (ap is_gt e) ∙ sym (keeps u f p))
    by_test true p = ap (λ x. lesser_of x w) (takes u f p) ∙ (keeps f w (upto twice_total f u w (below p) (ap is_gt e)) ∙ sym (takes u f p))

-- two of different keys may change places
pub swaps : (w f : Twice) → is_eq (twice_cmp f w) ≡ false → least (Some w) (Some f) ≡ least (Some f) (Some w)
swaps w f h = ap (λ x. Some x) (by_order (twice_cmp f w) refl h)
  where
    by_order : (o : Ordering) → twice_cmp f w ≡ o → is_eq o ≡ false → lesser_of w f ≡ lesser f w o
    by_order Less p h = ap (lesser w f) (reversed f w Less p)
    by_order Equal p h = absurd (cc)
    by_order Greater p h = ap (lesser w f) (reversed f w Greater p)
