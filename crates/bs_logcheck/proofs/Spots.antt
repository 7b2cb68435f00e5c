-- When two places are the same, and which places are seen.
use Rattle.std.proofs.Common.{◌≡◌, inl, inr, ◌==◌, Bool, true, false, ◌&&◌, not, if◌then◌else◌, List, [], ◌∷◌, ◌++◌, refl, sym, ap, ap₂, ◌∙◌, int_eq}
use Rattle.std.specs.Bool.{Decides}
use Rattle.std.specs.Ordering.{nat_cmp, int_cmp, is_eq}
use Rattle.std.specs.Cmp.{tied_then, unsigned_ties}
use Rattle.std.specs.BTreeMap.{is_at}
use Rattle.std.proofs.lemmas.Bool.{false≢true}
use Rattle.std.proofs.lemmas.Cmp.{nat_eq_equiv}
use Rattle.bs_log.specs.declared.history.Key.{Key}
use Rattle.bs_log.specs.declared.history.Sent.{Sent}
use Rattle.bs_log.specs.declared.log.Row.{Row}
use Rattle.bs_log.specs.declared.log.WaitRow.{WaitRow}
use Rattle.bs_log.specs.Messages.{same_key, key_cmp}
use Rattle.bs_log.specs.Valid.{sends_in, one_send, one_wait, is_awaited}
use Rattle.bs_log.specs.Lists.{Mem}
use Rattle.bs_log.proofs.ClosedTests.{and_alike, key_symm}
use Rattle.bs_logcheck.specs.declared.place.Place.{Place}
use Rattle.bs_logcheck.specs.Lines.{with_more}
use Rattle.bs_logcheck.specs.Places.{place_cmp, goal_of, spot_of, nowhere, with_places, places}
use Rattle.bs_logcheck.specs.Faults.{with_rows}

is_same : (a b : Key) → is_eq (key_cmp a b) ≡ same_key a b
is_same a b = sym (tied_then (nat_cmp a.entry b.entry) (int_cmp a.reference b.reference)) ∙ ap (λ t. t && int_eq a.reference b.reference) (sym (unsigned_ties a.entry b.entry))

pub is_place : (p q : Place) → is_at (place_cmp p) q ≡ ((p.chare == q.chare) && same_key p.key q.key)
is_place p q = sym (tied_then (nat_cmp p.chare q.chare) (key_cmp p.key q.key)) ∙ ap₂ (λ s t. s && t) (sym (unsigned_ties p.chare q.chare)) (is_same p.key q.key)

pub at_send : (e s : Sent) → is_at (place_cmp (goal_of e)) (goal_of s) ≡ one_send e s
at_send e s = is_place (goal_of e) (goal_of s) ∙ and_alike _ _ _ _ (nat_eq_equiv.symm e.to s.to) (key_symm e.key s.key)

pub at_wait : (e w : WaitRow) → is_at (place_cmp (spot_of e)) (spot_of w) ≡ one_wait e w
at_wait e w = is_place (spot_of e) (spot_of w) ∙ and_alike _ _ _ _ (nat_eq_equiv.symm e.chare w.chare) (key_symm e.key w.key)

pub at_awaited : (w : WaitRow) (s : Sent) → is_at (place_cmp (goal_of s)) (spot_of w) ≡ is_awaited w s
at_awaited w s = is_place (goal_of s) (spot_of w)

-- no place of these is this one
module _ {A : Type 0} (at : A → Place) (q : Place) (same : A → Bool) (is : (e : A) → is_at (place_cmp (at e)) q ≡ same e) where
  pub none_seen : (es : List A) → Decides (not (places at es q)) ((e : A) → Mem e es → same e ≡ false)
  none_seen [] = (λ e x m. absurd m, λ h. refl)
  none_seen (y ∷ ys) = by (is_at (place_cmp (at y)) q) (is y) (none_seen ys)
    where
      by : (t : Bool) → t ≡ same y → Decides (not (places at ys q)) ((e : A) → Mem e ys → same e ≡ false) → Decides (not (if t then true else places at ys q)) ((e : A) → Mem e (y ∷ ys) → same e ≡ false)
      by true p d = (λ e. absurd (false≢true e), λ h. absurd (false≢true (sym (p ∙ h y (inl refl)))))
      by false p d = (λ e. all e, λ h. d.1 (λ x m. h x (inr m)))
        where
          all : not (places at ys q) ≡ true → (e : A) → Mem e (y ∷ ys) → same e ≡ false
          all n x (inl m) = ap same m ∙ sym p
          all n x (inr m) = d.0 n x m

-- places that are seen one after the other
pub seen_more : {A : Type 0} (at : A → Place) (es xs : List A) → with_places at (places at es) xs ≡ places at (with_more es xs)
seen_more at es [] = refl
seen_more at es (x ∷ xs) = seen_more at (x ∷ es) xs

pub more_appended : {A : Type 0} (es xs ys : List A) → with_more es (xs ++ ys) ≡ with_more (with_more es xs) ys
more_appended es [] ys = refl
more_appended es (x ∷ xs) ys = more_appended (x ∷ es) xs ys

pub rows_seen : (es : List Sent) (rs : List Row) → with_rows (places goal_of es) rs ≡ places goal_of (with_more es (sends_in rs))
rows_seen es [] = refl
rows_seen es (r ∷ rs) = ap (λ seen. with_rows seen rs) (seen_more goal_of es r.sends) ∙ (rows_seen (with_more es r.sends) rs ∙ ap (places goal_of) (sym (more_appended es r.sends (sends_in rs))))

-- what is in a list of more
pub in_earlier : {A : Type 0} (x : A) (es xs : List A) → Mem x es → Mem x (with_more es xs)
in_earlier x es [] m = m
in_earlier x es (y ∷ ys) m = in_earlier x (y ∷ es) ys (inr m)

pub in_more : {A : Type 0} (x : A) (es xs : List A) → Mem x xs → Mem x (with_more es xs)
in_more x es [] m = absurd m
in_more x es (y ∷ ys) (inl e) = in_earlier x (y ∷ es) ys (inl e)
in_more x es (y ∷ ys) (inr m) = in_more x (y ∷ es) ys m

pub from_more : {A : Type 0} (P : A → Type 0) (es xs : List A) → ((x : A) → Mem x es → P x) → ((x : A) → Mem x xs → P x) → (x : A) → Mem x (with_more es xs) → P x
from_more P es [] h k x m = h x m
from_more {A} P es (y ∷ ys) h k x m = from_more P (y ∷ es) ys all (λ z i. k z (inr i)) x m
  where
    all : (z : A) → Mem z (y ∷ es) → P z
    all z (inl e) = k z (inl e)
    all z (inr i) = h z i

pub lacks_is : (rs : List Row) (w : WaitRow) → Decides (not (with_rows nowhere rs (spot_of w))) ((s : Sent) → Mem s (sends_in rs) → is_awaited w s ≡ false)
lacks_is rs w =
    let d = none_seen goal_of (spot_of w) (is_awaited w) (at_awaited w) (with_more [] (sends_in rs)) in
    let e = ap (λ (f : Place → Bool). not (f (spot_of w))) (rows_seen [] rs) in
    (λ t s m. d.0 (sym e ∙ t) s (in_more s [] (sends_in rs) m), λ h. e ∙ d.1 (from_more (λ s. is_awaited w s ≡ false) [] (sends_in rs) (λ x m. absurd m) h))
