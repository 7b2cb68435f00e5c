-- The rows of a line by their numbers there: its plan, and the places of its messages.
use Rattle.std.proofs.Common.{◌≡◌, ◌<◌, inl, inr, ◌==◌, ℕ, zero, suc, List, [], ◌∷◌, length, get_or, map, refl, sym, ap, subst, ◌∙◌, arith}
use Rattle.std.proofs.lemmas.List.{get_or-map, length-map}
use Rattle.bs_log.specs.declared.log.MailRef.{MailRef}
use Rattle.bs_log.specs.Lists.{Mem, InOrder}
use Rattle.bs_times.specs.Net.{Net, Causal}
use Rattle.bs_times.specs.Times.{IsOn, greatest}
use Rattle.bs_times.proofs.Members.{map_mem}
use Rattle.bs_schedule.specs.declared.plan.Cause.{Cause}
use Rattle.bs_schedule.specs.declared.plan.Plan.{Plan}
use Rattle.bs_schedule.specs.Plan.{at, causes_of, causing, IsRow}
use Rattle.bs_schedule.specs.Local.{IsLocalPlan}
use Rattle.bs_schedule.proofs.Places.{place_mem}
use Rattle.bs_schedule.proofs.Relabel.{map_map}
use Rattle.bs_times.specs.Racing.{same_mail}
use Rattle.bs_line.specs.Places.{AreMails, AreThose, mail_place}
use Rattle.bs_line.specs.Layout.{ComesTo, IsRowsPlan, local_cause, local_causes, number_on, slots_of}
use Rattle.bs_line.specs.Line.{SlotsFit, base_of}
use Rattle.bs_line.proofs.Ordered.{below_back, in_order_at, mail_tests, place_at, place_found, row_tests}

-- the row of a number on the line.
abbrev pub row_on : List ℕ → ℕ → ℕ
row_on rows k = at (0 ∷ rows) k

map_here : {A : Type 0} (f : A → A) (xs : List A) → ((x : A) → Mem x xs → f x ≡ x) → map f xs ≡ xs
map_here f [] h = refl
map_here f (x ∷ xs) h = rw (h x (inl refl), map_here f xs (λ y m. h y (inr m))) refl

causing_map : (net : Net) (rows is : List ℕ) → causing (map (local_cause net rows) is) ≡ map (number_on rows) is
causing_map net rows [] = refl
causing_map net rows (i ∷ is) = ap (λ ks. number_on rows i ∷ ks) (causing_map net rows is)

pub numbered : (rows : List ℕ) (i : ℕ) → Mem i rows → row_on rows (number_on rows i) ≡ i
numbered rows i m = (place_found ◌==◌ row_tests rows i m).1 0

pub number_at : (rows : List ℕ) (k : ℕ) → InOrder (λ i j. i < j) rows → k < length rows → number_on rows (at rows k) ≡ suc k
number_at rows k o lt = ap suc (place_at ◌==◌ row_tests (λ i j. i < j) below_back rows k 0 o lt)

module _ (net : Net) (p : ℕ) (rows : List ℕ) (those : AreThose (IsOn net p) rows) (causal : Causal net) where
  row_is : (k : ℕ) → k < length rows → IsOn net p (at rows k)
  row_is k lt = (those.all (at rows k)).1 (place_mem rows k 0 lt)

  after_here : (k x : ℕ) → k < length rows → Mem x (net.after (at rows k)) → Mem x rows
  after_here k x lt m =
      let on = row_is k lt in
      let known = causal.after (at rows k) x on.0 m in
      (those.all x).0 (known.0, known.1 ∙ on.1)

  module _ (plan : Plan) (h : IsRowsPlan net rows plan) where
    long : length plan.times ≡ suc (length rows)
    long = ap length h.times ∙ ap suc (length-map rows net.duration)

    causes_are : (k : ℕ) → k < length rows → causes_of plan (suc k) ≡ map (local_cause net rows) (net.after (at rows k))
    causes_are k lt = ap (λ cs. get_or cs (suc k) []) h.causes ∙ get_or-map (local_causes net rows) rows k 0 [] lt

    -- the causes of a row on the line are its block causes.
    are_causes : (k : ℕ) → k < length rows → map (row_on rows) (causing (causes_of plan (suc k))) ≡ net.after (at rows k)
    are_causes k lt =
        ap (λ cs. map (row_on rows) (causing cs)) (causes_are k lt)
        ∙ ap (map (row_on rows)) (causing_map net rows (net.after (at rows k)))
        ∙ map_map (row_on rows) (number_on rows) (net.after (at rows k))
        ∙ map_here (λ x. row_on rows (number_on rows x)) (net.after (at rows k)) (λ x m. numbered rows x (after_here k x lt m))

    delays : (k : ℕ) (c : Cause) → k < length rows → Mem c (causes_of plan (suc k)) → IsRow plan c.row × (c.delay ≡ net.duration (row_on rows c.row))
    delays k c lt m =
        let d = map_mem (local_cause net rows) c (net.after (at rows k)) (subst (λ cs. Mem c cs) (causes_are k lt) m) in
        let here = after_here k d.0 lt d.1 in
        let found = place_found ◌==◌ row_tests rows d.0 here in
        rw d.2 ((omega arith, omega (arith, found.0, long)), ap net.duration (sym (numbered rows d.0 here)))

    pub local_plan : IsLocalPlan net p plan (row_on rows)
    local_plan = record {
      on = on;
      all = λ i is. let m = (those.all i).0 is in (number_on rows i, (omega arith, omega (arith, long, (place_found ◌==◌ row_tests rows i m).0)), numbered rows i m);
      rising = rising;
      homes = homes;
      times = times;
      causes = causes;
      delays = all_delays;
    }
      where
        on : (k : ℕ) → IsRow plan k → IsOn net p (row_on rows k)
        on zero is = absurd (omega (arith, is.0))
        on (suc k) is = row_is k (omega (arith, is.1, long))

        rising : (j k : ℕ) → IsRow plan j → IsRow plan k → j < k → row_on rows j < row_on rows k
        rising zero k is ks lt = absurd (omega (arith, is.0))
        rising (suc j) zero is ks lt = absurd (omega (arith, lt))
        rising (suc j) (suc k) is ks lt = in_order_at (λ i j. i < j) rows j k 0 those.rises (omega (arith, lt)) (omega (arith, ks.1, long))

        homes : (k : ℕ) → IsRow plan k → at plan.homes k ≡ 0
        homes zero is = absurd (omega (arith, is.0))
        homes (suc k) is = ap (λ hs. at hs (suc k)) h.homes ∙ get_or-map {Y = ℕ} (λ (i : ℕ). 0) rows k 0 0 (omega (arith, is.1, long))

        times : (k : ℕ) → IsRow plan k → at plan.times k ≡ net.duration (row_on rows k)
        times zero is = absurd (omega (arith, is.0))
        times (suc k) is = ap (λ ts. at ts (suc k)) h.times ∙ get_or-map net.duration rows k 0 0 (omega (arith, is.1, long))

        causes : (k : ℕ) → IsRow plan k → map (row_on rows) (causing (causes_of plan k)) ≡ net.after (row_on rows k)
        causes zero is = absurd (omega (arith, is.0))
        causes (suc k) is = are_causes k (omega (arith, is.1, long))

        all_delays : (k : ℕ) (c : Cause) → IsRow plan k → Mem c (causes_of plan k) → IsRow plan c.row × (c.delay ≡ net.duration (row_on rows c.row))
        all_delays zero c is m = absurd (omega (arith, is.0))
        all_delays (suc k) c is m = delays k c (omega (arith, is.1, long)) m

  module _ (mails : List MailRef) (comes : AreMails (ComesTo net p) mails) where
    -- the messages of a row on the line come to it.
    mail_here : (k : ℕ) (m : MailRef) → k < length rows → Mem m (net.mail (at rows k)) → Mem m mails
    mail_here k m lt is =
        let on = row_is k lt in
        let known = causal.mail (at rows k) m on.0 is in
        (comes.all m).0 ((at rows k, on.0, is), known.2 ∙ on.1)

    fits : (ms : List MailRef) → ((m : MailRef) → Mem m ms → Mem m mails) → SlotsFit (map (mail_place mails) ms) (length mails)
    fits [] h i d lt = absurd (omega (arith, lt))
    fits (m ∷ ms) h zero d lt = (place_found same_mail mail_tests mails m (h m (inl refl))).0
    fits (m ∷ ms) h (suc i) d lt = fits ms (λ x k. h x (inr k)) i d (omega (arith, lt))

    slots_at : (slots : List (List ℕ)) (k : ℕ) → slots ≡ [] ∷ map (slots_of net mails) rows → k < length rows → get_or slots (suc k) [] ≡ slots_of net mails (at rows k)
    slots_at slots k e lt = ap (λ xs. get_or xs (suc k) []) e ∙ get_or-map (slots_of net mails) rows k 0 [] lt

    pub slots_fit : (slots : List (List ℕ)) (n k : ℕ) → slots ≡ [] ∷ map (slots_of net mails) rows → n ≡ length mails → k < length slots → SlotsFit (get_or slots k []) n
    slots_fit slots n zero e l lt = λ i d le. absurd (omega (arith, le, ap (λ xs. length (get_or xs 0 [])) e))
    slots_fit slots n (suc k) e l lt =
        let within : k < length rows = omega (arith, lt, ap length e, length-map rows (slots_of net mails)) in
        subst (λ xs. SlotsFit xs n) (sym (slots_at slots k e within)) (subst (λ j. SlotsFit (slots_of net mails (at rows k)) j) (sym l) (fits (net.mail (at rows k)) (λ m is. mail_here k m within is)))

    -- the base tick of a row is what its messages give.
    pub base_at : (slots : List (List ℕ)) (held : List ℕ) (k : ℕ) → slots ≡ [] ∷ map (slots_of net mails) rows → k < length rows → at (base_of slots held) (suc k) ≡ greatest (map (λ m. at held (mail_place mails m)) (net.mail (at rows k)))
    base_at slots held k e lt =
        ap (λ xs. at (base_of xs held) (suc k)) e
        ∙ get_or-map (λ places. greatest (map (at held) places)) (map (slots_of net mails) rows) k [] 0 (omega (arith, lt, length-map rows (slots_of net mails)))
        ∙ ap (λ places. greatest (map (at held) places)) (get_or-map (slots_of net mails) rows k 0 [] lt)
        ∙ ap greatest (map_map (at held) (mail_place mails) (net.mail (at rows k)))
