-- What a recomputation comes to: the table of the processor, the arrivals, and the corrections.
use Rattle.std.proofs.Common.{map, ◌≡◌, ℕ, zero, suc, ◌+◌, ◌^◌, ◌<◌, ◌≤◌, ◌⊎◌, inl, inr, ◌==◌, List, [], ◌∷◌, ◌++◌, length, drop, get_or, refl, sym, ap, ◌∙◌, arith}
use Rattle.std.proofs.lemmas.Bool.{cases_lt}
use Rattle.std.proofs.lemmas.List.{drop_more, get_or-map, length-map}
use Rattle.std.proofs.Math.ListN.{get_or-eq_default}
use Rattle.bs_log.specs.declared.log.MailRef.{MailRef}
use Rattle.bs_log.specs.Rising.{IsLower}
use Rattle.bs_times.specs.Net.{Net, Ticks, Causal}
use Rattle.bs_times.specs.Bounds.{IsShort}
use Rattle.bs_times.specs.Racing.{same_mail}
use Rattle.bs_times.specs.Times.{IsLine, IsOn}
use Rattle.bs_times.proofs.Ready.{at_most}
use Rattle.bs_schedule.specs.Plan.{at, IsRow, IsSchedule}
use Rattle.bs_schedule.specs.Local.{IsHeld}
use Rattle.bs_schedule.proofs.Lines.{line_schedule}
use Rattle.bs_schedule.proofs.Places.{place_mem}
use Rattle.bs_line.specs.declared.layout.Out.{Out}
use Rattle.bs_line.specs.declared.layout.Layout.{Layout}
use Rattle.bs_line.specs.declared.corrections.Correction.{Correction}
use Rattle.bs_line.specs.Places.{mail_place}
use Rattle.bs_line.specs.Layout.{GoesFrom, IsLayout, number_on, out_of, sends_of, slots_of}
use Rattle.bs_line.specs.Line.{OutsFit, arrive, base_of, changes, correction_of, corrections_of}
use Rattle.bs_line.proofs.Ordered.{lower_back, mail_tests, place_at, place_found, row_tests}
use Rattle.bs_line.proofs.Rows.{base_at, local_plan, number_at, row_on}

pub base_small : (slots : List (List ℕ)) (held : List ℕ) (n : ℕ) → ((i : ℕ) → at held i ≤ n) → (i : ℕ) → at (base_of slots held) i ≤ n
base_small [] held n h i = omega arith
base_small (x ∷ xs) held n h zero = at_most (at held) x n (λ k m. h k)
base_small (x ∷ xs) held n h (suc i) = base_small xs held n h i

pub base_long : (slots : List (List ℕ)) (held : List ℕ) → length (base_of slots held) ≡ length slots
base_long [] held = refl
base_long (x ∷ xs) held = ap suc (base_long xs held)

-- ---- corrections, by places

corrections_more : (outs : List Out) (given ticks : List ℕ) (k : ℕ) (d : Out) (g t : ℕ) → k < length outs → k < length given → k < length ticks → corrections_of (drop k outs) (drop k given) (drop k ticks) ≡ correction_of (get_or outs k d).mail (get_or outs k d).to (get_or given k g) (get_or ticks k t) ++ corrections_of (drop (k + 1) outs) (drop (k + 1) given) (drop (k + 1) ticks)
corrections_more outs given ticks k d g t h i j = rw (drop_more outs k d h, drop_more given k g i, drop_more ticks k t j) refl

assoc : {A : Type 0} (xs ys zs : List A) → (xs ++ ys) ++ zs ≡ xs ++ (ys ++ zs)
assoc [] ys zs = refl
assoc (x ∷ xs) ys zs = ap (λ ws. x ∷ ws) (assoc xs ys zs)

pub corrections_step : (outs : List Out) (given ticks : List ℕ) (k : ℕ) (d : Out) (g t : ℕ) (list new whole : List Correction) → k < length outs → length given ≡ length outs → length ticks ≡ length outs → list ++ corrections_of (drop k outs) (drop k given) (drop k ticks) ≡ whole → new ≡ list ++ correction_of (get_or outs k d).mail (get_or outs k d).to (get_or given k g) (get_or ticks k t) → new ++ corrections_of (drop (k + 1) outs) (drop (k + 1) given) (drop (k + 1) ticks) ≡ whole
corrections_step outs given ticks k d g t list new whole h i j inv e =
    ap (λ xs. xs ++ corrections_of (drop (k + 1) outs) (drop (k + 1) given) (drop (k + 1) ticks)) e
    ∙ assoc list _ _
    ∙ ap (λ xs. list ++ xs) (sym (corrections_more outs given ticks k d g t h (omega (arith, h, i)) (omega (arith, h, j))))
    ∙ inv

-- what stands at the place of a message is its tick.
abbrev AreAt : Net → Ticks → Ticks → List Out → List ℕ → List ℕ → Type 0
AreAt net was tick outs given ticks = (k : ℕ) (d : Out) → k < length outs → (was (get_or outs k d).mail ≡ at given k) × (tick (get_or outs k d).mail ≡ at ticks k) × (net.goes_to (get_or outs k d).mail ≡ (get_or outs k d).to)

corrections_are : (net : Net) (was tick : Ticks) (outs : List Out) (given ticks : List ℕ) → length given ≡ length outs → length ticks ≡ length outs → AreAt net was tick outs given ticks → corrections_of outs given ticks ≡ changes net was tick (map (λ out. out.mail) outs)
corrections_are net was tick [] given ticks i j h = refl
corrections_are net was tick (o ∷ outs) [] ticks i j h = absurd (omega (arith, i))
corrections_are net was tick (o ∷ outs) (g ∷ given) [] i j h = absurd (omega (arith, j))
corrections_are net was tick (o ∷ outs) (g ∷ given) (t ∷ ticks) i j h =
    let here = h 0 o (omega arith) in
    rw (here.0, here.1, here.2) (ap (λ cs. correction_of o.mail o.to g t ++ cs) (corrections_are net was tick outs given ticks (omega (arith, i)) (omega (arith, j)) (λ k d lt. h (suc k) d (omega (arith, lt)))))

module _ (net : Net) (p : ℕ) (layout : Layout) (h : IsLayout net p layout) where
  sends : List MailRef
  sends = sends_of layout

  sends_long : length (sends_of layout) ≡ length layout.outs
  sends_long = length-map layout.outs (λ (o : Out). o.mail)

  pub slots_long : length layout.slots ≡ length layout.plan.times
  slots_long = ap length h.slots ∙ ap suc (length-map layout.rows (slots_of net layout.mails) ∙ sym (length-map layout.rows net.duration)) ∙ sym (ap length h.plan.times)

  pub times_long : length layout.plan.times ≡ length layout.rows + 1
  times_long = ap length h.plan.times ∙ (let e : suc (length (map net.duration layout.rows)) ≡ length layout.rows + 1 = omega (arith, length-map layout.rows net.duration) in e)

  out_at : (k : ℕ) (d : Out) → k < length layout.outs → get_or layout.outs k d ≡ out_of net layout.rows (get_or layout.outs k d).mail
  out_at k d lt =
      let within : k < length (sends_of layout) = omega (arith, lt, sends_long) in
      ap (λ os. get_or os k d) h.outs
      ∙ get_or-map (out_of net layout.rows) (sends_of layout) k d.mail d within
      ∙ ap (out_of net layout.rows) (get_or-map (λ (o : Out). o.mail) layout.outs k d d.mail lt)

  place_is : (k : ℕ) (d : Out) → k < length layout.outs → mail_place (sends_of layout) (get_or layout.outs k d).mail ≡ k
  place_is k d lt =
      let within : k < length (sends_of layout) = omega (arith, lt, sends_long) in
      ap (mail_place (sends_of layout)) (sym (get_or-map (λ (o : Out). o.mail) layout.outs k d d.mail lt))
      ∙ place_at same_mail mail_tests IsLower lower_back (sends_of layout) k d.mail h.goes.rises within

  -- the corrections are those of the listed messages whose arrivals changed.
  pub corrected : (given ticks : List ℕ) → length given ≡ length layout.outs → length ticks ≡ length layout.outs → corrections_of layout.outs given ticks ≡ changes net (λ m. at given (mail_place (sends_of layout) m)) (λ m. at ticks (mail_place (sends_of layout) m)) (sends_of layout)
  corrected given ticks i j = corrections_are net _ _ layout.outs given ticks i j (λ k d lt. (ap (at given) (place_is k d lt), ap (at ticks) (place_is k d lt), sym (ap (λ (o : Out). o.to) (out_at k d lt))))

  -- the tick of a message that the line sends is its arrival.
  pub arrives : (starts ticks : List ℕ) (m : MailRef) → ticks ≡ map (arrive (at starts)) layout.outs → GoesFrom net p m → at ticks (mail_place (sends_of layout) m) ≡ at starts (number_on layout.rows m.row) + net.travel m
  arrives starts ticks m e from =
      let found = place_found same_mail mail_tests (sends_of layout) m ((h.goes.all m).0 from) in
      let lt : mail_place (sends_of layout) m < length layout.outs = omega (arith, found.0, sends_long) in
      let none : Out = out_of net layout.rows m in
      let is : (get_or layout.outs (mail_place (sends_of layout) m) none).mail ≡ m = sym (get_or-map (λ (o : Out). o.mail) layout.outs (mail_place (sends_of layout) m) none m lt) ∙ found.1 m in
      ap (λ ts. at ts (mail_place (sends_of layout) m)) e
      ∙ get_or-map (arrive (at starts)) layout.outs (mail_place (sends_of layout) m) none 0 lt
      ∙ ap (arrive (at starts)) (out_at (mail_place (sends_of layout) m) none lt ∙ ap (out_of net layout.rows) is)

  -- and it is early where the starts are.
  pub arrives_early : (starts ticks : List ℕ) (m : MailRef) (n : ℕ) → IsShort net → ticks ≡ map (arrive (at starts)) layout.outs → ((i : ℕ) → at starts i ≤ n) → at ticks (mail_place (sends_of layout) m) < n + 2 ^ 49
  arrives_early starts ticks m n short e early = go (cases_lt place (length (sends_of layout)))
    where
      place : ℕ
      place = mail_place (sends_of layout) m

      long : length ticks ≡ length (sends_of layout)
      long = ap length e ∙ length-map layout.outs (arrive (at starts)) ∙ sym sends_long

      go : (place < length (sends_of layout)) ⊎ (length (sends_of layout) ≤ place) → at ticks place < n + 2 ^ 49
      go (inl lt) =
          let k : MailRef = get_or (sends_of layout) place m in
          let from : GoesFrom net p k = (h.goes.all k).1 (place_mem (sends_of layout) place m lt) in
          let same : mail_place (sends_of layout) k ≡ place = place_at same_mail mail_tests IsLower lower_back (sends_of layout) place m h.goes.rises lt in
          omega (arith, arrives starts ticks k e from, ap (at ticks) same, early (number_on layout.rows k.row), short.travel k from.0)
      go (inr le) = let z : at ticks place ≡ 0 = get_or-eq_default ticks 0 (let l : length ticks ≤ place = omega (arith, le, long) in l) in omega (arith, z)

  pub outs_fit : (n : ℕ) → Causal net → n ≡ length layout.rows + 1 → OutsFit layout.outs n
  outs_fit n causal e k d lt =
      let m : MailRef = get_or (sends_of layout) k d.mail in
      let from : GoesFrom net p m = (h.goes.all m).1 (place_mem (sends_of layout) k d.mail (omega (arith, lt, sends_long))) in
      let on : IsOn net p m.row = ((causal.mail from.0.0 m from.0.1 from.0.2).0, from.1) in
      let found = place_found ◌==◌ row_tests layout.rows m.row ((h.rows.all m.row).0 on) in
      let is : (get_or layout.outs k d).mail ≡ m = sym (get_or-map (λ (o : Out). o.mail) layout.outs k d d.mail lt) in
      let row : (get_or layout.outs k d).row ≡ number_on layout.rows m.row = ap (λ (o : Out). o.row) (out_at k d lt) ∙ ap (λ (x : MailRef). number_on layout.rows x.row) is in
      omega (arith, row, found.0, e)

  -- the starts are the table of the processor over the ticks that are held.
  pub tabled : (held starts : List ℕ) → Causal net → IsSchedule layout.plan (base_of layout.slots held) (at starts) → IsLine net p (λ m. at held (mail_place layout.mails m)) (λ i. at starts (number_on layout.rows i))
  tabled held starts causal is = line_schedule net p _ layout.plan (base_of layout.slots held) (row_on layout.rows) (at starts) _ (local_plan net p layout.rows h.rows causal layout.plan h.plan) base is same
    where
      rows_long : length layout.plan.times ≡ suc (length layout.rows)
      rows_long = ap length h.plan.times ∙ ap suc (length-map layout.rows net.duration)

      base : IsHeld net (λ m. at held (mail_place layout.mails m)) layout.plan (base_of layout.slots held) (row_on layout.rows)
      base zero r = absurd (omega (arith, r.0))
      base (suc k) r = base_at net p layout.rows h.rows causal layout.mails h.comes layout.slots held k h.slots (omega (arith, r.1, rows_long))

      same : (k : ℕ) → IsRow layout.plan k → at starts k ≡ at starts (number_on layout.rows (row_on layout.rows k))
      same zero r = absurd (omega (arith, r.0))
      same (suc k) r = ap (at starts) (sym (number_at layout.rows k h.rows.rises (omega (arith, r.1, rows_long))))
