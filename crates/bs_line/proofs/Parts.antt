-- What a line is made of: its rows and messages are there, and its plan is one.
use Rattle.std.proofs.Common.{◌≡◌, ◌≤◌, ◌<◌, ◌+◌, ◌^◌, ◌⊎◌, inl, inr, ◌==◌, ℕ, zero, suc, List, [], ◌∷◌, ◌++◌, length, get_or, drop, map, refl, sym, ap, subst, ◌∙◌, append_assoc, arith}
use Rattle.std.proofs.lemmas.Bool.{cases_lt}
use Rattle.std.proofs.lemmas.List.{drop_more, get_or-map, length-map}
use Rattle.std.proofs.Math.ListN.{get_or-eq_default}
use Rattle.bs_log.specs.declared.log.MailRef.{MailRef}
use Rattle.bs_log.specs.declared.log.Log.{Log}
use Rattle.bs_log.specs.Valid.{IsValid}
use Rattle.bs_log.specs.Lists.{Mem, InOrder}
use Rattle.bs_machine.specs.declared.fitted.Fitted.{Fitted}
use Rattle.bs_schedule.specs.declared.plan.Cause.{Cause}
use Rattle.bs_schedule.specs.Plan.{AreRows, at}
use Rattle.bs_schedule.proofs.Places.{place_mem}
use Rattle.bs_times.specs.Machine.{machine_of}
use Rattle.bs_times.specs.Net.{Net, Causal, row_of}
use Rattle.bs_times.specs.Times.{IsListed}
use Rattle.bs_times.proofs.Causal.{causal_net, fitted_is_timely}
use Rattle.bs_times.proofs.Found.{row_fits}
use Rattle.bs_times.proofs.Members.{map_mem}
use Rattle.bs_line.specs.declared.layout.Out.{Out}
use Rattle.bs_line.specs.declared.making.Estimate.{Estimate}
use Rattle.bs_rows.specs.Rows.{net_on, IsSend}
use Rattle.bs_rows.proofs.Numbered.{mail_sent, rows_few}
use Rattle.bs_line.specs.Layout.{local_cause, local_causes, number_on, out_of}
use Rattle.bs_line.specs.Making.{AreComing, AreGoing, AreRowsOn, mails_of, ticks_of}
use Rattle.bs_line.proofs.Ordered.{place_found, row_tests}
use Rattle.bs_line.proofs.Rows.{numbered, row_on}

-- the k-th of some numbers that rise from 1 is at least k.
rise_far : (rows : List ℕ) (low k : ℕ) → InOrder (λ i j. i < j) rows → ((i : ℕ) → Mem i rows → low < i) → k < length rows → low + k < at rows k
rise_far [] low k o h lt = absurd (omega (arith, lt))
rise_far (x ∷ xs) low zero o h lt = omega (arith, h x (inl refl))
rise_far (x ∷ xs) low (suc k) o h lt = let more = rise_far xs x k o.1 o.0 (omega (arith, lt)) in omega (arith, more, h x (inl refl))

module _ (log : Log) (m : Fitted) (v : IsValid log) where
  pub causal : Causal (net_on log m)
  causal = causal_net log (machine_of m) v (fitted_is_timely m)

  module _ (rows : List ℕ) (r : AreRowsOn (net_on log m) rows) where
    pub row_there : (i : ℕ) → Mem i rows → (1 ≤ i) × (i ≤ length log.rows)
    row_there i k = ((r.those.all i).1 k).0

    pub row_at_there : (k d : ℕ) → k < length rows → (1 ≤ get_or rows k d) × (get_or rows k d ≤ length log.rows)
    row_at_there k d lt = row_there (get_or rows k d) (place_mem rows k d lt)

    -- a line has no more rows than its log.
    pub line_few : length rows ≤ 262144
    line_few = go (length rows) refl
      where
        go : (n : ℕ) → length rows ≡ n → n ≤ 262144
        go zero e = omega arith
        go (suc n) e =
            let lt : n < length rows = omega (arith, e) in
            let far = rise_far rows 0 n r.those.rises (λ i k. let t = row_there i k in omega (arith, t.0)) lt in
            omega (arith, far, (row_at_there n 0 lt).1, rows_few log v)

    pub after_on : (i x : ℕ) → Mem i rows → Mem x (row_of log i).after → Mem x rows
    after_on i x k a =
        let on = (r.those.all i).1 k in
        let known = causal.after i x on.0 a in
        (r.those.all x).0 (known.0, known.1 ∙ on.1)

    pub number_small : (i : ℕ) → Mem i rows → number_on rows i ≤ 262144
    number_small i k = let f = place_found ◌==◌ row_tests rows i k in omega (arith, f.0, line_few)

    duration_range : (i : ℕ) → Mem i rows → (1 ≤ (net_on log m).duration i) × ((net_on log m).duration i < 2 ^ 48)
    duration_range i k =
        let t = row_there i k in
        let cost = (row_fits log i v t.0 t.1).ranges.cost in
        (fitted_is_timely m).duration (row_of log i).cost cost.least_is cost.most_is

    abbrev IsCause : ℕ → Cause → Type 0
    IsCause k c = (1 ≤ c.row) × (c.row < suc (length rows)) × (1 ≤ c.delay) × (c.delay ≤ 2 ^ 64) × ((net_on log m).depth (row_on rows c.row) < (net_on log m).depth (row_on rows k))

    cause_fits : (k : ℕ) (c : Cause) → k < length rows → Mem c (local_causes (net_on log m) rows (at rows k)) → IsCause (suc k) c
    cause_fits k c lt is =
        let d = map_mem (local_cause (net_on log m) rows) c ((net_on log m).after (at rows k)) is in
        let row : Mem (at rows k) rows = place_mem rows k 0 lt in
        let here = after_on (at rows k) d.0 row d.1 in
        let found = place_found ◌==◌ row_tests rows d.0 here in
        let range = duration_range d.0 here in
        let known = causal.after (at rows k) d.0 ((r.those.all (at rows k)).1 row).0 d.1 in
        let same : row_on rows (number_on rows d.0) ≡ d.0 = numbered rows d.0 here in
        rw d.2 (omega arith, omega (arith, found.0), range.0, omega (arith, range.1), subst (λ x. (net_on log m).depth x < (net_on log m).depth (at rows k)) (sym same) known.2)

    times_short : (k : ℕ) → at (map (net_on log m).duration rows) k ≤ 2 ^ 64
    times_short k = go (cases_lt k (length rows))
      where
        go : (k < length rows) ⊎ (length rows ≤ k) → at (map (net_on log m).duration rows) k ≤ 2 ^ 64
        go (inl lt) = omega (arith, get_or-map (net_on log m).duration rows k 0 0 lt, (duration_range (at rows k) (place_mem rows k 0 lt)).1)
        go (inr le) = let z = get_or-eq_default (map (net_on log m).duration rows) 0 (let l : length (map (net_on log m).duration rows) ≤ k = omega (arith, le, length-map rows (net_on log m).duration) in l) in omega (arith, z)

    pub are_rows : AreRows 1 (0 ∷ map (λ i. 0) rows) (0 ∷ map (net_on log m).duration rows) ([] ∷ map (local_causes (net_on log m) rows) rows)
    are_rows = record {
      depth = λ k. (net_on log m).depth (row_on rows k);
      some = omega arith;
      few = omega (arith, long, line_few);
      as_many_homes = ap suc (length-map rows (λ (i : ℕ). 0) ∙ sym long);
      as_many_causes = ap suc (length-map rows (local_causes (net_on log m) rows) ∙ sym long);
      home = home;
      short = short;
      cause = cause;
    }
      where
        long : length (map (net_on log m).duration rows) ≡ length rows
        long = length-map rows (net_on log m).duration

        home : (k : ℕ) → 1 ≤ k → k < suc (length (map (net_on log m).duration rows)) → at (0 ∷ map (λ i. 0) rows) k < 1
        home zero some lt = absurd (omega (arith, some))
        home (suc k) some lt = omega (arith, get_or-map {Y = ℕ} (λ (i : ℕ). 0) rows k 0 0 (omega (arith, lt, long)))

        short : (k : ℕ) → at (0 ∷ map (net_on log m).duration rows) k ≤ 2 ^ 64
        short zero = omega arith
        short (suc k) = times_short k

        cause : (k : ℕ) (c : Cause) → k < suc (length (map (net_on log m).duration rows)) → Mem c (get_or ([] ∷ map (local_causes (net_on log m) rows) rows) k []) → (1 ≤ c.row) × (c.row < suc (length (map (net_on log m).duration rows))) × (1 ≤ c.delay) × (c.delay ≤ 2 ^ 64) × ((net_on log m).depth (row_on rows c.row) < (net_on log m).depth (row_on rows k))
        cause zero c lt is = absurd is
        cause (suc k) c lt is =
            let within : k < length rows = omega (arith, lt, long) in
            let f = cause_fits k c within (subst (λ cs. Mem c cs) (get_or-map (local_causes (net_on log m) rows) rows k 0 [] within) is) in
            (f.0, omega (arith, f.1, long), f.2, f.3, f.4)

  -- the messages of a row that come to it are among those that come to its line.
  pub mail_on : (rows : List ℕ) (mails : List MailRef) (i : ℕ) (k : MailRef) → AreComing (net_on log m) rows mails → Mem i rows → Mem k (row_of log i).mail → Mem k mails
  mail_on rows mails i k h is mem =
      let on = (h.those.all i).1 is in
      let known = causal.mail i k on.0 mem in
      (h.comes.all k).0 ((i, on.0, mem), known.2 ∙ on.1)

  pub listed_sent : (k : MailRef) → IsListed (net_on log m) k → IsSend log k
  listed_sent k is = mail_sent log is.0 k v is.1.0 is.1.1 is.2

  -- what a line sends is a send of one of its rows.
  pub going_on : (rows : List ℕ) (mails : List MailRef) (k : MailRef) → AreGoing (net_on log m) rows mails → Mem k mails → IsSend log k × Mem k.row rows
  going_on rows mails k h is =
      let from = (h.goes.all k).1 is in
      let known = causal.mail from.0.0 k from.0.1 from.0.2 in
      (listed_sent k from.0, (h.those.all k.row).0 (known.0, from.1))

-- ---- estimates

pub ticks_early : (es : List Estimate) → ((e : Estimate) → Mem e es → e.tick.0 < 2 ^ 110) → (i : ℕ) → at (ticks_of es) i < 2 ^ 110
ticks_early [] h i = omega arith
ticks_early (e ∷ es) h zero = h e (inl refl)
ticks_early (e ∷ es) h (suc i) = ticks_early es (λ x m. h x (inr m)) i

pub outs_mails : (net : Net) (rows : List ℕ) (ms : List MailRef) → map (λ (o : Out). o.mail) (map (out_of net rows) ms) ≡ ms
outs_mails net rows [] = refl
outs_mails net rows (m ∷ ms) = ap (λ xs. m ∷ xs) (outs_mails net rows ms)

pub as_many : (es : List Estimate) → length (ticks_of es) ≡ length (mails_of es)
as_many es = length-map es (λ (e : Estimate). e.tick.0) ∙ sym (length-map es (λ (e : Estimate). e.mail))

pub zeros_more : (rows homes new whole : List ℕ) (k : ℕ) → k < length rows → homes ++ map (λ i. 0) (drop k rows) ≡ whole → new ≡ homes ++ 0 ∷ [] → new ++ map (λ i. 0) (drop (k + 1) rows) ≡ whole
zeros_more rows homes new whole k lt h e =
    ap (λ xs. xs ++ map (λ (i : ℕ). 0) (drop (k + 1) rows)) e
    ∙ append_assoc homes (0 ∷ []) (map (λ (i : ℕ). 0) (drop (k + 1) rows))
    ∙ ap (λ xs. homes ++ map (λ (i : ℕ). 0) xs) (sym (drop_more rows k 0 lt))
    ∙ h
