-- The course of a schedule: what has started, and what stands in the queue.
use Rattle.std.proofs.Common.{subst, ◌≡◌, ℕ, zero, suc, ◌+◌, ◌-◌, ◌*◌, ◌^◌, ◌<◌, ◌≤◌, max, Bool, true, false, IsTrue, List, [], ◌∷◌, ◌⊎◌, ◌↔◌, inl, inr, length, map, set, replicate, get_or, refl, sym, ap, ◌∙◌, arith}
use Rattle.std.proofs.lemmas.Bool.{cases_eq, both_ways}
use Rattle.std.proofs.Math.ListN.{get_or-eq_default}
use Rattle.std.proofs.lemmas.List.{get_or-set_same, get_or-set_other, length-set, length-replicate, get_or-replicate}
use Rattle.std.specs.declared.cmp.Ordering.TheVariants.{Less}
use Rattle.bs_schedule.specs.declared.plan.Cause.{Cause}
use Rattle.bs_schedule.specs.declared.plan.Plan.{Plan}
use Rattle.bs_log.specs.Lists.{Mem}
use Rattle.bs_times.specs.Net.{Net, Starts, HasRow}
use Rattle.bs_times.specs.Times.{end_of, greatest}
use Rattle.bs_schedule.specs.Plan.{at, causes_of, dependants_of, due_of, comes_at, CausesFit, IsPlan, IsSchedule}
use Rattle.bs_schedule.specs.Queue.{NextFit, CanStart, Queues, key_cmp}
use Rattle.bs_times.proofs.Members.{cases_le, mem_map, map_mem, mem_or_not}
use Rattle.bs_times.proofs.Ready.{among, at_most}
use Rattle.bs_times.proofs.Moved.{runs_same, map_same}
use Rattle.bs_times.proofs.Build.{Part, Extended, extend, no_part, split, Enabled, last_end, last_end_same, last_end_push, Least-Comes, rest, rest_most, rest_less, none_left, Waiting}
use Rattle.bs_times.proofs.Build as build
use Rattle.bs_schedule.proofs.Keys.{key_less}
use Rattle.bs_schedule.proofs.Places.{mem_place, place_mem}

-- ---- the plan as rows with causes

abbrev pub plan_net : Plan → (ℕ → ℕ) → Net
plan_net plan depth = record { rows = length plan.times - 1; home = at plan.homes; duration = at plan.times; depth = depth; after = λ i. []; mail = λ i. []; goes_to = λ m. 0; travel = λ m. 0 }

abbrev pub rows_of : Plan → ℕ → List ℕ
rows_of plan i = map (λ c. c.row) (causes_of plan i)

row_below : (plan : Plan) (ok : IsPlan plan) (i : ℕ) → HasRow (plan_net plan ok.rows.depth) i → i < length plan.times
row_below plan ok i has = omega (arith, has.1, ok.rows.some)

below_row : (plan : Plan) (ok : IsPlan plan) (i : ℕ) → 1 ≤ i → i < length plan.times → HasRow (plan_net plan ok.rows.depth) i
below_row plan ok i h k = (h, omega (arith, k))

pub plan_of : (plan : Plan) (base : List ℕ) (ok : IsPlan plan) → build.Plan (plan_net plan ok.rows.depth) (due_of plan base) (rows_of plan)
plan_of plan base ok = record {
  local = λ s z i has h. ap (λ xs. max (at base i) (greatest xs)) (map_same (comes_at s) (comes_at z) (causes_of plan i) (λ c m. ap (λ y. y + c.delay) (h c.row (mem_map (λ y. y.row) c (causes_of plan i) m))));
  later = λ s i x has m. let d = map_mem (λ y. y.row) x (causes_of plan i) m in
      let known = ok.rows.cause i d.0 (row_below plan ok i has) d.1 in
      rw d.2 (omega (arith, among (comes_at s) d.0 (causes_of plan i) d.1, known.2));
  shallow = λ i x has m. let d = map_mem (λ y. y.row) x (causes_of plan i) m in
      let known = ok.rows.cause i d.0 (row_below plan ok i has) d.1 in
      rw d.2 (below_row plan ok d.0.row known.0 known.1, known.4);
}

-- ---- the invariant

abbrev pub Bound : ℕ → ℕ → ℕ
Bound most turn = most + turn * 2 ^ 65

pub record Course (plan : Plan) (base : List ℕ) (ok : IsPlan plan) (most : ℕ) (starts : List ℕ) (begun : List Bool) (free next : List ℕ) (queue : List (ℕ × ℕ)) (left : ℕ → Type 0) (turn : ℕ) : Type 0 where
  pub early : (i : ℕ) → at base i ≤ most
  pub part : Part (plan_net plan ok.rows.depth) (due_of plan base) (rows_of plan)
  pub begun_is : (i : ℕ) → i < length plan.times → IsTrue (get_or begun i false) ↔ Mem i part.done
  pub starts_is : (i : ℕ) → Mem i part.done → at starts i ≡ part.s i
  pub free_is : (p : ℕ) → p < plan.processors → at free p ≡ last_end (end_of (plan_net plan ok.rows.depth) part.s) 0 (part.line p)
  pub queued : (d : ℕ × ℕ) → Mem d queue → HasRow (plan_net plan ok.rows.depth) d.1 × (Mem d.1 part.done → ⊥) × Enabled (rows_of plan) part.done d.1 × (d.0 ≡ due_of plan base part.s d.1)
  pub waits : (k : ℕ) → HasRow (plan_net plan ok.rows.depth) k → (Mem k part.done → ⊥) → Enabled (rows_of plan) part.done k → Mem (due_of plan base part.s k, k) queue ⊎ left k
  pub not_yet : (k : ℕ) → left k → Mem k part.done → ⊥
  pub next_fit : NextFit plan begun next
  pub starts_length : length starts ≡ length plan.times
  pub begun_length : length begun ≡ length plan.times
  pub next_length : length next ≡ length plan.times
  pub free_length : length free ≡ plan.processors
  pub starts_bound : (i : ℕ) → at starts i ≤ Bound most turn
  pub free_bound : (p : ℕ) → at free p ≤ Bound most turn
  pub turns : rest part.done (length plan.times - 1) + turn ≤ length plan.times - 1

-- ---- causes that have begun

can_enabled : (plan : Plan) (ok : IsPlan plan) (begun : List Bool) (done : List ℕ) → ((i : ℕ) → i < length plan.times → IsTrue (get_or begun i false) ↔ Mem i done) → (k : ℕ) → k < length plan.times → CanStart plan begun k → Enabled (rows_of plan) done k
can_enabled plan ok begun done is k has can x m =
    let c = map_mem (λ y. y.row) x (causes_of plan k) m in
    let p = mem_place c.0 (causes_of plan k) c.1 in
    let known = ok.rows.cause k c.0 has c.1 in
    let e : get_or (causes_of plan k) p.0 c.0 ≡ c.0 = p.2 c.0 in
    rw c.2 ((is c.0.row known.1).0 (rw e at (can p.0 c.0 (omega arith) p.1)))

enabled_can : (plan : Plan) (ok : IsPlan plan) (begun : List Bool) (done : List ℕ) → ((i : ℕ) → i < length plan.times → IsTrue (get_or begun i false) ↔ Mem i done) → (k : ℕ) → k < length plan.times → Enabled (rows_of plan) done k → CanStart plan begun k
enabled_can plan ok begun done is k has on i d low high =
    let c : Cause = get_or (causes_of plan k) i d in
    let m : Mem c (causes_of plan k) = place_mem (causes_of plan k) i d high in
    let known = ok.rows.cause k c has m in
    (is c.row known.1).1 (on c.row (mem_map (λ y. y.row) c (causes_of plan k) m))

-- ---- a row starts

due_bound : (plan : Plan) (base : List ℕ) (ok : IsPlan plan) (s : Starts) (i n : ℕ) → i < length plan.times → at base i ≤ n → ((x : ℕ) → Mem x (rows_of plan i) → s x ≤ n) → due_of plan base s i ≤ n + 2 ^ 64
due_bound plan base ok s i n has big h = omega (arith, big, at_most (comes_at s) (causes_of plan i) (n + 2 ^ 64) (λ c m. omega (arith, h c.row (mem_map (λ y. y.row) c (causes_of plan i) m), (ok.rows.cause i c has m).3)))

pub started : (plan : Plan) (base : List ℕ) (ok : IsPlan plan) (most : ℕ) (starts : List ℕ) (begun : List Bool) (free next : List ℕ) (queue : List (ℕ × ℕ)) (turn due row : ℕ) → Course plan base ok most starts begun free next ((due, row) ∷ queue) (λ k. ⊥) turn → ((d : ℕ × ℕ) → Mem d queue → key_cmp (due, row) d ≡ Less) → Course plan base ok most (set starts row (max due (at free (at plan.homes row)))) (set begun row true) (set free (at plan.homes row) (max due (at free (at plan.homes row)) + at plan.times row)) next queue (λ k. Mem k (dependants_of plan row)) (turn + 1)
started plan base ok most starts begun free next queue turn due row c above = record {
  early = c.early;
  part = b;
  begun_is = λ i h. begun_is i h (cases_eq i row);
  starts_is = λ i m. starts_is i (rw e.done at m);
  free_is = λ p h. free_is p h (cases_eq home p);
  queued = queued;
  waits = λ k h n on. waits k h (λ m. n (rw e.done m)) (λ x m. rw e.done at (on x m));
  not_yet = λ k m d. not_yet k m (rw e.done at d);
  next_fit = λ k h. let old = c.next_fit k h in (old.0, λ j d low high. still (get_or (causes_of plan k) j d).row (old.1 j d low high) (cases_eq (get_or (causes_of plan k) j d).row row));
  starts_length = length-set starts row _ ∙ c.starts_length;
  begun_length = length-set begun row _ ∙ c.begun_length;
  next_length = c.next_length;
  free_length = length-set free home _ ∙ c.free_length;
  starts_bound = λ i. starts_bound i (cases_eq i row);
  free_bound = λ p. free_bound p (cases_eq home p);
  turns = rw e.done (omega (arith, rest_less row c.part.done (length plan.times - 1) has.0 has.1 new, c.turns));
}
  where
    net : Net
    net = plan_net plan ok.rows.depth

    home : ℕ
    home = at plan.homes row

    v : ℕ
    v = max due (at free home)

    first : HasRow (plan_net plan ok.rows.depth) row × (Mem row c.part.done → ⊥) × Enabled (rows_of plan) c.part.done row × (due ≡ due_of plan base c.part.s row)
    first = c.queued (due, row) (inl refl)

    has : HasRow (plan_net plan ok.rows.depth) row
    has = first.0

    new : Mem row c.part.done → ⊥
    new = first.1

    row_in : row < length plan.times
    row_in = row_below plan ok row has

    least : (k : ℕ) → HasRow (plan_net plan ok.rows.depth) k → (Mem k c.part.done → ⊥) → Enabled (rows_of plan) c.part.done k → Least-Comes (due_of plan base c.part.s) row k
    least k h n on = go (c.waits k h n on)
      where
        by_less : (due < due_of plan base c.part.s k) ⊎ ((due ≡ due_of plan base c.part.s k) × (row < k)) → Least-Comes (due_of plan base c.part.s) row k
        by_less (inl l) = inr (inl (omega (arith, l, first.3)))
        by_less (inr l) = inr (inr (sym first.3 ∙ l.0, l.1))

        go : Mem (due_of plan base c.part.s k, k) ((due, row) ∷ queue) ⊎ ⊥ → Least-Comes (due_of plan base c.part.s) row k
        go (inl (inl e)) = inl (ap (λ d. d.1) (sym e))
        go (inl (inr m)) = by_less (key_less (due, row) (due_of plan base c.part.s k, k) (above _ m))
        go (inr f) = absurd f

    e : Extended (plan_net plan ok.rows.depth) (due_of plan base) (rows_of plan) c.part row
    e = extend (plan_net plan ok.rows.depth) (due_of plan base) (rows_of plan) (plan_of plan base ok) c.part row has new first.2 least

    b : Part (plan_net plan ok.rows.depth) (due_of plan base) (rows_of plan)
    b = e.more

    home_in : home < plan.processors
    home_in = ok.rows.home row has.0 row_in

    v_is : v ≡ b.s row
    v_is = ap (λ x. max x (at free home)) first.3 ∙ ap (λ x. max (due_of plan base c.part.s row) x) (c.free_is home home_in) ∙ sym e.s_new

    begun_is : (i : ℕ) → i < length plan.times → (i ≡ row) ⊎ (i ≡ row → ⊥) → IsTrue (get_or (set begun row true) i false) ↔ Mem i e.more.done
    begun_is i h (inl same) = (λ t. rw e.done (inl same), λ m. rw same (get_or-set_same begun row true false (omega (arith, row_in, c.begun_length))))
    begun_is i h (inr other) = (λ t. rw e.done (inr ((c.begun_is i h).0 (rw (get_or-set_other begun row i true false other) at t))), λ m. rw (get_or-set_other begun row i true false other) ((c.begun_is i h).1 (old (rw e.done at m))))
      where
        old : Mem i (row ∷ c.part.done) → Mem i c.part.done
        old (inl q) = absurd (other q)
        old (inr m) = m

    starts_is : (i : ℕ) → Mem i (row ∷ c.part.done) → at (set starts row v) i ≡ b.s i
    starts_is i (inl same) = rw same (get_or-set_same starts row v 0 (omega (arith, row_in, c.starts_length)) ∙ v_is)
    starts_is i (inr m) = get_or-set_other starts row i v 0 (λ q. new (subst (λ y. Mem y c.part.done) q m)) ∙ c.starts_is i m ∙ e.s_old i m

    free_is : (p : ℕ) → p < plan.processors → (home ≡ p) ⊎ (home ≡ p → ⊥) → at (set free home (v + at plan.times row)) p ≡ last_end (end_of (plan_net plan ok.rows.depth) b.s) 0 (b.line p)
    free_is p h (inl same) = rw (e.line_new p same, ← same) (get_or-set_same free home (v + at plan.times row) 0 (omega (arith, home_in, c.free_length)) ∙ ap (λ x. x + at plan.times row) v_is ∙ sym (last_end_push (end_of (plan_net plan ok.rows.depth) b.s) 0 row (c.part.line home)))
    free_is p h (inr other) = rw (e.line_old p other) (get_or-set_other free home p (v + at plan.times row) 0 (λ q. other (sym q)) ∙ c.free_is p h ∙ last_end_same (end_of (plan_net plan ok.rows.depth) c.part.s) (end_of (plan_net plan ok.rows.depth) b.s) 0 (c.part.line p) (λ j m. ap (λ x. x + at plan.times j) (e.s_old j ((c.part.member p j).0 m).0)))

    due_same : (k : ℕ) → HasRow (plan_net plan ok.rows.depth) k → Enabled (rows_of plan) c.part.done k → due_of plan base c.part.s k ≡ due_of plan base b.s k
    due_same k h on = build.Plan.local (plan_of plan base ok) c.part.s b.s k h (λ x m. e.s_old x (on x m))

    queued : (d : ℕ × ℕ) → Mem d queue → HasRow (plan_net plan ok.rows.depth) d.1 × (Mem d.1 b.done → ⊥) × Enabled (rows_of plan) b.done d.1 × (d.0 ≡ due_of plan base b.s d.1)
    queued d m = (old.0, λ k. out (rw e.done at k), λ x k. rw e.done (inr (old.2 x k)), old.3 ∙ due_same d.1 old.0 old.2)
      where
        old : HasRow (plan_net plan ok.rows.depth) d.1 × (Mem d.1 c.part.done → ⊥) × Enabled (rows_of plan) c.part.done d.1 × (d.0 ≡ due_of plan base c.part.s d.1)
        old = c.queued d (inr m)

        apart : d.1 ≡ row → (due < d.0) ⊎ ((due ≡ d.0) × (row < d.1)) → ⊥
        apart q (inl l) = let one : due_of plan base c.part.s d.1 ≡ due_of plan base c.part.s row = ap (due_of plan base c.part.s) q in omega (arith, l, old.3, first.3, one)
        apart q (inr l) = omega (arith, l.1, q)

        out : Mem d.1 (row ∷ c.part.done) → ⊥
        out (inl q) = apart q (key_less (due, row) d (above d m))
        out (inr k) = old.1 k

    waits : (k : ℕ) → HasRow (plan_net plan ok.rows.depth) k → (Mem k (row ∷ c.part.done) → ⊥) → Enabled (rows_of plan) (row ∷ c.part.done) k → Mem (due_of plan base b.s k, k) queue ⊎ Mem k (dependants_of plan row)
    waits k h n on = by_split (split row (rows_of plan k) c.part.done on)
      where
        in_queue : Enabled (rows_of plan) c.part.done k → Mem (due_of plan base c.part.s k, k) ((due, row) ∷ queue) ⊎ ⊥ → Mem (due_of plan base b.s k, k) queue
        in_queue old (inl (inl q)) = absurd (n (inl (ap (λ d. d.1) q)))
        in_queue old (inl (inr m)) = subst (λ x. Mem (x, k) queue) (due_same k h old) m
        in_queue old (inr f) = absurd f

        by_split : Enabled (rows_of plan) c.part.done k ⊎ Mem row (rows_of plan k) → Mem (due_of plan base b.s k, k) queue ⊎ Mem k (dependants_of plan row)
        by_split (inl old) = inl (in_queue old (c.waits k h (λ m. n (inr m)) old))
        by_split (inr m) = inr (ok.whole row k h.0 (row_below plan ok k h) m)

    not_yet : (k : ℕ) → Mem k (dependants_of plan row) → Mem k (row ∷ c.part.done) → ⊥
    not_yet k m (inl same) = let s = ok.sound row k m in
        let deeper = build.Plan.shallow (plan_of plan base ok) k row (below_row plan ok k s.0 s.1) s.2 in
        let even : ok.rows.depth k ≡ ok.rows.depth row = ap ok.rows.depth same in
        omega (arith, deeper.1, even)
    not_yet k m (inr d) = new (c.part.closed k d row (ok.sound row k m).2)

    still : (x : ℕ) → IsTrue (get_or begun x false) → (x ≡ row) ⊎ (x ≡ row → ⊥) → IsTrue (get_or (set begun row true) x false)
    still x t (inl same) = rw same (get_or-set_same begun row true false (omega (arith, row_in, c.begun_length)))
    still x t (inr other) = rw (get_or-set_other begun row x true false other) t

    due_small : due ≤ Bound most turn + 2 ^ 64
    due_small = rw first.3 (due_bound plan base ok c.part.s row (Bound most turn) row_in (omega (arith, c.early row)) (λ x m. rw (← c.starts_is x (first.2 x m)) (c.starts_bound x)))

    starts_bound : (i : ℕ) → (i ≡ row) ⊎ (i ≡ row → ⊥) → at (set starts row v) i ≤ Bound most (turn + 1)
    starts_bound i (inl same) = rw same (let q = get_or-set_same starts row v 0 (omega (arith, row_in, c.starts_length)) in omega (arith, q, due_small, c.free_bound home))
    starts_bound i (inr other) = let q = get_or-set_other starts row i v 0 other in omega (arith, q, c.starts_bound i)

    free_bound : (p : ℕ) → (home ≡ p) ⊎ (home ≡ p → ⊥) → at (set free home (v + at plan.times row)) p ≤ Bound most (turn + 1)
    free_bound p (inl same) = rw (← same) (let q = get_or-set_same free home (v + at plan.times row) 0 (omega (arith, home_in, c.free_length)) in omega (arith, q, due_small, c.free_bound home, ok.rows.short row))
    free_bound p (inr other) = let q = get_or-set_other free home p (v + at plan.times row) 0 (λ q. other (sym q)) in omega (arith, q, c.free_bound p)

-- ---- rows are considered

pub considered : (plan : Plan) (base : List ℕ) (ok : IsPlan plan) (most : ℕ) (starts : List ℕ) (begun : List Bool) (free next next' : List ℕ) (queue queue' : List (ℕ × ℕ)) (left left' : ℕ → Type 0) (ks : List ℕ) (turn : ℕ) → Course plan base ok most starts begun free next queue left turn → ((k : ℕ) → Mem k ks → HasRow (plan_net plan ok.rows.depth) k × left k) → ((k : ℕ) → left' k → left k) → ((k : ℕ) → HasRow (plan_net plan ok.rows.depth) k → left k → Mem k ks ⊎ left' k) → Queues plan base starts begun ks queue queue' → NextFit plan begun next' → length next' ≡ length plan.times → Course plan base ok most starts begun free next' queue' left' turn
considered plan base ok most starts begun free next next' queue queue' left left' ks turn c rows fewer lefts q fit long = record {
  early = c.early;
  part = c.part;
  not_yet = λ k l. c.not_yet k (fewer k l);
  begun_is = c.begun_is;
  starts_is = c.starts_is;
  free_is = c.free_is;
  queued = λ d m. queued d (q.added d m);
  waits = λ k h n on. waits k h on (c.waits k h n on);
  next_fit = fit;
  starts_length = c.starts_length;
  begun_length = c.begun_length;
  next_length = long;
  free_length = c.free_length;
  starts_bound = c.starts_bound;
  free_bound = c.free_bound;
  turns = c.turns;
}
  where
    due_same : (k : ℕ) → Enabled (rows_of plan) c.part.done k → due_of plan base (at starts) k ≡ due_of plan base c.part.s k
    due_same k on = ap (λ xs. max (at base k) (greatest xs)) (map_same (comes_at (at starts)) (comes_at c.part.s) (causes_of plan k) (λ x m. ap (λ y. y + x.delay) (c.starts_is x.row (on x.row (mem_map (λ y. y.row) x (causes_of plan k) m)))))

    queued : (d : ℕ × ℕ) → Mem d queue ⊎ (Mem d.1 ks × CanStart plan begun d.1 × (d.0 ≡ due_of plan base (at starts) d.1)) → HasRow (plan_net plan ok.rows.depth) d.1 × (Mem d.1 c.part.done → ⊥) × Enabled (rows_of plan) c.part.done d.1 × (d.0 ≡ due_of plan base c.part.s d.1)
    queued d (inl m) = c.queued d m
    queued d (inr m) =
        let has = (rows d.1 m.0).0 in
        let on : Enabled (rows_of plan) c.part.done d.1 = can_enabled plan ok begun c.part.done c.begun_is d.1 (row_below plan ok d.1 has) m.1 in
        (has, c.not_yet d.1 (rows d.1 m.0).1, on, m.2 ∙ due_same d.1 on)

    waits : (k : ℕ) → HasRow (plan_net plan ok.rows.depth) k → Enabled (rows_of plan) c.part.done k → Mem (due_of plan base c.part.s k, k) queue ⊎ left k → Mem (due_of plan base c.part.s k, k) queue' ⊎ left' k
    waits k h on (inl m) = inl (q.kept _ m)
    waits k h on (inr l) = by_left (lefts k h l)
      where
        by_left : Mem k ks ⊎ left' k → Mem (due_of plan base c.part.s k, k) queue' ⊎ left' k
        by_left (inl m) = inl (subst (λ x. Mem (x, k) queue') (due_same k on) (q.all k m (enabled_can plan ok begun c.part.done c.begun_is k (row_below plan ok k h) on)))
        by_left (inr l') = inr l'

pub released : (plan : Plan) (base : List ℕ) (ok : IsPlan plan) (most : ℕ) (starts : List ℕ) (begun : List Bool) (free next next' : List ℕ) (queue queue' : List (ℕ × ℕ)) (turn row : ℕ) → row < length plan.times → Course plan base ok most starts begun free next queue (λ k. Mem k (dependants_of plan row)) turn → Queues plan base starts begun (dependants_of plan row) queue queue' → NextFit plan begun next' → length next' ≡ length plan.times → Course plan base ok most starts begun free next' queue' (λ k. ⊥) turn
released plan base ok most starts begun free next next' queue queue' turn row has c q fit long =
    considered plan base ok most starts begun free next next' queue queue' (λ k. Mem k (dependants_of plan row)) (λ k. ⊥) (dependants_of plan row) turn c
    (λ k m. let s = ok.sound row k m in (below_row plan ok k s.0 s.1, m)) (λ k f. absurd f)
    (λ k h m. inl m) q fit long

-- ---- the first course, and the last

all_same : {A : Type 0} (n i : ℕ) (a : A) → get_or (replicate n a) i a ≡ a
all_same n i a = go (cases_le n i)
  where
    go : (n ≤ i) ⊎ (i < n) → get_or (replicate n a) i a ≡ a
    go (inl le) = get_or-eq_default (replicate n a) a (let l = length-replicate n a in rw l le)
    go (inr lt) = get_or-replicate n i a a lt

pub first_course : (plan : Plan) (base : List ℕ) (ok : IsPlan plan) (most : ℕ) → ((i : ℕ) → at base i ≤ most) → Course plan base ok most (replicate (length plan.times) 0) (replicate (length plan.times) false) (replicate plan.processors 0) (replicate (length plan.times) 0) [] (λ k. 1 ≤ k) 0
first_course plan base ok most early = record {
  early = early;
  part = no_part (plan_net plan ok.rows.depth) (due_of plan base) (rows_of plan);
  begun_is = λ i h. (λ t. absurd (both_ways _ (all_same (length plan.times) i false) t), λ m. absurd m);
  starts_is = λ i m. absurd m;
  free_is = λ p h. all_same {A = ℕ} plan.processors p 0;
  queued = λ d m. absurd m;
  waits = λ k h n on. inr h.0;
  not_yet = λ k l m. m;
  next_fit = λ k h. (let z = all_same {A = ℕ} (length plan.times) k 0 in omega (arith, z), λ j d low high. absurd (let z = all_same {A = ℕ} (length plan.times) k 0 in omega (arith, z, high)));
  starts_length = length-replicate _ _;
  begun_length = length-replicate _ _;
  next_length = length-replicate _ _;
  free_length = length-replicate _ _;
  starts_bound = λ i. (let z = all_same {A = ℕ} (length plan.times) i 0 in omega (arith, z));
  free_bound = λ p. (let z = all_same {A = ℕ} plan.processors p 0 in omega (arith, z));
  turns = omega (arith, rest_most [] (length plan.times - 1));
}

pub last_course : (plan : Plan) (base : List ℕ) (ok : IsPlan plan) (most : ℕ) (starts : List ℕ) (begun : List Bool) (free next : List ℕ) (queue : List (ℕ × ℕ)) (turn : ℕ) → Course plan base ok most starts begun free next queue (λ k. ⊥) turn → (queue ≡ []) ⊎ (length plan.times - 1 ≤ turn) → IsSchedule plan base (at starts)
last_course plan base ok most starts begun free next queue turn c ended = schedule (all ended)
  where
    net : Net
    net = plan_net plan ok.rows.depth

    rows : ℕ
    rows = length plan.times - 1

    there : (i : ℕ) → HasRow (plan_net plan ok.rows.depth) i → length plan.times - 1 ≤ turn → Mem i c.part.done ⊎ (Mem i c.part.done → ⊥) → Mem i c.part.done
    there i h t (inl m) = m
    there i h t (inr n) = absurd (let l = rest_less i c.part.done (length plan.times - 1) h.0 h.1 n in omega (arith, l, c.turns, t))

    nobody : queue ≡ [] → (i : ℕ) → 1 ≤ i → i ≤ length plan.times - 1 → Waiting (rows_of plan) c.part.done i → ⊥
    nobody e i l h w = out (c.waits i (l, h) w.0 w.1)
      where
        out : Mem (due_of plan base c.part.s i, i) queue ⊎ ⊥ → ⊥
        out (inl m) = subst (λ q. Mem (due_of plan base c.part.s i, i) q) e m
        out (inr f) = f

    all : (queue ≡ []) ⊎ (length plan.times - 1 ≤ turn) → (i : ℕ) → HasRow (plan_net plan ok.rows.depth) i → Mem i c.part.done
    all (inl e) i h = none_left (plan_net plan ok.rows.depth) (due_of plan base) (rows_of plan) (plan_of plan base ok) c.part.done (nobody e) i h
    all (inr t) i h = there i h t (mem_or_not i c.part.done)

    schedule : ((i : ℕ) → HasRow (plan_net plan ok.rows.depth) i → Mem i c.part.done) → IsSchedule plan base (at starts)
    schedule done = record {
      order = c.part.line;
      all = λ p i. (λ on. (c.part.member p i).1 (done i (below_row plan ok i on.0.0 on.0.1), on.1), λ m. let d = (c.part.member p i).0 m in let r = c.part.row i d.0 in ((r.0, row_below plan ok i r), d.1));
      runs = λ p. runs_same (due_of plan base c.part.s) (due_of plan base (at starts)) (end_of (plan_net plan ok.rows.depth) c.part.s) (end_of (plan_net plan ok.rows.depth) (at starts)) c.part.s (at starts) 0 (c.part.line p)
          (λ j m. let d : Mem j c.part.done = ((c.part.member p j).0 m).0 in (
            build.Plan.local (plan_of plan base ok) c.part.s (at starts) j (c.part.row j d) (λ x k. sym (c.starts_is x (c.part.closed j d x k))),
            ap (λ x. x + at plan.times j) (sym (c.starts_is j d)),
            sym (c.starts_is j d),
          )) (c.part.runs p);
    }

-- ---- for the calls

pub causes_fit : (plan : Plan) (ok : IsPlan plan) (k n : ℕ) → k < length plan.times → n ≡ length plan.times → CausesFit (causes_of plan k) n
causes_fit plan ok k n has e i d h = omega (arith, (ok.rows.cause k (get_or (causes_of plan k) i d) has (place_mem (causes_of plan k) i d h)).1, e)

pub starts_small : {plan : Plan} {base : List ℕ} {ok : IsPlan plan} {most : ℕ} {starts : List ℕ} {begun : List Bool} {free next : List ℕ} {queue : List (ℕ × ℕ)} {left : ℕ → Type 0} {turn : ℕ} → most ≤ 2 ^ 110 → Course plan base ok most starts begun free next queue left turn → (i : ℕ) → at starts i ≤ 2 ^ 120
starts_small {plan} {base} {ok} {most} small c i = omega (arith, small, c.starts_bound i, c.turns, ok.rows.some, ok.rows.few)

pub free_small : {plan : Plan} {base : List ℕ} {ok : IsPlan plan} {most : ℕ} {starts : List ℕ} {begun : List Bool} {free next : List ℕ} {queue : List (ℕ × ℕ)} {left : ℕ → Type 0} {turn : ℕ} → most ≤ 2 ^ 110 → Course plan base ok most starts begun free next queue left turn → (p : ℕ) → at free p ≤ 2 ^ 120
free_small {plan} {base} {ok} {most} small c p = omega (arith, small, c.free_bound p, c.turns, ok.rows.some, ok.rows.few)

pub first_due : {plan : Plan} {base : List ℕ} {ok : IsPlan plan} {most : ℕ} {starts : List ℕ} {begun : List Bool} {free next : List ℕ} {queue q : List (ℕ × ℕ)} {left : ℕ → Type 0} {turn due row : ℕ} → most ≤ 2 ^ 110 → Course plan base ok most starts begun free next queue left turn → queue ≡ (due, row) ∷ q → (1 ≤ row) × (row < length plan.times) × (due ≤ 2 ^ 120)
first_due {plan} {base} {ok} {most} {starts} {begun} {free} {next} {queue} {q} {left} {turn} {due} {row} most_small c e =
    let known = c.queued (due, row) (rw e (inl refl)) in
    let has : row < length plan.times = row_below plan ok row known.0 in
    let small = due_bound plan base ok c.part.s row (Bound most turn) has (omega (arith, c.early row)) (λ x m. rw (← c.starts_is x (known.2 x m)) (c.starts_bound x)) in
    (known.0.0, has, omega (arith, most_small, known.3, small, c.turns, ok.rows.some, ok.rows.few))

pub after_start : {plan : Plan} {base : List ℕ} {ok : IsPlan plan} {most : ℕ} {starts starts' : List ℕ} {begun begun' : List Bool} {free free' next next' : List ℕ} {queue q q' : List (ℕ × ℕ)} {turn due row : ℕ} → Course plan base ok most starts begun free next queue (λ k. ⊥) turn → queue ≡ (due, row) ∷ q → ((i : ℕ) (d : ℕ × ℕ) → i < length q → key_cmp (due, row) (get_or q i d) ≡ Less) → starts' ≡ set starts row (max due (at free (at plan.homes row))) → begun' ≡ set begun row true → free' ≡ set free (at plan.homes row) (max due (at free (at plan.homes row)) + at plan.times row) → next' ≡ next → q' ≡ q → Course plan base ok most starts' begun' free' next' q' (λ k. Mem k (dependants_of plan row)) (turn + 1)
after_start {plan} {base} {ok} {most} {starts} {starts'} {begun} {begun'} {free} {free'} {next} {next'} {queue} {q} {q'} {turn} {due} {row} c e above a b f n k =
    rw (a, b, f, n, k) (started plan base ok most starts begun free next q turn due row (subst (λ x. Course plan base ok most starts begun free next x (λ k. ⊥) turn) e c) (λ d m. let p = mem_place d q m in subst (λ y. key_cmp (due, row) y ≡ Less) (p.2 d) (above p.0 d p.1)))

pub row_considered : {plan : Plan} {base : List ℕ} {ok : IsPlan plan} {most : ℕ} {starts : List ℕ} {begun : List Bool} {free next next' : List ℕ} {queue queue' : List (ℕ × ℕ)} {row : ℕ} → Course plan base ok most starts begun free next queue (λ k. row ≤ k) 0 → 1 ≤ row → row < length plan.times → Queues plan base starts begun (row ∷ []) queue queue' → NextFit plan begun next' → length next' ≡ length plan.times → Course plan base ok most starts begun free next' queue' (λ k. row + 1 ≤ k) 0
row_considered {plan} {base} {ok} {most} {starts} {begun} {free} {next} {next'} {queue} {queue'} {row} c low high q fit long =
    considered plan base ok most starts begun free next next' queue queue' (λ k. row ≤ k) (λ k. row + 1 ≤ k) (row ∷ []) 0 c (λ k m. one k m) (λ k l. omega arith) (λ k h l. which k l (cases_eq k row)) q fit long
  where
    one : (k : ℕ) → Mem k (row ∷ []) → HasRow (plan_net plan ok.rows.depth) k × (row ≤ k)
    one k (inl e) = rw e (below_row plan ok row low high, omega arith)
    one k (inr m) = absurd m

    which : (k : ℕ) → row ≤ k → (k ≡ row) ⊎ (k ≡ row → ⊥) → Mem k (row ∷ []) ⊎ (row + 1 ≤ k)
    which k l (inl e) = inl (inl e)
    which k l (inr n) = inr (omega (arith, l, n))

pub all_considered : {plan : Plan} {base : List ℕ} {ok : IsPlan plan} {most : ℕ} {starts : List ℕ} {begun : List Bool} {free next : List ℕ} {queue : List (ℕ × ℕ)} {row : ℕ} → Course plan base ok most starts begun free next queue (λ k. row ≤ k) 0 → length plan.times ≤ row → Course plan base ok most starts begun free next queue (λ k. ⊥) 0
all_considered {plan} {base} {ok} {most} {starts} {begun} {free} {next} {queue} {row} c end =
    considered plan base ok most starts begun free next next queue queue (λ k. row ≤ k) (λ k. ⊥) [] 0 c (λ k m. absurd m) (λ k f. absurd f) (λ k h l. absurd (omega (arith, row_below plan ok k h, l, end))) (record { kept = λ d m. m; added = λ d m. inl m; all = λ k m. absurd m }) c.next_fit c.next_length

pub empty : (xs : List (ℕ × ℕ)) → (0 < length xs → ⊥) → xs ≡ []
empty [] h = refl
empty (x ∷ xs) h = absurd (h (omega arith))

pub starts_early : {plan : Plan} {base : List ℕ} {ok : IsPlan plan} {most : ℕ} {starts : List ℕ} {begun : List Bool} {free next : List ℕ} {queue : List (ℕ × ℕ)} {left : ℕ → Type 0} {turn : ℕ} → Course plan base ok most starts begun free next queue left turn → (i : ℕ) → at starts i ≤ most + length plan.times * 2 ^ 65
starts_early {plan} {base} {ok} {most} c i = omega (arith, c.starts_bound i, c.turns, ok.rows.some)
