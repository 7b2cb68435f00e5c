-- The consistent table comes of starting rows one at a time.
use Rattle.std.proofs.Common.{◌≡◌, ◌≤◌, ◌<◌, ◌+◌, ◌⊎◌, inl, inr, ℕ, zero, suc, max, List, [], ◌∷◌, refl, sym, ap, subst, ◌∙◌, arith}
use Rattle.std.proofs.lemmas.Bool.{cases_eq, eq-eqb, ne_eqb, cond-true, cond-false}
use Rattle.bs_log.specs.Lists.{Mem}
use Rattle.bs_times.specs.Net.{Net, Starts, HasRow, Causal}
use Rattle.bs_times.specs.Times.{Comes, IsOn, IsConsistent, end_of, arrival, ready}
use Rattle.bs_times.specs.Serial.{free, IsEnabled, due, would_start, IsPick, IsRun}
use Rattle.bs_times.proofs.Members.{cases_le, mem_or_not}
use Rattle.bs_times.proofs.Order.{Packed, packed, comes_ready, one_way, apart}
use Rattle.bs_times.proofs.Exists.{causes, whole_plan}
use Rattle.bs_times.proofs.Build as build
use Rattle.bs_times.proofs.Build.{Least-Comes, Found, found, comes_total, least_chain, Waiting, waiting_or_not, Enabled, rest, rest_most, rest_less}
use Rattle.bs_times.proofs.Serial as serial

-- a row of a list that isn't in the other.
missing : (xs done : List ℕ) → ((x : ℕ) → Mem x xs → Mem x done) ⊎ ((x : ℕ) × Mem x xs × (Mem x done → ⊥))
missing [] done = inl (λ x m. absurd m)
missing (y ∷ ys) done = go (mem_or_not y done) (missing ys done)
  where
    all : Mem y done → ((x : ℕ) → Mem x ys → Mem x done) → (x : ℕ) → Mem x (y ∷ ys) → Mem x done
    all a b x (inl e) = rw e a
    all a b x (inr m) = b x m

    go : Mem y done ⊎ (Mem y done → ⊥) → ((x : ℕ) → Mem x ys → Mem x done) ⊎ ((x : ℕ) × Mem x ys × (Mem x done → ⊥)) → ((x : ℕ) → Mem x (y ∷ ys) → Mem x done) ⊎ ((x : ℕ) × Mem x (y ∷ ys) × (Mem x done → ⊥))
    go (inr n) r = inr (y, inl refl, n)
    go (inl m) (inl h) = inl (all m h)
    go (inl m) (inr d) = inr (d.0, inr d.1, d.2)

module _ (net : Net) (c : Causal net) (s : Starts) (table : IsConsistent net s) where
  facts : (p : ℕ) → Packed net p (ready net (arrival net s) s) s
  facts p = packed net p (arrival net s) s (table p)

  begun : (i : ℕ) → HasRow net i → due net s i ≤ s i
  begun i has = (facts (net.home i)).ready i (has, refl)

  -- ---- the last end on a processor

  abbrev FreeFrom : List ℕ → ℕ → ℕ → Type 0
  FreeFrom done p n = (n ≡ 0) ⊎ ((j : ℕ) × Mem j done × (net.home j ≡ p) × (n ≡ end_of net s j))

  free_from : (done : List ℕ) (p : ℕ) → FreeFrom done p (free net s done p)
  free_from [] p = inl refl
  free_from (i ∷ done) p = go (cases_eq (net.home i) p) (free_from done p)
    where
      behind : FreeFrom done p (free net s done p) → free net s (i ∷ done) p ≡ free net s done p → FreeFrom (i ∷ done) p (free net s (i ∷ done) p)
      behind (inl z) e = inl (e ∙ z)
      behind (inr d) e = inr (d.0, inr d.1, d.2, e ∙ d.3)

      go : (net.home i ≡ p) ⊎ (net.home i ≡ p → ⊥) → FreeFrom done p (free net s done p) → FreeFrom (i ∷ done) p (free net s (i ∷ done) p)
      go (inl e) h = inr (i, inl refl, e, cond-true _ _ _ (eq-eqb (net.home i) p e))
      go (inr n) h = behind h (cond-false _ _ _ (ne_eqb (net.home i) p n))

  free_most : (done : List ℕ) → IsRun net s done → (p j : ℕ) → Mem j done → net.home j ≡ p → end_of net s j ≤ free net s done p
  free_most [] run p j m e = absurd m
  free_most (i ∷ done) run p j m e = go (free_most done run.1 p j) (cases_eq (net.home i) p) m
    where
      go : (Mem j done → net.home j ≡ p → end_of net s j ≤ free net s done p) → (net.home i ≡ p) ⊎ (net.home i ≡ p → ⊥) → Mem j (i ∷ done) → end_of net s j ≤ free net s (i ∷ done) p
      go ih (inl h) (inl same) =
          let f : free net s (i ∷ done) p ≡ end_of net s i = cond-true _ _ _ (eq-eqb (net.home i) p h) in
          let v : end_of net s j ≡ end_of net s i = ap (end_of net s) same in
          omega (arith, f, v)
      go ih (inl h) (inr k) =
          let f : free net s (i ∷ done) p ≡ end_of net s i = cond-true _ _ _ (eq-eqb (net.home i) p h) in
          let before : end_of net s j ≤ free net s done p = ih k e in
          let here : free net s done (net.home i) ≡ free net s done p = ap (free net s done) h in
          let start : s i ≡ max (due net s i) (free net s done (net.home i)) = run.0.start in
          omega (arith, f, before, here, start)
      go ih (inr n) (inl same) = absurd (n (ap net.home (sym same) ∙ e))
      go ih (inr n) (inr k) =
          let f : free net s (i ∷ done) p ≡ free net s done p = cond-false _ _ _ (ne_eqb (net.home i) p n) in
          omega (arith, f, ih k e)

  -- ---- the next row

  module _ (done : List ℕ) (run : IsRun net s done) where
    abbrev w : Starts
    w = would_start net s done

    enabled : (k : ℕ) → HasRow net k → Waiting (causes net) done k → IsEnabled net done k
    enabled k has h = record { row = has; fresh = h.0; causes = serial.apart net done k h.1 }

    waiting : (k : ℕ) → IsEnabled net done k → Waiting (causes net) done k
    waiting k e = (e.fresh, serial.both net done k e.causes)

    -- an enabled row would start no later than it does.
    in_time : (k : ℕ) → IsEnabled net done k → w k ≤ s k
    in_time k e = go (free_from done (net.home k))
      where
        go : FreeFrom done (net.home k) (free net s done (net.home k)) → w k ≤ s k
        go (inl z) = omega (arith, z, begun k e.row)
        go (inr d) =
            let front : Comes (due net s) d.0 k = (serial.course net s done c run).front d.0 k d.1 e d.2 in
            let follows : s d.0 + net.duration d.0 ≤ s k = (facts (net.home k)).follows d.0 k (serial.rows net s done run d.0 d.1, d.2) (e.row, refl) front in
            omega (arith, d.3, begun k e.row, follows)

    -- a row that isn't started is enabled, or an enabled row starts before it is ready.
    record Ahead (j : ℕ) : Type 0 where
      first : ℕ
      enabled : IsEnabled net done first
      ahead : (first ≡ j) ⊎ (s first < due net s j)

    ahead : (d j : ℕ) → HasRow net j → net.depth j ≤ d → (Mem j done → ⊥) → Ahead j
    ahead zero j has deep fresh = go (missing (causes net j) done)
      where
        go : ((x : ℕ) → Mem x (causes net j) → Mem x done) ⊎ ((x : ℕ) × Mem x (causes net j) × (Mem x done → ⊥)) → Ahead j
        go (inl all) = record { first = j; enabled = enabled j has (fresh, all); ahead = inl refl }
        go (inr x) = absurd (let known = build.Plan.shallow (whole_plan net c) j x.0 has x.1 in omega (arith, known.1, deep))
    ahead (suc d) j has deep fresh = go (λ x. ahead d x) (missing (causes net j) done)
      where
        later : (x : ℕ) → Mem x (causes net j) → HasRow net x → Ahead x → Ahead j
        later x m known a = record { first = a.first; enabled = a.enabled; ahead = inr (before a.ahead) }
          where
            given : s x < due net s j
            given = build.Plan.later (whole_plan net c) s j x has m

            before : (a.first ≡ x) ⊎ (s a.first < due net s x) → s a.first < due net s j
            before (inl e) = let v : s a.first ≡ s x = ap s e in omega (arith, v, given)
            before (inr lt) = omega (arith, lt, given, begun x known)

        go : ((x : ℕ) → HasRow net x → net.depth x ≤ d → (Mem x done → ⊥) → Ahead x) → ((x : ℕ) → Mem x (causes net j) → Mem x done) ⊎ ((x : ℕ) × Mem x (causes net j) × (Mem x done → ⊥)) → Ahead j
        go ih (inl all) = record { first = j; enabled = enabled j has (fresh, all); ahead = inl refl }
        go ih (inr x) =
            let known = build.Plan.shallow (whole_plan net c) j x.0 has x.1 in
            later x.0 x.1 known.0 (ih x.0 known.0 (omega (arith, known.1, deep)) x.2)

    -- the order in which rows are picked.
    abbrev Sooner : ℕ → ℕ → Type 0
    Sooner i k = (w i < w k) ⊎ ((w i ≡ w k) × Least-Comes (due net s) i k)

    sooner_total : (i k : ℕ) → Sooner i k ⊎ Sooner k i
    sooner_total i k = go (cases_le (w i) (w k)) (cases_le (w k) (w i)) (comes_total (due net s) i k)
      where
        go : (w i ≤ w k) ⊎ (w k < w i) → (w k ≤ w i) ⊎ (w i < w k) → Least-Comes (due net s) i k ⊎ Least-Comes (due net s) k i → Sooner i k ⊎ Sooner k i
        go (inr lt) b t = inr (inl lt)
        go (inl le) (inr lt) t = inl (inl lt)
        go (inl le) (inl ge) (inl t) = inl (inr (omega (arith, le, ge), t))
        go (inl le) (inl ge) (inr t) = inr (inr (omega (arith, le, ge), t))

    sooner_chain : (i j k : ℕ) → Sooner i j → Sooner j k → Sooner i k
    sooner_chain i j k (inl a) (inl b) = inl (omega (arith, a, b))
    sooner_chain i j k (inl a) (inr b) = inl (omega (arith, a, b.0))
    sooner_chain i j k (inr a) (inl b) = inl (omega (arith, a.0, b))
    sooner_chain i j k (inr a) (inr b) = inr (a.0 ∙ b.0, least_chain (due net s) i j k a.1 b.1)

    module _ (i : ℕ) (can : IsEnabled net done i) (least : (k : ℕ) → IsEnabled net done k → Sooner i k) where
      no_later : (k : ℕ) → Sooner i k → w i ≤ w k
      no_later k (inl a) = omega (arith, a)
      no_later k (inr a) = omega (arith, a.0)

      candidate : (k : ℕ) → net.home k ≡ net.home i → Sooner i k → (i ≡ k) ⊎ Comes (due net s) i k
      candidate k e (inl a) = let f : free net s done (net.home k) ≡ free net s done (net.home i) = ap (free net s done) e in inr (inl (omega (arith, a, f)))
      candidate k e (inr a) = a.1

      -- a row that comes before it on its processor was started.
      before_done : (j : ℕ) → IsOn net (net.home i) j → Comes (due net s) j i → Mem j done ⊎ (Mem j done → ⊥) → Mem j done
      before_done j on comes (inl m) = m
      before_done j on comes (inr n) = absurd (none (ahead (net.depth j) j on.0 (omega arith) n))
        where
          f : free net s done (net.home j) ≡ free net s done (net.home i)
          f = ap (free net s done) on.1

          itself : Sooner i j → ⊥
          itself (inl a) = omega (arith, a, f, comes_ready (due net s) j i comes)
          itself (inr (e, inl same)) = apart (due net s) j i comes (sym same)
          itself (inr (e, inr other)) = one_way (due net s) j i comes other

          none : Ahead j → ⊥
          none a = by a.ahead
            where
              by : (a.first ≡ j) ⊎ (s a.first < due net s j) → ⊥
              by (inl e) = itself (subst (Sooner i) e (least a.first a.enabled))
              by (inr lt) = omega (arith, lt, comes_ready (due net s) j i comes, in_time a.first a.enabled, no_later a.first (least a.first a.enabled))

      start : s i ≡ w i
      start = go ((facts (net.home i)).cause i (can.row, refl))
        where
          go : (s i ≡ due net s i) ⊎ ((j : ℕ) × IsOn net (net.home i) j × Comes (due net s) j i × (s i ≡ s j + net.duration j)) → s i ≡ w i
          go (inl e) = omega (arith, e, in_time i can)
          go (inr d) =
              let m : Mem d.0 done = before_done d.0 d.1 d.2 (mem_or_not d.0 done) in
              let most : end_of net s d.0 ≤ free net s done (net.home i) = free_most done run (net.home i) d.0 m d.1.1 in
              omega (arith, d.3, most, in_time i can)

      picked : IsPick net s done i
      picked = record {
        enabled = can;
        candidate = λ k e same. candidate k same (least k e);
        least = λ k e. no_later k (least k e);
        start = start;
      }

    next : ((k : ℕ) → IsEnabled net done k → ⊥) ⊎ ((i : ℕ) × IsPick net s done i)
    next = go (found net.rows (Waiting (causes net) done) Sooner (waiting_or_not (causes net) done) sooner_total sooner_chain)
      where
        go : Found net.rows (Waiting (causes net) done) Sooner → ((k : ℕ) → IsEnabled net done k → ⊥) ⊎ ((i : ℕ) × IsPick net s done i)
        go (inl none) = inl (λ k e. none k e.row.0 e.row.1 (waiting k e))
        go (inr d) = inr (d.0, picked d.0 (enabled d.0 (d.1, d.2) d.3) (λ k e. d.4 k e.row.0 e.row.1 (waiting k e)))

  abbrev Whole : Type 0
  Whole = (done : List ℕ) × IsRun net s done × ((k : ℕ) → IsEnabled net done k → ⊥)

  all_started : (n : ℕ) (done : List ℕ) → IsRun net s done → rest done net.rows ≤ n → Whole
  all_started zero done run few = go (next done run)
    where
      go : ((k : ℕ) → IsEnabled net done k → ⊥) ⊎ ((i : ℕ) × IsPick net s done i) → Whole
      go (inl none) = (done, run, none)
      go (inr d) = absurd (let e = d.1.enabled in omega (arith, few, rest_less d.0 done net.rows e.row.0 e.row.1 e.fresh))
  all_started (suc n) done run few = go (λ i r. all_started n (i ∷ done) r) (next done run)
    where
      go : ((i : ℕ) → IsRun net s (i ∷ done) → rest (i ∷ done) net.rows ≤ n → Whole) → ((k : ℕ) → IsEnabled net done k → ⊥) ⊎ ((i : ℕ) × IsPick net s done i) → Whole
      go ih (inl none) = (done, run, none)
      go ih (inr d) = let e = d.1.enabled in ih d.0 (d.1, run) (omega (arith, few, rest_less d.0 done net.rows e.row.0 e.row.1 e.fresh))

  pub some_run : Whole
  some_run = all_started net.rows [] tt (rest_most [] net.rows)
