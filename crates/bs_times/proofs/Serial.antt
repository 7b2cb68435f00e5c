-- A run of the least starts gives the consistent table.
use Rattle.std.proofs.Common.{subst, ◌≡◌, ◌==◌, ℕ, ◌<◌, ◌≤◌, max, cond, List, [], ◌∷◌, ◌++◌, ◌⊎◌, ◌↔◌, inl, inr, map, refl, sym, ap, ◌∙◌, arith}
use Rattle.std.proofs.lemmas.Bool.{cases_eq, eq-eqb, ne_eqb, cond-true, cond-false}
use Rattle.bs_log.specs.Lists.{Mem}
use Rattle.bs_times.specs.Net.{Net, Starts, HasRow, Causal}
use Rattle.bs_times.specs.Times.{Comes, Runs, IsConsistent, end_of, arrival, ready}
use Rattle.bs_times.specs.Serial.{free, AreStarted, IsEnabled, due, would_start, IsPick, IsRun}
use Rattle.bs_times.proofs.Exists.{causes, whole_plan}
use Rattle.bs_times.proofs.Build as build
use Rattle.bs_times.proofs.Members.{mem_left, mem_right, mem_cases, mem_map, map_mem}
use Rattle.bs_times.proofs.Build.{last_end, last_end_push, runs_push, comes_chain, split, none_left, Waiting, Enabled}

abbrev line : Net → List ℕ → ℕ → List ℕ
line net [] p = []
line net (i ∷ done) p = cond (net.home i == p) (line net done p ++ i ∷ []) (line net done p)

line_new : (net : Net) (i : ℕ) (done : List ℕ) (p : ℕ) → net.home i ≡ p → line net (i ∷ done) p ≡ line net done p ++ i ∷ []
line_new net i done p e = cond-true _ _ _ (eq-eqb (net.home i) p e)

line_old : (net : Net) (i : ℕ) (done : List ℕ) (p : ℕ) → (net.home i ≡ p → ⊥) → line net (i ∷ done) p ≡ line net done p
line_old net i done p n = cond-false _ _ _ (ne_eqb (net.home i) p n)

member : (net : Net) (done : List ℕ) (p k : ℕ) → Mem k (line net done p) ↔ (Mem k done × (net.home k ≡ p))
member net [] p k = (λ m. absurd m, λ m. absurd m.0)
member net (i ∷ done) p k = go (cases_eq (net.home i) p) (member net done p k)
  where
    got : net.home i ≡ p → (Mem k (line net done p) → Mem k done × (net.home k ≡ p)) → Mem k (line net done p) ⊎ Mem k (i ∷ []) → Mem k (i ∷ done) × (net.home k ≡ p)
    got e h (inl m) = let d = h m in (inr d.0, d.1)
    got e h (inr (inl g)) = (inl g, ap net.home g ∙ e)
    got e h (inr (inr m)) = absurd m

    put : (Mem k done × (net.home k ≡ p) → Mem k (line net done p)) → Mem k (i ∷ done) → net.home k ≡ p → Mem k (line net done p ++ i ∷ [])
    put h (inl g) f = mem_right k (line net done p) (i ∷ []) (inl g)
    put h (inr m) f = mem_left k (line net done p) (i ∷ []) (h (m, f))

    keep : (net.home i ≡ p → ⊥) → (Mem k done × (net.home k ≡ p) → Mem k (line net done p)) → Mem k (i ∷ done) → net.home k ≡ p → Mem k (line net done p)
    keep n h (inl g) f = absurd (n (ap net.home (sym g) ∙ f))
    keep n h (inr m) f = h (m, f)

    go : (net.home i ≡ p) ⊎ (net.home i ≡ p → ⊥) → Mem k (line net done p) ↔ (Mem k done × (net.home k ≡ p)) → Mem k (line net (i ∷ done) p) ↔ (Mem k (i ∷ done) × (net.home k ≡ p))
    go (inl e) h = rw (line_new net i done p e) (λ m. got e h.0 (mem_cases k (line net done p) (i ∷ []) m), λ d. put h.1 d.0 d.1)
    go (inr n) h = rw (line_old net i done p n) (λ m. let d = h.0 m in (inr d.0, d.1), λ d. keep n h.1 d.0 d.1)

free_is : (net : Net) (s : Starts) (done : List ℕ) (p : ℕ) → free net s done p ≡ last_end (end_of net s) 0 (line net done p)
free_is net s [] p = refl
free_is net s (i ∷ done) p = go (cases_eq (net.home i) p) (free_is net s done p)
  where
    go : (net.home i ≡ p) ⊎ (net.home i ≡ p → ⊥) → free net s done p ≡ last_end (end_of net s) 0 (line net done p) → free net s (i ∷ done) p ≡ last_end (end_of net s) 0 (line net (i ∷ done) p)
    go (inl e) h = rw (line_new net i done p e) (cond-true _ _ _ (eq-eqb (net.home i) p e) ∙ sym (last_end_push (end_of net s) 0 i (line net done p)))
    go (inr n) h = rw (line_old net i done p n) (cond-false _ _ _ (ne_eqb (net.home i) p n) ∙ h)

-- what holds after each step
pub record Course (net : Net) (s : Starts) (done : List ℕ) : Type 0 where
  pub runs : (p : ℕ) → Runs (due net s) (end_of net s) s 0 (line net done p)
  pub front : (j k : ℕ) → Mem j done → IsEnabled net done k → net.home j ≡ net.home k → Comes (due net s) j k
  pub rising : (j k : ℕ) → Mem j done → IsEnabled net done k → s j ≤ would_start net s done k
  pub begun : (j : ℕ) → Mem j done → due net s j ≤ s j

pub both : (net : Net) (done : List ℕ) (k : ℕ) → AreStarted net done k → (x : ℕ) → Mem x (causes net k) → Mem x done
both net done k h x m = go (mem_cases x (net.after k) _ m)
  where
    go : Mem x (net.after k) ⊎ Mem x (map (λ m. m.row) (net.mail k)) → Mem x done
    go (inl a) = h.after x a
    go (inr b) = let d = map_mem (λ m. m.row) x (net.mail k) b in rw d.2 (h.mail d.0 d.1)

pub apart : (net : Net) (done : List ℕ) (k : ℕ) → ((x : ℕ) → Mem x (causes net k) → Mem x done) → AreStarted net done k
apart net done k h = record {
  after = λ x m. h x (mem_left x (net.after k) _ m);
  mail = λ m l. h m.row (mem_right m.row (net.after k) _ (mem_map (λ y. y.row) m (net.mail k) l));
}

one_more : (net : Net) (s : Starts) (done : List ℕ) (i : ℕ) → Causal net → Course net s done → IsPick net s done i → Course net s (i ∷ done)
one_more net s done i c h pick = record {
  runs = λ p. runs p (cases_eq (net.home i) p);
  front = λ j k m e same. front j k m e same (old_or_new k e);
  rising = λ j k m e. rising j k m (old_or_new k e);
  begun = begun;
}
  where
    New : ℕ → Type 0
    New k = s i < due net s k

    old_or_new : (k : ℕ) → IsEnabled net (i ∷ done) k → IsEnabled net done k ⊎ (s i < due net s k)
    old_or_new k e = go (split i (causes net k) done (both net (i ∷ done) k e.causes))
      where
        go : ((x : ℕ) → Mem x (causes net k) → Mem x done) ⊎ Mem i (causes net k) → IsEnabled net done k ⊎ (s i < due net s k)
        go (inl a) = inl (record { row = e.row; fresh = λ m. e.fresh (inr m); causes = apart net done k a })
        go (inr m) = inr (build.Plan.later (whole_plan net c) s k i e.row m)

    first : due net s i ≤ s i
    first = let e = pick.start in omega (arith, e)

    begun : (j : ℕ) → Mem j (i ∷ done) → due net s j ≤ s j
    begun j (inl e) = rw e first
    begun j (inr m) = h.begun j m

    earlier : (j : ℕ) → Mem j (i ∷ done) → s j ≤ s i
    earlier j (inl e) = rw e (omega arith)
    earlier j (inr m) = let l = h.rising j i m pick.enabled in let e = pick.start in omega (arith, l, e)

    runs : (p : ℕ) → (net.home i ≡ p) ⊎ (net.home i ≡ p → ⊥) → Runs (due net s) (end_of net s) s 0 (line net (i ∷ done) p)
    runs p (inl e) = rw (line_new net i done p e) (runs_push (due net s) (end_of net s) s 0 i (line net done p) (h.runs p)
        (pick.start ∙ ap (λ x. max (due net s i) x) (free_is net s done (net.home i) ∙ ap (λ q. last_end (end_of net s) 0 (line net done q)) e))
        (λ j m. let d = (member net done p j).0 m in h.front j i d.0 pick.enabled (d.1 ∙ sym e)))
    runs p (inr n) = rw (line_old net i done p n) (h.runs p)

    candidate : (k : ℕ) → IsEnabled net (i ∷ done) k → (i ≡ k) ⊎ Comes (due net s) i k → Comes (due net s) i k
    candidate k e (inl g) = absurd (e.fresh (inl (sym g)))
    candidate k e (inr f) = f

    front : (j k : ℕ) → Mem j (i ∷ done) → IsEnabled net (i ∷ done) k → net.home j ≡ net.home k → IsEnabled net done k ⊎ (s i < due net s k) → Comes (due net s) j k
    front j k (inl g) e same (inl old) = subst (λ y. Comes (due net s) y k) (sym g) (candidate k e (pick.candidate k old (sym same ∙ ap net.home g)))
    front j k (inr m) e same (inl old) = h.front j k m old same
    front j k m e same (inr new) = inl (omega (arith, begun j m, earlier j m, new))

    later : (k : ℕ) → (net.home i ≡ net.home k) ⊎ (net.home i ≡ net.home k → ⊥) → IsEnabled net done k → (j : ℕ) → Mem j (i ∷ done) → s j ≤ would_start net s (i ∷ done) k
    later k (inl e) old j m = let f : free net s (i ∷ done) (net.home k) ≡ end_of net s i = cond-true _ _ _ (eq-eqb (net.home i) (net.home k) e) in omega (arith, earlier j m, f)
    later k (inr n) old j (inl g) = let f : free net s (i ∷ done) (net.home k) ≡ free net s done (net.home k) = cond-false _ _ _ (ne_eqb (net.home i) (net.home k) n) in
        let v : s j ≡ s i = ap s g in let w = pick.start in omega (arith, v, w, f, pick.least k old)
    later k (inr n) old j (inr m) = let f : free net s (i ∷ done) (net.home k) ≡ free net s done (net.home k) = cond-false _ _ _ (ne_eqb (net.home i) (net.home k) n) in omega (arith, f, h.rising j k m old)

    rising : (j k : ℕ) → Mem j (i ∷ done) → IsEnabled net done k ⊎ (s i < due net s k) → s j ≤ would_start net s (i ∷ done) k
    rising j k m (inl old) = later k (cases_eq (net.home i) (net.home k)) old j m
    rising j k m (inr new) = omega (arith, earlier j m, new)

pub course : (net : Net) (s : Starts) (done : List ℕ) → Causal net → IsRun net s done → Course net s done
course net s [] c r = record { runs = λ p. tt; front = λ j k m. absurd m; rising = λ j k m. absurd m; begun = λ j m. absurd m }
course net s (i ∷ done) c r = one_more net s done i c (course net s done c r.1) r.0

pub rows : (net : Net) (s : Starts) (done : List ℕ) → IsRun net s done → (i : ℕ) → Mem i done → HasRow net i
rows net s [] r i m = absurd m
rows net s (k ∷ done) r i (inl e) = rw e r.0.enabled.row
rows net s (k ∷ done) r i (inr m) = rows net s done r.1 i m

-- a run at whose end nothing is enabled has started all rows, at the consistent table
pub run_is_consistent : (net : Net) → Causal net → (s : Starts) (done : List ℕ) → IsRun net s done → ((k : ℕ) → IsEnabled net done k → ⊥) → IsConsistent net s
run_is_consistent net c s done r ended p = record {
  order = line net done p;
  all = λ i. (λ on. (member net done p i).1 (all i on.0, on.1), λ m. let d = (member net done p i).0 m in (rows net s done r i d.0, d.1));
  runs = (course net s done c r).runs p;
}
  where
    all : (i : ℕ) → HasRow net i → Mem i done
    all = none_left net (λ z. ready net (arrival net z) z) (causes net) (whole_plan net c) done (λ k l h w. ended k (record { row = (l, h); fresh = w.0; causes = apart net done k w.1 }))
