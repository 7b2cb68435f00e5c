-- The steps of the serial machine model are those of a run over the rows of the log.
use Rattle.std.proofs.Common.{◌≡◌, ◌≤◌, ◌<◌, ◌⊎◌, inl, inr, ℕ, zero, suc, ◌==◌, if◌then◌else◌, List, [], ◌∷◌, Ordering, Less, Equal, Greater, refl, sym, ap, ap₂, subst, ◌∙◌, map, max, nat_cmp, arith}
use Rattle.std.specs.Ordering.{ordering_then, ordering_reverse}
use Rattle.std.specs.Cmp.Lexicographic.{slice_cmp}
use Rattle.std.proofs.lemmas.Bool.{cases_lt, eq-eqb, ne_eqb}
use Rattle.std.proofs.lemmas.Cmp.{nat_cmp_total, nat_list_cmp_total, tied_itself}
use Rattle.std.proofs.lemmas.Map.Lookups.{exact_bytes}
use Rattle.bs_tree.specs.declared.tree.Program.{Program}
use Rattle.bs_log.specs.Lists.{Mem}
use Rattle.bs_semantics.specs.Rounds.{CleanAt}
use Rattle.bs_semantics.specs.Serial.{Machine, Started, IsCandidate, IsNext, Earlier, find}
use Rattle.bs_semantics.specs.Serial as model
use Rattle.bs_semantics.specs.Starting.{NoneEnabled}
use Rattle.bs_semantics.specs.Reached.{IsReached, begins, goes_on, Placed, placed}
use Rattle.bs_semantics.proofs.Rising.{less_first}
use Rattle.bs_semantics.proofs.Options.{none_some}
use Rattle.bs_times.specs.Net.{Net, Starts}
use Rattle.bs_times.specs.Times.{Comes}
use Rattle.bs_times.specs.Serial.{free, due, would_start, IsEnabled, IsPick, IsRun}
use Rattle.bs_serial.proofs.States.{known, enabled_in_round, enabled_known}
use Rattle.bs_serial.proofs.Rows.{all_blocks, number, into_blocks, one_number, numbers_rise, place_cmp}
use Rattle.bs_serial.proofs.Nets.{path_number, net, row_says}
use Rattle.bs_serial.proofs.Readies.{row, Tells, started_in, due_same, to_row, of_row, free_same}

-- ---- the least start among all enabled rows is that of a candidate

-- no enabled row of its processor comes before it
abbrev pub IsFront : Net → Starts → List ℕ → ℕ → Type 0
IsFront net s done k = (j : ℕ) → IsEnabled net done j → net.home j ≡ net.home k → (k ≡ j) ⊎ Comes (due net s) k j

module _ (net : Net) (s : Starts) (done : List ℕ) (least : ℕ) (fronts : (k : ℕ) → IsEnabled net done k → IsFront net s done k → least ≤ would_start net s done k) where
  no_later : (j k : ℕ) → net.home j ≡ net.home k → due net s j ≤ due net s k → would_start net s done j ≤ would_start net s done k
  no_later j k h l = let f = ap (free net s done) h in omega (arith, l, f)

  by_number : (f : ℕ) → ((j : ℕ) → due net s j < f → IsEnabled net done j → least ≤ would_start net s done j) → (g k : ℕ) → due net s k ≤ f → k < g → IsEnabled net done k → least ≤ would_start net s done k
  by_number f before zero k l u e = absurd (omega (arith, u))
  by_number f before (suc g) k l u e = by_start (cases_lt (would_start net s done k) least) (by_number f before g)
    where
      by_start : (would_start net s done k < least) ⊎ (least ≤ would_start net s done k) → ((j : ℕ) → due net s j ≤ f → j < g → IsEnabled net done j → least ≤ would_start net s done j) → least ≤ would_start net s done k
      by_start (inr le) again = le
      by_start (inl lt) again = fronts k e (λ j d h. by_due j d h (cases_lt (due net s j) (due net s k)) (cases_lt (due net s k) (due net s j)) (cases_lt j k) (cases_lt k j))
        where
          by_due : (j : ℕ) → IsEnabled net done j → net.home j ≡ net.home k → (due net s j < due net s k) ⊎ (due net s k ≤ due net s j) → (due net s k < due net s j) ⊎ (due net s j ≤ due net s k) → (j < k) ⊎ (k ≤ j) → (k < j) ⊎ (j ≤ k) → (k ≡ j) ⊎ Comes (due net s) k j
          by_due j d h (inl a) _ _ _ = let one = before j (omega (arith, a, l)) d in let two = no_later j k h (omega (arith, a)) in absurd (omega (arith, one, two, lt))
          by_due j d h (inr a) (inl b) _ _ = inr (inl b)
          by_due j d h (inr a) (inr b) (inl c) _ = let one = again j (omega (arith, b, l)) (omega (arith, c, u)) d in let two = no_later j k h b in absurd (omega (arith, one, two, lt))
          by_due j d h (inr a) (inr b) (inr c) (inl x) = inr (inr (omega (arith, a, b), x))
          by_due j d h (inr a) (inr b) (inr c) (inr x) = inl (omega (arith, c, x))

  by_ready : (f k : ℕ) → due net s k < f → IsEnabled net done k → least ≤ would_start net s done k
  by_ready zero k l e = absurd (omega (arith, l))
  by_ready (suc f) k l e = by_number f (by_ready f) (suc k) k (omega (arith, l)) (omega arith) e

  pub least_of_all : (k : ℕ) → IsEnabled net done k → least ≤ would_start net s done k
  least_of_all k e = by_ready (suc (due net s k)) k (omega arith) e

module _ (p : Program) (limit n : ℕ) (m : Machine) (clean : CleanAt p limit n) (entries : ℕ) where
  -- ---- one step

  module _ (s : Starts) (bs : List Started) (r : IsReached p limit m bs) (tells : Tells p limit n m clean entries s bs) where
    enabled_in : (a : Placed) → model.IsEnabled p limit bs a.chare a.block → Mem a (all_blocks p limit n m clean)
    enabled_in a e = into_blocks p limit n m clean a e.chare (enabled_in_round p limit n m clean bs r a.chare a.block e)

    due_is : (a : Placed) → model.IsEnabled p limit bs a.chare a.block → due (net p limit n m clean entries) s (number p limit n m clean a) ≡ model.ready m bs a.chare a.block
    due_is a e = due_same p limit n m clean entries bs r s tells a (enabled_in a e) (enabled_known p limit n m clean bs r a.chare a.block e)

    home_is : (a : Placed) → model.IsEnabled p limit bs a.chare a.block → (net p limit n m clean entries).home (number p limit n m clean a) ≡ m.home a.chare
    home_is a e = (row_says p limit n m clean entries a (enabled_in a e)).home

    would_start_is : (a : Placed) → model.IsEnabled p limit bs a.chare a.block → would_start (net p limit n m clean entries) s (map (row p limit n m clean entries) bs) (number p limit n m clean a) ≡ model.would_start m bs a.chare a.block
    would_start_is a e = ap₂ max (due_is a e) (ap (free (net p limit n m clean entries) s (map (row p limit n m clean entries) bs)) (home_is a e) ∙ free_same p limit n m clean entries s bs r tells (m.home a.chare))

    -- the order of (chare, path) is that of the numbers
    lower : (a b : Placed) → model.IsEnabled p limit bs a.chare a.block → model.IsEnabled p limit bs b.chare b.block → (a.chare < b.chare) ⊎ ((a.chare ≡ b.chare) × (slice_cmp nat_cmp a.block.path.0 b.block.path.0 ≡ Less)) → number p limit n m clean a < number p limit n m clean b
    lower a b e f l = numbers_rise p limit n m clean a b (enabled_in a e) (enabled_in b f) (by_chare l)
      where
        by_chare : (a.chare < b.chare) ⊎ ((a.chare ≡ b.chare) × (slice_cmp nat_cmp a.block.path.0 b.block.path.0 ≡ Less)) → place_cmp a b ≡ Less
        by_chare (inl l) = ap (λ o. ordering_then o (slice_cmp nat_cmp a.block.path.0 b.block.path.0)) (less_first a.chare b.chare l)
        by_chare (inr q) = ap (λ c. ordering_then (nat_cmp c b.chare) (slice_cmp nat_cmp a.block.path.0 b.block.path.0)) q.0 ∙ ap (λ o. ordering_then o (slice_cmp nat_cmp a.block.path.0 b.block.path.0)) (tied_itself nat_cmp_total b.chare) ∙ q.1

    earlier_comes : (a b : Placed) → model.IsEnabled p limit bs a.chare a.block → model.IsEnabled p limit bs b.chare b.block → Earlier m bs a.chare a.block b.chare b.block → Comes (due (net p limit n m clean entries) s) (number p limit n m clean a) (number p limit n m clean b)
    earlier_comes a b e f (inl l) = let x = due_is a e in let y = due_is b f in inl (omega (arith, x, y, l))
    earlier_comes a b e f (inr q) = inr (due_is a e ∙ q.0 ∙ sym (due_is b f), lower a b e f q.1)

    comes_earlier : (a b : Placed) → model.IsEnabled p limit bs a.chare a.block → model.IsEnabled p limit bs b.chare b.block → (number p limit n m clean a ≡ number p limit n m clean b) ⊎ Comes (due (net p limit n m clean entries) s) (number p limit n m clean a) (number p limit n m clean b) → ((a.chare ≡ b.chare) × (a.block ≡ b.block)) ⊎ Earlier m bs a.chare a.block b.chare b.block
    comes_earlier a b e f (inl q) = let one = one_number p limit n m clean a b (enabled_in a e) (enabled_in b f) q in inl (ap (λ (a : Placed). a.chare) one, ap (λ (a : Placed). a.block) one)
    comes_earlier a b e f (inr (inl l)) = let x = due_is a e in let y = due_is b f in inr (inl (omega (arith, x, y, l)))
    comes_earlier a b e f (inr (inr q)) = by_place (cases_lt a.chare b.chare) (cases_lt b.chare a.chare)
      where
        same_ready : model.ready m bs a.chare a.block ≡ model.ready m bs b.chare b.block
        same_ready = sym (due_is a e) ∙ q.0 ∙ due_is b f

        by_path : a.chare ≡ b.chare → (o : Ordering) → slice_cmp nat_cmp a.block.path.0 b.block.path.0 ≡ o → ((a.chare ≡ b.chare) × (a.block ≡ b.block)) ⊎ Earlier m bs a.chare a.block b.chare b.block
        by_path c Less z = inr (inr (same_ready, inr (c, z)))
        by_path c Equal z = let same = path_number p limit n m clean a.chare a.block.path b (sym c) (sym (exact_bytes _ _ z)) in let l = q.1 in absurd (omega (arith, same, l))
        by_path c Greater z =
            let l = lower b a f e (inr (sym c, nat_list_cmp_total.antisymm b.block.path.0 a.block.path.0 ∙ ap ordering_reverse z)) in
            let v = q.1 in
            absurd (omega (arith, l, v))

        by_place : (a.chare < b.chare) ⊎ (b.chare ≤ a.chare) → (b.chare < a.chare) ⊎ (a.chare ≤ b.chare) → ((a.chare ≡ b.chare) × (a.block ≡ b.block)) ⊎ Earlier m bs a.chare a.block b.chare b.block
        by_place (inl l) _ = inr (inr (same_ready, inl l))
        by_place (inr l) (inl g) = let u = lower b a f e (inl g) in let v = q.1 in absurd (omega (arith, u, v))
        by_place (inr l) (inr g) = by_path (omega (arith, l, g)) _ refl

    module _ (b : Started) (next : IsNext m p limit bs b) (start : s (row p limit n m clean entries b) ≡ b.start) where
      starts_there : would_start (net p limit n m clean entries) s (map (row p limit n m clean entries) bs) (row p limit n m clean entries b) ≡ b.start
      starts_there = would_start_is (placed b) next.candidate.enabled ∙ sym next.start

      -- a row that no enabled row of its processor comes before is that of a candidate
      candidate : (a : Placed) → model.IsEnabled p limit bs a.chare a.block → IsFront (net p limit n m clean entries) s (map (row p limit n m clean entries) bs) (number p limit n m clean a) → IsCandidate m p limit bs (m.home a.chare) a.chare a.block
      candidate a e front = record {
        enabled = e;
        home = refl;
        least = λ d y f h.
            let k : Placed = record { chare = d; block = y } in
            comes_earlier a k e f (front (number p limit n m clean k) (to_row p limit n m clean entries bs r k f) (home_is k f ∙ h ∙ sym (home_is a e)));
      }

      up_to : (x y z : ℕ) → (x < y) ⊎ ((x ≡ y) × (m.home b.chare ≤ z)) → x ≤ y
      up_to x y z (inl l) = omega (arith, l)
      up_to x y z (inr e) = let q = e.0 in omega (arith, q)

      front_least : (a : Placed) → model.IsEnabled p limit bs a.chare a.block → IsFront (net p limit n m clean entries) s (map (row p limit n m clean entries) bs) (number p limit n m clean a) → b.start ≤ would_start (net p limit n m clean entries) s (map (row p limit n m clean entries) bs) (number p limit n m clean a)
      front_least a e front =
          let l = up_to b.start (model.would_start m bs a.chare a.block) (m.home a.chare) (next.least (m.home a.chare) a.chare a.block (candidate a e front)) in
          let w = would_start_is a e in
          omega (arith, l, w)

      least_start : (k : ℕ) → IsEnabled (net p limit n m clean entries) (map (row p limit n m clean entries) bs) k → b.start ≤ would_start (net p limit n m clean entries) s (map (row p limit n m clean entries) bs) k
      least_start k e = least_of_all (net p limit n m clean entries) s (map (row p limit n m clean entries) bs) b.start
          (λ j d front.
          let a = of_row p limit n m clean entries bs r j d in
          subst (λ j. b.start ≤ would_start (net p limit n m clean entries) s (map (row p limit n m clean entries) bs) j) a.is
          (front_least a.block a.enabled (subst (IsFront (net p limit n m clean entries) s (map (row p limit n m clean entries) bs)) (sym a.is) front)))
          k e

      first_there : (a : Placed) → model.IsEnabled p limit bs a.chare a.block → ((b.chare ≡ a.chare) × (b.block ≡ a.block)) ⊎ Earlier m bs b.chare b.block a.chare a.block → (row p limit n m clean entries b ≡ number p limit n m clean a) ⊎ Comes (due (net p limit n m clean entries) s) (row p limit n m clean entries b) (number p limit n m clean a)
      first_there a e (inl same) = inl (λ j. number p limit n m clean (record { chare = same.0 j; block = same.1 j }))
      first_there a e (inr l) = inr (earlier_comes (placed b) a next.candidate.enabled e l)

      pub pick : IsPick (net p limit n m clean entries) s (map (row p limit n m clean entries) bs) (row p limit n m clean entries b)
      pick = record {
        enabled = to_row p limit n m clean entries bs r (placed b) next.candidate.enabled;
        candidate = λ k e h.
            let a = of_row p limit n m clean entries bs r k e in
            let home : m.home (a.block).chare ≡ m.home b.chare = sym (home_is a.block a.enabled) ∙ ap (net p limit n m clean entries).home a.is ∙ h ∙ home_is (placed b) next.candidate.enabled in
            subst (λ k. (row p limit n m clean entries b ≡ k) ⊎ Comes (due (net p limit n m clean entries) s) (row p limit n m clean entries b) k) a.is
            (first_there a.block a.enabled (next.candidate.least (a.block).chare (a.block).block a.enabled home));
        least = λ k e. let l = least_start k e in let w = starts_there in omega (arith, l, w);
        start = start ∙ sym starts_there;
      }

  -- ---- all steps

  fewer : (s : Starts) (b : Started) (bs : List Started) → Tells p limit n m clean entries s (b ∷ bs) → Tells p limit n m clean entries s bs
  fewer s b bs tells d i = tells d (inr i)

  pub run_of : (s : Starts) (bs : List Started) → IsReached p limit m bs → Tells p limit n m clean entries s bs → IsRun (net p limit n m clean entries) s (map (row p limit n m clean entries) bs)
  run_of s _ begins tells = tt
  run_of s _ (goes_on bs b r is next) tells = (pick s bs r (fewer s b bs tells) b next (tells b (inl refl)), run_of s bs r (fewer s b bs tells))

  -- where the model can start nothing, no row is enabled
  pub none_left : (bs : List Started) (r : IsReached p limit m bs) → NoneEnabled p limit bs → (k : ℕ) → IsEnabled (net p limit n m clean entries) (map (row p limit n m clean entries) bs) k → ⊥
  none_left bs r none k e = let a = of_row p limit n m clean entries bs r k e in none (a.block).chare (a.block).block a.enabled

  -- ---- the starts that a state tells

  abbrev pub starts_of : List Started → Starts
  starts_of [] k = 0
  starts_of (b ∷ bs) k = if row p limit n m clean entries b == k then b.start else starts_of bs k

  apart : (bs : List Started) (r : IsReached p limit m bs) (d b : Started) → IsNext m p limit bs d → Mem b bs → row p limit n m clean entries d ≡ row p limit n m clean entries b → ⊥
  apart bs r d b next i e =
      let c = next.candidate.enabled in
      let one = one_number p limit n m clean (placed d) (placed b) (into_blocks p limit n m clean (placed d) c.chare (enabled_in_round p limit n m clean bs r d.chare d.block c)) (started_in p limit n m clean entries bs r b i) e in
      let k = known bs b d.chare d.block.path.0 i (sym (ap (λ (a : Placed). a.chare) one)) (sym (ap (λ (a : Placed). a.block.path.0) one)) in
      none_some (sym c.fresh ∙ k.1)

  pub tells_of : (bs : List Started) → IsReached p limit m bs → Tells p limit n m clean entries (starts_of bs) bs
  tells_of _ begins b i = absurd i
  tells_of _ (goes_on bs d r is next) b (inl e) =
      let same : row p limit n m clean entries d ≡ row p limit n m clean entries b = ap (row p limit n m clean entries) (sym e) in
      ap (λ t. if t then d.start else starts_of bs (row p limit n m clean entries b)) (eq-eqb _ _ same) ∙ ap (λ (b : Started). b.start) (sym e)
  tells_of _ (goes_on bs d r is next) b (inr i) =
      ap (λ t. if t then d.start else starts_of bs (row p limit n m clean entries b)) (ne_eqb _ _ (apart bs r d b next i)) ∙ tells_of bs r b i
