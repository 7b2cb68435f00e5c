-- A schedule of the plan of one processor is its table.
use Rattle.std.proofs.Common.{◌≡◌, ℕ, ◌+◌, ◌<◌, ◌≤◌, max, List, [], ◌∷◌, inl, inr, length, map, refl, sym, ap, ◌∙◌, arith}
use Rattle.bs_log.specs.Lists.{Mem}
use Rattle.bs_times.specs.Net.{Net, Starts, Ticks}
use Rattle.bs_times.specs.Times.{Comes, First, Runs, IsOn, IsLine, greatest, end_of, ready}
use Rattle.bs_times.proofs.Members.{mem_map, map_mem}
use Rattle.bs_times.proofs.Moved.{map_same}
use Rattle.bs_schedule.specs.declared.plan.Cause.{Cause}
use Rattle.bs_schedule.specs.declared.plan.Plan.{Plan}
use Rattle.bs_schedule.specs.Plan.{at, causes_of, causing, comes_at, due_of, ends_of, IsRow, IsSchedule}
use Rattle.bs_schedule.specs.Local.{IsLocalPlan, IsHeld}
use Rattle.bs_schedule.proofs.Relabel.{map_map}

first_map : (r q : Starts) (g : ℕ → ℕ) (i : ℕ) (js : List ℕ) → ((j : ℕ) → Mem j js → Comes r i j → Comes q (g i) (g j)) → First r i js → First q (g i) (map g js)
first_map r q g i [] h f = tt
first_map r q g i (j ∷ js) h f = (h j (inl refl) f.0, first_map r q g i js (λ k m. h k (inr m)) f.1)

runs_map : (r q e f s z : Starts) (g : ℕ → ℕ) (last : ℕ) (is : List ℕ) → ((j : ℕ) → Mem j is → (r j ≡ q (g j)) × (e j ≡ f (g j)) × (s j ≡ z (g j))) → ((i j : ℕ) → Mem i is → Mem j is → Comes r i j → Comes q (g i) (g j)) → Runs r e s last is → Runs q f z last (map g is)
runs_map r q e f s z g last [] h c w = tt
runs_map r q e f s z g last (i ∷ is) h c w =
    let known = h i (inl refl) in
    let rest : Runs q f z (e i) (map g is) = runs_map r q e f s z g (e i) is (λ k m. h k (inr m)) (λ j k m n. c j k (inr m) (inr n)) w.2 in
    (sym known.2 ∙ w.0 ∙ ap (λ x. max x last) known.0, first_map r q g i is (λ j m. c i j (inl refl) (inr m)) w.1, rw known.1 at rest)

pub line_schedule : (net : Net) (p : ℕ) (held : Ticks) (plan : Plan) (base : List ℕ) (g : ℕ → ℕ) (s z : Starts) → IsLocalPlan net p plan g → IsHeld net held plan base g → IsSchedule plan base s → ((k : ℕ) → IsRow plan k → s k ≡ z (g k)) → IsLine net p held z
line_schedule net p held plan base g s z h t w e = record {
  order = map g (w.order 0);
  all = λ i. (there i, back i);
  runs = runs_map (due_of plan base s) (ready net held z) (ends_of plan s) (end_of net z) s z g 0 (w.order 0)
      (λ k m. let r = row k m in (due_is k r, ap (λ x. x + at plan.times k) (e k r) ∙ ap (λ x. z (g k) + x) (h.times k r), e k r))
      (λ i j m n. comes i j (row i m) (row j n)) (w.runs 0);
}
  where
    row : (k : ℕ) → Mem k (w.order 0) → IsRow plan k
    row k m = ((w.all 0 k).1 m).0

    due_is : (k : ℕ) → IsRow plan k → due_of plan base s k ≡ ready net held z (g k)
    due_is k r =
        let ends : map (comes_at s) (causes_of plan k) ≡ map (λ c. end_of net z (g c.row)) (causes_of plan k) = map_same _ _ (causes_of plan k) (λ c m. same c m) in
        let moved : map (λ c. end_of net z (g c.row)) (causes_of plan k) ≡ map (end_of net z) (net.after (g k)) = sym (map_map (λ x. end_of net z (g x)) (λ (c : Cause). c.row) (causes_of plan k)) ∙ sym (map_map (end_of net z) g (causing (causes_of plan k))) ∙ ap (map (end_of net z)) (h.causes k r) in
        omega (arith, ap greatest ends, ap greatest moved, t k r)
      where
        same : (c : Cause) → Mem c (causes_of plan k) → comes_at s c ≡ end_of net z (g c.row)
        same c m = let d = h.delays k c r m in let v : s c.row ≡ z (g c.row) = e c.row d.0 in omega (arith, v, d.1)

    comes : (i j : ℕ) → IsRow plan i → IsRow plan j → Comes (due_of plan base s) i j → Comes (ready net held z) (g i) (g j)
    comes i j m n (inl l) = inl (omega (arith, l, due_is i m, due_is j n))
    comes i j m n (inr l) = inr (sym (due_is i m) ∙ l.0 ∙ due_is j n, h.rising i j m n l.1)

    there : (i : ℕ) → IsOn net p i → Mem i (map g (w.order 0))
    there i on = let d = h.all i on in rw (← d.2) (mem_map g d.0 (w.order 0) ((w.all 0 d.0).0 (d.1, h.homes d.0 d.1)))

    back : (i : ℕ) → Mem i (map g (w.order 0)) → IsOn net p i
    back i m = let d = map_mem g i (w.order 0) m in rw d.2 (h.on d.0 (row d.0 d.1))
