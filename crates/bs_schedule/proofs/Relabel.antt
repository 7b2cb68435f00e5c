-- A schedule of the plan of all rows is the consistent table of their times.
use Rattle.std.proofs.Common.{◌≡◌, ℕ, ◌+◌, max, List, [], ◌∷◌, ◌++◌, map, refl, sym, ap, ◌∙◌, arith}
use Rattle.bs_schedule.specs.declared.plan.Cause.{Cause}
use Rattle.bs_schedule.specs.declared.plan.Plan.{Plan}
use Rattle.bs_log.specs.Lists.{Mem}
use Rattle.bs_times.specs.Net.{Net, Starts, HasRow}
use Rattle.bs_times.specs.Times.{IsConsistent, greatest, end_of, arrival, ready}
use Rattle.bs_schedule.specs.Plan.{at, causes_of, due_of, comes_at, ends_of, IsSchedule}
use Rattle.bs_schedule.specs.Whole.{IsWholePlan, block_cause, mail_cause}
use Rattle.bs_times.proofs.Moved.{runs_same}

pub map_map : {A B : Type 0} (f : B → ℕ) (g : A → B) (xs : List A) → map f (map g xs) ≡ map (λ x. f (g x)) xs
map_map f g [] = refl
map_map f g (x ∷ xs) = ap (λ ys. f (g x) ∷ ys) (map_map f g xs)

-- ---- the whole log

greatest_append : (xs ys : List ℕ) → greatest (xs ++ ys) ≡ max (greatest xs) (greatest ys)
greatest_append [] ys = omega arith
greatest_append (x ∷ xs) ys = let e = greatest_append xs ys in omega (arith, e)

map_joined : {A : Type 0} (f : A → ℕ) (xs ys : List A) → map f (xs ++ ys) ≡ map f xs ++ map f ys
map_joined f [] ys = refl
map_joined f (x ∷ xs) ys = ap (λ zs. f x ∷ zs) (map_joined f xs ys)

pub whole_schedule : (net : Net) (plan : Plan) (base : List ℕ) (s : Starts) → IsWholePlan net plan → ((i : ℕ) → at base i ≡ 0) → IsSchedule plan base s → IsConsistent net s
whole_schedule net plan base s h zeros w p = record {
  order = w.order p;
  all = λ i. (λ on. (w.all p i).0 ((on.0.0, omega (arith, on.0.1, h.rows)), h.homes i on.0 ∙ on.1), λ m. let r = row i m in (r, sym (h.homes i r) ∙ ((w.all p i).1 m).1));
  runs = runs_same (due_of plan base s) (ready net (arrival net s) s) (ends_of plan s) (end_of net s) s s 0 (w.order p) (λ i m. (due_is i (row i m), ap (λ x. s i + x) (h.times i (row i m)), refl)) (w.runs p);
}
  where
    row : (i : ℕ) → Mem i (w.order p) → HasRow net i
    row i m = let on = (w.all p i).1 m in (on.0.0, omega (arith, on.0.1, h.rows))

    due_is : (i : ℕ) → HasRow net i → due_of plan base s i ≡ ready net (arrival net s) s i
    due_is i r =
        let blocks : List Cause = map (block_cause net) (net.after i) in
        let messages : List Cause = map (mail_cause net) (net.mail i) in
        let all : map (comes_at s) (causes_of plan i) ≡ map (comes_at s) blocks ++ map (comes_at s) messages = ap (map (comes_at s)) (h.causes i r) ∙ map_joined (comes_at s) blocks messages in
        let one : map (comes_at s) blocks ≡ map (end_of net s) (net.after i) = map_map (comes_at s) _ (net.after i) in
        let two : map (comes_at s) messages ≡ map (arrival net s) (net.mail i) = map_map (comes_at s) _ (net.mail i) in
        omega (arith, ap greatest all, greatest_append (map (comes_at s) blocks) (map (comes_at s) messages), ap greatest one, ap greatest two, zeros i)
