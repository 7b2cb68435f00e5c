-- A wave that changes nothing gives the consistent table.
use Rattle.std.proofs.Common.{◌≡◌, ℕ, max, List, [], ◌∷◌, inl, inr, map, refl, sym, ap, ◌∙◌}
use Rattle.bs_log.specs.Lists.{Mem}
use Rattle.bs_times.specs.Net.{Net, Starts, Ticks, HasRow, Causal}
use Rattle.bs_times.specs.Times.{First, Runs, IsLine, IsTable, IsConsistent, IsWave, SameTicks, greatest, end_of, arrival, ready}
use Rattle.bs_times.proofs.Order.{comes_same}

first_same : (r q : Starts) (i : ℕ) (js : List ℕ) → r i ≡ q i → ((j : ℕ) → Mem j js → r j ≡ q j) → First r i js → First q i js
first_same r q i [] e h f = f
first_same r q i (j ∷ js) e h f = (comes_same r q i j e (h j (inl refl)) f.0, first_same r q i js e (λ k m. h k (inr m)) f.1)

runs_same : (r q e s : Starts) (last : ℕ) (is : List ℕ) → ((j : ℕ) → Mem j is → r j ≡ q j) → Runs r e s last is → Runs q e s last is
runs_same r q e s last [] h f = f
runs_same r q e s last (i ∷ is) h f = (rw (← h i (inl refl)) f.0, first_same r q i is (h i (inl refl)) (λ k m. h k (inr m)) f.1, runs_same r q e s (e i) is (λ k m. h k (inr m)) f.2)

map_same : {A : Type 0} (f g : A → ℕ) (xs : List A) → ((x : A) → Mem x xs → f x ≡ g x) → map f xs ≡ map g xs
map_same f g [] h = refl
map_same f g (x ∷ xs) h = rw (h x (inl refl), map_same f g xs (λ y m. h y (inr m))) refl

pub ready_same : (net : Net) (held given : Ticks) (s : Starts) → SameTicks net held given → (i : ℕ) → HasRow net i → ready net held s i ≡ ready net given s i
ready_same net held given s h i has = ap (λ xs. max (greatest (map (end_of net s) (net.after i))) (greatest xs)) (map_same held given (net.mail i) (λ m k. h m (i, has, k)))

pub table_same : (net : Net) (held given : Ticks) (s : Starts) → SameTicks net held given → IsTable net held s → IsTable net given s
table_same net held given s h table p = let line : IsLine net p held s = table p in record {
  order = line.order;
  all = line.all;
  runs = runs_same (ready net held s) (ready net given s) (end_of net s) s 0 line.order (λ j m. ready_same net held given s h j ((line.all j).1 m).0) line.runs;
}

pub settled_is_consistent : (net : Net) (held given : Ticks) → Causal net → (wave : IsWave net held given) → SameTicks net given held → IsConsistent net wave.table
settled_is_consistent net held given c wave h = table_same net held (arrival net wave.table) wave.table (λ m listed. sym (h m listed) ∙ wave.arrives m listed) wave.lines
