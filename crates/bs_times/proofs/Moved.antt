-- A line's table stays one where its rows' starts and its messages' ticks are the same.
use Rattle.std.proofs.Common.{◌≡◌, ℕ, ◌+◌, max, List, [], ◌∷◌, inl, inr, map, refl, sym, ap, ◌∙◌}
use Rattle.bs_log.specs.declared.log.MailRef.{MailRef}
use Rattle.bs_log.specs.Lists.{Mem}
use Rattle.bs_times.specs.Net.{Net, Starts, Ticks, Causal}
use Rattle.bs_times.specs.Times.{First, Runs, IsOn, IsLine, IsTable, IsListed, end_of, ready}
use Rattle.bs_times.proofs.Order.{comes_same}

first_same : (r q : Starts) (i : ℕ) (js : List ℕ) → r i ≡ q i → ((j : ℕ) → Mem j js → r j ≡ q j) → First r i js → First q i js
first_same r q i [] e h f = f
first_same r q i (j ∷ js) e h f = (comes_same r q i j e (h j (inl refl)) f.0, first_same r q i js e (λ k m. h k (inr m)) f.1)

pub runs_same : (r q e f s z : Starts) (last : ℕ) (is : List ℕ) → ((j : ℕ) → Mem j is → (r j ≡ q j) × (e j ≡ f j) × (s j ≡ z j)) → Runs r e s last is → Runs q f z last is
runs_same r q e f s z last [] h w = w
runs_same r q e f s z last (i ∷ is) h w =
    let known = h i (inl refl) in
    let rest : Runs q f z (e i) is = runs_same r q e f s z (e i) is (λ k m. h k (inr m)) w.2 in
    (sym known.2 ∙ w.0 ∙ ap (λ x. max x last) known.0, first_same r q i is known.0 (λ k m. (h k (inr m)).0) w.1, rw known.1 at rest)

pub map_same : {A : Type 0} (f g : A → ℕ) (xs : List A) → ((x : A) → Mem x xs → f x ≡ g x) → map f xs ≡ map g xs
map_same f g [] h = refl
map_same f g (x ∷ xs) h = rw (h x (inl refl), map_same f g xs (λ y m. h y (inr m))) refl

pub ready_moved : (net : Net) (held given : Ticks) (s z : Starts) (i : ℕ) → ((x : ℕ) → Mem x (net.after i) → s x ≡ z x) → ((m : MailRef) → Mem m (net.mail i) → held m ≡ given m) → ready net held s i ≡ ready net given z i
ready_moved net held given s z i h k = rw (map_same (end_of net s) (end_of net z) (net.after i) (λ x m. ap (λ y. y + net.duration x) (h x m)), map_same held given (net.mail i) k) refl

pub line_moved : (net : Net) (p : ℕ) (held given : Ticks) (s z : Starts) → Causal net → ((m : MailRef) → IsListed net m → net.goes_to m ≡ p → held m ≡ given m) → ((i : ℕ) → IsOn net p i → s i ≡ z i) → IsLine net p held s → IsLine net p given z
line_moved net p held given s z c h k line = record {
  order = line.order;
  all = line.all;
  runs = runs_same (ready net held s) (ready net given z) (end_of net s) (end_of net z) s z 0 line.order (λ j m.
      let on : IsOn net p j = (line.all j).1 m in (
        ready_moved net held given s z j
            (λ x l. let known = c.after j x on.0 l in k x (known.0, known.1 ∙ on.1))
            (λ m' l. h m' (j, on.0, l) ((c.mail j m' on.0 l).2 ∙ on.1)),
        ap (λ x. x + net.duration j) (k j on),
        k j on,
      )) line.runs;
}

-- lines that are given one by one make a table
abbrev pub from_lines : (net : Net) (held : Ticks) → ((p : ℕ) → (s : Starts) × IsLine net p held s) → Starts
from_lines net held lines i = (lines (net.home i)).0 i

pub table_from_lines : (net : Net) (held : Ticks) → Causal net → (lines : (p : ℕ) → (s : Starts) × IsLine net p held s) → IsTable net held (from_lines net held lines)
table_from_lines net held c lines p = line_moved net p held held (lines p).0 (from_lines net held lines) c (λ m l e. refl) (λ i on. ap (λ k. (lines k).0 i) (sym on.1)) (lines p).1
