-- A table can be computed: of the rows whose causes have started, the one of least (ready tick, number) starts next.
use Rattle.std.proofs.Common.{subst, ◌≡◌, ◌==◌, ℕ, zero, suc, ◌+◌, ◌<◌, ◌≤◌, max, cond, List, [], ◌∷◌, ◌++◌, ◌⊎◌, ◌↔◌, inl, inr, refl, sym, ap, ◌∙◌, arith}
use Rattle.std.proofs.lemmas.Bool.{cases_eq, eq-eqb, ne_eqb, cond-true, cond-false}
use Rattle.bs_log.specs.Lists.{Mem}
use Rattle.bs_times.specs.Net.{Net, Starts, HasRow}
use Rattle.bs_times.specs.Times.{Comes, First, Runs, IsOn, end_of}
use Rattle.bs_times.proofs.Order.{comes_same}
use Rattle.bs_times.proofs.Moved.{runs_same}
use Rattle.bs_times.proofs.Members.{cases_le, mem_left, mem_right, mem_cases, mem_or_not}

-- ---- one more row at the end of a line

abbrev pub last_end : Starts → ℕ → List ℕ → ℕ
last_end e last [] = last
last_end e last (i ∷ is) = last_end e (e i) is

first_push : (r : Starts) (i k : ℕ) (js : List ℕ) → First r i js → Comes r i k → First r i (js ++ k ∷ [])
first_push r i k [] f c = (c, tt)
first_push r i k (j ∷ js) f c = (f.0, first_push r i k js f.1 c)

pub runs_push : (r e s : Starts) (last k : ℕ) (is : List ℕ) → Runs r e s last is → s k ≡ max (r k) (last_end e last is) → ((j : ℕ) → Mem j is → Comes r j k) → Runs r e s last (is ++ k ∷ [])
runs_push r e s last k [] h g c = (g, tt, tt)
runs_push r e s last k (i ∷ is) h g c = (h.0, first_push r i k is h.1 (c i (inl refl)), runs_push r e s (e i) k is h.2 g (λ j m. c j (inr m)))

pub last_end_same : (e f : Starts) (last : ℕ) (is : List ℕ) → ((j : ℕ) → Mem j is → e j ≡ f j) → last_end e last is ≡ last_end f last is
last_end_same e f last [] h = refl
last_end_same e f last (i ∷ is) h = last_end_same e f (e i) is (λ j m. h j (inr m)) ∙ ap (λ x. last_end f x is) (h i (inl refl))

pub last_end_push : (e : Starts) (last k : ℕ) (is : List ℕ) → last_end e last (is ++ k ∷ []) ≡ e k
last_end_push e last k [] = refl
last_end_push e last k (i ∷ is) = last_end_push e (e i) k is

-- ---- the order of (ready tick, number)

abbrev pub Least-Comes : Starts → ℕ → ℕ → Type 0
Least-Comes r i k = (i ≡ k) ⊎ Comes r i k

pub comes_total : (r : Starts) (i k : ℕ) → Least-Comes r i k ⊎ Least-Comes r k i
comes_total r i k = go (cases_le (r i) (r k)) (cases_le (r k) (r i)) (cases_le i k) (cases_le k i)
  where
    go : (r i ≤ r k) ⊎ (r k < r i) → (r k ≤ r i) ⊎ (r i < r k) → (i ≤ k) ⊎ (k < i) → (k ≤ i) ⊎ (i < k) → Least-Comes r i k ⊎ Least-Comes r k i
    go (inr a) b c d = inr (inr (inl a))
    go (inl a) (inr b) c d = inl (inr (inl b))
    go (inl a) (inl b) (inr c) d = inr (inr (inr (omega arith, c)))
    go (inl a) (inl b) (inl c) (inr d) = inl (inr (inr (omega arith, d)))
    go (inl a) (inl b) (inl c) (inl d) = inl (inl (omega arith))

pub comes_chain : (r : Starts) (i j k : ℕ) → Comes r i j → Comes r j k → Comes r i k
comes_chain r i j k (inl a) (inl b) = inl (omega arith)
comes_chain r i j k (inl a) (inr b) = inl (omega (arith, b.0))
comes_chain r i j k (inr a) (inl b) = inl (omega (arith, a.0))
comes_chain r i j k (inr a) (inr b) = inr (a.0 ∙ b.0, omega (arith, a.1, b.1))

pub least_chain : (r : Starts) (i j k : ℕ) → Least-Comes r i j → Least-Comes r j k → Least-Comes r i k
least_chain r i j k (inl a) (inl b) = inl (a ∙ b)
least_chain r i j k (inl a) (inr b) = inr (rw a b)
least_chain r i j k (inr a) (inl b) = inr (rw b at a)
least_chain r i j k (inr a) (inr b) = inr (comes_chain r i j k a b)

-- the least of the numbers to n that pass
abbrev pub Found : ℕ → (ℕ → Type 0) → (ℕ → ℕ → Type 0) → Type 0
Found n E le = ((i : ℕ) → 1 ≤ i → i ≤ n → E i → ⊥) ⊎ ((x : ℕ) × (1 ≤ x) × (x ≤ n) × E x × ((i : ℕ) → 1 ≤ i → i ≤ n → E i → le x i))

up_to : (n : ℕ) (P : ℕ → Type 0) → ((i : ℕ) → 1 ≤ i → i ≤ n → P i) → P (suc n) → (i : ℕ) → 1 ≤ i → i ≤ suc n → P i
up_to n P h e i l k = there (cases_le i n)
  where
    there : (i ≤ n) ⊎ (n < i) → P i
    there (inl le) = h i l le
    there (inr lt) = let same : suc n ≡ i = omega (arith, lt, k) in subst P same e

pub found : (n : ℕ) (E : ℕ → Type 0) (le : ℕ → ℕ → Type 0) → ((i : ℕ) → E i ⊎ (E i → ⊥)) → ((i k : ℕ) → le i k ⊎ le k i) → ((i j k : ℕ) → le i j → le j k → le i k) → Found n E le
found zero E le dec total chain = inl (λ i h k. omega (arith, h, k))
found (suc n) E le dec total chain = go (found n E le dec total chain) (dec (suc n))
  where
    itself : (i : ℕ) → le i i ⊎ le i i → le i i
    itself i (inl x) = x
    itself i (inr x) = x

    self : (i : ℕ) → le i i
    self i = itself i (total i i)

    closer : (d : (x : ℕ) × (1 ≤ x) × (x ≤ n) × E x × ((i : ℕ) → 1 ≤ i → i ≤ n → E i → le x i)) → E (suc n) → le d.0 (suc n) ⊎ le (suc n) d.0 → Found (suc n) E le
    closer d e (inl a) = inr (d.0, d.1, omega (arith, d.2), d.3, up_to n (λ i. E i → le d.0 i) d.4 (λ g. a))
    closer d e (inr a) = inr (suc n, omega arith, omega arith, e, up_to n (λ i. E i → le (suc n) i) (λ i l k g. chain (suc n) d.0 i a (d.4 i l k g)) (λ g. self (suc n)))

    go : Found n E le → E (suc n) ⊎ (E (suc n) → ⊥) → Found (suc n) E le
    go (inl all) (inr no') = inl (up_to n (λ i. E i → ⊥) all no')
    go (inl all) (inl e) = inr (suc n, omega arith, omega arith, e, up_to n (λ i. E i → le (suc n) i) (λ i l k g. absurd (all i l k g)) (λ g. self (suc n)))
    go (inr d) (inr no') = inr (d.0, d.1, omega (arith, d.2), d.3, up_to n (λ i. E i → le d.0 i) d.4 (λ g. absurd (no' g)))
    go (inr d) (inl e) = closer d e (total d.0 (suc n))

-- ---- what is computed

pub record Plan (net : Net) (R : Starts → Starts) (causes : ℕ → List ℕ) : Type 0 where
  pub local : (s z : Starts) (i : ℕ) → HasRow net i → ((x : ℕ) → Mem x (causes i) → s x ≡ z x) → R s i ≡ R z i
  pub later : (s : Starts) (i x : ℕ) → HasRow net i → Mem x (causes i) → s x < R s i
  pub shallow : (i x : ℕ) → HasRow net i → Mem x (causes i) → HasRow net x × (net.depth x < net.depth i)

abbrev pub Enabled : (ℕ → List ℕ) → List ℕ → ℕ → Type 0
Enabled causes done k = (x : ℕ) → Mem x (causes k) → Mem x done

pub record Part (net : Net) (R : Starts → Starts) (causes : ℕ → List ℕ) : Type 0 where
  pub s : Starts
  pub done : List ℕ
  pub line : ℕ → List ℕ
  pub row : (i : ℕ) → Mem i done → HasRow net i
  pub closed : (i : ℕ) → Mem i done → Enabled causes done i
  pub member : (p i : ℕ) → Mem i (line p) ↔ (Mem i done × (net.home i ≡ p))
  pub runs : (p : ℕ) → Runs (R s) (end_of net s) s 0 (line p)
  pub front : (j k : ℕ) → Mem j done → HasRow net k → (Mem k done → ⊥) → Enabled causes done k → Comes (R s) j k

abbrev pub no_part : (net : Net) (R : Starts → Starts) (causes : ℕ → List ℕ) → Part net R causes
no_part net R causes = record {
  s = λ i. 0;
  done = [];
  line = λ p. [];
  row = λ i m. absurd m;
  closed = λ i m. absurd m;
  member = λ p i. (λ m. absurd m, λ m. absurd m.0);
  runs = λ p. tt;
  front = λ j k m. absurd m;
}

pub split : (i : ℕ) (xs done : List ℕ) → ((x : ℕ) → Mem x xs → Mem x (i ∷ done)) → ((x : ℕ) → Mem x xs → Mem x done) ⊎ Mem i xs
split i [] done h = inl (λ x m. absurd m)
split i (y ∷ ys) done h = go (h y (inl refl)) (split i ys done (λ x m. h x (inr m)))
  where
    all : Mem y done → ((x : ℕ) → Mem x ys → Mem x done) → (x : ℕ) → Mem x (y ∷ ys) → Mem x done
    all a b x (inl e) = rw e a
    all a b x (inr m) = b x m

    go : Mem y (i ∷ done) → ((x : ℕ) → Mem x ys → Mem x done) ⊎ Mem i ys → ((x : ℕ) → Mem x (y ∷ ys) → Mem x done) ⊎ Mem i (y ∷ ys)
    go (inl e) k = inr (inl (sym e))
    go (inr m) (inl k) = inl (all m k)
    go (inr m) (inr k) = inr (inr k)

pub record Extended (net : Net) (R : Starts → Starts) (causes : ℕ → List ℕ) (a : Part net R causes) (i : ℕ) : Type 0 where
  pub more : Part net R causes
  pub done : more.done ≡ i ∷ a.done
  pub s_new : more.s i ≡ max (R a.s i) (last_end (end_of net a.s) 0 (a.line (net.home i)))
  pub s_old : (k : ℕ) → Mem k a.done → a.s k ≡ more.s k
  pub line_new : (p : ℕ) → net.home i ≡ p → more.line p ≡ a.line p ++ i ∷ []
  pub line_old : (p : ℕ) → (net.home i ≡ p → ⊥) → more.line p ≡ a.line p

pub extend : (net : Net) (R : Starts → Starts) (causes : ℕ → List ℕ) → Plan net R causes → (a : Part net R causes) (i : ℕ) → HasRow net i → (Mem i a.done → ⊥) → Enabled causes a.done i → ((k : ℕ) → HasRow net k → (Mem k a.done → ⊥) → Enabled causes a.done k → Least-Comes (R a.s) i k) → Extended net R causes a i
extend net R causes plan a i has new on least = record {
  more = record {
    s = z;
    done = i ∷ a.done;
    line = line;
    row = row;
    closed = closed;
    member = λ p k. member p k (cases_eq (net.home i) p);
    runs = λ p. runs p (cases_eq (net.home i) p);
    front = front;
  };
  done = refl;
  s_new = z_new;
  s_old = z_old;
  line_new = line_new;
  line_old = line_old;
}
  where
    v : ℕ
    v = max (R a.s i) (last_end (end_of net a.s) 0 (a.line (net.home i)))

    z : Starts
    z k = cond (k == i) v (a.s k)

    line : ℕ → List ℕ
    line p = cond (net.home i == p) (a.line p ++ i ∷ []) (a.line p)

    z_new : z i ≡ v
    z_new = cond-true _ _ _ (eq-eqb i i refl)

    z_old : (k : ℕ) → Mem k a.done → a.s k ≡ z k
    z_old k m = sym (cond-false _ _ _ (ne_eqb k i (λ e. new (rw e at m))))

    R_old : (k : ℕ) → HasRow net k → Enabled causes a.done k → R a.s k ≡ R z k
    R_old k h e = plan.local a.s z k h (λ x m. z_old x (e x m))

    line_new : (p : ℕ) → net.home i ≡ p → line p ≡ a.line p ++ i ∷ []
    line_new p e = cond-true _ _ _ (eq-eqb (net.home i) p e)

    line_old : (p : ℕ) → (net.home i ≡ p → ⊥) → line p ≡ a.line p
    line_old p e = cond-false _ _ _ (ne_eqb (net.home i) p e)

    row : (k : ℕ) → Mem k (i ∷ a.done) → HasRow net k
    row k (inl e) = rw e has
    row k (inr m) = a.row k m

    closed : (k : ℕ) → Mem k (i ∷ a.done) → Enabled causes (i ∷ a.done) k
    closed k (inl e) x m = inr (on x (rw e at m))
    closed k (inr d) x m = inr (a.closed k d x m)

    put : (p k : ℕ) → net.home i ≡ p → Mem k (i ∷ a.done) → net.home k ≡ p → Mem k (a.line p ++ i ∷ [])
    put p k e (inl g) h = mem_right k (a.line p) (i ∷ []) (inl g)
    put p k e (inr m) h = mem_left k (a.line p) (i ∷ []) ((a.member p k).1 (m, h))

    got : (p k : ℕ) → net.home i ≡ p → Mem k (a.line p) ⊎ Mem k (i ∷ []) → Mem k (i ∷ a.done) × (net.home k ≡ p)
    got p k e (inl m) = let d = (a.member p k).0 m in (inr d.0, d.1)
    got p k e (inr (inl g)) = (inl g, ap net.home g ∙ e)
    got p k e (inr (inr m)) = absurd m

    keep : (p k : ℕ) → (net.home i ≡ p → ⊥) → Mem k (i ∷ a.done) → net.home k ≡ p → Mem k (a.line p)
    keep p k e (inl g) h = absurd (e (ap net.home (sym g) ∙ h))
    keep p k e (inr m) h = (a.member p k).1 (m, h)

    member : (p k : ℕ) → (net.home i ≡ p) ⊎ (net.home i ≡ p → ⊥) → Mem k (line p) ↔ (Mem k (i ∷ a.done) × (net.home k ≡ p))
    member p k (inl e) = rw (line_new p e) (λ m. got p k e (mem_cases k (a.line p) (i ∷ []) m), λ d. put p k e d.0 d.1)
    member p k (inr e) = rw (line_old p e) (λ m. let d = (a.member p k).0 m in (inr d.0, d.1), λ d. keep p k e d.0 d.1)

    old_runs : (p : ℕ) → Runs (R z) (end_of net z) z 0 (a.line p)
    old_runs p = runs_same (R a.s) (R z) (end_of net a.s) (end_of net z) a.s z 0 (a.line p) (λ j m.
        let d : Mem j a.done = ((a.member p j).0 m).0 in
        (R_old j (a.row j d) (a.closed j d), ap (λ x. x + net.duration j) (z_old j d), z_old j d)) (a.runs p)

    ends : (p : ℕ) → last_end (end_of net a.s) 0 (a.line p) ≡ last_end (end_of net z) 0 (a.line p)
    ends p = last_end_same (end_of net a.s) (end_of net z) 0 (a.line p) (λ j m. ap (λ x. x + net.duration j) (z_old j ((a.member p j).0 m).0))

    start : (p : ℕ) → net.home i ≡ p → z i ≡ max (R z i) (last_end (end_of net z) 0 (a.line p))
    start p e = z_new ∙ ap (λ x. max x (last_end (end_of net a.s) 0 (a.line (net.home i)))) (R_old i has on) ∙ ap (λ x. max (R z i) (last_end (end_of net a.s) 0 (a.line x))) e ∙ ap (λ x. max (R z i) x) (ends p)

    before_new : (j : ℕ) → Mem j a.done → Comes (R z) j i
    before_new j m = comes_same (R a.s) (R z) j i (R_old j (a.row j m) (a.closed j m)) (R_old i has on) (a.front j i m has new on)

    runs : (p : ℕ) → (net.home i ≡ p) ⊎ (net.home i ≡ p → ⊥) → Runs (R z) (end_of net z) z 0 (line p)
    runs p (inl e) = rw (line_new p e) (runs_push (R z) (end_of net z) z 0 i (a.line p) (old_runs p) (start p e) (λ j m. before_new j ((a.member p j).0 m).0))
    runs p (inr e) = rw (line_old p e) (old_runs p)

    after_new : (k : ℕ) → HasRow net k → (Mem k (i ∷ a.done) → ⊥) → Enabled causes a.done k ⊎ Mem i (causes k) → Comes (R z) i k
    after_new k h n (inl e) = strict (least k h (λ m. n (inr m)) e)
      where
        strict : Least-Comes (R a.s) i k → Comes (R z) i k
        strict (inl same) = absurd (n (inl (sym same)))
        strict (inr c) = comes_same (R a.s) (R z) i k (R_old i has on) (R_old k h e) c
    after_new k h n (inr m) = inl (omega (arith, plan.later z k i h m, z_new, R_old i has on))

    front : (j k : ℕ) → Mem j (i ∷ a.done) → HasRow net k → (Mem k (i ∷ a.done) → ⊥) → Enabled causes (i ∷ a.done) k → Comes (R z) j k
    front j k (inl e) h n on' = subst (λ x. Comes (R z) x k) (sym e) (after_new k h n (split i (causes k) a.done on'))
    front j k (inr m) h n on' = comes_chain (R z) j i k (before_new j m) (after_new k h n (split i (causes k) a.done on'))

-- ---- until all have started

abbrev one : {A B : Type 0} → A ⊎ B → ℕ
one (inl x) = 0
one (inr x) = 1

abbrev pub rest : List ℕ → ℕ → ℕ
rest done zero = 0
rest done (suc n) = rest done n + one (mem_or_not (suc n) done)

one_le : {A B : Type 0} (x : A ⊎ B) → one x ≤ 1
one_le (inl x) = omega arith
one_le (inr x) = omega arith

one_grows : {A B C : Type 0} → (A → B) → (x : A ⊎ C) (y : B ⊎ (B → ⊥)) → one y ≤ one x
one_grows f (inl x) (inl y) = omega arith
one_grows f (inl x) (inr y) = absurd (y (f x))
one_grows f (inr x) y = one_le y

one_in : {A : Type 0} → A → (x : A ⊎ (A → ⊥)) → one x ≡ 0
one_in a (inl x) = refl
one_in a (inr x) = absurd (x a)

one_out : {A : Type 0} → (A → ⊥) → (x : A ⊎ (A → ⊥)) → one x ≡ 1
one_out a (inl x) = absurd (a x)
one_out a (inr x) = refl

pub rest_most : (done : List ℕ) (n : ℕ) → rest done n ≤ n
rest_most done zero = omega arith
rest_most done (suc n) = omega (arith, rest_most done n, one_le (mem_or_not (suc n) done))

rest_grows : (i : ℕ) (done : List ℕ) (n : ℕ) → rest (i ∷ done) n ≤ rest done n
rest_grows i done zero = omega arith
rest_grows i done (suc n) = omega (arith, rest_grows i done n, one_grows (λ m. inr m) (mem_or_not (suc n) done) (mem_or_not (suc n) (i ∷ done)))

pub rest_less : (i : ℕ) (done : List ℕ) (n : ℕ) → 1 ≤ i → i ≤ n → (Mem i done → ⊥) → rest (i ∷ done) n < rest done n
rest_less i done zero h k new = omega (arith, h, k)
rest_less i done (suc n) h k new = go (λ l. rest_less i done n h l new) (cases_le i n)
  where
    go : (i ≤ n → rest (i ∷ done) n < rest done n) → (i ≤ n) ⊎ (n < i) → rest (i ∷ done) (suc n) < rest done (suc n)
    go ih (inl le) = omega (arith, ih le, one_grows (λ m. inr m) (mem_or_not (suc n) done) (mem_or_not (suc n) (i ∷ done)))
    go ih (inr lt) =
        let e : suc n ≡ i = omega (arith, lt, k) in
        omega (arith, rest_grows i done n, one_in (inl e) (mem_or_not (suc n) (i ∷ done)), one_out (λ m. new (rw e at m)) (mem_or_not (suc n) done))

all_or_not : (xs done : List ℕ) → ((x : ℕ) → Mem x xs → Mem x done) ⊎ (((x : ℕ) → Mem x xs → Mem x done) → ⊥)
all_or_not [] done = inl (λ x m. absurd m)
all_or_not (y ∷ ys) done = go (mem_or_not y done) (all_or_not ys done)
  where
    all : Mem y done → ((x : ℕ) → Mem x ys → Mem x done) → (x : ℕ) → Mem x (y ∷ ys) → Mem x done
    all a b x (inl e) = rw e a
    all a b x (inr m) = b x m

    go : Mem y done ⊎ (Mem y done → ⊥) → ((x : ℕ) → Mem x ys → Mem x done) ⊎ (((x : ℕ) → Mem x ys → Mem x done) → ⊥) → ((x : ℕ) → Mem x (y ∷ ys) → Mem x done) ⊎ (((x : ℕ) → Mem x (y ∷ ys) → Mem x done) → ⊥)
    go (inl a) (inl b) = inl (all a b)
    go (inl a) (inr n) = inr (λ h. n (λ x m. h x (inr m)))
    go (inr n) b = inr (λ h. n (h y (inl refl)))

abbrev pub Waiting : (ℕ → List ℕ) → List ℕ → ℕ → Type 0
Waiting causes done k = (Mem k done → ⊥) × Enabled causes done k

pub waiting_or_not : (causes : ℕ → List ℕ) (done : List ℕ) (k : ℕ) → Waiting causes done k ⊎ (Waiting causes done k → ⊥)
waiting_or_not causes done k = go (mem_or_not k done) (all_or_not (causes k) done)
  where
    go : Mem k done ⊎ (Mem k done → ⊥) → Enabled causes done k ⊎ (Enabled causes done k → ⊥) → Waiting causes done k ⊎ (Waiting causes done k → ⊥)
    go (inl m) b = inr (λ h. h.0 m)
    go (inr n) (inl e) = inl (n, e)
    go (inr n) (inr f) = inr (λ h. f h.1)

not_done : (done : List ℕ) (k : ℕ) → (Mem k done → ⊥) ⊎ ((Mem k done → ⊥) → ⊥)
not_done done k = go (mem_or_not k done)
  where
    go : Mem k done ⊎ (Mem k done → ⊥) → (Mem k done → ⊥) ⊎ ((Mem k done → ⊥) → ⊥)
    go (inl m) = inr (λ n. n m)
    go (inr n) = inl n

flip : (a b : ℕ) → (a ≤ b) ⊎ (b < a) → (a ≤ b) ⊎ (b ≤ a)
flip a b (inl h) = inl h
flip a b (inr h) = inr (omega arith)

-- the row of least depth that hasn't started can start
pub none_left : (net : Net) (R : Starts → Starts) (causes : ℕ → List ℕ) → Plan net R causes → (done : List ℕ) → ((i : ℕ) → 1 ≤ i → i ≤ net.rows → Waiting causes done i → ⊥) → (i : ℕ) → HasRow net i → Mem i done
none_left net R causes plan done none i has = go (found net.rows (λ k. Mem k done → ⊥) (λ x k. net.depth x ≤ net.depth k) (not_done done) (λ x k. flip (net.depth x) (net.depth k) (cases_le (net.depth x) (net.depth k))) (λ a b c h k. omega arith))
  where
    there : (k : ℕ) → Mem k done ⊎ (Mem k done → ⊥) → ((Mem k done → ⊥) → ⊥) → Mem k done
    there k (inl m) h = m
    there k (inr n) h = absurd (h n)

    go : Found net.rows (λ k. Mem k done → ⊥) (λ x k. net.depth x ≤ net.depth k) → Mem i done
    go (inl all) = there i (mem_or_not i done) (all i has.0 has.1)
    go (inr d) = absurd (none d.0 d.1 d.2 (
      d.3,
      λ y m.
          let known = plan.shallow d.0 y (d.1, d.2) m in
          there y (mem_or_not y done) (λ n. let far = d.4 y known.0.0 known.0.1 n in omega (arith, far, known.1)),
    ))

finish : (net : Net) (R : Starts → Starts) (causes : ℕ → List ℕ) → Plan net R causes → (n : ℕ) (a : Part net R causes) → rest a.done net.rows ≤ n → (b : Part net R causes) × ((i : ℕ) → HasRow net i → Mem i b.done)
finish net R causes plan zero a few = (a, λ i has. there i has (mem_or_not i a.done))
  where
    there : (i : ℕ) → HasRow net i → Mem i a.done ⊎ (Mem i a.done → ⊥) → Mem i a.done
    there i has (inl m) = m
    there i has (inr n) = absurd (let less = rest_less i a.done net.rows has.0 has.1 n in omega (arith, less, few))
finish net R causes plan (suc n) a few = go (λ b. finish net R causes plan n b) (found net.rows (Waiting causes a.done) (Least-Comes (R a.s)) (waiting_or_not causes a.done) (comes_total (R a.s)) (least_chain (R a.s)))
  where
    go : ((b : Part net R causes) → rest b.done net.rows ≤ n → (e : Part net R causes) × ((i : ℕ) → HasRow net i → Mem i e.done)) → Found net.rows (Waiting causes a.done) (Least-Comes (R a.s)) → (b : Part net R causes) × ((i : ℕ) → HasRow net i → Mem i b.done)
    go ih (inl none) = (a, none_left net R causes plan a.done none)
    go ih (inr d) =
        let more = extend net R causes plan a d.0 (d.1, d.2) d.3.0 d.3.1 (λ k has new on. d.4 k has.0 has.1 (new, on)) in
        let less : rest more.more.done net.rows ≤ n = rw more.done (let l = rest_less d.0 a.done net.rows d.1 d.2 d.3.0 in omega (arith, l, few)) in
        ih more.more less

abbrev pub Built : Net → (Starts → Starts) → Type 0
Built net R = (s : Starts) × ((p : ℕ) → (order : List ℕ) × ((i : ℕ) → IsOn net p i ↔ Mem i order) × Runs (R s) (end_of net s) s 0 order)

pub built : (net : Net) (R : Starts → Starts) (causes : ℕ → List ℕ) → Plan net R causes → Built net R
built net R causes plan = go (finish net R causes plan net.rows (no_part net R causes) (rest_most (no_part net R causes).done net.rows))
  where
    go : (b : Part net R causes) × ((i : ℕ) → HasRow net i → Mem i b.done) → Built net R
    go d = (d.0.s, λ p. (d.0.line p, λ i. (λ on. (d.0.member p i).1 (d.1 i on.0, on.1), λ m. let in' = (d.0.member p i).0 m in (d.0.row i in'.0, in'.1)), d.0.runs p))
