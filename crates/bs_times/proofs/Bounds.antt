-- A line gives no tick beyond its bound, and the consistent table is small.
use Rattle.std.proofs.Common.{◌≡◌, ℕ, zero, suc, ◌+◌, ◌*◌, ◌^◌, ◌<◌, ◌≤◌, max, List, [], ◌∷◌, length, inl, inr, refl, ◌∙◌, arith}
use Rattle.std.proofs.lemmas.Nat.{mul-le}
use Rattle.bs_log.specs.declared.log.MailRef.{MailRef}
use Rattle.bs_log.specs.Lists.{Mem}
use Rattle.bs_times.specs.Net.{Net, Starts, Ticks, HasRow, Causal}
use Rattle.bs_times.specs.Times.{Comes, Runs, IsOn, IsLine, IsConsistent, IsListed, end_of, arrival, ready}
use Rattle.bs_times.specs.Bounds.{IsShort, Fits, FitAt}
use Rattle.bs_times.proofs.Order.{comes_ready, first_of}
use Rattle.bs_times.proofs.Ready.{ready_most}
use Rattle.bs_times.proofs.Build.{rest, rest_most, rest_less}

-- ---- how long a line's rows take together

abbrev pub busy : Net → List ℕ → ℕ
busy net [] = 0
busy net (i ∷ is) = net.duration i + busy net is

not_before_itself : (r : Starts) (i : ℕ) → Comes r i i → ⊥
not_before_itself r i (inl h) = omega (arith, h)
not_before_itself r i (inr h) = omega (arith, h.1)

-- rows in their order are different rows.
count : (n : ℕ) (r e s : Starts) (last : ℕ) (is : List ℕ) → Runs r e s last is → ((i : ℕ) → Mem i is → (1 ≤ i) × (i ≤ n)) → length is + rest is n ≤ n
count n r e s last [] h k = omega (arith, rest_most [] n)
count n r e s last (i ∷ is) h k =
    let less = rest_less i is n (k i (inl refl)).0 (k i (inl refl)).1 (λ m. not_before_itself r i (first_of r i i is h.1 m)) in
    omega (arith, less, count n r e s (e i) is h.2 (λ j m. k j (inr m)))

busy_most : (net : Net) (b : ℕ) (is : List ℕ) → ((i : ℕ) → Mem i is → net.duration i ≤ b) → busy net is ≤ length is * b
busy_most net b [] h = omega arith
busy_most net b (i ∷ is) h = omega (arith, h i (inl refl), busy_most net b is (λ j m. h j (inr m)))

pub busy_short : (net : Net) (p : ℕ) (held : Ticks) (s : Starts) → IsShort net → (line : IsLine net p held s) → busy net line.order ≤ 2 ^ 66
busy_short net p held s short line =
    let most = busy_most net (2 ^ 48) line.order (λ i m. let d = short.duration i ((line.all i).1 m).0 in omega (arith, d)) in
    let few = count net.rows (ready net held s) (end_of net s) s 0 line.order line.runs (λ i m. ((line.all i).1 m).0) in
    let product = mul-le (length line.order) (2 ^ 48) 262144 (2 ^ 48) (omega (arith, few, short.rows)) (omega arith) in
    omega (arith, most, product)

-- a row ends at most that long after its ready tick.
late : (net : Net) (r s : Starts) (last : ℕ) (is : List ℕ) → Runs r (end_of net s) s last is → (i : ℕ) → Mem i is → s i + net.duration i ≤ max (r i) last + busy net is
late net r s last [] h i m = absurd m
late net r s last (k ∷ is) h i (inl e) = rw e (omega (arith, h.0))
late net r s last (k ∷ is) h i (inr m) = omega (arith, h.0, late net r s (s k + net.duration k) is h.2 i m, comes_ready r k i (first_of r k i is h.1 m))

pub late_end : (net : Net) (p : ℕ) (held : Ticks) (s : Starts) → IsShort net → IsLine net p held s → (i : ℕ) → IsOn net p i → end_of net s i ≤ ready net held s i + 2 ^ 66
late_end net p held s short line i on = omega (arith, late net (ready net held s) s 0 line.order line.runs i ((line.all i).0 on), busy_short net p held s short line)

-- ---- one line

module _ (net : Net) (c : Causal net) (short : IsShort net) (p most : ℕ) (held : Ticks) (s : Starts) (line : IsLine net p held s) (fits : FitAt net p most held) where
  ready_bound : (d i : ℕ) → IsOn net p i → net.depth i ≤ suc d → ready net held s i ≤ most + d * 2 ^ 67
  ready_bound zero i on shallow = ready_most net held s i (most + 0 * 2 ^ 67)
      (λ x m. let known = c.after i x on.0 m in omega (arith, (short.depth x known.0).0, known.2, shallow))
      (λ m l. let known = c.mail i m on.0 l in omega (arith, (short.depth m.row known.0).0, known.1, shallow))
  ready_bound (suc d) i on shallow = ready_most net held s i (most + suc d * 2 ^ 67)
      (λ x m.
      let known = c.after i x on.0 m in
      let there : IsOn net p x = (known.0, known.1 ∙ on.1) in
      let before = ready_bound d x there (omega (arith, known.2, shallow)) in
      omega (arith, before, late_end net p held s short line x there))
      (λ m l.
      let known = c.mail i m on.0 l in
      let product = mul-le (net.depth m.row) (2 ^ 67) (suc d) (2 ^ 67) (omega (arith, known.1, shallow)) (omega arith) in
      omega (arith, product, fits m (i, on.0, l) (known.2 ∙ on.1)))

  -- a row ends half a step below the bound of what it sends.
  end_bound : (d i : ℕ) → net.depth i ≡ d → IsOn net p i → end_of net s i + 2 ^ 66 ≤ most + net.depth i * 2 ^ 67
  end_bound zero i e on = let deep = (short.depth i on.0).0 in absurd (omega (arith, deep, e))
  end_bound (suc d) i e on =
      let before = ready_bound d i on (omega (arith, e)) in
      rw e (omega (arith, before, late_end net p held s short line i on))

  pub line_ends : (i : ℕ) → IsOn net p i → end_of net s i ≤ most + net.depth i * 2 ^ 67
  line_ends i on = omega (arith, end_bound (net.depth i) i refl on)

  pub line_fits : (m : MailRef) → IsListed net m → net.home m.row ≡ p → Fits net most m (arrival net s m)
  line_fits m listed e =
      let on : IsOn net p m.row = ((c.mail listed.0 m listed.1 listed.2).0, e) in
      omega (arith, end_bound (net.depth m.row) m.row refl on, short.travel m listed)

-- ---- the consistent table

module _ (net : Net) (c : Causal net) (short : IsShort net) (s : Starts) (table : IsConsistent net s) where
  early : (d i : ℕ) → HasRow net i → net.depth i ≤ suc d → ready net (arrival net s) s i ≤ d * 2 ^ 67
  early zero i has shallow = ready_most net (arrival net s) s i (0 * 2 ^ 67)
      (λ x m. let known = c.after i x has m in omega (arith, (short.depth x known.0).0, known.2, shallow))
      (λ m l. let known = c.mail i m has l in omega (arith, (short.depth m.row known.0).0, known.1, shallow))
  early (suc d) i has shallow = ready_most net (arrival net s) s i (suc d * 2 ^ 67)
      (λ x m.
      let known = c.after i x has m in
      let before = early d x known.0 (omega (arith, known.2, shallow)) in
      omega (arith, before, late_end net (net.home x) (arrival net s) s short (table (net.home x)) x (known.0, refl)))
      (λ m l.
      let known = c.mail i m has l in
      let before = early d m.row known.0 (omega (arith, known.1, shallow)) in
      omega (arith, before, short.travel m (i, has, l), late_end net (net.home m.row) (arrival net s) s short (table (net.home m.row)) m.row (known.0, refl)))

  pub ends_early : (i : ℕ) → HasRow net i → end_of net s i < 2 ^ 109
  ends_early i has =
      let before = early 262144 i has (omega (arith, (short.depth i has).1)) in
      omega (arith, before, late_end net (net.home i) (arrival net s) s short (table (net.home i)) i (has, refl))

  pub arrivals_early : (m : MailRef) → IsListed net m → arrival net s m < 2 ^ 107
  arrivals_early m listed =
      let has = (c.mail listed.0 m listed.1 listed.2).0 in
      let before = early 262144 m.row has (omega (arith, (short.depth m.row has).1)) in
      omega (arith, before, short.travel m listed, late_end net (net.home m.row) (arrival net s) s short (table (net.home m.row)) m.row (has, refl))
