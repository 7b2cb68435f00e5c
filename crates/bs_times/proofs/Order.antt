-- What the order of a line says of its starts, without the order.
use Rattle.std.proofs.Common.{◌≡◌, ℕ, ◌+◌, ◌≤◌, max, List, [], ◌∷◌, ◌⊎◌, inl, inr, refl, sym, ap, ◌∙◌, arith}
use Rattle.bs_log.specs.Lists.{Mem}
use Rattle.bs_times.specs.Net.{Net, Starts, Ticks}
use Rattle.bs_times.specs.Times.{Comes, First, Runs, IsOn, IsLine, end_of, ready}

pub apart : (r : Starts) (i j : ℕ) → Comes r i j → i ≡ j → ⊥
apart r i j (inl h) e = omega (arith, h, ap r e)
apart r i j (inr h) e = omega (arith, h.1, e)

pub one_way : (r : Starts) (i j : ℕ) → Comes r i j → Comes r j i → ⊥
one_way r i j (inl h) (inl k) = omega arith
one_way r i j (inl h) (inr k) = omega (arith, k.0)
one_way r i j (inr h) (inl k) = omega (arith, h.0)
one_way r i j (inr h) (inr k) = omega (arith, h.1, k.1)

pub comes_ready : (r : Starts) (i j : ℕ) → Comes r i j → r i ≤ r j
comes_ready r i j (inl h) = omega arith
comes_ready r i j (inr h) = omega (arith, h.0)

pub comes_same : (r q : Starts) (i j : ℕ) → r i ≡ q i → r j ≡ q j → Comes r i j → Comes q i j
comes_same r q i j e f (inl h) = inl (omega arith)
comes_same r q i j e f (inr h) = inr (sym e ∙ h.0 ∙ f, h.1)

pub first_of : (r : Starts) (i j : ℕ) (js : List ℕ) → First r i js → Mem j js → Comes r i j
first_of r i j [] h m = absurd m
first_of r i j (k ∷ js) h (inl e) = rw e h.0
first_of r i j (k ∷ js) h (inr m) = first_of r i j js h.1 m

later : (r e s : Starts) → ((i : ℕ) → s i ≤ e i) → (last : ℕ) (is : List ℕ) → Runs r e s last is → (j : ℕ) → Mem j is → last ≤ s j
later r e s g last [] h j m = absurd m
later r e s g last (i ∷ is) h j (inl q) = rw q (omega (arith, h.0))
later r e s g last (i ∷ is) h j (inr m) = omega (arith, h.0, g i, later r e s g (e i) is h.2 j m)

pub at_ready : (r e s : Starts) (last : ℕ) (is : List ℕ) → Runs r e s last is → (j : ℕ) → Mem j is → r j ≤ s j
at_ready r e s last [] h j m = absurd m
at_ready r e s last (i ∷ is) h j (inl q) = rw q (omega (arith, h.0))
at_ready r e s last (i ∷ is) h j (inr m) = at_ready r e s (e i) is h.2 j m

follows : (r e s : Starts) → ((i : ℕ) → s i ≤ e i) → (last : ℕ) (is : List ℕ) → Runs r e s last is → (i j : ℕ) → Mem i is → Mem j is → Comes r i j → e i ≤ s j
follows r e s g last [] h i j m n c = absurd m
follows r e s g last (k ∷ is) h i j (inl p) (inl q) c = absurd (apart r i j c (p ∙ sym q))
follows r e s g last (k ∷ is) h i j (inl p) (inr n) c = rw p (later r e s g (e k) is h.2 j n)
follows r e s g last (k ∷ is) h i j (inr m) (inl q) c = absurd (one_way r i k (rw q at c) (first_of r k i is h.1 m))
follows r e s g last (k ∷ is) h i j (inr m) (inr n) c = follows r e s g (e k) is h.2 i j m n c

abbrev Cause : (r e s : Starts) (last : ℕ) (is : List ℕ) → ℕ → Type 0
Cause r e s last is i = (s i ≡ r i) ⊎ ((s i ≡ last) ⊎ ((j : ℕ) × Mem j is × Comes r j i × (s i ≡ e j)))

cause : (r e s : Starts) (last : ℕ) (is : List ℕ) → Runs r e s last is → (i : ℕ) → Mem i is → Cause r e s last is i
cause r e s last [] h i m = absurd m
cause r e s last (k ∷ is) h i (inl p) = rw p (by_max (r k) last (s k) h.0)
  where
    by_max : (a b c : ℕ) → c ≡ max a b → (c ≡ a) ⊎ ((c ≡ b) ⊎ ((j : ℕ) × Mem j (k ∷ is) × Comes r j k × (c ≡ e j)))
    by_max a b c q = grind arith
cause r e s last (k ∷ is) h i (inr m) = go (cause r e s (e k) is h.2 i m)
  where
    go : Cause r e s (e k) is i → Cause r e s last (k ∷ is) i
    go (inl q) = inl q
    go (inr (inl q)) = inr (inr (k, inl refl, first_of r k i is h.1 m, q))
    go (inr (inr d)) = inr (inr (d.0, inr d.1, d.2, d.3))

-- the same without the list
pub record Packed (net : Net) (p : ℕ) (r s : Starts) : Type 0 where
  pub ready : (i : ℕ) → IsOn net p i → r i ≤ s i
  pub follows : (i j : ℕ) → IsOn net p i → IsOn net p j → Comes r i j → s i + net.duration i ≤ s j
  pub cause : (i : ℕ) → IsOn net p i → (s i ≡ r i) ⊎ ((j : ℕ) × IsOn net p j × Comes r j i × (s i ≡ s j + net.duration j))

pub packed : (net : Net) (p : ℕ) (held : Ticks) (s : Starts) → IsLine net p held s → Packed net p (ready net held s) s
packed net p held s line = record {
  ready = λ i on. at_ready _ _ _ 0 line.order line.runs i ((line.all i).0 on);
  follows = λ i j on jn c. follows _ (end_of net s) _ (λ k. omega arith) 0 line.order line.runs i j ((line.all i).0 on) ((line.all j).0 jn) c;
  cause = λ i on. go i on (cause _ (end_of net s) _ 0 line.order line.runs i ((line.all i).0 on));
}
  where
    r : Starts
    r = ready net held s

    go : (i : ℕ) → IsOn net p i → Cause (ready net held s) (end_of net s) s 0 line.order i → (s i ≡ ready net held s i) ⊎ ((j : ℕ) × IsOn net p j × Comes (ready net held s) j i × (s i ≡ s j + net.duration j))
    go i on (inl q) = inl q
    go i on (inr (inl q)) = inl (omega (arith, q, at_ready _ _ _ 0 line.order line.runs i ((line.all i).0 on)))
    go i on (inr (inr d)) = inr (d.0, (line.all d.0).1 d.1, d.2, d.3)
