-- Corrections are of the messages whose ticks changed.
use Rattle.std.proofs.Common.{◌≡◌, ◌≢◌, ◌⊎◌, inl, inr, cond, List, [], ◌∷◌, refl, sym, ap, subst}
use Rattle.std.proofs.lemmas.Bool.{cases_eq, eq-eqb, ne_eqb}
use Rattle.bs_log.specs.declared.log.MailRef.{MailRef}
use Rattle.bs_log.specs.Lists.{Mem}
use Rattle.bs_times.specs.Net.{Net, Ticks}
use Rattle.bs_times.proofs.Members.{mem_cases, mem_left, mem_right}
use Rattle.bs_line.specs.declared.corrections.Correction.{Correction}
use Rattle.bs_line.specs.Line.{Corrects, changes, correction_of}

module _ (net : Net) (was tick : Ticks) where
  none_here : (m : MailRef) → was m ≡ tick m → correction_of m (net.goes_to m) (was m) (tick m) ≡ []
  none_here m e = ap (λ b. cond b [] (record { mail = m; to = net.goes_to m; was = record { 0 = was m }; tick = record { 0 = tick m } } ∷ [])) (eq-eqb (was m) (tick m) e)

  one_here : (m : MailRef) → (was m ≡ tick m → ⊥) → correction_of m (net.goes_to m) (was m) (tick m) ≡ record { mail = m; to = net.goes_to m; was = record { 0 = was m }; tick = record { 0 = tick m } } ∷ []
  one_here m n = ap (λ b. cond b [] (record { mail = m; to = net.goes_to m; was = record { 0 = was m }; tick = record { 0 = tick m } } ∷ [])) (ne_eqb (was m) (tick m) n)

  here : (m : MailRef) (c : Correction) → (was m ≡ tick m) ⊎ (was m ≡ tick m → ⊥) → Mem c (correction_of m (net.goes_to m) (was m) (tick m)) → (c.mail ≡ m) × Corrects net was tick c
  here m c (inl e) k = absurd (subst (λ cs. Mem c cs) (none_here m e) k)
  here m c (inr n) k = one (subst (λ cs. Mem c cs) (one_here m n) k)
    where
      one : Mem c (record { mail = m; to = net.goes_to m; was = record { 0 = was m }; tick = record { 0 = tick m } } ∷ []) → (c.mail ≡ m) × Corrects net was tick c
      one (inl e) = rw e (refl, record { changed = n; goes = refl; before = refl; after = refl })
      one (inr k) = absurd k

  pub sound : (ms : List MailRef) (c : Correction) → Mem c (changes net was tick ms) → Mem c.mail ms × Corrects net was tick c
  sound [] c k = absurd k
  sound (m ∷ ms) c k = go (mem_cases c (correction_of m (net.goes_to m) (was m) (tick m)) (changes net was tick ms) k) (sound ms c)
    where
      go : Mem c (correction_of m (net.goes_to m) (was m) (tick m)) ⊎ Mem c (changes net was tick ms) → (Mem c (changes net was tick ms) → Mem c.mail ms × Corrects net was tick c) → Mem c.mail (m ∷ ms) × Corrects net was tick c
      go (inl k) ih = let d = here m c (cases_eq (was m) (tick m)) k in (inl d.0, d.1)
      go (inr k) ih = let d = ih k in (inr d.0, d.1)

  pub whole : (ms : List MailRef) (m : MailRef) → Mem m ms → was m ≢ tick m → (c : Correction) × (c.mail ≡ m) × Mem c (changes net was tick ms)
  whole [] m k n = absurd k
  whole (x ∷ ms) m (inl e) n =
      let other : was x ≡ tick x → ⊥ = subst (λ y. was y ≡ tick y → ⊥) e n in
      (record { mail = x; to = net.goes_to x; was = record { 0 = was x }; tick = record { 0 = tick x } }, sym e, mem_left _ (correction_of x (net.goes_to x) (was x) (tick x)) (changes net was tick ms) (rw (one_here x other) (inl refl)))
  whole (x ∷ ms) m (inr k) n = let d = whole ms m k n in (d.0, d.1, mem_right d.0 (correction_of x (net.goes_to x) (was x) (tick x)) (changes net was tick ms) d.2)
