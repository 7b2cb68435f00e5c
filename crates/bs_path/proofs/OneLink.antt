-- A row has one link, whichever of its consistent tables is taken.
use Rattle.std.proofs.Common.{◌≡◌, ◌<◌, ◌⊎◌, inl, inr, ℕ, Option, Some, None, refl, sym, ap, subst, ◌∙◌, arith}
use Rattle.bs_log.specs.declared.log.MailRef.{MailRef}
use Rattle.bs_log.specs.Rising.{IsLower}
use Rattle.bs_times.specs.Net.{Net, Starts, HasRow, Causal}
use Rattle.bs_times.specs.Times.{IsConsistent}
use Rattle.bs_path.specs.declared.links.Link.{Link}
use Rattle.bs_path.specs.declared.links.Link.TheVariants as link
use Rattle.bs_path.specs.Chain.{Fits, IsLinkOf, comes_from, row_of_chain, step_from}
use Rattle.bs_path.proofs.Apart.{one_before}

number_cases : (a b : ℕ) → (a < b) ⊎ ((b < a) ⊎ (a ≡ b))
number_cases a b = grind arith

mail_cases : (a b : MailRef) → IsLower a b ⊎ (IsLower b a ⊎ (a ≡ b))
mail_cases a b = go (number_cases a.row b.row) (number_cases a.index b.index)
  where
    go : (a.row < b.row) ⊎ ((b.row < a.row) ⊎ (a.row ≡ b.row)) → (a.index < b.index) ⊎ ((b.index < a.index) ⊎ (a.index ≡ b.index)) → IsLower a b ⊎ (IsLower b a ⊎ (a ≡ b))
    go (inl h) k = inl (inl h)
    go (inr (inl h)) k = inr (inl (inl h))
    go (inr (inr e)) (inl k) = inl (inr (e, k))
    go (inr (inr e)) (inr (inl k)) = inr (inl (inr (sym e, k)))
    go (inr (inr e)) (inr (inr k)) = inr (inr (λ j. record { row = e j; index = k j }))

-- ---- the row that a link names

module _ (net : Net) (c : Causal net) (s : Starts) where
  -- it is a row, and starts before
  pub named : (i j : ℕ) (l : Link) → HasRow net i → Fits net s i l → comes_from l ≡ Some j → HasRow net j × (s j < s i)
  named i j link.First has f e = absurd (cc e)
  named i j (link.Processor k) has f e = let is : k ≡ j = cc e in subst (λ n. HasRow net n × (s n < s i)) is (f.0.there.0, f.0.earlier)
  named i j (link.After k) has f e =
      let is : k ≡ j = cc e in
      let row = (c.after i k has f.0).0 in
      let takes = c.duration k row in
      subst (λ n. HasRow net n × (s n < s i)) is (row, omega (arith, f.1, takes))
  named i j (link.Mail m) has f e =
      let is : m.row ≡ j = cc e in
      let takes = c.travel i m has f.0 in
      subst (λ n. HasRow net n × (s n < s i)) is ((c.mail i m has f.0).0, omega (arith, f.1, takes))

  -- a link that names none stands where a row starts at tick 0
  pub unnamed : (i : ℕ) (l : Link) → Fits net s i l → comes_from l ≡ None → (l ≡ link.First) × (s i ≡ 0)
  unnamed i link.First f e = (refl, f)
  unnamed i (link.Processor k) f e = absurd (cc e)
  unnamed i (link.After k) f e = absurd (cc e)
  unnamed i (link.Mail m) f e = absurd (cc e)

  -- where a row starts at tick 0 no other link fits
  none_at_0 : (i j : ℕ) (l : Link) → HasRow net i → Fits net s i l → comes_from l ≡ Some j → s i ≡ 0 → ⊥
  none_at_0 i j l has f e z = omega (arith, (named i j l has f e).1, z)

  module _ (table : IsConsistent net s) where
    pub one_link : (i : ℕ) (a b : Link) → HasRow net i → IsLinkOf net s i a → IsLinkOf net s i b → a ≡ b
    one_link i link.First link.First has p q = refl
    one_link i link.First (link.Processor k) has p q = absurd (none_at_0 i k (link.Processor k) has q.fits refl p.fits)
    one_link i link.First (link.After k) has p q = absurd (none_at_0 i k (link.After k) has q.fits refl p.fits)
    one_link i link.First (link.Mail n) has p q = absurd (none_at_0 i n.row (link.Mail n) has q.fits refl p.fits)
    one_link i (link.Processor j) link.First has p q = absurd (none_at_0 i j (link.Processor j) has p.fits refl q.fits)
    one_link i (link.Processor j) (link.Processor k) has p q = ap link.Processor (one_before net c s table i j k p.fits.0 q.fits.0)
    one_link i (link.Processor j) (link.After k) has p q = absurd (q.first (link.Processor j) p.fits tt)
    one_link i (link.Processor j) (link.Mail n) has p q = absurd (q.first (link.Processor j) p.fits tt)
    one_link i (link.After j) link.First has p q = absurd (none_at_0 i j (link.After j) has p.fits refl q.fits)
    one_link i (link.After j) (link.Processor k) has p q = absurd (p.first (link.Processor k) q.fits tt)
    one_link i (link.After j) (link.After k) has p q = go (number_cases j k)
      where
        go : (j < k) ⊎ ((k < j) ⊎ (j ≡ k)) → link.After j ≡ link.After k
        go (inl h) = absurd (q.first (link.After j) p.fits h)
        go (inr (inl h)) = absurd (p.first (link.After k) q.fits h)
        go (inr (inr e)) = ap link.After e
    one_link i (link.After j) (link.Mail n) has p q = absurd (q.first (link.After j) p.fits tt)
    one_link i (link.Mail m) link.First has p q = absurd (none_at_0 i m.row (link.Mail m) has p.fits refl q.fits)
    one_link i (link.Mail m) (link.Processor k) has p q = absurd (p.first (link.Processor k) q.fits tt)
    one_link i (link.Mail m) (link.After k) has p q = absurd (p.first (link.After k) q.fits tt)
    one_link i (link.Mail m) (link.Mail n) has p q = go (mail_cases m n)
      where
        go : IsLower m n ⊎ (IsLower n m ⊎ (m ≡ n)) → link.Mail m ≡ link.Mail n
        go (inl h) = absurd (q.first (link.Mail m) p.fits h)
        go (inr (inl h)) = absurd (p.first (link.Mail n) q.fits h)
        go (inr (inr e)) = ap link.Mail e

-- ---- the same starts

abbrev pub SameStarts : Net → Starts → Starts → Type 0
SameStarts net s z = (k : ℕ) → HasRow net k → s k ≡ z k

module _ (net : Net) (c : Causal net) where
  pub fits_moved : (s z : Starts) → SameStarts net s z → (i : ℕ) (l : Link) → HasRow net i → Fits net s i l → Fits net z i l
  fits_moved s z same i link.First has f = sym (same i has) ∙ f
  fits_moved s z same i (link.Processor j) has f =
      let here = same i has in
      let there = same j f.0.there.0 in (
        record {
          there = f.0.there;
          earlier = omega (arith, f.0.earlier, here, there);
          last = λ k on h. let at : s k ≡ z k = same k on.0 in omega (arith, f.0.last k on (omega (arith, h, at, here)), at, there);
        },
        omega (arith, f.1, here, there),
      )
  fits_moved s z same i (link.After j) has f = (f.0, omega (arith, f.1, same i has, same j (c.after i j has f.0).0))
  fits_moved s z same i (link.Mail m) has f = (f.0, omega (arith, f.1, same i has, same m.row (c.mail i m has f.0).0))

  pub link_moved : (s z : Starts) → SameStarts net s z → (i : ℕ) (l : Link) → HasRow net i → IsLinkOf net s i l → IsLinkOf net z i l
  link_moved s z same i l has is = record {
    fits = fits_moved s z same i l has is.fits;
    first = λ other f a. is.first other (fits_moved z s (λ k on. sym (same k on)) i other has f) a;
  }

  pub row_moved : (s z : Starts) → SameStarts net s z → (i : ℕ) (l : Link) → HasRow net i → IsLinkOf net s i l → row_of_chain s i l ≡ row_of_chain z i l
  row_moved s z same i l has is = go (comes_from l) refl
    where
      step : (o : Option ℕ) → comes_from l ≡ o → step_from s i o ≡ step_from z i o
      step None e = refl
      step (Some j) e = omega (arith, same i has, same j (named net c s i j l has is.fits e).0)

      go : (o : Option ℕ) → comes_from l ≡ o → row_of_chain s i l ≡ row_of_chain z i l
      go o e =
          let steps : step_from s i (comes_from l) ≡ step_from z i (comes_from l) = subst (λ p. step_from s i p ≡ step_from z i p) (sym e) (step o e) in
          λ k. record { row = i; start = same i has k; step = steps k; link = l }
