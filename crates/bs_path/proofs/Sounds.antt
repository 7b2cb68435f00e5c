-- The critical chain keeps the rules, and what a sound chain comes to.
use Rattle.std.proofs.Common.{◌≡◌, ◌≤◌, ◌<◌, ◌+◌, ◌-◌, ◌⊎◌, inl, inr, ◌++◌, ℕ, zero, suc, List, [], ◌∷◌, Option, Some, None, length, refl, sym, ap, subst, ◌∙◌, arith}
use Rattle.std.specs.List.{slice_get, sum_by}
use Rattle.std.proofs.lemmas.List.Sums.{sum_by-append}
use Rattle.bs_times.specs.Net.{Net, Starts, HasRow, Causal}
use Rattle.bs_times.specs.Times.{end_of, greatest_to}
use Rattle.bs_path.specs.declared.links.Link.{Link}
use Rattle.bs_path.specs.declared.links.Link.TheVariants as link
use Rattle.bs_path.specs.declared.links.ChainRow.{ChainRow}
use Rattle.bs_path.specs.declared.links.Chain.{Chain}
use Rattle.bs_path.specs.declared.rules.ChainRule.{ChainRule}
use Rattle.bs_path.specs.declared.rules.ChainRule.TheVariants as rule
use Rattle.bs_path.specs.Chain.{Fits, IsCritical, IsLast, IsLinkOf, LeadTo, begins, comes_from, goes_on, row_of_chain, step_from}
use Rattle.bs_path.specs.Sound.{EndHolds, Holds, HoldsAt, IsSound, Leads, LastHolds, LinkHolds, RowHolds, before, takes}
use Rattle.bs_path.proofs.OneLink.{named, unnamed}
use Rattle.bs_path.proofs.Places.{before_front, before_last, get_front, get_last, get_past, length_more}

-- a link that fits leads from the row that it names, in the ticks that it takes
fit_leads : (net : Net) (s : Starts) (i j : ℕ) (l : Link) → Fits net s i l → comes_from l ≡ Some j → Leads net s j i l × (s j + takes net j l ≡ s i)
fit_leads net s i j link.First f e = absurd (cc e)
fit_leads net s i j (link.Processor k) f e =
    let is : k ≡ j = cc e in
    ((is, f.0), subst (λ n. end_of net s n ≡ s i) is f.1)
fit_leads net s i j (link.After k) f e =
    let is : k ≡ j = cc e in
    ((is, f.0), subst (λ n. end_of net s n ≡ s i) is f.1)
fit_leads net s i j (link.Mail m) f e =
    let is : m.row ≡ j = cc e in
    ((is, f.0), subst (λ n. s n + net.travel m ≡ s i) is f.1)

-- what holds of the rows that lead to row i
record AreSound (net : Net) (s : Starts) (i : ℕ) (rows : List ChainRow) : Type 0 where
  last : (r : ChainRow) × (before rows (length rows) ≡ Some r) × (r.row ≡ i) × (r.start ≡ s i)
  row : HasRow net i
  sum : sum_by (λ (r : ChainRow). r.step) rows ≡ s i
  holds : (c : Chain) (k : ℕ) → k < length rows → (rule : ChainRule) → Holds net s c (before rows k) (slice_get rows k) rule

module _ (net : Net) (c : Causal net) (s : Starts) where
  first_holds : (i : ℕ) (l : Link) → HasRow net i → IsLinkOf net s i l → comes_from l ≡ None → (rule : ChainRule) → RowHolds net s None (row_of_chain s i l) rule
  first_holds i l has is e rule.BadRow = has
  first_holds i l has is e rule.BadStart = refl
  first_holds i l has is e rule.BadLink = unnamed net c s i l is.fits e
  first_holds i l has is e rule.BadStep = ap (step_from s i) e
  first_holds i l has is e rule.BadEnd = tt

  next_holds : (i j : ℕ) (l : Link) (b : ChainRow) → b.row ≡ j → b.start ≡ s j → HasRow net i → IsLinkOf net s i l → comes_from l ≡ Some j → (rule : ChainRule) → RowHolds net s (Some b) (row_of_chain s i l) rule
  next_holds i j l b row start has is e rule.BadRow = has
  next_holds i j l b row start has is e rule.BadStart = refl
  next_holds i j l b row start has is e rule.BadLink = subst (λ n. Leads net s n i l) (sym row) (fit_leads net s i j l is.fits e).0
  next_holds i j l b row start has is e rule.BadStep =
      let way = (fit_leads net s i j l is.fits e).1 in
      let step : step_from s i (comes_from l) ≡ s i - s j = ap (step_from s i) e in
      (omega (arith, step, way, ap (λ n. takes net n l) row), omega (arith, step, way, start))
  next_holds i j l b row start has is e rule.BadEnd = tt

  snoc_holds : (i j : ℕ) (l : Link) (rows : List ChainRow) → HasRow net i → IsLinkOf net s i l → comes_from l ≡ Some j → AreSound net s j rows → AreSound net s i (rows ++ row_of_chain s i l ∷ [])
  snoc_holds i j l rows has is e a = record {
    last = (new, before_last rows new, refl, refl);
    row = has;
    sum = sum_by-append (λ (r : ChainRow). r.step) rows (new ∷ []) ∙ total;
    holds = λ chain k lt rule. by chain k rule (order k (length rows)) lt;
  }
    where
      new : ChainRow
      new = row_of_chain s i l

      total : sum_by (λ (r : ChainRow). r.step) rows + sum_by (λ (r : ChainRow). r.step) (new ∷ []) ≡ s i
      total = let step : step_from s i (comes_from l) ≡ s i - s j = ap (step_from s i) e in omega (arith, a.sum, step, (named net c s i j l has is.fits e).1)

      order : (x y : ℕ) → (x < y) ⊎ (y ≤ x)
      order x y = grind arith

      by : (chain : Chain) (k : ℕ) (rule : ChainRule) → (k < length rows) ⊎ (length rows ≤ k) → k < length (rows ++ new ∷ []) → Holds net s chain (before (rows ++ new ∷ []) k) (slice_get (rows ++ new ∷ []) k) rule
      by chain k rule (inl lt) less = rw (before_front rows new k (omega (arith, lt)), get_front rows new k lt) (a.holds chain k lt rule)
      by chain k rule (inr le) less =
          let here : k ≡ length rows = omega (arith, le, less, length_more rows new) in
          let prior : before (rows ++ new ∷ []) k ≡ Some a.last.0 = ap (before (rows ++ new ∷ [])) here ∙ before_front rows new (length rows) (omega arith) ∙ a.last.1 in
          let at : slice_get (rows ++ new ∷ []) k ≡ Some new = ap (slice_get (rows ++ new ∷ [])) here ∙ get_last rows new in
          rw (prior, at) (next_holds i j l a.last.0 a.last.2 a.last.3 has is e rule)

  way_sound : (i : ℕ) (rows : List ChainRow) → LeadTo net s i rows → AreSound net s i rows
  way_sound _ _ (begins i l has is e) = record {
    last = (row_of_chain s i l, refl, refl, refl);
    row = has;
    sum = let step : step_from s i (comes_from l) ≡ 0 = ap (step_from s i) e in omega (arith, step, (unnamed net c s i l is.fits e).1);
    holds = λ chain k lt rule. by chain k lt rule;
  }
    where
      by : (chain : Chain) (k : ℕ) → k < 1 → (rule : ChainRule) → Holds net s chain (before (row_of_chain s i l ∷ []) k) (slice_get (row_of_chain s i l ∷ []) k) rule
      by chain zero lt rule = first_holds i l has is e rule
      by chain (suc k) lt rule = absurd (omega (arith, lt))
  way_sound _ _ (goes_on i j l rows has is e way) = snoc_holds i j l rows has is e (way_sound j rows way)

  last_holds : (chain : Chain) (last : Option ChainRow) → EndHolds net s chain last → (rule : ChainRule) → LastHolds net s chain last rule
  last_holds chain last h rule.BadRow = tt
  last_holds chain last h rule.BadStart = tt
  last_holds chain last h rule.BadLink = tt
  last_holds chain last h rule.BadStep = tt
  last_holds chain last h rule.BadEnd = h

  pub critical_sound : (chain : Chain) → IsCritical net s chain → IsSound net s chain
  critical_sound chain is = go (cases net.rows)
    where
      cases : (n : ℕ) → (n ≡ 0) ⊎ (1 ≤ n)
      cases n = grind arith

      order : (x y : ℕ) → (x < y) ⊎ (y ≤ x)
      order x y = grind arith

      at_end : (last : Option ChainRow) → before chain.rows (length chain.rows) ≡ last → EndHolds net s chain last → (k : ℕ) → k ≡ length chain.rows → (rule : ChainRule) → HoldsAt net s chain k rule
      at_end last e h k q rule =
          let here : before chain.rows k ≡ last = ap (before chain.rows) q ∙ e in
          let past : slice_get chain.rows k ≡ None = ap (slice_get chain.rows) q ∙ get_past chain.rows in
          rw (here, past) (last_holds chain last h rule)

      empty_span : (n : ℕ) → n ≡ 0 → greatest_to (end_of net s) n ≡ 0
      empty_span n e = rw e refl

      go : (net.rows ≡ 0) ⊎ (1 ≤ net.rows) → IsSound net s chain
      go (inl none) k le rule =
          let rows = (is.none none).0 in
          let rest = (is.none none).1 in
          let count : length chain.rows ≡ 0 = ap length rows in
          let sum : sum_by (λ (r : ChainRow). r.step) chain.rows ≡ 0 = ap (sum_by (λ (r : ChainRow). r.step)) rows in
          at_end None (ap (λ xs. before xs (length xs)) rows)
          (record { span = is.span; rest = rest; sum = omega (arith, sum, rest, is.span, empty_span net.rows none) })
          k (omega (arith, le, count)) rule
      go (inr some) k le rule = by (order k (length chain.rows))
        where
          x : (i : ℕ) × IsLast net s i × LeadTo net s i chain.rows × (chain.rest ≡ net.duration i)
          x = is.some some

          a : AreSound net s x.0 chain.rows
          a = way_sound x.0 chain.rows x.2

          end : EndHolds net s chain (Some a.last.0)
          end = record { span = is.span; rest = x.3 ∙ ap net.duration (sym a.last.2); sum = omega (arith, a.sum, x.3, x.1.ends, is.span) }

          by : (k < length chain.rows) ⊎ (length chain.rows ≤ k) → HoldsAt net s chain k rule
          by (inl lt) = a.holds chain k lt rule
          by (inr ge) = at_end (Some a.last.0) a.last.1 end k (omega (arith, le, ge)) rule

-- ---- what a sound chain comes to

pub sound_first : (net : Net) (s : Starts) (c : Chain) → IsSound net s c → (r : ChainRow) (rest : List ChainRow) → c.rows ≡ r ∷ rest → (r.start ≡ 0) × (r.step ≡ 0)
sound_first net s c sound r rest e =
    let start : r.start ≡ s r.row = at rule.BadStart in
    let link : LinkHolds net s None r = at rule.BadLink in
    let step : r.step ≡ 0 = at rule.BadStep in
    (start ∙ link.1, step)
  where
    at : (rule : ChainRule) → RowHolds net s None r rule
    at rule = subst (λ xs. Holds net s c (before xs 0) (slice_get xs 0) rule) e (sound 0 (omega arith) rule)

pub sound_sum : (net : Net) (s : Starts) (c : Chain) → IsSound net s c → sum_by (λ (r : ChainRow). r.step) c.rows + c.rest ≡ c.span
sound_sum net s c sound =
    let end : EndHolds net s c (before c.rows (length c.rows)) = subst (λ o. Holds net s c (before c.rows (length c.rows)) o rule.BadEnd) (get_past c.rows) (sound (length c.rows) (omega arith) rule.BadEnd) in
    end.sum
