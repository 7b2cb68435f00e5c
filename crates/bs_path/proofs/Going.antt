-- The places of a chain are gone through, and the rules asked at each.
use Rattle.std.proofs.Common.{◌≡◌, ◌≤◌, ◌<◌, ◌+◌, ◌⊎◌, inl, inr, ◌++◌, ℕ, zero, suc, List, [], ◌∷◌, Option, Some, None, length, get_or, take, sym, ap, subst, ◌∙◌, arith}
use Rattle.std.specs.List.{slice_get, sum_by}
use Rattle.std.proofs.lemmas.List.Sums.{sum_by-append}
use Rattle.std.proofs.lemmas.Option.{slice_get-get_or}
use Rattle.bs_times.specs.Net.{Net, Starts, HasRow, Causal}
use Rattle.bs_path.specs.declared.links.Link.{Link}
use Rattle.bs_path.specs.declared.links.Link.TheVariants as link
use Rattle.bs_path.specs.declared.links.ChainRow.{ChainRow}
use Rattle.bs_path.specs.declared.links.Chain.{Chain}
use Rattle.bs_path.specs.declared.rules.ChainRule.{ChainRule}
use Rattle.bs_path.specs.declared.rules.ChainRule.TheVariants as rule
use Rattle.bs_path.specs.Checked.{IsKnown}
use Rattle.bs_path.specs.Sound.{EndHolds, Holds, HoldsAt, IsFirstBroken, IsFirstRule, IsSound, LastHolds, Leads, RowHolds, before, number_of, takes}
use Rattle.bs_path.proofs.Few.{AreFew, below_few, below_more, up_to}
use Rattle.bs_path.proofs.Places.{get_past}

-- when the row before started, and 0 where there is none
abbrev pub started : Option ChainRow → ℕ
started None = 0
started (Some b) = b.start

module _ (net : Net) (c : Causal net) (s : Starts) where
  takes_some : (j i : ℕ) (l : Link) → HasRow net j → HasRow net i → Leads net s j i l → 1 ≤ takes net j l
  takes_some j i link.First row has h = absurd h
  takes_some j i (link.Processor k) row has h = c.duration j row
  takes_some j i (link.After k) row has h = c.duration j row
  takes_some j i (link.Mail m) row has h = c.travel i m has h.1

  module _ (r : ChainRow) (last : Option ChainRow) (known : IsKnown net s last) (all : (rule : ChainRule) → RowHolds net s last r rule) where
    pub next_known : IsKnown net s (Some r)
    next_known = (all rule.BadRow, all rule.BadStart)

    -- each row starts at the sum of the steps so far
    pub next_start : started last + r.step ≡ r.start
    next_start = go last known all
      where
        go : (o : Option ChainRow) → IsKnown net s o → ((rule : ChainRule) → RowHolds net s o r rule) → started o + r.step ≡ r.start
        go None k h = let zero_start : s r.row ≡ 0 = (h rule.BadLink).1 in let start : r.start ≡ s r.row = h rule.BadStart in let step : r.step ≡ 0 = h rule.BadStep in omega (arith, zero_start, start, step)
        go (Some b) k h = (h rule.BadStep).1

    pub next_few : (k : ℕ) → AreFew net s last k → AreFew net s (Some r) (k + 1)
    next_few k few = go last known all few
      where
        has : HasRow net r.row
        has = all rule.BadRow

        start : r.start ≡ s r.row
        start = all rule.BadStart

        go : (o : Option ChainRow) → IsKnown net s o → ((rule : ChainRule) → RowHolds net s o r rule) → AreFew net s o k → AreFew net s (Some r) (k + 1)
        go None q h f = omega (arith, f, below_more s 0 (suc r.start) net.rows r.row (omega arith) (omega (arith, start)) has.0 has.1)
        go (Some b) q h f =
            let step : r.step ≡ takes net b.row r.link = (h rule.BadStep).0 in
            let sum : b.start + r.step ≡ r.start = (h rule.BadStep).1 in
            let some : 1 ≤ takes net b.row r.link = takes_some b.row r.row r.link q.0 has (h rule.BadLink) in
            omega (arith, f, below_more s (suc b.start) (suc r.start) net.rows r.row (omega (arith, step, sum, some, start)) (omega (arith, start)) has.0 has.1)

pub few_places : (net : Net) (s : Starts) (last : Option ChainRow) (k : ℕ) → AreFew net s last k → k ≤ net.rows
few_places net s last k few = omega (arith, few, below_few s (up_to last) net.rows)

-- ---- the row at a place

pub item_there : (rows items : List ChainRow) (k : ℕ) (d : ChainRow) → items ≡ rows → k < length items → slice_get rows k ≡ Some (get_or items k d)
item_there rows items k d e lt = sym (ap (λ xs. slice_get xs k) e) ∙ slice_get-get_or items k d lt

-- ---- the sum of the steps

pub take_next : (rows : List ChainRow) (k : ℕ) (r : ChainRow) → slice_get rows k ≡ Some r → take (k + 1) rows ≡ take k rows ++ r ∷ []
take_next rows k r e = let next : suc k ≡ k + 1 = omega arith in subst (λ n. take n rows ≡ take k rows ++ r ∷ []) next (go rows k e)
  where
    go : (xs : List ChainRow) (n : ℕ) → slice_get xs n ≡ Some r → take (suc n) xs ≡ take n xs ++ r ∷ []
    go [] n f = absurd (cc f)
    go (x ∷ xs) zero f = let is : x ≡ r = cc f in ap (λ y. y ∷ []) is
    go (x ∷ xs) (suc n) f = ap (λ ys. x ∷ ys) (go xs n f)

pub sum_next : (rows : List ChainRow) (k total : ℕ) (r : ChainRow) → slice_get rows k ≡ Some r → total ≡ sum_by (λ (x : ChainRow). x.step) (take k rows) → total + r.step ≡ sum_by (λ (x : ChainRow). x.step) (take (k + 1) rows)
sum_next rows k total r e is =
    let more : sum_by (λ (x : ChainRow). x.step) (take (k + 1) rows) ≡ sum_by (λ (x : ChainRow). x.step) (take k rows) + (0 + r.step) = ap (sum_by (λ (x : ChainRow). x.step)) (take_next rows k r e) ∙ sum_by-append (λ (x : ChainRow). x.step) (take k rows) (r ∷ []) in
    omega (arith, more, is)

pub before_next : (rows : List ChainRow) (k : ℕ) (r : ChainRow) → slice_get rows k ≡ Some r → Some r ≡ before rows (k + 1)
before_next rows k r e = let next : suc k ≡ k + 1 = omega arith in sym e ∙ ap (before rows) next

-- ---- what is answered

module _ (net : Net) (s : Starts) (c : Chain) where
  pub holds_next : (k : ℕ) (r : ChainRow) → slice_get c.rows k ≡ Some r → ((rule : ChainRule) → RowHolds net s (before c.rows k) r rule) → ((j : ℕ) → j < k → (rule : ChainRule) → HoldsAt net s c j rule) → (j : ℕ) → j < k + 1 → (rule : ChainRule) → HoldsAt net s c j rule
  holds_next k r e all so_far j lt rule = go (order j k)
    where
      order : (a b : ℕ) → (a < b) ⊎ (b ≤ a)
      order a b = grind arith

      go : (j < k) ⊎ (k ≤ j) → HoldsAt net s c j rule
      go (inl h) = so_far j h rule
      go (inr h) =
          let is : k ≡ j = omega (arith, lt, h) in
          subst (λ n. HoldsAt net s c n rule) is (subst (λ o. Holds net s c (before c.rows k) o rule) (sym e) (all rule))

  pub broken_here : (k : ℕ) (r : ChainRow) (rule : ChainRule) → slice_get c.rows k ≡ Some r → k < length c.rows → IsFirstRule (RowHolds net s (before c.rows k) r) rule → ((j : ℕ) → j < k → (other : ChainRule) → HoldsAt net s c j other) → IsFirstBroken net s c k rule
  broken_here k r rule e lt first so_far = record {
    within = omega (arith, lt);
    here = record {
      broken = λ h. first.broken (subst (λ o. Holds net s c (before c.rows k) o rule) e h);
      earlier = λ other less. subst (λ o. Holds net s c (before c.rows k) o other) (sym e) (first.earlier other less);
    };
    earlier = so_far;
  }

  last_holds : (last : Option ChainRow) → EndHolds net s c last → (rule : ChainRule) → LastHolds net s c last rule
  last_holds last h rule.BadRow = tt
  last_holds last h rule.BadStart = tt
  last_holds last h rule.BadLink = tt
  last_holds last h rule.BadStep = tt
  last_holds last h rule.BadEnd = h

  module _ (k : ℕ) (all : k ≡ length c.rows) (last : Option ChainRow) (is : last ≡ before c.rows k) (so_far : (j : ℕ) → j < k → (rule : ChainRule) → HoldsAt net s c j rule) where
    at_end : (rule : ChainRule) → HoldsAt net s c k rule ≡ LastHolds net s c last rule
    at_end rule = ap (λ o. Holds net s c (before c.rows k) o rule) (ap (slice_get c.rows) all ∙ get_past c.rows) ∙ ap (λ o. LastHolds net s c o rule) (sym is)

    pub sound_all : EndHolds net s c last → IsSound net s c
    sound_all end j le rule = go (order j k)
      where
        order : (a b : ℕ) → (a < b) ⊎ (b ≤ a)
        order a b = grind arith

        go : (j < k) ⊎ (k ≤ j) → HoldsAt net s c j rule
        go (inl h) = so_far j h rule
        go (inr h) = let here : k ≡ j = omega (arith, le, h, all) in subst (λ n. HoldsAt net s c n rule) here (subst (λ P. P) (sym (at_end rule)) (last_holds last end rule))

    pub broken_end : (EndHolds net s c last → ⊥) → IsFirstBroken net s c k rule.BadEnd
    broken_end not = record {
      within = omega (arith, all);
      here = record { broken = λ h. not (subst (λ P. P) (at_end rule.BadEnd) h); earlier = λ other less. subst (λ P. P) (sym (at_end other)) (others other less) };
      earlier = so_far;
    }
      where
        others : (other : ChainRule) → number_of other < 5 → LastHolds net s c last other
        others rule.BadRow h = tt
        others rule.BadStart h = tt
        others rule.BadLink h = tt
        others rule.BadStep h = tt
        others rule.BadEnd h = absurd (omega (arith, h))
