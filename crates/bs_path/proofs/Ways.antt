-- There are rows that lead to each row.
use Rattle.std.proofs.Common.{◌≡◌, ◌≤◌, ◌<◌, ◌⊎◌, inl, inr, ℕ, zero, suc, List, [], Option, Some, None, refl, subst, arith}
use Rattle.std.proofs.lemmas.Bool.{cases_eq}
use Rattle.bs_log.specs.Valid.{IsValid}
use Rattle.bs_log.specs.declared.log.Log.{Log}
use Rattle.bs_semantics.specs.Serial.{Machine}
use Rattle.bs_times.specs.Machine.{IsTimely}
use Rattle.bs_times.specs.Net.{Net, Starts, HasRow, Causal, net_of}
use Rattle.bs_times.specs.Times.{IsConsistent, IsOn, end_of}
use Rattle.bs_times.proofs.Causal.{causal_net}
use Rattle.bs_times.proofs.Found.{row_fits}
use Rattle.bs_path.specs.declared.links.Link.{Link}
use Rattle.bs_path.specs.declared.links.ChainRow.{ChainRow}
use Rattle.bs_path.specs.declared.links.Chain.{Chain}
use Rattle.bs_path.specs.Chain.{IsCritical, IsLinkOf, LeadTo, begins, comes_from, goes_on, span_of}
use Rattle.bs_path.specs.Ended.{EndsAt, EndsLast}
use Rattle.bs_path.proofs.Latest.{is_last, some_last}
use Rattle.bs_path.proofs.FirstLink.{link_is}
use Rattle.bs_path.proofs.OneLink.{named}

-- one row more that ends there, or doesn't
pub ends_more : (net : Net) (s : Starts) (n p t : ℕ) → EndsAt net s n p t None → (IsOn net p (suc n) → end_of net s (suc n) ≡ t → ⊥) → EndsAt net s (suc n) p t None
ends_more net s n p t none not k on le e = go (order k n)
  where
    order : (a b : ℕ) → (a ≤ b) ⊎ (b < a)
    order a b = grind arith

    go : (k ≤ n) ⊎ (n < k) → ⊥
    go (inl h) = none k on h e
    go (inr h) = let is : k ≡ suc n = omega (arith, h, le) in not (subst (IsOn net p) is on) (subst (λ j. end_of net s j ≡ t) is e)

-- whether a row ends on a processor at a tick can be found
some_end : (net : Net) (s : Starts) (p t n : ℕ) → n ≤ net.rows → (o : Option ℕ) × EndsAt net s n p t o
some_end net s p t zero le = (None, λ k on most e. omega (arith, on.0.0, most))
some_end net s p t (suc n) le = go (some_end net s p t n (omega (arith, le))) (cases_eq (net.home (suc n)) p) (cases_eq (end_of net s (suc n)) t)
  where
    next : (o : Option ℕ) → EndsAt net s n p t o → (IsOn net p (suc n) → end_of net s (suc n) ≡ t → ⊥) → (q : Option ℕ) × EndsAt net s (suc n) p t q
    next None ends not = (None, ends_more net s n p t ends not)
    next (Some k) ends not = (Some k, ends)

    go : (o : Option ℕ) × EndsAt net s n p t o → (net.home (suc n) ≡ p) ⊎ (net.home (suc n) ≡ p → ⊥) → (end_of net s (suc n) ≡ t) ⊎ (end_of net s (suc n) ≡ t → ⊥) → (q : Option ℕ) × EndsAt net s (suc n) p t q
    go d (inl h) (inl e) = (Some (suc n), (((omega arith, le), h), e))
    go d (inr h) e = next d.0 d.1 (λ on is. h on.1)
    go d (inl h) (inr e) = next d.0 d.1 (λ on is. e is)

module _ (log : Log) (m : Machine) (v : IsValid log) (t : IsTimely m) (s : Starts) (table : IsConsistent (net_of log m) s) where
  abbrev net : Net
  net = net_of log m

  c : Causal net
  c = causal_net log m v t

  some_link : (i : ℕ) → HasRow net i → (l : Link) × IsLinkOf net s i l
  some_link i has =
      let found = some_end net s (net.home i) (s i) net.rows (omega arith) in
      let rises = (row_fits log i v has.0 has.1).rises in
      (_, link_is net c s table i has rises.after rises.mail found.0 found.1)

  some_way : (n i : ℕ) → s i < n → HasRow net i → (rows : List ChainRow) × LeadTo net s i rows
  some_way zero i below has = absurd (omega (arith, below))
  some_way (suc n) i below has = next (λ j. some_way n j) (some_link i has).0 (some_link i has).1 (comes_from (some_link i has).0) refl
    where
      next : ((j : ℕ) → s j < n → HasRow net j → (rows : List ChainRow) × LeadTo net s j rows) → (l : Link) → IsLinkOf net s i l → (o : Option ℕ) → comes_from l ≡ o → (rows : List ChainRow) × LeadTo net s i rows
      next ih l is None e = (_, begins i l has is e)
      next ih l is (Some j) e =
          let there = named net c s i j l has is.fits e in
          let way = ih j (omega (arith, there.1, below)) there.0 in
          (_, goes_on i j l way.0 has is e way.1)

  pub some_chain : (chain : Chain) × IsCritical net s chain
  some_chain = go (some_last net s c net.rows (omega arith))
    where
      go : (o : Option ℕ) × EndsLast net s net.rows o → (chain : Chain) × IsCritical net s chain
      go d = by d.0 d.1
        where
          by : (o : Option ℕ) → EndsLast net s net.rows o → (chain : Chain) × IsCritical net s chain
          by None none = (
            record { rows = []; rest = 0; span = span_of net s },
            record { span = refl; none = λ e. (refl, refl); some = λ h. absurd (omega (arith, h, none)) },
          )
          by (Some i) last =
              let is = is_last net s i last in
              let way = some_way (suc (s i)) i (omega arith) is.row in (
                record { rows = way.0; rest = net.duration i; span = span_of net s },
                record { span = refl; none = λ e. absurd (omega (arith, e, last.0, last.1)); some = λ h. (i, is, way.1, refl) },
              )
