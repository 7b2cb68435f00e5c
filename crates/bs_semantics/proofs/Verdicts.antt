-- Each program has one verdict.
use Rattle.std.proofs.Common.{◌≡◌, ◌≤◌, ◌<◌, ◌⊎◌, inl, inr, ℕ, zero, suc, ◌+◌, Option, Some, None, refl, sym, ap, subst, ◌∙◌, length, arith, le_refl}
use Rattle.std.proofs.lemmas.Bool.{cases_lt}
use Rattle.bs_tree.specs.declared.tree.Program.{Program}
use Rattle.bs_log.specs.declared.history.Message.{Message}
use Rattle.bs_semantics.specs.Rounds.{SameMail, mail_to, mail, round, Undecided}
use Rattle.bs_log.specs.Size.{size_all}
use Rattle.bs_log.specs.Sound.{Once}
use Rattle.bs_semantics.specs.Verdict.{Twice, ambiguous, Verdict, clean, twice, too_long, IsVerdict, is_too_long, is_twice, is_clean}
use Rattle.bs_semantics.specs.Growth.{Subsequence}
use Rattle.bs_semantics.proofs.Subsequences.{empty, not_longer, all_of}
use Rattle.bs_semantics.proofs.Options.{none_some, some_same}
use Rattle.bs_semantics.proofs.Ambiguous.{once_of, of_once}
use Rattle.bs_semantics.proofs.Confluence.{mails_grow}
use Rattle.bs_semantics.proofs.Mails.{same_list}
use Rattle.bs_semantics.proofs.Sizes.{count_sent}

module _ (p : Program) (limit : ℕ) where
  abbrev Before : ℕ → Type 0
  Before n = (m : ℕ) → m < n → Undecided p limit m

  pub mail_grows : (n : ℕ) → Before n → Subsequence Message (mail p limit n) (mail p limit (suc n))
  mail_grows zero h = empty _
  mail_grows (suc n) h = mails_grow p limit (mail p limit n) (mail p limit (suc n)) (mail_grows n (λ m l. h m (omega (arith, l)))) (h n (le_refl (suc n))).once.sent

  -- each undecided round sends a new message
  pub new_message : (n : ℕ) → Before n → Undecided p limit n → length (mail p limit n) < length (mail p limit (suc n))
  new_message n h u = by_cases (cases_lt (length (mail p limit n)) (length (mail p limit (suc n))))
    where
      by_cases : (length (mail p limit n) < length (mail p limit (suc n))) ⊎ (length (mail p limit (suc n)) ≤ length (mail p limit n)) → length (mail p limit n) < length (mail p limit (suc n))
      by_cases (inl l) = l
      by_cases (inr l) =
          let up = not_longer _ _ (mail_grows n h) in
          let e : mail p limit n ≡ mail p limit (suc n) = all_of _ _ (mail_grows n h) (omega (arith, l, up)) in
          absurd (u.news (λ c k. ap (λ ms. mail_to ms c k) (sym e)))

  enough : (n : ℕ) → Before n → n ≤ length (mail p limit n)
  enough zero h = let l : 0 ≤ length (mail p limit 0) = omega arith in l
  enough (suc n) h =
      let more = enough n (λ m l. h m (omega (arith, l))) in
      let one = new_message n (λ m l. h m (omega (arith, l))) (h n (le_refl (suc n))) in
      omega (arith, more, one)

  -- of the rounds 0 to the limit one is decided
  pub not_all : Before (suc limit) → ⊥
  not_all h =
      let one = enough (suc limit) h in
      let two = count_sent (round p limit limit) in
      let three = (h limit (le_refl (suc limit))).size in
      omega (arith, one, two, three)

  one_more : (n : ℕ) → Before n → Undecided p limit n → Before (suc n)
  one_more n h u m l = by_cases (cases_lt m n)
    where
      by_cases : (m < n) ⊎ (n ≤ m) → Undecided p limit m
      by_cases (inl i) = h m i
      by_cases (inr i) = let e : n ≡ m = omega (arith, i, l) in subst (Undecided p limit) e u

  abbrev Found : Type 0
  Found = (v : Verdict) × IsVerdict p limit v

  -- one round: decided, or the next
  at_round : (n : ℕ) → Before n → (Undecided p limit n → Found) → Found
  at_round n h next = by_size (cases_lt limit (size_all (round p limit n)))
    where
      by_mail : (size_all (round p limit n) ≤ limit) → Once (round p limit n) → (length (mail p limit n) < length (mail p limit (suc n))) ⊎ (length (mail p limit (suc n)) ≤ length (mail p limit n)) → Found
      by_mail s o (inl l) = next (record { size = s; once = o; news = λ f. let e = ap length (same_list (mail p limit n) (mail p limit (suc n)) (mail_grows n h) o.sent f) in omega (arith, e, l) })
      by_mail s o (inr l) =
          let up = not_longer _ _ (mail_grows n h) in
          let e : mail p limit n ≡ mail p limit (suc n) = all_of _ _ (mail_grows n h) (omega (arith, l, up)) in
          (clean (round p limit n), is_clean n (record { before = h; size = s; once = o; same = λ c k. ap (λ ms. mail_to ms c k) (sym e) }))

      by_once : (size_all (round p limit n) ≤ limit) → (o : Option Twice) → ambiguous (round p limit n) ≡ o → Found
      by_once s None e = by_mail s (once_of _ e) (cases_lt _ _)
      by_once s (Some t) e = (twice t, is_twice n h s t e)

      by_size : (limit < size_all (round p limit n)) ⊎ (size_all (round p limit n) ≤ limit) → Found
      by_size (inl l) = (too_long, is_too_long n h l)
      by_size (inr l) = by_once l _ refl

  search_from : (fuel n : ℕ) → suc limit ≤ fuel + n → Before n → Found
  search_from zero n l h = absurd (not_all (λ m i. h m (omega (arith, i, l))))
  search_from (suc fuel) n l h = at_round n h (λ u. search_from fuel (suc n) (omega (arith, l)) (one_more n h u))

  pub some_verdict : Found
  some_verdict = search_from (suc limit) 0 (omega arith) (λ m l. absurd (omega (arith, l)))

  -- what decides a round
  data At (n : ℕ) : Verdict → Type 0 where
    long : limit < size_all (round p limit n) → At n too_long
    two : size_all (round p limit n) ≤ limit → (t : Twice) → ambiguous (round p limit n) ≡ Some t → At n (twice t)
    same : size_all (round p limit n) ≤ limit → Once (round p limit n) → SameMail (mail p limit (suc n)) (mail p limit n) → At n (clean (round p limit n))

  record Decided (v : Verdict) : Type 0 where
    at : ℕ
    before : Before at
    case : At at v

  decided : (v : Verdict) → IsVerdict p limit v → Decided v
  decided _ (is_too_long n h l) = record { at = n; before = h; case = long l }
  decided _ (is_twice n h s t e) = record { at = n; before = h; case = two s t e }
  decided _ (is_clean n c) = record { at = n; before = c.before; case = same c.size c.once c.same }

  not_undecided : (n : ℕ) (v : Verdict) → At n v → Undecided p limit n → ⊥
  not_undecided n _ (long l) u = let s = u.size in omega (arith, l, s)
  not_undecided n _ (two s t e) u = none_some (sym (of_once _ u.once) ∙ e)
  not_undecided n _ (same s o f) u = u.news f

  at_one : (n : ℕ) (v w : Verdict) → At n v → At n w → v ≡ w
  at_one n _ _ (long l) (long k) = refl
  at_one n _ _ (long l) (two s t e) = absurd (omega (arith, l, s))
  at_one n _ _ (long l) (same s o f) = absurd (omega (arith, l, s))
  at_one n _ _ (two s t e) (long l) = absurd (omega (arith, l, s))
  at_one n _ _ (two s t e) (two r u q) = ap twice (some_same (sym e ∙ q))
  at_one n _ _ (two s t e) (same r o f) = absurd (none_some (sym (of_once _ o) ∙ e))
  at_one n _ _ (same s o f) (long l) = absurd (omega (arith, l, s))
  at_one n _ _ (same s o f) (two r t e) = absurd (none_some (sym (of_once _ o) ∙ e))
  at_one n _ _ (same s o f) (same r q g) = refl

  pub one_verdict : (v w : Verdict) → IsVerdict p limit v → IsVerdict p limit w → v ≡ w
  one_verdict v w i j = by_order (cases_lt d.at e.at) (cases_lt e.at d.at)
    where
      d : Decided v
      d = decided v i

      e : Decided w
      e = decided w j

      by_order : (d.at < e.at) ⊎ (e.at ≤ d.at) → (e.at < d.at) ⊎ (d.at ≤ e.at) → v ≡ w
      by_order (inl l) k = absurd (not_undecided d.at v d.case (e.before d.at l))
      by_order (inr l) (inl k) = absurd (not_undecided e.at w e.case (d.before e.at k))
      by_order (inr l) (inr k) = let q : e.at ≡ d.at = omega (arith, l, k) in at_one d.at v w d.case (subst (λ n. At n w) q e.case)
