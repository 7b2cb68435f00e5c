-- Every budget has its lists, and settles or is spent.
use Rattle.std.proofs.Common.{◌≡◌, ◌≢◌, ◌≤◌, ◌<◌, ◌+◌, ◌⊎◌, inl, inr, ℕ, zero, suc, Bool, true, false, List, [], ◌∷◌, ◌++◌, length, refl, sym, ap, subst, ◌∙◌, arith}
use Rattle.std.proofs.lemmas.Bool.{cases_eq, cases_order}
use Rattle.bs_log.specs.Rising.{IsLower}
use Rattle.bs_log.specs.Lists.{InOrder, Mem}
use Rattle.bs_log.specs.declared.log.MailRef.{MailRef}
use Rattle.bs_times.specs.Net.{Causal, HasRow, Net, Ticks}
use Rattle.bs_times.specs.Times.{AreWaves, IsListed, IsWave, SameTicks, budget}
use Rattle.bs_times.proofs.Members.{mem_cases, mem_left, mem_right}
use Rattle.bs_times.proofs.Repeated.{same_wave, some_waves}
use Rattle.bs_line.specs.declared.corrections.Correction.{Correction}
use Rattle.bs_settle.specs.Changes.{AreChanges, ChangesRise, HasChange, IsChange}
use Rattle.bs_settle.specs.Noted.{AreNoted, IsListOf}
use Rattle.bs_settle.specs.Settled.{ChangesAt, IsLeastChange, IsSpent, OfWaves, StillAt}
use Rattle.bs_settle.specs.declared.settling.BudgetSpent.{BudgetSpent}
use Rattle.bs_settle.proofs.OneNoting.{enough_settles, noted_still}
use Rattle.bs_settle.proofs.WaveLists.{AreSoFar, none_so_far, one_so_far, spent_noted, still_noted}
use Rattle.bs_settle.proofs.Waved.{changes_same}
use Rattle.bs_settle.proofs.Within.{least_first, spent_few}

-- ---- the list of what one wave changes

-- the messages that the first rows name
abbrev mail_to : Net → ℕ → List MailRef
mail_to net zero = []
mail_to net (suc n) = mail_to net n ++ net.mail (suc n)

named : (net : Net) (n i : ℕ) (m : MailRef) → 1 ≤ i → i ≤ n → Mem m (net.mail i) → Mem m (mail_to net n)
named net zero i m low high is = absurd (omega (arith, low, high))
named net (suc n) i m low high is = by (λ few. named net n i m low few is) (cases_eq i (suc n))
  where
    below : i ≢ suc n → i ≤ n
    below other = by_order (cases_order i (suc n))
      where
        by_order : (i ≡ suc n) ⊎ ((i < suc n) ⊎ (suc n < i)) → i ≤ n
        by_order (inl e) = absurd (other e)
        by_order (inr (inl less)) = omega (arith, less)
        by_order (inr (inr more)) = omega (arith, more, high)

    by : (i ≤ n → Mem m (mail_to net n)) → (i ≡ suc n) ⊎ (i ≡ suc n → ⊥) → Mem m (mail_to net (suc n))
    by early (inl e) = mem_right m (mail_to net n) (net.mail (suc n)) (subst (λ k. Mem m (net.mail k)) e is)
    by early (inr other) = mem_left m (mail_to net n) (net.mail (suc n)) (early (below other))

from_named : (net : Net) (n : ℕ) (m : MailRef) → n ≤ net.rows → Mem m (mail_to net n) → IsListed net m
from_named net zero m few is = absurd is
from_named net (suc n) m few is = by (λ early. from_named net n m (omega (arith, few)) early) (mem_cases m (mail_to net n) (net.mail (suc n)) is)
  where
    by : (Mem m (mail_to net n) → IsListed net m) → Mem m (mail_to net n) ⊎ Mem m (net.mail (suc n)) → IsListed net m
    by before (inl early) = before early
    by before (inr here) = (suc n, (omega arith, few), here)

lower_then : (a b c : MailRef) → IsLower a b → IsLower b c → IsLower a c
lower_then a b c (inl h) (inl k) = inl (omega (arith, h, k))
lower_then a b c (inl h) (inr k) = inl (omega (arith, h, k.0))
lower_then a b c (inr h) (inl k) = inl (omega (arith, h.0, k))
lower_then a b c (inr h) (inr k) = inr (h.0 ∙ k.0, omega (arith, h.1, k.1))

lower_or : (a b : MailRef) → IsLower a b ⊎ ((a ≡ b) ⊎ IsLower b a)
lower_or a b = by_row (cases_order a.row b.row) (cases_order a.index b.index)
  where
    by_row : (a.row ≡ b.row) ⊎ ((a.row < b.row) ⊎ (b.row < a.row)) → (a.index ≡ b.index) ⊎ ((a.index < b.index) ⊎ (b.index < a.index)) → IsLower a b ⊎ ((a ≡ b) ⊎ IsLower b a)
    by_row (inr (inl h)) o = inl (inl h)
    by_row (inr (inr h)) o = inr (inr (inl h))
    by_row (inl e) (inr (inl h)) = inl (inr (e, h))
    by_row (inl e) (inl f) = inr (inl (λ j. record { row = e j; index = f j }))
    by_row (inl e) (inr (inr h)) = inr (inr (inr (sym e, h)))

-- a correction put in its place among corrections that rise; one of its message stays as it is
record PutIn (c : Correction) (before after : List Correction) : Type 0 where
  has : HasChange after c.mail
  from : (d : Correction) → Mem d after → (d ≡ c) ⊎ Mem d before
  keeps : (d : Correction) → Mem d before → Mem d after
  rises : ChangesRise after

put_in : (c : Correction) (before : List Correction) → ChangesRise before → (after : List Correction) × PutIn c before after
put_in c [] rises = (c ∷ [], record { has = (c, inl refl, refl); from = λ d. from d; keeps = λ d m. absurd m; rises = (λ y m. absurd m, tt) })
  where
    from : (d : Correction) → Mem d (c ∷ []) → (d ≡ c) ⊎ Mem d []
    from d (inl e) = inl e
    from d (inr m) = absurd m
put_in c (d ∷ ds) rises = by (lower_or c.mail d.mail) (put_in c ds rises.1)
  where
    first : IsLower c.mail d.mail → (e : Correction) → Mem e (d ∷ ds) → IsLower c.mail e.mail
    first low e (inl is) = subst (λ x. IsLower c.mail x.mail) (sym is) low
    first low e (inr m) = lower_then c.mail d.mail e.mail low (rises.0 e m)

    from_front : (e : Correction) → Mem e (c ∷ d ∷ ds) → (e ≡ c) ⊎ Mem e (d ∷ ds)
    from_front e (inl is) = inl is
    from_front e (inr m) = inr m

    later : (es : List Correction) → PutIn c ds es → IsLower d.mail c.mail → PutIn c (d ∷ ds) (d ∷ es)
    later es p low = record {
      has = (p.has.0, inr p.has.1, p.has.2);
      from = from;
      keeps = keeps;
      rises = (above, p.rises);
    }
      where
        from : (e : Correction) → Mem e (d ∷ es) → (e ≡ c) ⊎ Mem e (d ∷ ds)
        from e (inl is) = inr (inl is)
        from e (inr m) = by_rest (p.from e m)
          where
            by_rest : (e ≡ c) ⊎ Mem e ds → (e ≡ c) ⊎ Mem e (d ∷ ds)
            by_rest (inl is) = inl is
            by_rest (inr n) = inr (inr n)

        keeps : (e : Correction) → Mem e (d ∷ ds) → Mem e (d ∷ es)
        keeps e (inl is) = inl is
        keeps e (inr m) = inr (p.keeps e m)

        above : (e : Correction) → Mem e es → IsLower d.mail e.mail
        above e m = by_rest (p.from e m)
          where
            by_rest : (e ≡ c) ⊎ Mem e ds → IsLower d.mail e.mail
            by_rest (inl is) = subst (λ x. IsLower d.mail x.mail) (sym is) low
            by_rest (inr n) = rises.0 e n

    by : IsLower c.mail d.mail ⊎ ((c.mail ≡ d.mail) ⊎ IsLower d.mail c.mail) → (after : List Correction) × PutIn c ds after → (after : List Correction) × PutIn c (d ∷ ds) after
    by (inl low) rest = (c ∷ d ∷ ds, record { has = (c, inl refl, refl); from = from_front; keeps = λ e m. inr m; rises = (first low, rises) })
    by (inr (inl same)) rest = (d ∷ ds, record { has = (d, inl refl, sym same); from = λ e m. inr m; keeps = λ e m. m; rises = rises })
    by (inr (inr high)) rest = (d ∷ rest.0, later rest.0 rest.1 high)

module _ (net : Net) (old new : Ticks) where
  -- the changes of these messages
  record AreChangesOf (ms : List MailRef) (list : List Correction) : Type 0 where
    sound : (c : Correction) → Mem c list → IsChange net old new c
    all : (m : MailRef) → Mem m ms → old m ≢ new m → HasChange list m
    rises : ChangesRise list

  abbrev change_of : MailRef → Correction
  change_of m = record { mail = m; to = net.goes_to m; was = record { 0 = old m }; tick = record { 0 = new m } }

  changes_of : (ms : List MailRef) → ((m : MailRef) → Mem m ms → IsListed net m) → (list : List Correction) × AreChangesOf ms list
  changes_of [] listed = ([], record { sound = λ c m. absurd m; all = λ m is. absurd is; rises = tt })
  changes_of (m ∷ ms) listed = by (cases_eq (old m) (new m)) (changes_of ms (λ k is. listed k (inr is)))
    where
      with_one : old m ≢ new m → (list : List Correction) → AreChangesOf ms list → (after : List Correction) × PutIn (change_of m) list after → (after : List Correction) × AreChangesOf (m ∷ ms) after
      with_one differs list h p = (p.0, record { sound = sound; all = all; rises = p.1.rises })
        where
          sound : (c : Correction) → Mem c p.0 → IsChange net old new c
          sound c is = by_origin (p.1.from c is)
            where
              by_origin : (c ≡ change_of m) ⊎ Mem c list → IsChange net old new c
              by_origin (inl e) = subst (IsChange net old new) (sym e) (record { listed = listed m (inl refl); to = refl; was = refl; tick = refl; differs = differs })
              by_origin (inr early) = h.sound c early

          all : (k : MailRef) → Mem k (m ∷ ms) → old k ≢ new k → HasChange p.0 k
          all k (inl e) n = subst (HasChange p.0) (sym e) p.1.has
          all k (inr is) n = let d = h.all k is n in (d.0, p.1.keeps d.0 d.1, d.2)

      without : old m ≡ new m → (list : List Correction) → AreChangesOf ms list → AreChangesOf (m ∷ ms) list
      without same list h = record { sound = h.sound; all = all; rises = h.rises }
        where
          all : (k : MailRef) → Mem k (m ∷ ms) → old k ≢ new k → HasChange list k
          all k (inl e) n = absurd (n (ap old e ∙ (same ∙ ap new (sym e))))
          all k (inr is) n = h.all k is n

      by : (old m ≡ new m) ⊎ (old m ≡ new m → ⊥) → (list : List Correction) × AreChangesOf ms list → (list : List Correction) × AreChangesOf (m ∷ ms) list
      by (inl same) h = (h.0, without same h.0 h.1)
      by (inr differs) h = with_one differs h.0 h.1 (put_in (change_of m) h.0 h.1.rises)

  some_list : (list : List Correction) × IsListOf net old new list
  some_list =
      let h = changes_of (mail_to net net.rows) (λ m is. from_named net net.rows m (omega arith) is) in
      (h.0, record { changes = record { sound = h.1.sound; all = λ m l n. h.1.all m (named net net.rows l.0 m l.1.0 l.1.1 l.2) n }; rises = h.1.rises })

-- ---- wave after wave

module _ (net : Net) (c : Causal net) (estimates : Ticks) (most : ℕ) where
  abbrev ticks : ℕ → Ticks
  ticks = (some_waves net c estimates).0

  are : AreWaves net ticks
  are = (some_waves net c estimates).1

  begins : SameTicks net (ticks 0) estimates
  begins m l = ap (λ (t : Ticks). t m) (some_waves net c estimates).2

  -- all waves from the estimates have these ticks
  as_these : (n : ℕ) (others : ℕ → Ticks) → AreWaves net others → SameTicks net (others 0) estimates → SameTicks net (others n) (ticks n)
  as_these zero others ok begin = λ m l. begin m l ∙ sym (begins m l)
  as_these (suc n) others ok begin = same_wave net c (others n) (ticks n) (others (suc n)) (ticks (suc n)) (ok n) (are n) (as_these n others ok begin)

  list_at : ℕ → List Correction
  list_at n = (some_list net (ticks n) (ticks (suc n))).0

  -- the list of a wave, whatever the ticks of messages that no row names
  is_list : (n : ℕ) → OfWaves net estimates (λ others. IsListOf net (others n) (others (suc n)) (list_at n))
  unfolding list_at
  is_list n others ok begin = record {
    changes = changes_same net (ticks n) (ticks (suc n)) (others n) (others (suc n)) (list_at n) (as_these n others ok begin) (as_these (suc n) others ok begin) here.changes;
    rises = here.rises;
  }
    where
      here : IsListOf net (ticks n) (ticks (suc n)) (list_at n)
      here = (some_list net (ticks n) (ticks (suc n))).1

  -- a list that isn't empty has a first change
  changes_at : (n : ℕ) (d : Correction) (ds : List Correction) → list_at n ≡ d ∷ ds → ChangesAt net estimates (suc n) d.mail d.was.0 d.tick.0
  changes_at n d ds is others ok begin k e =
      let here = is_list n others ok begin in
      let one : IsListOf net (others n) (others (suc n)) (d ∷ ds) = subst (IsListOf net (others n) (others (suc n))) is here in
      let at : n ≡ k = omega (arith, e) in
      subst (λ j. IsLeastChange net (others j) (others (suc j)) d.mail d.was.0 d.tick.0) at
      (least_first net (others n) (others (suc n)) (others n) (others (suc n)) d ds (λ m l. refl) (λ m l. refl) one.changes one.rises)

  -- what a budget comes to
  data Ends : Type 0 where
    settles : (lists : List (List Correction)) → AreNoted net estimates most lists true → Ends
    is_spent : (lists : List (List Correction)) (s : BudgetSpent) → AreNoted net estimates most lists false → IsSpent net estimates most s → Ends

  spent_by : (n : ℕ) → suc n ≡ most → (d : Correction) → ChangesAt net estimates (suc n) d.mail d.was.0 d.tick.0 → (s : BudgetSpent) × IsSpent net estimates most s
  spent_by n is d h =
      let here : ChangesAt net estimates most d.mail d.was.0 d.tick.0 = subst (λ k. ChangesAt net estimates k d.mail d.was.0 d.tick.0) is h in
      let some : 1 ≤ most = omega (arith, is) in (
        record { waves = most; mail = d.mail; kept = d.was; due = d.tick },
        record {
          waves = refl;
          some = some;
          few = spent_few net estimates most d.mail d.was.0 d.tick.0 c (λ others ok k enough. enough_is_still others ok k enough) some here;
          last = here;
        },
      )
    where
      enough_is_still : (others : ℕ → Ticks) → AreWaves net others → (k : ℕ) → budget net ≤ suc k → SameTicks net (others (suc k)) (others k)
      enough_is_still others ok k enough = enough_settles net c (others 0) (suc k) enough others ok (λ m l. refl) k refl

  module _ (left n : ℕ) (size : n + suc left ≡ most) (lists : List (List Correction)) (so : AreSoFar net estimates n lists)
      (on : (lists : List (List Correction)) → AreSoFar net estimates (n + 1) lists → 1 ≤ left → Ends) where
    spent : (list : List Correction) → left ≡ 0 → AreSoFar net estimates (n + 1) (lists ++ list ∷ []) → (d : Correction) (ds : List Correction) → list_at n ≡ d ∷ ds → Ends
    spent list none more d ds is =
        let at : n + 1 ≡ most = omega (arith, size, none) in
        let last : suc n ≡ most = omega (arith, size, none) in
        let s = spent_by n last d (changes_at n d ds is) in
        is_spent (lists ++ list ∷ []) s.0 (spent_noted net estimates most (lists ++ list ∷ []) (subst (λ k. AreSoFar net estimates k (lists ++ list ∷ [])) at more) (omega (arith, size))) s.1

    by_list : (list : List Correction) → list_at n ≡ list → Ends
    by_list [] is = settles (lists ++ list_at n ∷ []) (still_noted net estimates n most lists (list_at n) so (is_list n) is (omega (arith, size)))
    by_list (d ∷ ds) is = by_left left refl
      where
        more : AreSoFar net estimates (n + 1) (lists ++ list_at n ∷ [])
        more = one_so_far net estimates n lists (list_at n) so (is_list n) (λ none. absurd (cc (is, none)))

        by_left : (k : ℕ) → left ≡ k → Ends
        by_left zero e = spent (list_at n) e more d ds is
        by_left (suc k) e = on (lists ++ list_at n ∷ []) more (omega (arith, e))

  wave_by_wave : (left n : ℕ) → n + suc left ≡ most → (lists : List (List Correction)) → AreSoFar net estimates n lists → Ends
  wave_by_wave zero n size lists so = by_list zero n size lists so (λ more is some. absurd (omega (arith, some))) (list_at n) refl
  wave_by_wave (suc left) n size lists so =
      by_list (suc left) n size lists so (λ more is some. wave_by_wave left (n + 1) (omega (arith, size)) more is) (list_at n) refl

  ends : 1 ≤ most → Ends
  ends some = by most refl
    where
      by : (k : ℕ) → most ≡ k → Ends
      by zero e = absurd (omega (arith, some, e))
      by (suc k) e = wave_by_wave k 0 (omega (arith, e)) [] (none_so_far net estimates)

pub some_noted : (net : Net) → Causal net → (estimates : Ticks) (most : ℕ) → 1 ≤ most → (lists : List (List Correction)) × (settled : Bool) × AreNoted net estimates most lists settled
some_noted net c estimates most some = by (ends net c estimates most some)
  where
    by : Ends net c estimates most → (lists : List (List Correction)) × (settled : Bool) × AreNoted net estimates most lists settled
    by (settles lists is) = (lists, true, is)
    by (is_spent lists s is h) = (lists, false, is)

pub some_settled : (net : Net) → Causal net → (estimates : Ticks) (most : ℕ) → 1 ≤ most → StillAt net estimates most ⊎ ((s : BudgetSpent) × IsSpent net estimates most s)
some_settled net c estimates most some = by (ends net c estimates most some)
  where
    by : Ends net c estimates most → StillAt net estimates most ⊎ ((s : BudgetSpent) × IsSpent net estimates most s)
    by (settles lists is) = inl (noted_still net c estimates most lists is)
    by (is_spent lists s is h) = inr (s, h)
