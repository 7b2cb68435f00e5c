-- Waves from estimates have one list each, and settle in one way.
use Rattle.std.proofs.Common.{◌≡◌, ◌≢◌, ◌≤◌, ◌<◌, ◌⊎◌, inl, inr, ℕ, zero, suc, Bool, true, false, List, [], ◌∷◌, Some, length, length-append, refl, sym, ap, subst, ◌∙◌, arith}
use Rattle.std.specs.List.{slice_get}
use Rattle.std.proofs.lemmas.Option.{slice_get_within}
use Rattle.bs_log.specs.Rising.{IsLower}
use Rattle.bs_log.specs.Lists.{Mem}
use Rattle.bs_times.specs.Net.{Net, Starts, Ticks, Causal}
use Rattle.bs_times.specs.Times.{AreWaves, IsConsistent, IsStill, SameTicks, budget}
use Rattle.bs_times.proofs.Exists.{consistent_exists}
use Rattle.bs_times.proofs.Members.{cases_le}
use Rattle.bs_times.proofs.Repeated.{some_waves}
use Rattle.bs_times.proofs.Settles.{stays_still}
use Rattle.bs_times.proofs.Waves.{waves_settle}
use Rattle.bs_line.specs.declared.corrections.Correction.{Correction}
use Rattle.bs_line.proofs.Ordered.{lower_back, one_list}
use Rattle.bs_settle.specs.declared.settling.BudgetSpent.{BudgetSpent}
use Rattle.bs_settle.specs.Changes.{AreChanges, HasChange, IsChange}
use Rattle.bs_settle.specs.Noted.{AreNoted, IsListOf}
use Rattle.bs_settle.specs.Settled.{IsLeastChange, IsSpent, StillAt}
use Rattle.bs_settle.proofs.Columns.{item_last, item_left, one_item, some_item}
use Rattle.bs_settle.proofs.Waved.{one_change}
use Rattle.bs_settle.proofs.Within.{none_changed}

-- ---- lists of changes

one_side : (net : Net) (old new : Ticks) (a b : List Correction) → AreChanges net old new a → AreChanges net old new b → (c : Correction) → Mem c a → Mem c b
one_side net old new a b h g c m = go (g.all c.mail x.listed x.differs)
  where
    x : IsChange net old new c
    x = h.sound c m

    go : HasChange b c.mail → Mem c b
    go (d, n, e) = subst (λ y. Mem y b) (one_change net old new d c (g.sound d n) x e) n

-- two lists of a wave are one.
one_wave : (net : Net) (old new : Ticks) (a b : List Correction) → IsListOf net old new a → IsListOf net old new b → a ≡ b
one_wave net old new a b h g = one_list (λ c d. IsLower c.mail d.mail) (λ c d. lower_back c.mail d.mail) a b h.rises g.rises (one_side net old new a b h.changes g.changes) (one_side net old new b a g.changes h.changes)

same_items : {A : Type 0} (xs ys : List A) → length xs ≡ length ys → ((k : ℕ) (x y : A) → slice_get xs k ≡ Some x → slice_get ys k ≡ Some y → x ≡ y) → xs ≡ ys
same_items [] [] long each = refl
same_items [] (y ∷ ys) long each = absurd (omega (arith, long))
same_items (x ∷ xs) [] long each = absurd (omega (arith, long))
same_items (x ∷ xs) (y ∷ ys) long each = rw (each 0 x y refl refl, same_items xs ys (omega (arith, long)) (λ k a b e f. each (suc k) a b e f)) refl

item_mem : {A : Type 0} (xs : List A) (k : ℕ) (x : A) → slice_get xs k ≡ Some x → Mem x xs
item_mem {A} [] k x e = absurd (omega (arith, slice_get_within {A = A} [] k x e))
item_mem (y ∷ ys) zero x e = inl (one_item (Some y) x y e refl)
item_mem (y ∷ ys) (suc k) x e = inr (item_mem ys k x e)

-- a wave whose list has an item isn't still.
moves : (net : Net) (old new : Ticks) (list : List Correction) → IsListOf net old new list → list ≢ [] → SameTicks net new old → ⊥
moves net old new [] is some still = some refl
moves net old new (c ∷ cs) is some still = let x = is.changes.sound c (inl refl) in x.differs (sym (still c.mail x.listed))

-- ---- the waves from estimates

module _ (net : Net) (c : Causal net) (estimates : Ticks) where
  abbrev ticks : ℕ → Ticks
  ticks = (some_waves net c estimates).0

  are : AreWaves net ticks
  are = (some_waves net c estimates).1

  begins : SameTicks net (ticks 0) estimates
  begins m l = ap (λ (t : Ticks). t m) (some_waves net c estimates).2

  -- a budget that is enough settles.
  pub enough_settles : (most : ℕ) → budget net ≤ most → StillAt net estimates most
  enough_settles most enough waves ok begin k e = (waves_settle net c table.0 table.1 waves ok k (omega (arith, enough, e))).0
    where
      table : (s : Starts) × IsConsistent net s
      table = consistent_exists net c

  -- the place of the last wave of a budget.
  last_wave : (most : ℕ) → 1 ≤ most → (k : ℕ) × (suc k ≡ most)
  last_wave zero some = absurd (omega (arith, some))
  last_wave (suc k) some = (k, refl)

  pub one_spent : (most : ℕ) (s z : BudgetSpent) → IsSpent net estimates most s → IsSpent net estimates most z → s ≡ z
  one_spent most s z a b = λ i. record { waves = waves i; mail = mail i; kept = record { 0 = kept i }; due = record { 0 = due i } }
    where
      k : (k : ℕ) × (suc k ≡ most)
      k = last_wave most a.some

      x : IsLeastChange net (ticks k.0) (ticks (suc k.0)) s.mail s.kept.0 s.due.0
      x = a.last ticks are begins k.0 k.1

      y : IsLeastChange net (ticks k.0) (ticks (suc k.0)) z.mail z.kept.0 z.due.0
      y = b.last ticks are begins k.0 k.1

      meet : (z.mail ≡ s.mail) ⊎ IsLower s.mail z.mail → (s.mail ≡ z.mail) ⊎ IsLower z.mail s.mail → s.mail ≡ z.mail
      meet (inl e) h = sym e
      meet (inr l) (inl e) = e
      meet (inr l) (inr h) = absurd (lower_back s.mail z.mail l h)

      waves : s.waves ≡ z.waves
      waves = a.waves ∙ sym b.waves

      mail : s.mail ≡ z.mail
      mail = meet (x.least z.mail y.listed y.differs) (y.least s.mail x.listed x.differs)

      kept : s.kept.0 ≡ z.kept.0
      kept = x.kept ∙ ap (ticks k.0) mail ∙ sym y.kept

      due : s.due.0 ≡ z.due.0
      due = x.due ∙ ap (ticks (suc k.0)) mail ∙ sym y.due

  pub either_spent : (most : ℕ) (s : BudgetSpent) → IsSpent net estimates most s → StillAt net estimates most → ⊥
  either_spent most s a still =
      let k = last_wave most a.some in
      let x = a.last ticks are begins k.0 k.1 in
      x.differs (sym (still ticks are begins k.0 k.1 s.mail x.listed))

  -- ---- what is noted of a budget

  module _ (most : ℕ) (lists : List (List Correction)) (settled : Bool) (n : AreNoted net estimates most lists settled) where
    -- the place of the last list.
    abbrev end : ℕ
    end = length n.begin

    long : length lists ≡ suc end
    long = omega (arith, ap length n.whole, length-append n.begin (n.last ∷ []))

    last_here : slice_get lists end ≡ Some n.last
    last_here = ap (λ xs. slice_get xs end) n.whole ∙ item_last n.begin n.last

    early_here : (k : ℕ) (list : List Correction) → k < end → slice_get lists k ≡ Some list → list ≢ []
    early_here k list lt e = n.early list (item_mem n.begin k list (sym (item_left n.begin (n.last ∷ []) k lt) ∙ ap (λ xs. slice_get xs k) (sym n.whole) ∙ e))

    list_here : (k : ℕ) (list : List Correction) → slice_get lists k ≡ Some list → IsListOf net (ticks k) (ticks (suc k)) list
    list_here = n.are ticks are begins

  -- the lists of two budgets agree as far as both go.
  agree : (most other : ℕ) (a b : List (List Correction)) (p q : Bool) → AreNoted net estimates most a p → AreNoted net estimates other b q → (k : ℕ) (x y : List Correction) → slice_get a k ≡ Some x → slice_get b k ≡ Some y → x ≡ y
  agree most other a b p q n o k x y e f = one_wave net (ticks k) (ticks (suc k)) x y (list_here most a p n k x e) (list_here other b q o k y f)

  -- where the first settle the others aren't longer.
  no_longer : (most other : ℕ) (a b : List (List Correction)) (q : Bool) → AreNoted net estimates most a true → AreNoted net estimates other b q → length b ≤ length a
  no_longer most other a b q n o = go (cases_le (length b) (length a))
    where
      go : (length b ≤ length a) ⊎ (length a < length b) → length b ≤ length a
      go (inl le) = le
      go (inr lt) =
          let here = some_item b (length n.begin) (omega (arith, lt, long most a true n)) in
          let same = agree most other a b true q n o (length n.begin) n.last here.0 (last_here most a true n) here.1 in
          absurd (early_here other b q o (length n.begin) here.0 (omega (arith, lt, long most a true n, long other b q o)) here.1 (sym same ∙ n.ends refl))

  same_long : (most other : ℕ) (a b : List (List Correction)) (p q : Bool) → AreNoted net estimates most a p → AreNoted net estimates other b q → length a ≡ length b → a ≡ b
  same_long most other a b p q n o e = same_items a b e (agree most other a b p q n o)

  -- budgets that settle have the same lists.
  pub any_settled : (most other : ℕ) (a b : List (List Correction)) → AreNoted net estimates most a true → AreNoted net estimates other b true → a ≡ b
  any_settled most other a b n o = same_long most other a b true true n o (omega (arith, no_longer most other a b true n o, no_longer other most b a true o n))

  one_length : (most : ℕ) (a b : List (List Correction)) (p q : Bool) → AreNoted net estimates most a p → AreNoted net estimates most b q → length a ≡ length b
  one_length most a b true true n o = omega (arith, no_longer most most a b true n o, no_longer most most b a true o n)
  one_length most a b true false n o = omega (arith, no_longer most most a b false n o, n.few, (o.spent refl).0)
  one_length most a b false true n o = omega (arith, no_longer most most b a false o n, o.few, (n.spent refl).0)
  one_length most a b false false n o = (n.spent refl).0 ∙ sym (o.spent refl).0

  last_same : (most : ℕ) (a b : List (List Correction)) (p q : Bool) (n : AreNoted net estimates most a p) (o : AreNoted net estimates most b q) → n.last ≡ o.last
  last_same most a b p q n o =
      let e : length n.begin ≡ length o.begin = omega (arith, one_length most a b p q n o, long most a p n, long most b q o) in
      agree most most a b p q n o (length o.begin) n.last o.last (ap (slice_get a) (sym e) ∙ last_here most a p n) (last_here most b q o)

  one_end : (most : ℕ) (a b : List (List Correction)) (p q : Bool) → AreNoted net estimates most a p → AreNoted net estimates most b q → p ≡ q
  one_end most a b true true n o = refl
  one_end most a b true false n o = absurd ((o.spent refl).1 (sym (last_same most a b true false n o) ∙ n.ends refl))
  one_end most a b false true n o = absurd ((n.spent refl).1 (last_same most a b false true n o ∙ o.ends refl))
  one_end most a b false false n o = refl

  pub one_noted : (most : ℕ) (a b : List (List Correction)) (p q : Bool) → AreNoted net estimates most a p → AreNoted net estimates most b q → (a ≡ b) × (p ≡ q)
  one_noted most a b p q n o = (same_long most most a b p q n o (one_length most a b p q n o), one_end most a b p q n o)

  -- where the lists settle the last wave of the budget is still.
  pub noted_still : (most : ℕ) (lists : List (List Correction)) → AreNoted net estimates most lists true → StillAt net estimates most
  noted_still most lists n waves ok begin k e = stays_still net c waves ok (length n.begin) none k (omega (arith, e, n.few, long most lists true n))
    where
      last : IsListOf net (waves (length n.begin)) (waves (suc (length n.begin))) n.last
      last = n.are waves ok begin (length n.begin) n.last (last_here most lists true n)

      none : IsStill net waves (length n.begin)
      none = none_changed net (waves (length n.begin)) (waves (suc (length n.begin))) (subst (λ xs. AreChanges net (waves (length n.begin)) (waves (suc (length n.begin))) xs) (n.ends refl) last.changes)

  -- where they don't it isn't.
  pub noted_moving : (most : ℕ) (lists : List (List Correction)) → AreNoted net estimates most lists false → StillAt net estimates most → ⊥
  noted_moving most lists n still = moves net (ticks (length n.begin)) (ticks (suc (length n.begin))) n.last (list_here most lists false n (length n.begin) n.last (last_here most lists false n)) (n.spent refl).1 (still ticks are begins (length n.begin) (sym (long most lists false n) ∙ (n.spent refl).0))
