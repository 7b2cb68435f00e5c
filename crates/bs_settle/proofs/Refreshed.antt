-- Lines that are recomputed where they are dirty, and what they answer.
use Rattle.std.proofs.Common.{◌≡◌, ◌≢◌, ◌≤◌, ◌<◌, ◌+◌, ◌++◌, ◌⊎◌, ◌==◌, inl, inr, ℕ, Bool, true, false, cond, List, [], ◌∷◌, Some, length, set, refl, sym, ap, subst, ◌∙◌, arith}
use Rattle.std.specs.List.{slice_get}
use Rattle.std.proofs.lemmas.Bool.{cases_Bool, cases_eq, eq-eqb, eqb-true, true≢false}
use Rattle.std.proofs.lemmas.List.{length-set}
use Rattle.std.proofs.lemmas.Option.{slice_get_within}
use Rattle.bs_log.specs.declared.log.MailRef.{MailRef}
use Rattle.bs_log.specs.Lists.{Mem}
use Rattle.bs_times.specs.Net.{Net, Ticks}
use Rattle.bs_times.specs.Times.{HasLine, IsLine, arrival}
use Rattle.bs_times.proofs.Members.{mem_cases, mem_left, mem_right}
use Rattle.bs_schedule.specs.Plan.{at}
use Rattle.bs_line.specs.declared.corrections.Correction.{Correction}
use Rattle.bs_line.specs.declared.line.Line.{Line}
use Rattle.bs_line.specs.Layout.{ComesTo, GoesFrom, sends_of}
use Rattle.bs_line.specs.Line.{IsDirtyLine, IsReady, IsSameLine, changes, correction_of, given_of, held_of, net_at, starts_of, used_of}
use Rattle.bs_line.specs.Places.{mail_place}
use Rattle.bs_settle.specs.Changes.{HasChange}
use Rattle.bs_settle.specs.Gathering.{AreRefreshed, IsLineChange, IsRefreshed}
use Rattle.bs_settle.specs.Lines.{IsFresh, IsLineOf}
use Rattle.bs_settle.proofs.Columns.{column_kept, each_after, item_here, item_other, one_item}
use Rattle.bs_settle.proofs.Held.{net_same}
use Rattle.bs_settle.proofs.Lines.{line_same}

-- ---- corrections of one line

record Says (net : Net) (was tick : Ticks) (c : Correction) : Type 0 where
  to : c.to ≡ net.goes_to c.mail
  was' : c.was.0 ≡ was c.mail
  tick' : c.tick.0 ≡ tick c.mail
  differs : was c.mail ≢ tick c.mail

module _ (net : Net) (was tick : Ticks) where
  abbrev one : MailRef → List Correction
  one m = correction_of m (net.goes_to m) (was m) (tick m)

  one_says : (m : MailRef) (c : Correction) → Mem c (one m) → (c.mail ≡ m) × Says net was tick c
  one_says m c is = go (was m == tick m) refl is
    where
      there : Correction
      there = record { mail = m; to = net.goes_to m; was = record { 0 = was m }; tick = record { 0 = tick m } }

      says : (was m == tick m) ≡ false → (c ≡ there) ⊎ ⊥ → (c.mail ≡ m) × Says net was tick c
      says e (inr n) = absurd n
      says e (inl q) = (ap (λ (x : Correction). x.mail) q, subst (Says net was tick) (sym q) (record { to = refl; was' = refl; tick' = refl; differs = λ h. true≢false (sym (eq-eqb (was m) (tick m) h) ∙ e) }))

      go : (b : Bool) → (was m == tick m) ≡ b → Mem c (cond b [] (there ∷ [])) → (c.mail ≡ m) × Says net was tick c
      go true e n = absurd n
      go false e n = says e n

  one_has : (m : MailRef) → was m ≢ tick m → HasChange (one m) m
  one_has m n = go (was m == tick m) refl
    where
      there : Correction
      there = record { mail = m; to = net.goes_to m; was = record { 0 = was m }; tick = record { 0 = tick m } }

      go : (b : Bool) → (was m == tick m) ≡ b → HasChange (cond b [] (there ∷ [])) m
      go true e = absurd (n (eqb-true (was m) (tick m) e))
      go false e = (there, inl refl, refl)

  one_short : (m : MailRef) → length {A = Correction} (one m) ≤ 1
  one_short m = go (was m == tick m)
    where
      there : Correction
      there = record { mail = m; to = net.goes_to m; was = record { 0 = was m }; tick = record { 0 = tick m } }

      go : (b : Bool) → length {A = Correction} (cond b [] (there ∷ [])) ≤ 1
      go true = omega arith
      go false = omega arith

  change_says : (ms : List MailRef) (c : Correction) → Mem c (changes net was tick ms) → Mem c.mail ms × Says net was tick c
  change_says [] c is = absurd is
  change_says (m ∷ ms) c is = go (mem_cases c (one m) (changes net was tick ms) is) (change_says ms c)
    where
      go : Mem c (one m) ⊎ Mem c (changes net was tick ms) → (Mem c (changes net was tick ms) → Mem c.mail ms × Says net was tick c) → Mem c.mail (m ∷ ms) × Says net was tick c
      go (inl here) ih = let d = one_says m c here in (inl d.0, d.1)
      go (inr there) ih = let d = ih there in (inr d.0, d.1)

  change_has : (ms : List MailRef) (m : MailRef) → Mem m ms → was m ≢ tick m → HasChange (changes net was tick ms) m
  change_has [] m is n = absurd is
  change_has (k ∷ ms) m (inl e) n =
      let d = one_has k (subst (λ x. was x ≢ tick x) e n) in
      (d.0, mem_left d.0 (one k) (changes net was tick ms) d.1, d.2 ∙ sym e)
  change_has (k ∷ ms) m (inr is) n =
      let d = change_has ms m is n in
      (d.0, mem_right d.0 (one k) (changes net was tick ms) d.1, d.2)

  pub changes_short : (ms : List MailRef) → length (changes net was tick ms) ≤ length ms
  changes_short [] = omega arith
  changes_short (m ∷ ms) = omega (arith, one_short m, changes_short ms, long (one m) (changes net was tick ms))
    where
      long : (xs ys : List Correction) → length (xs ++ ys) ≡ length xs + length ys
      long [] ys = let e : length ys ≡ 0 + length ys = omega arith in e
      long (x ∷ xs) ys = omega (arith, long xs ys)

-- ---- one line

-- a line that isn't dirty stays as it is.
pub clean_refreshed : (net : Net) (line : Line) → IsLineOf net line → (IsDirtyLine line → ⊥) → IsRefreshed net line line []
clean_refreshed net line is clean = record {
  line = is;
  fresh = record { begun = begun (cases_Bool line.begun); used = λ m comes. used m (subst (λ n. ComesTo n line.processor m) (sym is.same) comes) (cases_eq (held_of line m) (used_of line m)) };
  processor = refl;
  held = λ m. refl;
  sound = λ c m. absurd m;
  all = λ m goes n. absurd (n refl);
}
  where
    begun : (line.begun ≡ true) ⊎ (line.begun ≡ false) → line.begun ≡ true
    begun (inl e) = e
    begun (inr e) = absurd (clean (inl e))

    used : (m : MailRef) → ComesTo (net_at line) line.processor m → (held_of line m ≡ used_of line m) ⊎ (held_of line m ≡ used_of line m → ⊥) → used_of line m ≡ held_of line m
    used m comes (inl e) = sym e
    used m comes (inr n) = absurd (clean (inr (m, (comes, n))))

-- a line that is recomputed.
module _ (net : Net) (old new : Line) (is : IsLineOf net old) (ready : IsReady new) (same : IsSameLine old new) (held : new.held ≡ old.held) (begun : new.begun ≡ true) where
  same_net : net_at new ≡ net
  same_net = net_same old new same ∙ is.same

  used_is : new.used.items ≡ old.held.items → used_of new ≡ held_of old
  used_is e i m = at (e i) (mail_place (same.layout i).mails m)

  held_is : held_of new ≡ held_of old
  held_is i m = at (held i).items (mail_place (same.layout i).mails m)

  pub line_refreshed : (list : List Correction) → new.used.items ≡ old.held.items → IsLine (net_at old) old.processor (held_of old) (starts_of new) → ((m : MailRef) → GoesFrom (net_at old) old.processor m → given_of new m ≡ arrival (net_at old) (starts_of new) m) → list ≡ changes (net_at old) (given_of old) (given_of new) (sends_of old.layout) → IsRefreshed net old new list
  line_refreshed list used table gave answers = record {
    line = record {
      ready = ready;
      same = same_net;
      has = subst (HasLine net) (sym same.processor) is.has;
      current = λ b. record {
        table = line_same net old.processor new.processor (held_of old) (used_of new) (starts_of new) (starts_of new) same.processor (used_is used) refl (subst (λ n. IsLine n old.processor (held_of old) (starts_of new)) is.same table);
        gave = λ m g. subst (λ n. GoesFrom n old.processor m → given_of new m ≡ arrival n (starts_of new) m) is.same (gave m) (g.0, g.1 ∙ same.processor);
      };
    };
    fresh = record { begun = begun; used = λ m comes. ap (λ (f : Ticks). f m) (used_is used ∙ sym held_is) };
    processor = same.processor;
    held = λ m. ap (λ (f : Ticks). f m) held_is;
    sound = sound;
    all = all;
  }
    where
      sends : List MailRef
      sends = sends_of old.layout

      sound : (c : Correction) → Mem c list → IsLineChange net old new c
      sound c m =
          let d = change_says (net_at old) (given_of old) (given_of new) sends c (subst (λ xs. Mem c xs) answers m) in
          record {
            goes = subst (λ n. GoesFrom n old.processor c.mail) is.same ((is.ready.layout.goes.all c.mail).1 d.0);
            to = d.1.to ∙ ap (λ (n : Net). n.goes_to c.mail) is.same;
            was = d.1.was';
            tick = d.1.tick';
            differs = d.1.differs;
          }

      all : (m : MailRef) → GoesFrom net old.processor m → given_of old m ≢ given_of new m → HasChange list m
      all m goes n =
          let sent : Mem m sends = (is.ready.layout.goes.all m).0 (subst (λ x. GoesFrom x old.processor m) (sym is.same) goes) in
          subst (λ xs. HasChange xs m) (sym answers) (change_has (net_at old) (given_of old) (given_of new) sends m sent n)

-- ---- all lines

pub none_refreshed : (net : Net) (lines : List Line) → AreRefreshed net 0 lines lines []
none_refreshed net lines = record {
  length = refl;
  line = λ k a b e f lt. absurd (omega (arith, lt));
  rest = λ k le. refl;
  processors = refl;
  held = λ m. refl;
  sound = λ c m. absurd m;
  all = λ k a b lt. absurd (omega (arith, lt));
}

-- the line at place k, after those before it.
pub one_refreshed : (net : Net) (k : ℕ) (old now : List Line) (a b : Line) (list more : List Correction) → AreRefreshed net k old now list → slice_get now k ≡ Some a → IsRefreshed net a b more → AreRefreshed net (k + 1) old (set now k b) (list ++ more)
one_refreshed net k old now a b list more h here did = record {
  length = length-set now k b ∙ h.length;
  line = λ j x y e f lt. line j x y e f lt;
  rest = λ j le. item_other now k j b (λ e. omega (arith, e, le)) ∙ h.rest j (omega (arith, le));
  processors = column_kept (λ (l : Line). l.processor) now k a b here did.processor ∙ h.processors;
  held = λ m. column_kept (λ (l : Line). held_of l m) now k a b here (did.held m) ∙ h.held m;
  sound = λ c m. sound c (mem_cases c list more m);
  all = λ j x y lt e f m goes n. all j x y m lt e f goes n (cases_eq j k);
}
  where
    within : k < length now
    within = slice_get_within now k a here

    was : slice_get old k ≡ Some a
    was = sym (h.rest k (omega arith)) ∙ here

    line : (j : ℕ) (x y : Line) → slice_get old j ≡ Some x → slice_get (set now k b) j ≡ Some y → j < k + 1 → IsLineOf net y × IsFresh net y
    line j x y e f lt = each_after (λ i (l : Line). i < k + 1 → (z : Line) → slice_get old i ≡ Some z → IsLineOf net l × IsFresh net l) now k b
        (λ l z q. (did.line, did.fresh))
        (λ i l n q less z p. h.line i z l p q (omega (arith, less, n)))
        within j y f lt x e

    Changed : Correction → Type 0
    Changed c = (j : ℕ) × (x y : Line) × (j < k + 1) × (slice_get old j ≡ Some x) × (slice_get (set now k b) j ≡ Some y) × IsLineChange net x y c

    sound : (c : Correction) → Mem c list ⊎ Mem c more → Changed c
    sound c (inl m) =
        let d = h.sound c m in
        (d.0, d.1, d.2, omega (arith, d.3), d.4, item_other now k d.0 b (λ e. omega (arith, e, d.3)) ∙ d.5, d.6)
    sound c (inr m) = (k, a, b, omega arith, was, item_here now k b within, did.sound c m)

    all : (j : ℕ) (x y : Line) (m : MailRef) → j < k + 1 → slice_get old j ≡ Some x → slice_get (set now k b) j ≡ Some y → GoesFrom net x.processor m → given_of x m ≢ given_of y m → (j ≡ k) ⊎ (j ≡ k → ⊥) → HasChange (list ++ more) m
    all j x y m lt e f goes n (inl q) =
        let first : x ≡ a = one_item (slice_get old j) x a e (ap (slice_get old) q ∙ was) in
        let then : y ≡ b = one_item (slice_get (set now k b) j) y b f (ap (slice_get (set now k b)) q ∙ item_here now k b within) in
        let d = did.all m (subst (λ (l : Line). GoesFrom net l.processor m) first goes) (subst (λ (l : Line). given_of a m ≢ given_of l m) then (subst (λ (l : Line). given_of l m ≢ given_of y m) first n)) in
        (d.0, mem_right d.0 list more d.1, d.2)
    all j x y m lt e f goes n (inr q) =
        let d = h.all j x y (omega (arith, lt, q)) e (sym (item_other now k j b q) ∙ f) m goes n in
        (d.0, mem_left d.0 list more d.1, d.2)
