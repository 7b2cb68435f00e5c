-- A racing wave changes what a wave changes.
use Rattle.std.proofs.Common.{subst, ◌≡◌, ◌==◌, ℕ, true, false, [], ◌∷◌, ◌⊎◌, inl, inr, Some, None, refl, sym, ap, ◌∙◌}
use Rattle.std.proofs.lemmas.Bool.{cases_eq, eqb-true, eq-eqb, ne_eqb, cond-true, cond-false, and_parts, cases_Bool}
use Rattle.bs_log.specs.declared.log.MailRef.{MailRef}
use Rattle.bs_log.specs.Lists.{Mem}
use Rattle.bs_times.specs.Net.{Net, Starts, Ticks, Causal}
use Rattle.bs_times.specs.Times.{HasLine, IsLine, IsListed, arrival}
use Rattle.bs_times.specs.Racing.{World, IsDirty, IsUpToDate, IsEven, Race, Races, begins, recomputes, sets, IsRacingWave, correction, recomputed, same_mail, set_at, first_world, Raced}
use Rattle.bs_times.proofs.Members.{mem_or_not}
use Rattle.bs_times.proofs.Listed.{row_or_not, empty_line, sender_line}
use Rattle.bs_times.proofs.Moved.{line_moved, from_lines, table_from_lines}

none_some : {A : Type 0} {x : A} → None ≡ Some x → ⊥
none_some e = cc

-- what a line that was recomputed in this wave has given
abbrev Gave : Race → MailRef → Type 0
Gave a m = ((a.unset m ≡ None) × (a.world.held m ≡ a.world.given m)) ⊎ (a.unset m ≡ Some (a.world.given m))

record Ran (net : Net) (w : World) (a : Race) (p : ℕ) : Type 0 where
  table : Starts
  line : IsLine net p w.held table
  gave : (m : MailRef) → IsListed net m → net.home m.row ≡ p → (a.world.given m ≡ arrival net table m) × Gave a m

record Course (net : Net) (w : World) (a : Race) : Type 0 where
  fresh : (m : MailRef) → IsListed net m → (Mem (net.home m.row) a.done → ⊥) → (a.world.given m ≡ w.given m) × (a.world.held m ≡ w.held m) × (a.unset m ≡ None)
  ran : (p : ℕ) → Mem p a.done → Ran net w a p
  waits : (m : MailRef) → IsListed net m → IsDirty net w (net.goes_to m) → (Mem (net.goes_to m) a.done → ⊥) → a.world.held m ≡ w.held m
  used_here : (m : MailRef) → IsListed net m → Mem (net.goes_to m) a.done → a.world.used m ≡ w.held m
  used_else : (m : MailRef) → (Mem (net.goes_to m) a.done → ⊥) → a.world.used m ≡ w.used m
  begun_here : (p : ℕ) → Mem p a.done → a.world.begun p ≡ true
  begun_else : (p : ℕ) → (Mem p a.done → ⊥) → a.world.begun p ≡ w.begun p

course_begins : (net : Net) (w : World) → Course net w (record { world = w; done = []; unset = λ m. None })
course_begins net w = record {
  fresh = λ m l n. (refl, refl, refl);
  ran = λ p m. absurd m;
  waits = λ m l d n. refl;
  used_here = λ m l h. absurd h;
  used_else = λ m n. refl;
  begun_here = λ p m. absurd m;
  begun_else = λ p n. refl;
}

course_recomputes : (net : Net) (w : World) (a : Race) (p : ℕ) (table : Starts) → Causal net → IsEven net w → Course net w a → IsDirty net w p → (Mem p a.done → ⊥) → IsLine net p a.world.held table → Course net w (recomputed net p table a)
course_recomputes net w a p table c even h dirty new line = record {
  fresh = λ m l n.
      let other : net.home m.row ≡ p → ⊥ = λ e. n (inl e) in
      let old = h.fresh m l (λ k. n (inr k)) in
      let tells : (net.home m.row == p) ≡ false = ne_eqb (net.home m.row) p other in
      (cond-false _ _ _ tells ∙ old.0, old.1, cond-false _ _ _ tells ∙ old.2);
  ran = λ k m. ran k m;
  waits = λ m l d n. h.waits m l d (λ k. n (inr k));
  used_here = λ m l k. used m l k;
  used_else = λ m n. cond-false _ _ _ (ne_eqb (net.goes_to m) p (λ e. n (inl e))) ∙ h.used_else m (λ k. n (inr k));
  begun_here = λ k m. begun k m;
  begun_else = λ k n. cond-false _ _ _ (ne_eqb k p (λ e. n (inl e))) ∙ h.begun_else k (λ m. n (inr m));
}
  where
    b : Race
    b = recomputed net p table a

    differs : (k : ℕ) → Mem k a.done → k ≡ p → ⊥
    differs k m e = new (rw (← e) m)

    begun : (k : ℕ) → Mem k (p ∷ a.done) → b.world.begun k ≡ true
    begun k (inl e) = cond-true _ _ _ (eq-eqb k p e)
    begun k (inr m) = cond-false _ _ _ (ne_eqb k p (differs k m)) ∙ h.begun_here k m

    used : (m : MailRef) → IsListed net m → Mem (net.goes_to m) (p ∷ a.done) → b.world.used m ≡ w.held m
    used m l (inl e) = cond-true _ _ _ (eq-eqb (net.goes_to m) p e) ∙ h.waits m l (rw e dirty) (λ k. new (rw (← e) k))
    used m l (inr k) = cond-false _ _ _ (ne_eqb (net.goes_to m) p (differs (net.goes_to m) k)) ∙ h.used_here m l k

    answered : (m : MailRef) (was tick : ℕ) → was ≡ a.world.held m → b.world.given m ≡ tick → b.unset m ≡ correction was tick → (was ≡ tick) ⊎ (was ≡ tick → ⊥) → Gave b m
    answered m was tick e g o (inl same) = inl (o ∙ cond-true _ _ _ (eq-eqb was tick same), sym e ∙ same ∙ sym g)
    answered m was tick e g o (inr not) = inr (o ∙ cond-false _ _ _ (ne_eqb was tick not) ∙ ap Some (sym g))

    ran : (k : ℕ) → Mem k (p ∷ a.done) → Ran net w b k
    ran k (inl e) = subst (λ y. Ran net w b y) (sym e) (record {
      table = table;
      line = line_moved net p a.world.held w.held table table c (λ m l g. h.waits m l (rw g dirty) (λ y. new (rw (← g) y))) (λ i on. refl) line;
      gave = λ m l g.
          let old = h.fresh m l (λ y. new (rw (← g) y)) in
          let tells : (net.home m.row == p) ≡ true = eq-eqb (net.home m.row) p g in
          let gives : b.world.given m ≡ arrival net table m = cond-true _ _ _ tells in
          (gives, answered m (a.world.given m) (arrival net table m) (old.0 ∙ sym (even.as_given m l) ∙ sym old.1) gives (cond-true _ _ _ tells) (cases_eq (a.world.given m) (arrival net table m)));
    })
    ran k (inr y) = let old : Ran net w a k = h.ran k y in record {
      table = old.table;
      line = old.line;
      gave = λ m l g.
          let was = old.gave m l g in
          let tells : (net.home m.row == p) ≡ false = ne_eqb (net.home m.row) p (λ e. differs k y (sym g ∙ e)) in
          (cond-false _ _ _ tells ∙ was.0, rw (tells) was.1);
    }

pub mail_tells : (m k : MailRef) → ((same_mail m k ≡ true) × (m ≡ k)) ⊎ (same_mail m k ≡ false)
mail_tells m k = go (cases_Bool (same_mail m k))
  where
    go : (same_mail m k ≡ true) ⊎ (same_mail m k ≡ false) → ((same_mail m k ≡ true) × (m ≡ k)) ⊎ (same_mail m k ≡ false)
    go (inl e) =
        let parts = and_parts (m.row == k.row) (m.index == k.index) e in
        let rows : m.row ≡ k.row = eqb-true _ _ parts.0 in
        let indexes : m.index ≡ k.index = eqb-true _ _ parts.1 in
        inl (e, λ i. record { row = rows i; index = indexes i })
    go (inr e) = inr e

course_sets : (net : Net) (w : World) (a : Race) (k : MailRef) (tick : ℕ) → Course net w a → IsListed net k → a.unset k ≡ Some tick → (IsDirty net w (net.goes_to k) → Mem (net.goes_to k) a.done) → Course net w (set_at k tick a)
course_sets net w a k tick h listed is_unset may = record {
  fresh = λ m l n. let old = h.fresh m l n in (old.0, kept_fresh m old (mail_tells m k), shut m old (mail_tells m k));
  ran = λ p d. let old : Ran net w a p = h.ran p d in record {
    table = old.table;
    line = old.line;
    gave = λ m l g. let was = old.gave m l g in (was.0, after_set m was.1 (mail_tells m k));
  };
  waits = λ m l d n. kept_waiting m d n (h.waits m l d n) (mail_tells m k);
  used_here = h.used_here;
  used_else = h.used_else;
  begun_here = h.begun_here;
  begun_else = h.begun_else;
}
  where
    b : Race
    b = set_at k tick a

    Tells : MailRef → Type 0
    Tells m = ((same_mail m k ≡ true) × (m ≡ k)) ⊎ (same_mail m k ≡ false)

    kept_fresh : (m : MailRef) → (a.world.given m ≡ w.given m) × (a.world.held m ≡ w.held m) × (a.unset m ≡ None) → ((same_mail m k ≡ true) × (m ≡ k)) ⊎ (same_mail m k ≡ false) → b.world.held m ≡ w.held m
    kept_fresh m old (inl e) = absurd (none_some (sym old.2 ∙ ap a.unset e.1 ∙ is_unset))
    kept_fresh m old (inr e) = cond-false _ _ _ e ∙ old.1

    shut : (m : MailRef) → (a.world.given m ≡ w.given m) × (a.world.held m ≡ w.held m) × (a.unset m ≡ None) → ((same_mail m k ≡ true) × (m ≡ k)) ⊎ (same_mail m k ≡ false) → b.unset m ≡ None
    shut m old (inl e) = cond-true _ _ _ e.0
    shut m old (inr e) = cond-false _ _ _ e ∙ old.2

    kept_waiting : (m : MailRef) → IsDirty net w (net.goes_to m) → (Mem (net.goes_to m) a.done → ⊥) → a.world.held m ≡ w.held m → ((same_mail m k ≡ true) × (m ≡ k)) ⊎ (same_mail m k ≡ false) → b.world.held m ≡ w.held m
    kept_waiting m d n old (inl e) = absurd (n (subst (λ y. Mem (net.goes_to y) a.done) (sym e.1) (may (subst (λ y. IsDirty net w (net.goes_to y)) e.1 d))))
    kept_waiting m d n old (inr e) = cond-false _ _ _ e ∙ old

    after_set : (m : MailRef) → Gave a m → ((same_mail m k ≡ true) × (m ≡ k)) ⊎ (same_mail m k ≡ false) → Gave b m
    after_set m (inl old) (inl e) = absurd (none_some (sym old.0 ∙ ap a.unset e.1 ∙ is_unset))
    after_set m (inr old) (inl e) = inl (cond-true _ _ _ e.0, cond-true _ _ _ e.0 ∙ tick_is (sym old ∙ ap a.unset e.1 ∙ is_unset))
      where
        tick_is : Some (a.world.given m) ≡ Some tick → tick ≡ a.world.given m
        tick_is q = cc
    after_set m (inl old) (inr e) = inl (cond-false _ _ _ e ∙ old.0, cond-false _ _ _ e ∙ old.1)
    after_set m (inr old) (inr e) = inr (cond-false _ _ _ e ∙ old)

course : (net : Net) (w : World) → Causal net → IsEven net w → (a : Race) → Races net w a → Course net w a
course net w c even _ begins = course_begins net w
course net w c even _ (recomputes a p table races dirty new line) = course_recomputes net w a p table c even (course net w c even a races) dirty new line
course net w c even _ (sets a k tick races listed is_unset may) = course_sets net w a k tick (course net w c even a races) listed is_unset may

record Line (net : Net) (w : World) (a : Race) (p : ℕ) : Type 0 where
  table : Starts
  line : IsLine net p w.held table
  given : (m : MailRef) → IsListed net m → net.home m.row ≡ p → a.world.given m ≡ arrival net table m
  held : (m : MailRef) → IsListed net m → net.home m.row ≡ p → a.world.held m ≡ arrival net table m

line_after : (net : Net) (w : World) (a : Race) (p : ℕ) → Causal net → IsEven net w → Course net w a → ((p : ℕ) → IsDirty net w p → Mem p a.done) → ((m : MailRef) → IsListed net m → a.unset m ≡ None) → Line net w a p
line_after net w a p c even h done all_set = go (mem_or_not p a.done) (row_or_not net p)
  where
    set_now : (m : MailRef) (x : ℕ) → a.unset m ≡ None → a.world.given m ≡ x → Gave a m → a.world.held m ≡ x
    set_now m x n g (inl e) = e.1 ∙ g
    set_now m x n g (inr e) = absurd (none_some (sym n ∙ e))

    go : Mem p a.done ⊎ (Mem p a.done → ⊥) → HasLine net p ⊎ (HasLine net p → ⊥) → Line net w a p
    go (inl m) has = let r : Ran net w a p = h.ran p m in record {
      table = r.table;
      line = r.line;
      given = λ k l g. (r.gave k l g).0;
      held = λ k l g. set_now k _ (all_set k l) (r.gave k l g).0 (r.gave k l g).1;
    }
    go (inr n) (inr none) = record {
      table = λ i. 0;
      line = empty_line net p w.held (λ i. 0) none;
      given = λ k l g. absurd (none (sender_line net c p k l g));
      held = λ k l g. absurd (none (sender_line net c p k l g));
    }
    go (inr n) (inl has) = let u : IsUpToDate net w p = even.up_to_date p has (λ d. n (done p d)) in record {
      table = u.table;
      line = u.line;
      given = λ k l g. (h.fresh k l (λ y. n (rw (← g) y))).0 ∙ u.gave k l g;
      held = λ k l g. (h.fresh k l (λ y. n (rw (← g) y))).1 ∙ even.as_given k l ∙ u.gave k l g;
    }

raced : (net : Net) (w : World) (a : Race) → Causal net → IsEven net w → Course net w a → ((p : ℕ) → IsDirty net w p → Mem p a.done) → ((m : MailRef) → IsListed net m → a.unset m ≡ None) → Raced net w a.world
raced net w a c even h done all_set = record {
  wave = record {
    table = from_lines net w.held lines;
    lines = table_from_lines net w.held c lines;
    arrives = λ m l. (after (net.home m.row)).held m l refl;
  };
  even = record {
    as_given = λ m l. (after (net.home m.row)).held m l refl ∙ sym ((after (net.home m.row)).given m l refl);
    up_to_date = λ p has clean. record {
      table = (after p).table;
      line = line_moved net p w.held a.world.held (after p).table (after p).table c (λ m l g. sym (used m l) ∙ sym (clean_mail p m l g clean)) (λ i on. refl) (after p).line;
      gave = (after p).given;
    };
  };
  used = used;
  begun = λ p has. begun p has (mem_or_not p a.done);
}
  where
    after : (p : ℕ) → Line net w a p
    after p = line_after net w a p c even h done all_set

    lines : (p : ℕ) → (s : Starts) × IsLine net p w.held s
    lines p = ((after p).table, (after p).line)

    clean_before : (m : MailRef) → IsListed net m → (IsDirty net w (net.goes_to m) → ⊥) → (w.held m ≡ w.used m) ⊎ (w.held m ≡ w.used m → ⊥) → w.used m ≡ w.held m
    clean_before m l n (inl e) = sym e
    clean_before m l n (inr e) = absurd (n (inr (m, l, refl, e)))

    used_by : (m : MailRef) → IsListed net m → Mem (net.goes_to m) a.done ⊎ (Mem (net.goes_to m) a.done → ⊥) → a.world.used m ≡ w.held m
    used_by m l (inl y) = h.used_here m l y
    used_by m l (inr n) = h.used_else m n ∙ clean_before m l (λ d. n (done (net.goes_to m) d)) (cases_eq (w.held m) (w.used m))

    used : (m : MailRef) → IsListed net m → a.world.used m ≡ w.held m
    used m l = used_by m l (mem_or_not (net.goes_to m) a.done)

    clean_by : (p : ℕ) (m : MailRef) → IsListed net m → net.goes_to m ≡ p → (IsDirty net a.world p → ⊥) → (a.world.held m ≡ a.world.used m) ⊎ (a.world.held m ≡ a.world.used m → ⊥) → a.world.held m ≡ a.world.used m
    clean_by p m l g n (inl e) = e
    clean_by p m l g n (inr e) = absurd (n (inr (m, l, g, e)))

    clean_mail : (p : ℕ) (m : MailRef) → IsListed net m → net.goes_to m ≡ p → (IsDirty net a.world p → ⊥) → a.world.held m ≡ a.world.used m
    clean_mail p m l g n = clean_by p m l g n (cases_eq (a.world.held m) (a.world.used m))

    was_begun : (p : ℕ) → HasLine net p → (IsDirty net w p → ⊥) → (w.begun p ≡ true) ⊎ (w.begun p ≡ false) → w.begun p ≡ true
    was_begun p has n (inl e) = e
    was_begun p has n (inr e) = absurd (n (inl (has, e)))

    begun : (p : ℕ) → HasLine net p → Mem p a.done ⊎ (Mem p a.done → ⊥) → a.world.begun p ≡ true
    begun p has (inl y) = h.begun_here p y
    begun p has (inr n) = h.begun_else p n ∙ was_begun p has (λ d. n (done p d)) (cases_Bool (w.begun p))

pub racing_wave : (net : Net) → Causal net → (w v : World) → IsEven net w → IsRacingWave net w v → Raced net w v
racing_wave net c w v even race = subst (λ y. Raced net w y) (sym race.ends) (raced net w race.race c even (course net w c even race.race race.races) race.all_done race.all_set)

pub first_even : (net : Net) (estimates : Ticks) → IsEven net (first_world estimates)
first_even net estimates = record { as_given = λ m l. refl; up_to_date = λ p has clean. absurd (clean (inl (has, refl))) }
