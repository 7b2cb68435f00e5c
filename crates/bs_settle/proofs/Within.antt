-- Waves of a field, one after the other.
use Rattle.std.proofs.Common.{◌≡◌, ◌≤◌, ◌<◌, ◌+◌, ◌⊎◌, inl, inr, ℕ, zero, suc, List, [], ◌∷◌, Option, Some, None, refl, sym, ap, subst, ◌∙◌, arith}
use Rattle.std.proofs.lemmas.Bool.{cases_eq, true≢false}
use Rattle.bs_log.specs.declared.log.MailRef.{MailRef}
use Rattle.bs_log.specs.Rising.{IsLower}
use Rattle.bs_log.specs.Lists.{Mem}
use Rattle.bs_times.specs.Net.{Net, Ticks, Causal}
use Rattle.bs_times.specs.Times.{AreWaves, IsWave, SameTicks, budget}
use Rattle.bs_times.specs.Racing.{IsDirty, Raced, World}
use Rattle.bs_times.proofs.Members.{cases_le}
use Rattle.bs_times.proofs.Repeated.{same_wave, some_waves}
use Rattle.bs_times.proofs.Settles.{stays_still}
use Rattle.bs_num.specs.declared.ticks.Tick.{Tick}
use Rattle.bs_times.specs.Machine.{machine_of}
use Rattle.bs_times.proofs.Causal.{fitted_is_timely}
use Rattle.bs_times.proofs.Whole.{waves}
use Rattle.bs_line.specs.declared.corrections.Correction.{Correction}
use Rattle.bs_settle.specs.declared.field.Field.{Field}
use Rattle.bs_settle.specs.declared.settling.BudgetSpent.{BudgetSpent}
use Rattle.bs_settle.specs.Changes.{AreChanges, ChangesRise, HasChange, IsChange}
use Rattle.bs_settle.specs.Field.{FitsAsBefore, IsField, net_in, ticks_of, world_of}
use Rattle.bs_rows.specs.Rows.{net_on}
use Rattle.bs_settle.specs.Settled.{AreWithin, ChangesAt, IsLeastChange, IsSpent, OfWaves, StillAt}
use Rattle.bs_settle.proofs.Premises.{causal}

-- the field after n waves: its ticks are those of the waves, and if there was one, it changed the message of `last` first
pub record AreDone (old new : Field) (n : ℕ) (last : Option Correction) : Type 0 where
  pub field : IsField new
  pub log : new.log ≡ old.log
  pub machine : new.machine ≡ old.machine
  pub fits : FitsAsBefore (net_in old) (ticks_of old) (ticks_of new)
  pub now : OfWaves (net_in old) (ticks_of old) (λ ticks. SameTicks (net_in old) (ticks n) (ticks_of new))
  pub last_is : (n ≡ 0) ⊎ ((c : Correction) × (last ≡ Some c) × ChangesAt (net_in old) (ticks_of old) n c.mail c.was.0 c.tick.0)

-- the ticks of one wave more.
pub next_ticks : (net : Net) → Causal net → (estimates now next : Ticks) (n : ℕ) → OfWaves net estimates (λ ticks. SameTicks net (ticks n) now) → IsWave net now next → OfWaves net estimates (λ ticks. SameTicks net (ticks (suc n)) next)
next_ticks net c estimates now next n same wave ticks waves begin = same_wave net c (ticks n) now (ticks (suc n)) next (waves n) wave (same ticks waves begin)

-- the first of the changes is the least.
pub least_first : (net : Net) (old new was now : Ticks) (c : Correction) (cs : List Correction) → SameTicks net was old → SameTicks net now new → AreChanges net old new (c ∷ cs) → ChangesRise (c ∷ cs) → IsLeastChange net was now c.mail c.was.0 c.tick.0
least_first net old new was now c cs e f h rises = record {
  listed = first.listed;
  kept = first.was ∙ sym (e c.mail first.listed);
  due = first.tick ∙ sym (f c.mail first.listed);
  differs = λ q. first.differs (sym (e c.mail first.listed) ∙ q ∙ f c.mail first.listed);
  least = λ m l n. least m (h.all m l (λ q. n (e m l ∙ q ∙ sym (f m l))));
}
  where
    first : IsChange net old new c
    first = h.sound c (inl refl)

    least : (m : MailRef) → HasChange (c ∷ cs) m → (m ≡ c.mail) ⊎ IsLower c.mail m
    least m d = go d.1
      where
        go : Mem d.0 (c ∷ cs) → (m ≡ c.mail) ⊎ IsLower c.mail m
        go (inl q) = inl (sym d.2 ∙ ap (λ (x : Correction). x.mail) q)
        go (inr n) = inr (subst (λ x. IsLower c.mail x) d.2 (rises.0 d.0 n))

-- where there is no change all ticks are the same.
pub none_changed : (net : Net) (old new : Ticks) → AreChanges net old new [] → SameTicks net new old
none_changed net old new h m l = go (cases_eq (old m) (new m))
  where
    go : (old m ≡ new m) ⊎ (old m ≡ new m → ⊥) → new m ≡ old m
    go (inl e) = sym e
    go (inr n) = absurd (h.all m l n).1

-- a wave without a change is still, and so are all later ones.
pub still_at : (net : Net) → Causal net → (estimates now next : Ticks) (n waves : ℕ) → OfWaves net estimates (λ ticks. SameTicks net (ticks n) now) → IsWave net now next → SameTicks net next now → n < waves → StillAt net estimates waves
still_at net c estimates now next n waves same wave still less ticks are begin k e =
    let here : SameTicks net (ticks n) now = same ticks are begin in
    let there : SameTicks net (ticks (suc n)) next = next_ticks net c estimates now next n same wave ticks are begin in
    stays_still net c ticks are n (λ m l. there m l ∙ still m l ∙ sym (here m l)) k (omega (arith, less, e))

-- a wave without a change leaves no line dirty.
pub clean_after : (net : Net) (w v : World) → Raced net w v → SameTicks net v.held w.held → (p : ℕ) → IsDirty net v p → ⊥
clean_after net w v r same p (inl d) = true≢false (sym (r.begun p d.0) ∙ d.1)
clean_after net w v r same p (inr d) = d.3 (same d.0 d.1 ∙ sym (r.used d.0 d.1))

-- a budget in which the last wave still changes a tick is below the one that is enough.
pub spent_few : (net : Net) (estimates : Ticks) (waves : ℕ) (mail : MailRef) (kept due : ℕ) → Causal net → ((ticks : ℕ → Ticks) → AreWaves net ticks → (k : ℕ) → budget net ≤ suc k → SameTicks net (ticks (suc k)) (ticks k)) → 1 ≤ waves → ChangesAt net estimates waves mail kept due → waves < budget net
spent_few net estimates waves mail kept due c rest some h = go (cases_le (budget net) waves)
  where
    changes : (k : ℕ) → suc k ≡ waves → budget net ≤ waves → ⊥
    changes k e le =
        let s = some_waves net c estimates in
        let d = h s.0 s.1 (λ m l. ap (λ (t : Ticks). t m) s.2) k e in
        d.differs (sym (rest s.0 s.1 k (omega (arith, le, e)) mail d.listed))

    some_k : (n : ℕ) → n ≡ waves → budget net ≤ waves → ⊥
    some_k zero e le = omega (arith, e, some)
    some_k (suc k) e le = changes k e le

    go : (budget net ≤ waves) ⊎ (waves < budget net) → waves < budget net
    go (inl le) = absurd (some_k waves refl le)
    go (inr lt) = lt

-- ---- fields

pub none_done : (s : Field) → IsField s → AreDone s s 0 None
none_done s f = record { field = f; log = refl; machine = refl; fits = λ most h. h; now = λ ticks are begin. begin; last_is = inl refl }

module _ (s now next : Field) (n : ℕ) (last : Option Correction) (f : IsField s) (d : AreDone s now n last) (log : next.log ≡ now.log) (machine : next.machine ≡ now.machine) where
  same : net_in now ≡ net_in s
  same i = net_on (d.log i).now (d.machine i).now

  here : net_in next ≡ net_in now
  here i = net_on (log i).now (machine i).now

  c : Causal (net_in s)
  c = causal s.log.now s.machine.now f.valid

  fits_next : FitsAsBefore (net_in now) (ticks_of now) (ticks_of next) → FitsAsBefore (net_in s) (ticks_of s) (ticks_of next)
  fits_next h = λ most a. subst (λ x. FitsAsBefore x (ticks_of now) (ticks_of next)) same h most (d.fits most a)

  -- where the wave found no memory.
  pub wave_failed : FitsAsBefore (net_in now) (ticks_of now) (ticks_of next) → FitsAsBefore (net_in s) (ticks_of s) (ticks_of next)
  wave_failed = fits_next

  module _ (raced : Raced (net_in now) (world_of now) (world_of next)) where
    there : Raced (net_in s) (world_of now) (world_of next)
    there = subst (λ x. Raced x (world_of now) (world_of next)) same raced

    -- after a wave that changes a tick.
    pub wave_done : (x : Correction) (xs : List Correction) → IsField next → FitsAsBefore (net_in now) (ticks_of now) (ticks_of next) → AreChanges (net_in now) (ticks_of now) (ticks_of next) (x ∷ xs) → ChangesRise (x ∷ xs) → AreDone s next (n + 1) (Some x)
    wave_done x xs field fits changes rises = record {
      field = field;
      log = log ∙ d.log;
      machine = machine ∙ d.machine;
      fits = fits_next fits;
      now = subst (λ k. OfWaves (net_in s) (ticks_of s) (λ ticks. SameTicks (net_in s) (ticks k) (ticks_of next))) more then;
      last_is = inr (
        x,
        refl,
        λ ticks are begin k e.
            let q : n ≡ k = omega (arith, e) in
            least_first (net_in s) (ticks_of now) (ticks_of next) (ticks k) (ticks (suc k)) x xs
            (subst (λ j. SameTicks (net_in s) (ticks j) (ticks_of now)) q (d.now ticks are begin))
            (subst (λ j. SameTicks (net_in s) (ticks (suc j)) (ticks_of next)) q (then ticks are begin))
            (subst (λ y. AreChanges y (ticks_of now) (ticks_of next) (x ∷ xs)) same changes) rises,
      );
    }
      where
        more : suc n ≡ n + 1
        more = omega arith

        then : OfWaves (net_in s) (ticks_of s) (λ ticks. SameTicks (net_in s) (ticks (suc n)) (ticks_of next))
        then = next_ticks (net_in s) c (ticks_of s) (ticks_of now) (ticks_of next) n d.now there.wave

    -- after one that changes none.
    pub wave_still : (waves : ℕ) → n < waves → AreChanges (net_in now) (ticks_of now) (ticks_of next) [] → AreWithin s next waves None
    wave_still waves less changes = (clean, still_at (net_in s) c (ticks_of s) (ticks_of now) (ticks_of next) n waves d.now there.wave none less)
      where
        none : SameTicks (net_in s) (ticks_of next) (ticks_of now)
        none = none_changed (net_in s) (ticks_of now) (ticks_of next) (subst (λ y. AreChanges y (ticks_of now) (ticks_of next) []) same changes)

        clean : (p : ℕ) → IsDirty (net_in next) (world_of next) p → ⊥
        clean = subst (λ y. (p : ℕ) → IsDirty y (world_of next) p → ⊥) (sym (here ∙ same)) (clean_after (net_in s) (world_of now) (world_of next) there none)

-- after the last wave of the budget.
pub budget_done : (s now : Field) (waves : ℕ) (last : Option Correction) → AreDone s now waves last → 1 ≤ waves → AreWithin s now waves last
budget_done s now waves last d some = go d.last_is
  where
    go : (waves ≡ 0) ⊎ ((c : Correction) × (last ≡ Some c) × ChangesAt (net_in s) (ticks_of s) waves c.mail c.was.0 c.tick.0) → AreWithin s now waves last
    go (inl e) = absurd (omega (arith, e, some))
    go (inr (x, e, h)) = subst (AreWithin s now waves) (sym e) h

-- what is told of it then.
pub budget_spent : (s : Field) → IsField s → (most : ℕ) (change : Correction) (told : BudgetSpent) → 1 ≤ most → ChangesAt (net_in s) (ticks_of s) most change.mail change.was.0 change.tick.0 → told.waves ≡ most → told.mail ≡ change.mail → told.kept ≡ change.was → told.due ≡ change.tick → IsSpent (net_in s) (ticks_of s) most told
budget_spent s f most change told some last e mail kept due = record {
  waves = e;
  some = some;
  few = spent_few (net_in s) (ticks_of s) most change.mail change.was.0 change.tick.0 (causal s.log.now s.machine.now f.valid) (waves s.log.now (machine_of s.machine.now) f.valid (fitted_is_timely s.machine.now)) some last;
  last = subst (λ m. ChangesAt (net_in s) (ticks_of s) most m told.kept.0 told.due.0) (sym mail)
      (subst (λ (t : Tick). ChangesAt (net_in s) (ticks_of s) most change.mail t.0 told.due.0) (sym kept)
      (subst (λ (t : Tick). ChangesAt (net_in s) (ticks_of s) most change.mail change.was.0 t.0) (sym due) last));
}
