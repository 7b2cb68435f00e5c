-- The number of the first wave that changes no tick.
use Rattle.std.proofs.Common.{◌≡◌, ◌≤◌, ◌<◌, ◌+◌, ◌==◌, ◌⊎◌, inl, inr, ℕ, zero, suc, true, false, List, [], ◌∷◌, Option, Some, length, refl, sym, ap, subst, ◌∙◌, arith}
use Rattle.std.proofs.lemmas.Bool.{true≢false}
use Rattle.std.proofs.lemmas.Bool.Decides.{nat_tests}
use Rattle.std.proofs.lemmas.List.{nil_from_length}
use Rattle.bs_times.specs.Net.{Net, Ticks, Causal}
use Rattle.bs_times.specs.Times.{AreWaves, IsStill, SameTicks, Settles, budget}
use Rattle.bs_times.proofs.Repeated.{same_waves, some_waves}
use Rattle.bs_times.proofs.Settles.{one_settles, some_settles, stays_still}
use Rattle.bs_times.specs.Racing.{Raced}
use Rattle.bs_line.specs.declared.corrections.Correction.{Correction}
use Rattle.bs_settle.specs.declared.field.Field.{Field}
use Rattle.bs_settle.specs.Changes.{AreChanges, ChangesRise}
use Rattle.bs_settle.specs.Field.{FitsAsBefore, IsField, net_in, ticks_of, world_of}
use Rattle.bs_settle.specs.Settled.{ChangesAt, IsClean, SettlesAt, StillAt}
use Rattle.bs_settle.proofs.Premises.{causal}
use Rattle.bs_settle.proofs.Within.{AreDone, wave_done, wave_still}

-- the field after n waves, each of which changed a tick
abbrev pub IsCounting : Field → Field → ℕ → Type 0
IsCounting old new n = (last : Option Correction) × AreDone old new n last

-- a wave that changes no tick, after one that changes one, is the first.
pub settles_at : (net : Net) → Causal net → (estimates : Ticks) (n : ℕ) (last : Option Correction) → (n ≡ 0) ⊎ ((c : Correction) × (last ≡ Some c) × ChangesAt net estimates n c.mail c.was.0 c.tick.0) → StillAt net estimates (n + 1) → SettlesAt net estimates (n + 1)
settles_at net c estimates n last h still = record {
  some = omega arith;
  settles = λ ticks are begin k e. record {
    still = still ticks are begin k e;
    first = λ j less before. early ticks are begin j (omega (arith, less, e)) before h;
  };
}
  where
    early : (ticks : ℕ → Ticks) → AreWaves net ticks → SameTicks net (ticks 0) estimates → (j : ℕ) → j < n → IsStill net ticks j → (n ≡ 0) ⊎ ((c : Correction) × (last ≡ Some c) × ChangesAt net estimates n c.mail c.was.0 c.tick.0) → ⊥
    early ticks are begin j less before (inl e) = omega (arith, less, e)
    early ticks are begin j less before (inr (x, is, changes)) = by n refl
      where
        by : (m : ℕ) → m ≡ n → ⊥
        by zero e = omega (arith, less, e)
        by (suc m) e = let d = changes ticks are begin m e in d.differs (sym (stays_still net c ticks are j before m (omega (arith, less, e)) x.mail d.listed))

-- ---- whether a wave changes a tick

pub no_change : (list : List Correction) (items : List Correction) → items ≡ list → true ≡ (length items == 0) → list ≡ []
no_change list items same e = sym same ∙ nil_from_length items (grind (arith, nat_tests))

pub some_change : (list : List Correction) (items : List Correction) → items ≡ list → false ≡ (length items == 0) → (x : Correction) × (rest : List Correction) × (list ≡ x ∷ rest)
some_change list [] same e = absurd (true≢false (sym e))
some_change list (x ∷ rest) same e = (x, rest, sym same)

-- ---- one wave more

module _ (s now next : Field) (n : ℕ) (f : IsField s) (d : IsCounting s now n) (log : next.log ≡ now.log) (machine : next.machine ≡ now.machine) (raced : Raced (net_in now) (world_of now) (world_of next)) where
  pub counted_still : AreChanges (net_in now) (ticks_of now) (ticks_of next) [] → IsClean next × SettlesAt (net_in s) (ticks_of s) (n + 1)
  counted_still changes =
      let still = wave_still s now next n d.0 f d.1 log machine raced (n + 1) (omega arith) changes in
      (still.0, settles_at (net_in s) (causal s.log.now s.machine.now f.valid) (ticks_of s) n d.0 d.1.last_is still.1)

  pub counted_more : (x : Correction) (xs : List Correction) → IsField next → FitsAsBefore (net_in now) (ticks_of now) (ticks_of next) → AreChanges (net_in now) (ticks_of now) (ticks_of next) (x ∷ xs) → ChangesRise (x ∷ xs) → IsCounting s next (n + 1)
  counted_more x xs field fits changes rises = (Some x, wave_done s now next n d.0 f d.1 log machine raced x xs field fits changes rises)

-- ---- there is one number

-- a wave of others from the same ticks is still where this one is.
still_too : (net : Net) → Causal net → (a b : ℕ → Ticks) → AreWaves net a → AreWaves net b → SameTicks net (a 0) (b 0) → (k : ℕ) → IsStill net a k → IsStill net b k
still_too net c a b v w same k still m l = sym (same_waves net c a b v w same (suc k) m l) ∙ still m l ∙ same_waves net c a b v w same k m l

pub some_first : (net : Net) → Causal net → (estimates : Ticks) → (n : ℕ) × (n ≤ budget net) × SettlesAt net estimates n
some_first net c estimates = (suc first.0, first.1, record { some = omega arith; settles = at })
  where
    waves : (ticks : ℕ → Ticks) × AreWaves net ticks × (ticks 0 ≡ estimates)
    waves = some_waves net c estimates

    first : (k : ℕ) × (suc k ≤ budget net) × Settles net waves.0 k
    first = some_settles net c waves.0 waves.1

    at : (ticks : ℕ → Ticks) → AreWaves net ticks → SameTicks net (ticks 0) estimates → (k : ℕ) → suc k ≡ suc first.0 → Settles net ticks k
    at ticks are begin k e = subst (Settles net ticks) here (record {
      still = still_too net c waves.0 ticks waves.1 are there first.0 first.2.still;
      first = λ j less still. first.2.first j less (still_too net c ticks waves.0 are waves.1 back j still);
    })
      where
        here : first.0 ≡ k
        here = omega (arith, e)

        there : SameTicks net (waves.0 0) (ticks 0)
        there m l = ap (λ (t : Ticks). t m) waves.2 ∙ sym (begin m l)

        back : SameTicks net (ticks 0) (waves.0 0)
        back m l = sym (there m l)

pub one_first : (net : Net) → Causal net → (a b : Ticks) (m n : ℕ) → SameTicks net a b → SettlesAt net a m → SettlesAt net b n → m ≡ n
one_first net c a b m n same first other = by m n refl refl
  where
    waves : (ticks : ℕ → Ticks) × AreWaves net ticks × (ticks 0 ≡ a)
    waves = some_waves net c a

    from : SameTicks net (waves.0 0) a
    from k l = ap (λ (t : Ticks). t k) waves.2

    by : (i j : ℕ) → i ≡ m → j ≡ n → m ≡ n
    by zero j d e = absurd (omega (arith, d, first.some))
    by (suc i) zero d e = absurd (omega (arith, e, other.some))
    by (suc i) (suc j) d e =
        let one = one_settles net waves.0 i j (first.settles waves.0 waves.1 from i d) (other.settles waves.0 waves.1 (λ k l. from k l ∙ same k l) j e) in
        omega (arith, d, e, one)
