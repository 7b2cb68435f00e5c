-- Waves and racing waves give no tick beyond its bound.
use Rattle.std.proofs.Common.{◌≡◌, ◌==◌, ◌⊎◌, inl, inr, ℕ, zero, suc, ◌*◌, ◌^◌, ◌<◌, ◌≤◌, Bool, true, false, if◌then◌else◌, Option, Some, None, refl, sym, subst, ◌∙◌, arith}
use Rattle.std.proofs.lemmas.Bool.{eqb-true, true≢false}
use Rattle.std.proofs.lemmas.Nat.{mul-le}
use Rattle.bs_log.specs.declared.log.MailRef.{MailRef}
use Rattle.bs_times.specs.Net.{Net, Starts, Ticks, Causal}
use Rattle.bs_times.specs.Times.{IsLine, IsListed, IsWave, AreWaves, arrival}
use Rattle.bs_times.specs.Racing.{World, Race, Races, begins, recomputes, sets, IsRacingWave, AreRacingWaves, correction, recomputed, same_mail, set_at}
use Rattle.bs_times.specs.Bounds.{IsShort, Fits, AllFit}
use Rattle.bs_times.proofs.Bounds.{line_fits}
use Rattle.bs_times.proofs.Racing.{mail_tells}

module _ (net : Net) (c : Causal net) (short : IsShort net) (most : ℕ) where
  above : (m : MailRef) → IsListed net m → net.depth m.row * 2 ^ 67 ≤ 262144 * 2 ^ 67
  above m listed = mul-le (net.depth m.row) (2 ^ 67) 262144 (2 ^ 67) (short.depth m.row (c.mail listed.0 m listed.1 listed.2).0).1 (omega arith)

  pub wave_small : most < 2 ^ 107 → (m : MailRef) (tick : ℕ) → IsListed net m → Fits net most m tick → tick < 2 ^ 110
  wave_small h m tick listed fit = omega (arith, h, fit, above m listed)

  pub line_small : most < 2 ^ 110 → (m : MailRef) (tick : ℕ) → IsListed net m → Fits net most m tick → tick < 2 ^ 111
  line_small h m tick listed fit = omega (arith, h, fit, above m listed)

  pub wave_fits : (held given : Ticks) → IsWave net held given → AllFit net most held → AllFit net most given
  wave_fits held given wave fits m listed = subst (Fits net most m) (sym (wave.arrives m listed))
      (line_fits net c short (net.home m.row) most held wave.table (wave.lines (net.home m.row)) (λ k l e. fits k l) m listed refl)

  pub waves_fit : (ticks : ℕ → Ticks) → AreWaves net ticks → AllFit net most (ticks 0) → (k : ℕ) → AllFit net most (ticks k)
  waves_fit ticks waves fits zero = fits
  waves_fit ticks waves fits (suc k) = wave_fits (ticks k) (ticks (suc k)) (waves k) (waves_fit ticks waves fits k)

  -- ---- racing waves

  abbrev Only : MailRef → Option ℕ → Type 0
  Only m None = Unit {0}
  Only m (Some tick) = Fits net most m tick

  -- in the course of a racing wave.
  record Bounded (a : Race) : Type 0 where
    held : AllFit net most a.world.held
    given : AllFit net most a.world.given
    unset : (m : MailRef) → IsListed net m → Only m (a.unset m)

  either : {A : Type 0} (P : A → Type 0) (b : Bool) (x y : A) → (b ≡ true → P x) → P y → P (if b then x else y)
  either P true x y h k = h refl
  either P false x y h k = k

  same : (m k : MailRef) → same_mail m k ≡ true → m ≡ k
  same m k e = go (mail_tells m k)
    where
      go : ((same_mail m k ≡ true) × (m ≡ k)) ⊎ (same_mail m k ≡ false) → m ≡ k
      go (inl d) = d.1
      go (inr f) = absurd (true≢false (sym e ∙ f))

  when_recomputed : (a : Race) (p : ℕ) (table : Starts) → Bounded a → IsLine net p a.world.held table → Bounded (recomputed net p table a)
  when_recomputed a p table before line = record {
    held = before.held;
    given = λ m l. either (Fits net most m) (net.home m.row == p) (arrival net table m) (a.world.given m) (gives m l) (before.given m l);
    unset = λ m l. either (Only m) (net.home m.row == p) (correction (a.world.given m) (arrival net table m)) (a.unset m)
        (λ e. either (Only m) (a.world.given m == arrival net table m) None (Some (arrival net table m)) (λ f. tt) (gives m l e))
        (before.unset m l);
  }
    where
      gives : (m : MailRef) → IsListed net m → (net.home m.row == p) ≡ true → Fits net most m (arrival net table m)
      gives m l e = line_fits net c short p most a.world.held table line (λ k j f. before.held k j) m l (eqb-true _ _ e)

  when_set : (a : Race) (k : MailRef) (tick : ℕ) → Bounded a → IsListed net k → a.unset k ≡ Some tick → Bounded (set_at k tick a)
  when_set a k tick before listed is_unset = record {
    held = λ m l. either (Fits net most m) (same_mail m k) tick (a.world.held m) (λ e. subst (λ y. Fits net most y tick) (sym (same m k e)) fits) (before.held m l);
    given = before.given;
    unset = λ m l. either (Only m) (same_mail m k) None (a.unset m) (λ e. tt) (before.unset m l);
  }
    where
      fits : Fits net most k tick
      fits = subst (Only k) is_unset (before.unset k listed)

  bounded : (w : World) → AllFit net most w.held → AllFit net most w.given → (a : Race) → Races net w a → Bounded a
  bounded w h g _ begins = record { held = h; given = g; unset = λ m l. tt }
  bounded w h g _ (recomputes a p table races dirty new line) = when_recomputed a p table (bounded w h g a races) line
  bounded w h g _ (sets a k tick races listed is_unset may) = when_set a k tick (bounded w h g a races) listed is_unset

  pub race_fits : (w : World) → AllFit net most w.held → AllFit net most w.given → (a : Race) → Races net w a → AllFit net most a.world.held × AllFit net most a.world.given × ((m : MailRef) (tick : ℕ) → IsListed net m → a.unset m ≡ Some tick → Fits net most m tick)
  race_fits w h g a races =
      let b = bounded w h g a races in
      (b.held, b.given, λ m tick l e. subst (Only m) e (b.unset m l))

  pub racing_wave_fits : (w v : World) → AllFit net most w.held → AllFit net most w.given → IsRacingWave net w v → AllFit net most v.held × AllFit net most v.given
  racing_wave_fits w v h g wave =
      let b = bounded w h g wave.race wave.races in
      subst (λ x. AllFit net most x.held × AllFit net most x.given) (sym wave.ends) (b.held, b.given)

  pub racing_waves_fit : (worlds : ℕ → World) → AreRacingWaves net worlds → AllFit net most (worlds 0).held → AllFit net most (worlds 0).given → (k : ℕ) → AllFit net most (worlds k).held × AllFit net most (worlds k).given
  racing_waves_fit worlds waves h g zero = (h, g)
  racing_waves_fit worlds waves h g (suc k) =
      let before = racing_waves_fit worlds waves h g k in
      racing_wave_fits (worlds k) (worlds (suc k)) before.0 before.1 (waves k)
