-- Fields of one log and machine, and what a wave makes of them.
use Rattle.std.proofs.Common.{◌≡◌, ◌<◌, ◌^◌, ◌⊎◌, inl, inr, ℕ, List, sym, ap, subst, ◌∙◌}
use Rattle.std.proofs.lemmas.Bool.{cases_eq}
use Rattle.bs_log.specs.declared.log.MailRef.{MailRef}
use Rattle.bs_log.specs.Valid.{IsValid}
use Rattle.bs_log.specs.Lists.{Mem}
use Rattle.bs_times.specs.Net.{Net, Ticks, Causal}
use Rattle.bs_times.specs.Times.{IsListed}
use Rattle.bs_times.specs.Racing.{Raced, World}
use Rattle.bs_times.specs.Bounds.{AllFit, Fits, IsShort}
use Rattle.bs_times.proofs.WaveBounds.{wave_small}
use Rattle.bs_schedule.specs.Plan.{at}
use Rattle.bs_line.specs.declared.corrections.Correction.{Correction}
use Rattle.bs_settle.specs.declared.field.Field.{Field}
use Rattle.bs_settle.specs.Changes.{AreChanges, CanBeHeld, HasChange, held_after}
use Rattle.bs_settle.specs.Field.{AreFieldLines, FitsAsBefore, IsField, IsSameField, given_of, net_in, ticks_of, world_of}
use Rattle.bs_settle.specs.Holding.{IsHolding}
use Rattle.bs_settle.specs.Lines.{AreLines, given_in, held_in, world_in}
use Rattle.bs_settle.specs.Refreshing.{AreFresh, IsRefreshing}
use Rattle.bs_settle.proofs.Holds.{same_further, same_net}
use Rattle.bs_settle.proofs.Premises.{causal, short}
use Rattle.bs_settle.proofs.Waved.{changes_same, given_fits, held_is, raced}

-- ---- two fields of one log and machine

module _ (s new : Field) (same : IsSameField s new) where
  pub view : (P : Net → List ℕ → Type 0) → P (net_in s) s.places.items → P (net_in new) new.places.items
  view P h = subst (λ ps. P (net_in new) ps) (λ i. (sym same.places i).items) (subst (λ n. P n s.places.items) (sym (same_net s new same)) h)

  pub unview : (P : Net → List ℕ → Type 0) → P (net_in new) new.places.items → P (net_in s) s.places.items
  unview P h = subst (λ ps. P (net_in s) ps) (λ i. (same.places i).items) (subst (λ n. P n new.places.items) (same_net s new same) h)

  pub ticks_seen : (m : MailRef) → ticks_of new m ≡ held_in (net_in s) s.places.items new.lines.items m
  ticks_seen m i = held_in (same_net s new same i) (same.places i).items new.lines.items m

  pub given_seen : (m : MailRef) → given_of new m ≡ given_in (net_in s) s.places.items new.lines.items m
  given_seen m i = given_in (same_net s new same i) (same.places i).items new.lines.items m

  pub world_seen : world_of new ≡ world_in (net_in s) s.places.items new.lines.items
  world_seen i = world_in (same_net s new same i) (same.places i).items new.lines.items

  pub listed_there : (m : MailRef) → IsListed (net_in s) m → IsListed (net_in new) m
  listed_there m l = subst (λ n. IsListed n m) (sym (same_net s new same)) l

  pub make_field : IsField s → AreLines (net_in s) s.places.items new.lines.items → ((m : MailRef) → IsListed (net_in s) m → held_in (net_in s) s.places.items new.lines.items m ≡ given_in (net_in s) s.places.items new.lines.items m) → (most : ℕ) → most < 2 ^ 107 → AllFit (net_in s) most (held_in (net_in s) s.places.items new.lines.items) → IsField new
  make_field f lines as_given most below fits = record {
    valid = subst (λ l. IsValid l) (λ i. (sym same.log i).now) f.valid;
    fitted = (λ i. (same.machine i).now.chares) ∙ f.fitted ∙ (λ i. (sym same.log i).now.chares);
    lines = view (λ n ps. AreLines n ps new.lines.items) lines;
    as_given = view (λ n ps. (m : MailRef) → IsListed n m → held_in n ps new.lines.items m ≡ given_in n ps new.lines.items m) as_given;
    most = most;
    below = below;
    fits = view (λ n ps. AllFit n most (held_in n ps new.lines.items)) fits;
  }

-- ---- a field whose lines were recomputed

module _ (s mid : Field) (list : List Correction) (f : IsField s) (ch : IsRefreshing s mid list) where
  abbrev given : Ticks
  given = given_in (net_in s) s.places.items mid.lines.items

  c : Causal (net_in s)
  c = causal s.log.now s.machine.now f.valid

  net_short : IsShort (net_in s)
  net_short = short s.log.now s.machine.now f.valid

  fit : (most : ℕ) → AllFit (net_in s) most (ticks_of s) → AllFit (net_in s) most given
  fit most fits = given_fits (net_in s) s.places.items mid.lines.items c ch.lines net_short s.lines.items ch.held ch.either f.as_given most fits

  pub mid_lines : AreFieldLines mid
  mid_lines = view s mid ch.same (λ n ps. AreLines n ps mid.lines.items) ch.lines

  pub mid_valid : IsValid mid.log.now
  mid_valid = subst (λ l. IsValid l) (λ i. (sym ch.same.log i).now) f.valid

  -- its changes can be held.
  pub can_hold : (order : List Correction) → AreChanges (net_in s) (given_of s) (given_in (net_in s) s.places.items mid.lines.items) order → (x : Correction) → Mem x order → CanBeHeld (net_in mid) x.mail x.to x.tick.0
  can_hold order h x m =
      let is = h.sound x m in
      let small : given x.mail < 2 ^ 110 = wave_small (net_in s) c net_short f.most f.below x.mail (given x.mail) is.listed (fit f.most f.fits x.mail is.listed) in
      subst (λ n. CanBeHeld n x.mail x.to x.tick.0) (sym (same_net s mid ch.same)) (record { listed = is.listed; goes = sym is.to; early = subst (λ t. t < 2 ^ 110) (sym is.tick) small })

  -- after they are held.
  module _ (new : Field) (order : List Correction) (h : AreChanges (net_in s) (given_of s) (given_in (net_in s) s.places.items mid.lines.items) order) (holding : IsHolding mid new) (holds : (m : MailRef) → IsListed (net_in mid) m → ticks_of new m ≡ held_after order m (ticks_of mid m)) where
    same : IsSameField s new
    same = same_further s mid new ch.same holding.same

    lines : AreLines (net_in s) s.places.items new.lines.items
    lines = unview s new same (λ n ps. AreLines n ps new.lines.items) holding.lines

    now_given : (m : MailRef) → given_in (net_in s) s.places.items new.lines.items m ≡ given m
    now_given m = ap (λ xs. at xs (at s.places.items ((net_in s).home m.row))) (holding.given m)

    sets : (m : MailRef) → IsListed (net_in s) m → held_in (net_in s) s.places.items new.lines.items m ≡ given m
    sets m l =
        sym (ticks_seen s new same m)
        ∙ holds m (listed_there s mid ch.same m l)
        ∙ held_is order m (ticks_of mid m) (given m) (λ x n e. (h.sound x n).tick ∙ ap given e) (either (cases_eq (given_of s m) (given m)))
      where
        either : (given_of s m ≡ given m) ⊎ (given_of s m ≡ given m → ⊥) → (ticks_of mid m ≡ given m) ⊎ HasChange order m
        either (inl e) = inl (ticks_seen s mid ch.same m ∙ ch.held m ∙ f.as_given m l ∙ e)
        either (inr n) = inr (h.all m l n)

    as_given : (m : MailRef) → IsListed (net_in s) m → held_in (net_in s) s.places.items new.lines.items m ≡ given_in (net_in s) s.places.items new.lines.items m
    as_given m l = sets m l ∙ sym (now_given m)

    pub fits_after : FitsAsBefore (net_in s) (ticks_of s) (ticks_of new)
    fits_after most fits m l = subst (Fits (net_in s) most m) (sym (ticks_seen s new same m ∙ sets m l)) (fit most fits m l)

    pub field_after : IsField new
    field_after = make_field s new same f lines as_given f.most f.below (λ m l. subst (Fits (net_in s) f.most m) (sym (sets m l)) (fit f.most f.fits m l))

    pub changes_after : AreChanges (net_in s) (ticks_of s) (ticks_of new) order
    changes_after = changes_same (net_in s) (given_of s) given (ticks_of s) (ticks_of new) order f.as_given (λ m l. ticks_seen s new same m ∙ sets m l) h

    pub raced_after : AreFresh s mid → Raced (net_in s) (world_of s) (world_of new)
    raced_after fresh = subst (λ (w : World). Raced (net_in s) (world_of s) w) (sym (world_seen s new same))
        (raced (net_in s) s.places.items s.lines.items mid.lines.items new.lines.items c ch.lines lines ch.held fresh holding.used holding.given holding.begun sets)

    -- and begun anew.
    pub field_anew : (anew : Field) → AreFieldLines anew → IsSameField new anew → ((m : MailRef) → ticks_of anew m ≡ ticks_of new m) → ((m : MailRef) → given_of anew m ≡ given_of new m) → IsField anew
    field_anew anew are again ticks gave =
        let all = same_further s new anew same again in
        make_field s anew all f
        (unview s anew all (λ n ps. AreLines n ps anew.lines.items) are)
        (λ m l. sym (ticks_seen s anew all m) ∙ ticks m ∙ ticks_seen s new same m ∙ as_given m l ∙ sym (given_seen s new same m) ∙ sym (gave m) ∙ given_seen s anew all m)
        f.most f.below
        (λ m l. subst (Fits (net_in s) f.most m) (sym (sym (ticks_seen s anew all m) ∙ ticks m)) (fits_after f.most f.fits m l))
