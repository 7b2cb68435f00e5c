-- Which ticks that a line holds aren't those that it used last.
use Rattle.std.proofs.Common.{◌≡◌, ◌≢◌, ◌≤◌, ◌<◌, ◌+◌, ◌-◌, ◌^◌, ◌⊎◌, inl, inr, ℕ, List, length, get_or, set, sym, ap, subst, ◌∙◌, arith, get_or-set_other}
use Rattle.std.proofs.lemmas.List.{get_or-set_same}
use Rattle.std.proofs.lemmas.Bool.{cases_eq, cases_order}
use Rattle.bs_log.specs.declared.log.MailRef.{MailRef}
use Rattle.bs_log.specs.Rising.{IsLower}
use Rattle.bs_schedule.specs.Plan.{at}
use Rattle.bs_schedule.proofs.Places.{place_mem}
use Rattle.bs_times.specs.Racing.{same_mail}
use Rattle.bs_line.specs.declared.line.Line.{Line}
use Rattle.bs_line.specs.Places.{differ, differing, mail_place}
use Rattle.bs_line.specs.Layout.{ComesTo}
use Rattle.bs_line.specs.Line.{IsMoved, IsReady, held_of, net_at}
use Rattle.bs_line.proofs.Counted.{differing_one, differing_set, none_differ, some_differ}
use Rattle.bs_line.proofs.Ordered.{in_order_at, lower_back, mail_tests, place_at, place_found, place_has}

module _ (line : Line) (h : IsReady line) where
  mails : List MailRef
  mails = line.layout.mails

  each : length line.used.items ≡ length line.held.items
  each = h.used_length ∙ sym h.held_length

  pub place_is : (k : ℕ) (d : MailRef) → k < length line.layout.mails → mail_place line.layout.mails (get_or line.layout.mails k d) ≡ k
  place_is k d lt = place_at same_mail mail_tests IsLower lower_back line.layout.mails k d h.layout.comes.rises lt

  -- a message that comes to the line has a place.
  pub has_place : (m : MailRef) → ComesTo (net_at line) line.processor m → (mail_place line.layout.mails m < length line.layout.mails) × ((d : MailRef) → get_or line.layout.mails (mail_place line.layout.mails m) d ≡ m)
  has_place m comes = place_found same_mail mail_tests line.layout.mails m ((h.layout.comes.all m).0 comes)

  pub moved_at : (k : ℕ) (d : MailRef) → k < length line.layout.mails → (at line.held.items k ≡ at line.used.items k → ⊥) → IsMoved line (get_or line.layout.mails k d)
  moved_at k d lt other = (
    (h.layout.comes.all (get_or line.layout.mails k d)).1 (place_mem line.layout.mails k d lt),
    λ e. other (ap (at line.held.items) (sym (place_is k d lt)) ∙ e ∙ ap (at line.used.items) (place_is k d lt)),
  )

  pub clean : line.changed ≡ 0 → (m : MailRef) → IsMoved line m → ⊥
  clean z m d =
      let place = has_place m d.0 in
      d.1 (none_differ line.held.items line.used.items (mail_place line.layout.mails m) (omega (arith, place.0, h.held_length)) each (sym h.changed ∙ z))

  pub dirty : (line.changed ≡ 0 → ⊥) → (m : MailRef) × IsMoved line m
  dirty n =
      let d = some_differ line.held.items line.used.items each (λ z. n (h.changed ∙ z)) in
      let none : MailRef = record { row = 0; index = 0 } in
      (get_or line.layout.mails d.0 none, moved_at d.0 none (omega (arith, d.1, h.held_length)) d.2)

  -- where no tick differs before a place, the message there is not above others whose ticks do.
  pub least_at : (k : ℕ) (d : MailRef) → k < length line.layout.mails → ((j : ℕ) → j < k → at line.held.items j ≡ at line.used.items j) → (m : MailRef) → IsMoved line m → (m ≡ get_or line.layout.mails k d) ⊎ IsLower (get_or line.layout.mails k d) m
  least_at k d lt before m moved = go (cases_order place k)
    where
      place : ℕ
      place = mail_place line.layout.mails m

      known : (place < length line.layout.mails) × ((d : MailRef) → get_or line.layout.mails place d ≡ m)
      known = has_place m moved.0

      go : (place ≡ k) ⊎ ((place < k) ⊎ (k < place)) → (m ≡ get_or line.layout.mails k d) ⊎ IsLower (get_or line.layout.mails k d) m
      go (inl e) = inl (sym (known.1 d) ∙ ap (λ j. get_or line.layout.mails j d) e)
      go (inr (inl less)) = absurd (moved.1 (before place less))
      go (inr (inr more)) = inr (subst (λ z. IsLower (get_or line.layout.mails k d) z) (known.1 d) (in_order_at IsLower line.layout.mails k place d h.layout.comes.rises more known.0))

  module _ (mail : MailRef) (tick : ℕ) (comes : ComesTo (net_at line) line.processor mail) where
    abbrev place : ℕ
    place = mail_place line.layout.mails mail

    within : place < length line.held.items
    within = omega (arith, (has_place mail comes).0, h.held_length)

    pub least_changed : differ (at line.held.items (mail_place line.layout.mails mail)) (at line.used.items (mail_place line.layout.mails mail)) ≤ line.changed
    least_changed = omega (arith, differing_one line.held.items line.used.items place within each, h.changed)

    pub changed_after : line.changed - differ (at line.held.items (mail_place line.layout.mails mail)) (at line.used.items (mail_place line.layout.mails mail)) + differ tick (at line.used.items (mail_place line.layout.mails mail)) ≡ differing (set line.held.items (mail_place line.layout.mails mail) tick) line.used.items
    changed_after = omega (arith, least_changed, h.changed, differing_set line.held.items line.used.items place tick within each)

    pub early_after : tick < 2 ^ 110 → (i : ℕ) → at (set line.held.items (mail_place line.layout.mails mail) tick) i < 2 ^ 110
    early_after early i = go (cases_eq i place)
      where
        go : (i ≡ place) ⊎ (i ≡ place → ⊥) → at (set line.held.items place tick) i < 2 ^ 110
        go (inl e) = omega (arith, early, ap (at (set line.held.items place tick)) e ∙ get_or-set_same line.held.items place tick 0 within)
        go (inr n) = omega (arith, h.early i, get_or-set_other line.held.items place i tick 0 n)

    pub others_kept : (m : MailRef) → m ≢ mail → at (set line.held.items (mail_place line.layout.mails mail) tick) (mail_place line.layout.mails m) ≡ held_of line m
    others_kept m n = get_or-set_other line.held.items place (mail_place line.layout.mails m) tick 0 other
      where
        known : (place < length line.layout.mails) × ((d : MailRef) → get_or line.layout.mails place d ≡ mail)
        known = has_place mail comes

        other : mail_place line.layout.mails m ≡ place → ⊥
        other e = n (sym (place_has same_mail mail_tests line.layout.mails m m (omega (arith, e, known.0))) ∙ ap (λ j. get_or line.layout.mails j m) e ∙ known.1 m)
