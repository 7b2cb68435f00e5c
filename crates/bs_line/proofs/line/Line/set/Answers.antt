use Rattle.std.proofs.Common.{◌≡◌, ◌<◌, ◌^◌, ◌∙◌, length, set, ap, sym, subst, arith}
use Rattle.std.proofs.lemmas.List.{get_or_read, length-set}
use Rattle.bs_schedule.specs.Plan.{at}
use Rattle.bs_line.specs.Places.{differ, differing, mail_place}
use Rattle.bs_line.proofs.Counted.{differing_most}
use Rattle.bs_line.proofs.Dirty.{changed_after, early_after, has_place, least_changed, others_kept}
use Rattle.bs_line.proofs.line.Line.set.Goals as goal

pub overflow_sub-self : goal.overflow_sub-self
overflow_sub-self c =
    let s = c.args.self.now in
    let h = c.requires.ready in
    let place : c.mail_place-place.result ≡ mail_place s.layout.mails c.args.mail = c.mail_place-place.ensures.place ∙ ap (λ ms. mail_place ms c.args.mail) c.as_slice.ensures in
    let known = has_place s h c.args.mail c.requires.listed in
    let in_held : c.mail_place-place.result < length s.held.items = omega (arith, place, known.0, h.held_length) in
    let in_used : c.mail_place-place.result < length s.used.items = omega (arith, place, known.0, h.used_length) in
    let was = get_or_read s.held.items _ _ in_held c.index-was.ensures 0 ∙ ap (at s.held.items) place in
    let used = get_or_read s.used.items _ _ in_used c.index-used.ensures 0 ∙ ap (at s.used.items) place in
    let before : c.differ.result ≡ differ (at s.held.items (mail_place s.layout.mails c.args.mail)) (at s.used.items (mail_place s.layout.mails c.args.mail)) = c.differ.ensures.value ∙ ap (λ w. differ w c.index-used.result.now) was ∙ ap (differ (at s.held.items (mail_place s.layout.mails c.args.mail))) used in
    omega (arith, before, least_changed s h c.args.mail c.args.tick.0 c.requires.listed)

pub overflow_add-self : goal.overflow_add-self
overflow_add-self c =
    let s = c.args.self.now in
    omega (arith, c.differ-2.ensures.small, c.requires.ready.changed, differing_most s.held.items s.used.items, s.held.ok.0, s.held.small)

pub returns-clause-ready : goal.returns-clause-ready
returns-clause-ready c =
    let s = c.args.self.now in
    let h = c.requires.ready in
    let place : c.mail_place-place.result ≡ mail_place s.layout.mails c.args.mail = c.mail_place-place.ensures.place ∙ ap (λ ms. mail_place ms c.args.mail) c.as_slice.ensures in
    let known = has_place s h c.args.mail c.requires.listed in
    let in_held : c.mail_place-place.result < length s.held.items = omega (arith, place, known.0, h.held_length) in
    let in_used : c.mail_place-place.result < length s.used.items = omega (arith, place, known.0, h.used_length) in
    let was = get_or_read s.held.items _ _ in_held c.index-was.ensures 0 ∙ ap (at s.held.items) place in
    let used = get_or_read s.used.items _ _ in_used c.index-used.ensures 0 ∙ ap (at s.used.items) place in
    let before : c.differ.result ≡ differ (at s.held.items (mail_place s.layout.mails c.args.mail)) (at s.used.items (mail_place s.layout.mails c.args.mail)) = c.differ.ensures.value ∙ ap (λ w. differ w c.index-used.result.now) was ∙ ap (differ (at s.held.items (mail_place s.layout.mails c.args.mail))) used in
    let after : c.differ-2.result ≡ differ c.args.tick.0 (at s.used.items (mail_place s.layout.mails c.args.mail)) = c.differ-2.ensures.value ∙ ap (differ c.args.tick.0) used in
    record {
      valid = h.valid;
      fitted = h.fitted;
      layout = h.layout;
      held_length = length-set s.held.items c.mail_place-place.result c.args.tick.0 ∙ h.held_length;
      used_length = h.used_length;
      given_length = h.given_length;
      starts_length = h.starts_length;
      early = λ i. subst (λ k. at (set s.held.items k c.args.tick.0) i < 2 ^ 110) (sym place) (early_after s h c.args.mail c.args.tick.0 c.requires.listed c.requires.early i);
      changed = omega (arith, before, after, changed_after s h c.args.mail c.args.tick.0 c.requires.listed, ap (λ k. differing (set s.held.items k c.args.tick.0) s.used.items) place);
    }

pub returns-clause-others : goal.returns-clause-others
returns-clause-others c m other =
    let s = c.args.self.now in
    let h = c.requires.ready in
    let place : c.mail_place-place.result ≡ mail_place s.layout.mails c.args.mail = c.mail_place-place.ensures.place ∙ ap (λ ms. mail_place ms c.args.mail) c.as_slice.ensures in
    ap (λ k. at (set s.held.items k c.args.tick.0) (mail_place s.layout.mails m)) place ∙ others_kept s h c.args.mail c.args.tick.0 c.requires.listed m other
