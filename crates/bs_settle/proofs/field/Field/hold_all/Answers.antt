use Rattle.std.proofs.Common.{◌+◌, ◌∙◌, drop, get_or, ap, subst, sym}
use Rattle.std.proofs.lemmas.List.{drop_more}
use Rattle.bs_times.specs.Times.{IsListed}
use Rattle.bs_schedule.proofs.Places.{place_mem}
use Rattle.bs_line.specs.declared.corrections.Correction.{Correction}
use Rattle.bs_settle.specs.Changes.{CanBeHeld, held_after}
use Rattle.bs_settle.specs.Field.{ticks_of}
use Rattle.bs_settle.proofs.Holds.{holds_further, same_net}
use Rattle.bs_settle.proofs.field.Field.hold_all.Goals as goal

pub hold-requires-clause-can : goal.hold-requires-clause-can
hold-requires-clause-can c =
    let k = c.loop-correction.correction-index in
    let item : Correction = get_or c.args.list.now k (record { mail = record { row = 0; index = 0 }; to = 0; was = record { 0 = 0 }; tick = record { 0 = 0 } }) in
    subst (λ n. CanBeHeld n item.mail item.to item.tick.0) (sym (same_net c.args.self.now c.loop-correction.self c.loop-correction.invariant.0.same)) (c.requires.can item (place_mem c.args.list.now k _ c.loop-correction-test.true))

pub loop-correction-preserved : goal.loop-correction-preserved
loop-correction-preserved c =
    let k = c.loop-correction.correction-index in
    let now = c.loop-correction.self in
    let old = c.args.self.now in
    let same = c.loop-correction.invariant.0.same in (
      holds_further old now c.hold.new.self c.loop-correction.invariant.0 c.hold.ensures.holding,
      λ m listed.
          ap (held_after (drop (k + 1) c.args.list.now) m) (c.hold.ensures.held m (subst (λ n. IsListed n m) (sym (same_net old now same)) listed))
          ∙ sym (ap (λ xs. held_after xs m (ticks_of now m)) (drop_more c.args.list.now k _ c.loop-correction-test.true))
          ∙ c.loop-correction.invariant.1 m listed,
    )
