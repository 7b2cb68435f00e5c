use Rattle.std.proofs.Common.{◌≡◌, ◌∷◌, ◌∙◌, subst, sym, arith}
use Rattle.bs_settle.specs.Changes.{AreChanges, ChangesRise}
use Rattle.bs_settle.specs.Field.{net_in, ticks_of}
use Rattle.bs_settle.proofs.Within.{budget_done, wave_done, wave_failed, wave_still, AreDone}
use Rattle.bs_settle.proofs.field.Field.settle_within.Goals as goal

pub returns-in_err-list-clause-fits : goal.returns-in_err-list-clause-fits
returns-in_err-list-clause-fits c = wave_failed c.args.self.now c.loop-wave.self c.wave.new.self c.loop-wave._wave c.loop-wave.last c.requires.field c.loop-wave.invariant c.wave.ensures.log c.wave.ensures.machine c.wave.ensures.fits

pub returns-in-None-clause-within : goal.returns-in-None-clause-within
returns-in-None-clause-within c =
    let now = c.loop-wave.self in
    let next = c.wave.new.self in
    let none = sym c.as_slice.ensures ∙ c.in-None.ensures in
    wave_still c.args.self.now now next c.loop-wave._wave c.loop-wave.last c.requires.field c.loop-wave.invariant c.wave.ensures.log c.wave.ensures.machine c.in_ok-list.ensures.raced c.args.budget (omega (arith, c.loop-wave-test.true))
    (subst (AreChanges (net_in now) (ticks_of now) (ticks_of next)) none c.in_ok-list.ensures.changes)

pub returns-in-None-clause-fits : goal.returns-in-None-clause-fits
returns-in-None-clause-fits c = wave_failed c.args.self.now c.loop-wave.self c.wave.new.self c.loop-wave._wave c.loop-wave.last c.requires.field c.loop-wave.invariant c.wave.ensures.log c.wave.ensures.machine c.wave.ensures.fits

pub loop-wave-preserved : goal.loop-wave-preserved
loop-wave-preserved c =
    let now = c.loop-wave.self in
    let next = c.wave.new.self in
    let rest = c.in-Some.ensures in
    let list : c.in_ok-list.list ≡ c.in-Some.change ∷ rest.0 = sym c.as_slice.ensures ∙ rest.1 in
    wave_done c.args.self.now now next c.loop-wave._wave c.loop-wave.last c.requires.field c.loop-wave.invariant c.wave.ensures.log c.wave.ensures.machine c.in_ok-list.ensures.raced c.in-Some.change rest.0 c.wave.ensures.field c.wave.ensures.fits
    (subst (AreChanges (net_in now) (ticks_of now) (ticks_of next)) list c.in_ok-list.ensures.changes)
    (subst ChangesRise list c.in_ok-list.ensures.rises)

pub returns-clause-within : goal.returns-clause-within
returns-clause-within c =
    let e : c.loop-wave._wave ≡ c.args.budget = omega (arith, c.loop-wave-test.false, c.loop-wave.auto._wave-end) in
    budget_done c.args.self.now c.loop-wave.self c.args.budget c.loop-wave.last (subst (λ n. AreDone c.args.self.now c.loop-wave.self n c.loop-wave.last) e c.loop-wave.invariant) c.requires.some
