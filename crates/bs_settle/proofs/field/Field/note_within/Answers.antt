use Rattle.std.proofs.Common.{◌≡◌, ◌≢◌, ◌∷◌, ◌+◌, ◌∙◌, [], true, subst, sym, arith}
use Rattle.bs_settle.specs.Changes.{AreChanges, ChangesRise}
use Rattle.bs_settle.specs.Field.{net_in, ticks_of}
use Rattle.bs_settle.specs.Noted.{AreNoted}
use Rattle.bs_settle.proofs.WaveLists.{cons_some, last_noted, next_list, one_so_far, still_noted, AreSoFar}
use Rattle.bs_settle.proofs.Within.{budget_done, wave_done, wave_failed, wave_still, AreDone}
use Rattle.bs_settle.proofs.field.Field.note_within.Goals as goal

pub returns-in_err-list-clause-fits : goal.returns-in_err-list-clause-fits
returns-in_err-list-clause-fits c = wave_failed c.args.self.now c.loop-wave.self c.wave.new.self c.loop-wave._wave c.loop-wave.last c.requires.field c.loop-wave.invariant.0 c.wave.ensures.log c.wave.ensures.machine c.wave.ensures.fits

pub returns-in_err-push-clause-fits : goal.returns-in_err-push-clause-fits
returns-in_err-push-clause-fits c = wave_failed c.args.self.now c.loop-wave.self c.wave.new.self c.loop-wave._wave c.loop-wave.last c.requires.field c.loop-wave.invariant.0 c.wave.ensures.log c.wave.ensures.machine c.wave.ensures.fits

pub returns-in-None-clause-within : goal.returns-in-None-clause-within
returns-in-None-clause-within c =
    let now = c.loop-wave.self in
    let next = c.wave.new.self in
    let none = sym c.as_slice.ensures ∙ c.in-None.ensures in
    wave_still c.args.self.now now next c.loop-wave._wave c.loop-wave.last c.requires.field c.loop-wave.invariant.0 c.wave.ensures.log c.wave.ensures.machine c.in_ok-list.ensures.raced c.args.budget (omega (arith, c.loop-wave-test.true))
    (subst (AreChanges (net_in now) (ticks_of now) (ticks_of next)) none c.in_ok-list.ensures.changes)

pub returns-in-None-clause-noted : goal.returns-in-None-clause-noted
returns-in-None-clause-noted c =
    let s = c.args.self.now in
    let now = c.loop-wave.self in
    let next = c.wave.new.self in
    let list = c.in_ok-list.list in
    let done = c.loop-wave.invariant in
    let none : list ≡ [] = sym c.as_slice.ensures ∙ c.in-None.ensures in
    let new = next_list s now next c.loop-wave._wave c.loop-wave.last c.requires.field done.0 c.in_ok-list.ensures.raced list c.in_ok-list.ensures.changes c.in_ok-list.ensures.rises in
    subst (λ lists. AreNoted (net_in s) (ticks_of s) c.args.budget lists true) (sym c.in_ok-push.ensures.ok) (still_noted (net_in s) (ticks_of s) c.loop-wave._wave c.args.budget c.loop-wave.waves list done.1 new none (omega (arith, c.loop-wave-test.true)))

pub returns-in-None-clause-fits : goal.returns-in-None-clause-fits
returns-in-None-clause-fits c = wave_failed c.args.self.now c.loop-wave.self c.wave.new.self c.loop-wave._wave c.loop-wave.last c.requires.field c.loop-wave.invariant.0 c.wave.ensures.log c.wave.ensures.machine c.wave.ensures.fits

pub loop-wave-preserved : goal.loop-wave-preserved
loop-wave-preserved c =
    let s = c.args.self.now in
    let now = c.loop-wave.self in
    let next = c.wave.new.self in
    let list = c.in_ok-list.list in
    let done = c.loop-wave.invariant in
    let rest = c.in-Some.ensures in
    let is : list ≡ c.in-Some.change ∷ rest.0 = sym c.as_slice.ensures ∙ rest.1 in
    let some : list ≢ [] = cons_some list c.in-Some.change rest.0 is in
    let new = next_list s now next c.loop-wave._wave c.loop-wave.last c.requires.field done.0 c.in_ok-list.ensures.raced list c.in_ok-list.ensures.changes c.in_ok-list.ensures.rises in (
      wave_done s now next c.loop-wave._wave c.loop-wave.last c.requires.field done.0 c.wave.ensures.log c.wave.ensures.machine c.in_ok-list.ensures.raced c.in-Some.change rest.0 c.wave.ensures.field c.wave.ensures.fits
          (subst (AreChanges (net_in now) (ticks_of now) (ticks_of next)) is c.in_ok-list.ensures.changes)
          (subst ChangesRise is c.in_ok-list.ensures.rises),
      subst (AreSoFar (net_in s) (ticks_of s) (c.loop-wave._wave + 1)) (sym c.in_ok-push.ensures.ok) (one_so_far (net_in s) (ticks_of s) c.loop-wave._wave c.loop-wave.waves list done.1 new some),
    )

pub returns-clause-within : goal.returns-clause-within
returns-clause-within c =
    let e : c.loop-wave._wave ≡ c.args.budget = omega (arith, c.loop-wave-test.false, c.loop-wave.auto._wave-end) in
    budget_done c.args.self.now c.loop-wave.self c.args.budget c.loop-wave.last (subst (λ n. AreDone c.args.self.now c.loop-wave.self n c.loop-wave.last) e c.loop-wave.invariant.0) c.requires.some

pub returns-clause-noted : goal.returns-clause-noted
returns-clause-noted c =
    let s = c.args.self.now in
    let e : c.loop-wave._wave ≡ c.args.budget = omega (arith, c.loop-wave-test.false, c.loop-wave.auto._wave-end) in
    last_noted s c.loop-wave.self c.args.budget c.loop-wave.last c.loop-wave.waves (subst (λ n. AreDone s c.loop-wave.self n c.loop-wave.last) e c.loop-wave.invariant.0) (subst (λ n. AreSoFar (net_in s) (ticks_of s) n c.loop-wave.waves) e c.loop-wave.invariant.1) c.requires.some
