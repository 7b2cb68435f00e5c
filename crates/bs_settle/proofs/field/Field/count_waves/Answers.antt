use Rattle.std.proofs.Common.{subst}
use Rattle.bs_settle.specs.Changes.{AreChanges, ChangesRise}
use Rattle.bs_settle.specs.Field.{net_in, ticks_of}
use Rattle.bs_settle.proofs.FirstStill.{counted_more, counted_still, no_change, some_change}
use Rattle.bs_settle.proofs.Within.{wave_failed}
use Rattle.bs_settle.proofs.field.Field.count_waves.Goals as goal

pub returns-in_err-list-clause-fits : goal.returns-in_err-list-clause-fits
returns-in_err-list-clause-fits c = wave_failed c.args.self.now c.loop-done.self c.wave.new.self c.loop-done.done c.loop-done.invariant.0 c.requires c.loop-done.invariant.1 c.wave.ensures.log c.wave.ensures.machine c.wave.ensures.fits

pub returns-then-is_empty-clause-clean : goal.returns-then-is_empty-clause-clean
returns-then-is_empty-clause-clean c =
    let now = c.loop-done.self in
    let next = c.wave.new.self in
    let none = no_change c.in_ok-list.list c.as_slice.result.now c.as_slice.ensures c.if-is_empty.ensures in
    (counted_still c.args.self.now now next c.loop-done.done c.requires c.loop-done.invariant c.wave.ensures.log c.wave.ensures.machine c.in_ok-list.ensures.raced
    (subst (AreChanges (net_in now) (ticks_of now) (ticks_of next)) none c.in_ok-list.ensures.changes)).0

pub returns-then-is_empty-clause-waves : goal.returns-then-is_empty-clause-waves
returns-then-is_empty-clause-waves c =
    let now = c.loop-done.self in
    let next = c.wave.new.self in
    let none = no_change c.in_ok-list.list c.as_slice.result.now c.as_slice.ensures c.if-is_empty.ensures in
    (counted_still c.args.self.now now next c.loop-done.done c.requires c.loop-done.invariant c.wave.ensures.log c.wave.ensures.machine c.in_ok-list.ensures.raced
    (subst (AreChanges (net_in now) (ticks_of now) (ticks_of next)) none c.in_ok-list.ensures.changes)).1

pub returns-then-is_empty-clause-fits : goal.returns-then-is_empty-clause-fits
returns-then-is_empty-clause-fits c = wave_failed c.args.self.now c.loop-done.self c.wave.new.self c.loop-done.done c.loop-done.invariant.0 c.requires c.loop-done.invariant.1 c.wave.ensures.log c.wave.ensures.machine c.wave.ensures.fits

pub loop-done-preserved : goal.loop-done-preserved
loop-done-preserved c =
    let now = c.loop-done.self in
    let next = c.wave.new.self in
    let some = some_change c.in_ok-list.list c.as_slice.result.now c.as_slice.ensures c.if-is_empty.ensures in
    counted_more c.args.self.now now next c.loop-done.done c.requires c.loop-done.invariant c.wave.ensures.log c.wave.ensures.machine c.in_ok-list.ensures.raced some.0 some.1 c.wave.ensures.field c.wave.ensures.fits
    (subst (AreChanges (net_in now) (ticks_of now) (ticks_of next)) some.2 c.in_ok-list.ensures.changes)
    (subst ChangesRise some.2 c.in_ok-list.ensures.rises)
