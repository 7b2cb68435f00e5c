use Rattle.std.proofs.Common.{◌≡◌, ◌∙◌, List, ap, subst, sym}
use Rattle.bs_log.specs.declared.log.MailRef.{MailRef}
use Rattle.bs_log.specs.Lists.{Mem}
use Rattle.bs_times.specs.Bounds.{Fits}
use Rattle.bs_times.specs.Times.{IsListed}
use Rattle.bs_schedule.specs.Plan.{at}
use Rattle.bs_line.specs.declared.corrections.Correction.{Correction}
use Rattle.bs_settle.specs.Changes.{held_after}
use Rattle.bs_settle.specs.Field.{given_of, net_in, ticks_of}
use Rattle.bs_settle.specs.Lines.{given_in}
use Rattle.bs_settle.proofs.Fields.{can_hold, changes_after, field_after, field_anew, fits_after, given_seen, raced_after, ticks_seen}
use Rattle.bs_settle.proofs.Waved.{changes_ordered}
use Rattle.bs_settle.proofs.field.Field.wave.Goals as goal

pub hold_all-requires-clause-can : goal.hold_all-requires-clause-can
hold_all-requires-clause-can c x m =
    let s = c.args.self.now in
    let ch = c.changes.ensures.refreshed in
    let ordered = changes_ordered (net_in s) (given_of s) (given_in (net_in s) s.places.items c.changes.new.self.lines.items) c.changes.new.gathered.items c.in-Ok.list ch.changes c.in-Ok.ensures.ordered in
    can_hold s c.changes.new.self c.changes.new.gathered.items c.requires ch c.in-Ok.list ordered x (subst (λ xs. Mem x xs) c.as_slice.ensures m)

pub returns-in-Ok-clause-field : goal.returns-in-Ok-clause-field
returns-in-Ok-clause-field c =
    let s = c.args.self.now in
    let mid = c.changes.new.self in
    let ch = c.changes.ensures.refreshed in
    let ordered = changes_ordered (net_in s) (given_of s) (given_in (net_in s) s.places.items mid.lines.items) c.changes.new.gathered.items c.in-Ok.list ch.changes c.in-Ok.ensures.ordered in
    let holds = subst (λ (xs : List Correction). (m : MailRef) → IsListed (net_in mid) m → ticks_of c.hold_all.new.self m ≡ held_after xs m (ticks_of mid m)) c.as_slice.ensures c.hold_all.ensures.held in
    field_after s mid c.changes.new.gathered.items c.requires ch c.hold_all.new.self c.in-Ok.list ordered c.hold_all.ensures.holding holds

pub returns-in-Ok-clause-raced : goal.returns-in-Ok-clause-raced
returns-in-Ok-clause-raced c =
    let s = c.args.self.now in
    let mid = c.changes.new.self in
    let ch = c.changes.ensures.refreshed in
    let ordered = changes_ordered (net_in s) (given_of s) (given_in (net_in s) s.places.items mid.lines.items) c.changes.new.gathered.items c.in-Ok.list ch.changes c.in-Ok.ensures.ordered in
    let holds = subst (λ (xs : List Correction). (m : MailRef) → IsListed (net_in mid) m → ticks_of c.hold_all.new.self m ≡ held_after xs m (ticks_of mid m)) c.as_slice.ensures c.hold_all.ensures.held in
    raced_after s mid c.changes.new.gathered.items c.requires ch c.hold_all.new.self c.in-Ok.list ordered c.hold_all.ensures.holding holds c.in-Ok.ensures.fresh

pub returns-in-Ok-clause-changes : goal.returns-in-Ok-clause-changes
returns-in-Ok-clause-changes c =
    let s = c.args.self.now in
    let mid = c.changes.new.self in
    let ch = c.changes.ensures.refreshed in
    let ordered = changes_ordered (net_in s) (given_of s) (given_in (net_in s) s.places.items mid.lines.items) c.changes.new.gathered.items c.in-Ok.list ch.changes c.in-Ok.ensures.ordered in
    let holds = subst (λ (xs : List Correction). (m : MailRef) → IsListed (net_in mid) m → ticks_of c.hold_all.new.self m ≡ held_after xs m (ticks_of mid m)) c.as_slice.ensures c.hold_all.ensures.held in
    changes_after s mid c.changes.new.gathered.items c.requires ch c.hold_all.new.self c.in-Ok.list ordered c.hold_all.ensures.holding holds

pub returns-in-Ok-clause-fits : goal.returns-in-Ok-clause-fits
returns-in-Ok-clause-fits c =
    let s = c.args.self.now in
    let mid = c.changes.new.self in
    let ch = c.changes.ensures.refreshed in
    let ordered = changes_ordered (net_in s) (given_of s) (given_in (net_in s) s.places.items mid.lines.items) c.changes.new.gathered.items c.in-Ok.list ch.changes c.in-Ok.ensures.ordered in
    let holds = subst (λ (xs : List Correction). (m : MailRef) → IsListed (net_in mid) m → ticks_of c.hold_all.new.self m ≡ held_after xs m (ticks_of mid m)) c.as_slice.ensures c.hold_all.ensures.held in
    fits_after s mid c.changes.new.gathered.items c.requires ch c.hold_all.new.self c.in-Ok.list ordered c.hold_all.ensures.holding holds

pub hold_all-requires-in-Err-clause-can : goal.hold_all-requires-in-Err-clause-can
hold_all-requires-in-Err-clause-can c x m =
    let s = c.args.self.now in
    let ch = c.changes.ensures.refreshed in
    can_hold s c.changes.new.self c.changes.new.gathered.items c.requires ch c.changes.new.gathered.items ch.changes x (subst (λ xs. Mem x xs) c.deref.ensures.value m)

pub returns-clause-field : goal.returns-clause-field
returns-clause-field c =
    let s = c.args.self.now in
    let mid = c.changes.new.self in
    let ch = c.changes.ensures.refreshed in
    let new = c.hold_all-in-Err.new.self in
    let anew = c.begin_anew.new.self in
    let list = c.changes.new.gathered.items in
    let holds = subst (λ (xs : List Correction). (m : MailRef) → IsListed (net_in mid) m → ticks_of new m ≡ held_after xs m (ticks_of mid m)) c.deref.ensures.value c.hold_all-in-Err.ensures.held in
    let did = c.begin_anew.ensures in
    field_anew s mid list c.requires ch new list ch.changes c.hold_all-in-Err.ensures.holding holds anew did.lines did.same
    (λ m. ticks_seen new anew did.same m ∙ ap (λ xs. at xs (at new.places.items ((net_in new).goes_to m))) (did.held m))
    (λ m. given_seen new anew did.same m ∙ ap (λ xs. at xs (at new.places.items ((net_in new).home m.row))) (did.given m))

pub returns-clause-fits : goal.returns-clause-fits
returns-clause-fits c most fits m l =
    let s = c.args.self.now in
    let mid = c.changes.new.self in
    let ch = c.changes.ensures.refreshed in
    let new = c.hold_all-in-Err.new.self in
    let anew = c.begin_anew.new.self in
    let list = c.changes.new.gathered.items in
    let holds = subst (λ (xs : List Correction). (m : MailRef) → IsListed (net_in mid) m → ticks_of new m ≡ held_after xs m (ticks_of mid m)) c.deref.ensures.value c.hold_all-in-Err.ensures.held in
    let did = c.begin_anew.ensures in
    let same = ticks_seen new anew did.same m ∙ ap (λ xs. at xs (at new.places.items ((net_in new).goes_to m))) (did.held m) in
    subst (Fits (net_in s) most m) (sym same) (fits_after s mid list c.requires ch new list ch.changes c.hold_all-in-Err.ensures.holding holds most fits m l)
