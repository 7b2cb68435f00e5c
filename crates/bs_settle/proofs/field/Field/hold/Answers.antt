use Rattle.std.proofs.Common.{◌≡◌, ◌∙◌, length, set, if◌then◌else◌, ap, refl, sym, subst, arith}
use Rattle.std.specs.List.{slice_get}
use Rattle.std.proofs.lemmas.List.{get_or_read}
use Rattle.std.proofs.lemmas.Option.{slice_get_read}
use Rattle.bs_times.specs.Net.{Starts, Ticks}
use Rattle.bs_times.specs.Racing.{same_mail}
use Rattle.bs_schedule.specs.Plan.{at}
use Rattle.bs_line.specs.declared.line.Line.{Line}
use Rattle.bs_line.specs.Line.{given_of, starts_of, used_of}
use Rattle.bs_settle.specs.Field.{net_in, ticks_of}
use Rattle.bs_settle.specs.Lines.{held_in}
use Rattle.bs_settle.proofs.Columns.{column_kept}
use Rattle.bs_settle.proofs.Held.{given_same, has_receiver, line_kept, starts_same, target, ticks_after, used_same}
use Rattle.bs_settle.proofs.Lines.{lines_after}
use Rattle.bs_settle.proofs.Premises.{causal}
use Rattle.bs_settle.proofs.field.Field.hold.Goals as goal

pub index-place-requires : goal.index-place-requires
index-place-requires c =
    let s = c.args.self.now in
    let has = has_receiver (net_in s) s.places.items s.lines.items (causal s.log.now s.machine.now c.requires.valid) c.requires.lines c.args.mail c.args.to c.args.tick.0 c.requires.can in
    omega (arith, (c.requires.lines.within c.args.to has).0, s.places.ok.0)

pub index_mut-requires : goal.index_mut-requires
index_mut-requires c =
    let s = c.args.self.now in
    let has = has_receiver (net_in s) s.places.items s.lines.items (causal s.log.now s.machine.now c.requires.valid) c.requires.lines c.args.mail c.args.to c.args.tick.0 c.requires.can in
    let e : c.index-place.result.now ≡ at s.places.items c.args.to = get_or_read s.places.items _ _ (c.requires.lines.within c.args.to has).0 c.index-place.ensures 0 in
    omega (arith, e, (c.requires.lines.within c.args.to has).1, s.lines.ok.0)

pub set-changed-requires-clause-ready : goal.set-changed-requires-clause-ready
set-changed-requires-clause-ready c =
    let s = c.args.self.now in
    let cause = causal s.log.now s.machine.now c.requires.valid in
    let has = has_receiver (net_in s) s.places.items s.lines.items cause c.requires.lines c.args.mail c.args.to c.args.tick.0 c.requires.can in
    let e : c.index-place.result.now ≡ at s.places.items c.args.to = get_or_read s.places.items _ _ (c.requires.lines.within c.args.to has).0 c.index-place.ensures 0 in
    let here = slice_get_read s.lines.items (length s.lines.items) c.index-place.result.now c.index_mut.result.now refl (omega (arith, e, (c.requires.lines.within c.args.to has).1)) c.index_mut.ensures.value in
    (c.requires.lines.each c.index-place.result.now c.index_mut.result.now here).0.ready

pub set-changed-requires-clause-listed : goal.set-changed-requires-clause-listed
set-changed-requires-clause-listed c =
    let s = c.args.self.now in
    let cause = causal s.log.now s.machine.now c.requires.valid in
    let has = has_receiver (net_in s) s.places.items s.lines.items cause c.requires.lines c.args.mail c.args.to c.args.tick.0 c.requires.can in
    let e : c.index-place.result.now ≡ at s.places.items c.args.to = get_or_read s.places.items _ _ (c.requires.lines.within c.args.to has).0 c.index-place.ensures 0 in
    let here = slice_get_read s.lines.items (length s.lines.items) c.index-place.result.now c.index_mut.result.now refl (omega (arith, e, (c.requires.lines.within c.args.to has).1)) c.index_mut.ensures.value in
    (target (net_in s) s.places.items s.lines.items cause c.requires.lines c.args.mail c.args.to c.args.tick.0 c.index-place.result.now c.index_mut.result.now c.requires.can e here).comes

pub returns-clause-holding : goal.returns-clause-holding
returns-clause-holding c =
    let s = c.args.self.now in
    let cause = causal s.log.now s.machine.now c.requires.valid in
    let has = has_receiver (net_in s) s.places.items s.lines.items cause c.requires.lines c.args.mail c.args.to c.args.tick.0 c.requires.can in
    let e : c.index-place.result.now ≡ at s.places.items c.args.to = get_or_read s.places.items _ _ (c.requires.lines.within c.args.to has).0 c.index-place.ensures 0 in
    let k = c.index-place.result.now in
    let old = c.index_mut.result.now in
    let new = c.set-changed.new.self in
    let here = slice_get_read s.lines.items (length s.lines.items) k old refl (omega (arith, e, (c.requires.lines.within c.args.to has).1)) c.index_mut.ensures.value in
    let did = c.set-changed.ensures in
    let is = line_kept old new did.same (net_in s) (c.requires.lines.each k old here).0 did.ready (λ b. sym did.begun ∙ b) did.used did.given did.starts in
    record {
      same = record { log = refl; machine = refl; places = refl };
      lines = lines_after (net_in s) s.places.items s.lines.items k old new c.requires.lines here did.same.processor is;
      used = λ m. column_kept (λ (l : Line). used_of l m) s.lines.items k old new here (ap (λ (f : Ticks). f m) (used_same old new did.same did.used));
      given = λ m. column_kept (λ (l : Line). given_of l m) s.lines.items k old new here (ap (λ (f : Ticks). f m) (given_same old new did.same did.given));
      starts = λ i. column_kept (λ (l : Line). starts_of l i) s.lines.items k old new here (ap (λ (f : Starts). f i) (starts_same old new did.same did.starts));
      begun = column_kept (λ (l : Line). l.begun) s.lines.items k old new here did.begun;
    }

pub returns-clause-held : goal.returns-clause-held
returns-clause-held c m listed =
    let s = c.args.self.now in
    let cause = causal s.log.now s.machine.now c.requires.valid in
    let has = has_receiver (net_in s) s.places.items s.lines.items cause c.requires.lines c.args.mail c.args.to c.args.tick.0 c.requires.can in
    let e : c.index-place.result.now ≡ at s.places.items c.args.to = get_or_read s.places.items _ _ (c.requires.lines.within c.args.to has).0 c.index-place.ensures 0 in
    let k = c.index-place.result.now in
    let old = c.index_mut.result.now in
    let new = c.set-changed.new.self in
    let here = slice_get_read s.lines.items (length s.lines.items) k old refl (omega (arith, e, (c.requires.lines.within c.args.to has).1)) c.index_mut.ensures.value in
    let did = c.set-changed.ensures in
    subst (λ j. held_in (net_in s) s.places.items (set s.lines.items j new) m ≡ if same_mail c.args.mail m then c.args.tick.0 else ticks_of s m) (sym e)
    (ticks_after (net_in s) s.places.items s.lines.items cause c.requires.lines c.args.mail c.args.to c.args.tick.0 c.requires.can old new (ap (slice_get s.lines.items) (sym e) ∙ here) did.held did.others m)
