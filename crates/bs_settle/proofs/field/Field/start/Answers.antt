use Rattle.std.proofs.Common.{◌∙◌, length, ap, refl, subst, sym, arith}
use Rattle.std.specs.List.{slice_get}
use Rattle.std.proofs.lemmas.List.{get_or_read}
use Rattle.std.proofs.lemmas.Option.{slice_get_read}
use Rattle.bs_times.specs.Times.{HasLine, IsOn}
use Rattle.bs_schedule.specs.Plan.{at}
use Rattle.bs_settle.specs.Field.{net_in}
use Rattle.bs_settle.proofs.Consistent.{clean_fresh}
use Rattle.bs_settle.proofs.Lines.{start_at}
use Rattle.bs_settle.proofs.field.Field.start.Goals as goal

pub index-place-requires : goal.index-place-requires
index-place-requires c =
    let s = c.args.self.now in
    let w = c.requires.field.lines.within ((net_in s).home c.args.number) (c.args.number, (c.requires.has, refl)) in
    omega (arith, w.0, c.home.ensures.value, s.places.ok.0)

pub index-requires : goal.index-requires
index-requires c =
    let s = c.args.self.now in
    let w = c.requires.field.lines.within ((net_in s).home c.args.number) (c.args.number, (c.requires.has, refl)) in
    let e = get_or_read s.places.items _ _ (omega (arith, w.0, c.home.ensures.value)) c.index-place.ensures 0 ∙ ap (at s.places.items) c.home.ensures.value in
    omega (arith, e, w.1, s.lines.ok.0)

pub start-requires-clause-ready : goal.start-requires-clause-ready
start-requires-clause-ready c =
    let s = c.args.self.now in
    let w = c.requires.field.lines.within ((net_in s).home c.args.number) (c.args.number, (c.requires.has, refl)) in
    let e = get_or_read s.places.items _ _ (omega (arith, w.0, c.home.ensures.value)) c.index-place.ensures 0 ∙ ap (at s.places.items) c.home.ensures.value in
    let here = slice_get_read s.lines.items (length s.lines.items) c.index-place.result.now c.index.result.now refl (omega (arith, e, w.1)) c.index.ensures in
    (c.requires.field.lines.each c.index-place.result.now c.index.result.now here).0.ready

pub start-requires-clause-begun : goal.start-requires-clause-begun
start-requires-clause-begun c =
    let s = c.args.self.now in
    let w = c.requires.field.lines.within ((net_in s).home c.args.number) (c.args.number, (c.requires.has, refl)) in
    let e = get_or_read s.places.items _ _ (omega (arith, w.0, c.home.ensures.value)) c.index-place.ensures 0 ∙ ap (at s.places.items) c.home.ensures.value in
    let here = slice_get_read s.lines.items (length s.lines.items) c.index-place.result.now c.index.result.now refl (omega (arith, e, w.1)) c.index.ensures in
    (clean_fresh s c.requires.field c.requires.clean c.index-place.result.now c.index.result.now here).begun

pub start-requires-clause-on : goal.start-requires-clause-on
start-requires-clause-on c =
    let s = c.args.self.now in
    let net = net_in s in
    let p = net.home c.args.number in
    let a = c.requires.field.lines in
    let has : HasLine net p = (c.args.number, (c.requires.has, refl)) in
    let w = a.within p has in
    let e = get_or_read s.places.items _ _ (omega (arith, w.0, c.home.ensures.value)) c.index-place.ensures 0 ∙ ap (at s.places.items) c.home.ensures.value in
    let here = slice_get_read s.lines.items (length s.lines.items) c.index-place.result.now c.index.result.now refl (omega (arith, e, w.1)) c.index.ensures in
    let there = a.there p has c.index.result.now (ap (slice_get s.lines.items) (sym e) ∙ here) in
    subst (λ n. IsOn n c.index.result.now.processor c.args.number) (sym (a.each c.index-place.result.now c.index.result.now here).0.same) (c.requires.has, sym there)

pub returns : goal.returns
returns c =
    let s = c.args.self.now in
    let w = c.requires.field.lines.within ((net_in s).home c.args.number) (c.args.number, (c.requires.has, refl)) in
    let e = get_or_read s.places.items _ _ (omega (arith, w.0, c.home.ensures.value)) c.index-place.ensures 0 ∙ ap (at s.places.items) c.home.ensures.value in
    let here = slice_get_read s.lines.items (length s.lines.items) c.index-place.result.now c.index.result.now refl (omega (arith, e, w.1)) c.index.ensures in
    c.start.ensures ∙ sym (start_at (net_in s) s.places.items s.lines.items c.args.number c.index.result.now (ap (slice_get s.lines.items) (sym e) ∙ here))
