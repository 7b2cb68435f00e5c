use Rattle.std.proofs.Common.{◌≡◌, ◌+◌, ◌∙◌, length, set, refl, subst, sym, ap, arith}
use Rattle.std.proofs.lemmas.Option.{slice_get_read}
use Rattle.bs_settle.specs.Gathering.{AreRefreshed, IsRefreshed}
use Rattle.bs_settle.specs.Lines.{IsLineOf}
use Rattle.bs_settle.proofs.Columns.{set_same}
use Rattle.bs_settle.proofs.Refreshed.{one_refreshed}
use Rattle.bs_settle.proofs.gathering.refresh_all.Goals as goal

pub refresh-requires : goal.refresh-requires
refresh-requires c =
    let a = c.requires.lines.2 in
    let r = c.loop-place.invariant c.requires.lines.0 c.requires.lines.1 a in
    let k = c.loop-place.place in
    let x = c.index_mut.result.now in
    let here = slice_get_read c.loop-place.lines.items (length c.loop-place.lines.items) k x refl (omega (arith, c.loop-place-test.true, c.len-place-end.ensures, r.length, c.args.lines.now.ok.0)) c.index_mut.ensures.value in
    let is = (a.each k x (sym (r.rest k (omega arith)) ∙ here)).0 in
    subst (λ n. IsLineOf n x) (sym is.same) is

pub returns-in_err-refresh-clause-some : goal.returns-in_err-refresh-clause-some
returns-in_err-refresh-clause-some c net places a =
    let r = c.loop-place.invariant net places a in
    let k = c.loop-place.place in
    let x = c.index_mut.result.now in
    let now = c.loop-place.lines.items in
    let here = slice_get_read now (length now) k x refl (omega (arith, c.loop-place-test.true, c.len-place-end.ensures, r.length, c.args.lines.now.ok.0)) c.index_mut.ensures.value in
    let same : set now k c.refresh.new.line ≡ now = ap (set now k) c.in_err-refresh.ensures.line ∙ set_same now k x here in
    (k, subst (λ ls. AreRefreshed net k c.args.lines.now.items ls c.refresh.new.gathered.items) (sym same) (subst (AreRefreshed net k c.args.lines.now.items now) (sym c.in_err-refresh.ensures.gathered) r))

pub loop-place-preserved : goal.loop-place-preserved
loop-place-preserved c net places a =
    let r = c.loop-place.invariant net places a in
    let k = c.loop-place.place in
    let x = c.index_mut.result.now in
    let now = c.loop-place.lines.items in
    let here = slice_get_read now (length now) k x refl (omega (arith, c.loop-place-test.true, c.len-place-end.ensures, r.length, c.args.lines.now.ok.0)) c.index_mut.ensures.value in
    let is = (a.each k x (sym (r.rest k (omega arith)) ∙ here)).0 in
    let did = c.in_ok-refresh.ensures.ok in
    subst (AreRefreshed net (k + 1) c.args.lines.now.items (set now k c.refresh.new.line)) (sym did.1)
    (one_refreshed net k c.args.lines.now.items now x c.refresh.new.line c.loop-place.gathered.items did.0 r here (subst (λ n. IsRefreshed n x c.refresh.new.line did.0) is.same did.2))
