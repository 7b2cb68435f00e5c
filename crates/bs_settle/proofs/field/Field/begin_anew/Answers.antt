use Rattle.std.proofs.Common.{◌∙◌, false, length, refl, sym, arith}
use Rattle.std.proofs.lemmas.Bool.{true≢false}
use Rattle.std.proofs.lemmas.List.{length-set}
use Rattle.std.proofs.lemmas.Option.{slice_get_read}
use Rattle.bs_line.specs.declared.line.Line.{Line}
use Rattle.bs_line.specs.Line.{IsReady, given_of, held_of}
use Rattle.bs_settle.specs.Field.{net_in}
use Rattle.bs_settle.proofs.Columns.{column_kept}
use Rattle.bs_settle.proofs.Held.{line_kept}
use Rattle.bs_settle.proofs.Lines.{lines_after}
use Rattle.bs_settle.proofs.field.Field.begin_anew.Goals as goal

pub index_mut-requires : goal.index_mut-requires
index_mut-requires c = omega (arith, c.loop-place-test.true, c.len-place-end.ensures, c.loop-place.invariant.1, c.loop-place.self.lines.ok.0, c.args.self.now.lines.ok.0)

pub loop-place-preserved : goal.loop-place-preserved
loop-place-preserved c =
    let s = c.loop-place.self in
    let k = c.loop-place.place in
    let old : Line = c.index_mut.result.now in
    let new : Line = record old { begun = false } in
    let here = slice_get_read s.lines.items (length s.lines.items) k old refl (omega (arith, c.loop-place-test.true, c.len-place-end.ensures, c.loop-place.invariant.1, c.args.self.now.lines.ok.0)) c.index_mut.ensures.value in
    let is = (c.loop-place.invariant.0.each k old here).0 in
    let r = is.ready in
    let ready : IsReady new = record {
      valid = r.valid;
      fitted = r.fitted;
      layout = r.layout;
      held_length = r.held_length;
      used_length = r.used_length;
      given_length = r.given_length;
      starts_length = r.starts_length;
      early = r.early;
      changed = r.changed;
    } in
    let kept = line_kept old new (record { log = refl; machine = refl; processor = refl; layout = refl }) (net_in s) is ready (λ b. absurd (true≢false (sym b))) refl refl refl in (
      lines_after (net_in s) s.places.items s.lines.items k old new c.loop-place.invariant.0 here refl kept,
      length-set s.lines.items k new ∙ c.loop-place.invariant.1,
      record { log = c.loop-place.invariant.2.log; machine = c.loop-place.invariant.2.machine; places = c.loop-place.invariant.2.places },
      λ m. column_kept (λ (l : Line). held_of l m) s.lines.items k old new here refl ∙ c.loop-place.invariant.3 m,
      λ m. column_kept (λ (l : Line). given_of l m) s.lines.items k old new here refl ∙ c.loop-place.invariant.4 m,
    )
