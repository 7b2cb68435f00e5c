use Rattle.std.proofs.Common.{◌++◌, ◌∙◌, ap, string_bytes}
use Rattle.bs_whatif.specs.Texts.{best_line, point_lines, points_text, spans_of}
use Rattle.bs_whatif.proofs.Parts.{two_parts}
use Rattle.bs_whatif.proofs.text.points_text.Goals as goal

pub returns : goal.returns
unfolding points_text
returns c =
    let fs = c.args.figures.now in
    let spans = c.as_slice-2.ensures ∙ c.in_ok-spans_of.ensures in
    ap (λ bytes. bytes.items) c.into_bytes.ensures.value ∙ two_parts _ (point_lines 1 fs) (best_line (spans_of fs)) _ _ c.new-text.ensures.bytes c.in_ok-write_points.ensures
    (c.in_ok-write_best.ensures ∙ ap (λ ts. string_bytes c.write_points.new.text ++ best_line ts) spans)
