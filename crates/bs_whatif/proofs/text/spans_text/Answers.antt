use Rattle.std.proofs.Common.{◌∙◌, ap}
use Rattle.bs_whatif.specs.Texts.{best_line, span_lines, spans_text}
use Rattle.bs_whatif.proofs.Parts.{two_parts}
use Rattle.bs_whatif.proofs.text.spans_text.Goals as goal

pub returns : goal.returns
unfolding spans_text
returns c =
    let spans = c.args.spans.now in
    ap (λ bytes. bytes.items) c.into_bytes.ensures.value ∙ two_parts _ (span_lines 1 spans) (best_line spans) _ _ c.new-text.ensures.bytes c.in_ok-write_spans.ensures c.in_ok-write_best.ensures
