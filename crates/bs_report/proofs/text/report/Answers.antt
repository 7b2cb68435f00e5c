use Rattle.std.proofs.Common.{◌≡◌, ◌∙◌, ap, subst, sym, ◌++◌, string_bytes}
use Rattle.std.specs.List.{All, flat_map}
use Rattle.bs_report.specs.Loads.{IsShare, load_line, loads_of}
use Rattle.bs_report.specs.Report.{report_text, status_line, block_lines, trap_line, wait_line, span_of, span_line, processor_line, processors_of}
use Rattle.bs_report.specs.End.{end_of}
use Rattle.bs_report.proofs.Joined.{joined}
use Rattle.bs_report.proofs.LoadLemmas.{loads_share, load_lines}
use Rattle.bs_report.proofs.text.report.Goals as goal

pub write_loads-requires : goal.write_loads-requires
write_loads-requires c =
    let rows = c.args.outcome.now.rows in
    let loads : c.in_ok-loads.field-0.entries ≡ loads_of rows = c.in_ok-loads.ensures ∙ ap loads_of c.as_slice-rows.ensures in
    let span : c.span-span.result ≡ span_of rows = c.span-span.ensures ∙ ap span_of c.as_slice-rows.ensures in
    subst (λ s. All (IsShare s) c.in_ok-loads.field-0.entries) (sym span)
    (subst (λ entries. All (IsShare (span_of rows)) entries) (sym loads) (loads_share rows c.requires.is_small c.requires.is_timed))

pub returns : goal.returns
unfolding report_text
returns c =
    let outcome = c.args.outcome.now in
    let rows = outcome.rows in
    let status : c.status.result.now ≡ status_line (end_of outcome) = c.status.ensures ∙ ap status_line c.end.ensures in
    let loads : c.in_ok-loads.field-0.entries ≡ loads_of rows = c.in_ok-loads.ensures ∙ ap loads_of c.as_slice-rows.ensures in
    let span : c.span-span.result ≡ span_of rows = c.span-span.ensures ∙ ap span_of c.as_slice-rows.ensures in
    let lines : flat_map (load_line c.span-span.result) c.in_ok-loads.field-0.entries ≡ flat_map (processor_line rows) (processors_of rows)
    = (λ i. flat_map (load_line (span i)) (loads i)) ∙ load_lines rows in
    ap (λ bytes. bytes.items) c.into_bytes.ensures.value
    ∙ joined _ (status_line (end_of outcome)) (block_lines 1 rows) (flat_map trap_line outcome.traps) (flat_map wait_line outcome.waits) (span_line (span_of rows))
    (flat_map (processor_line rows) (processors_of rows)) _ _ _ _ _ _
    c.new-text.ensures.bytes
    (c.in_ok-push_str.ensures.bytes ∙ ap (λ text. string_bytes c.new-text.result ++ text) status)
    (c.in_ok-write_blocks.ensures ∙ ap (λ items. string_bytes c.push_str.new.self ++ block_lines 1 items) c.as_slice-rows.ensures)
    (c.in_ok-write_traps.ensures ∙ ap (λ items. string_bytes c.write_blocks.new.text ++ flat_map trap_line items) c.as_slice.ensures)
    (c.in_ok-write_waits.ensures ∙ ap (λ items. string_bytes c.write_traps.new.text ++ flat_map wait_line items) c.as_slice-2.ensures)
    (c.in_ok-write_span.ensures ∙ ap (λ ticks. string_bytes c.write_waits.new.text ++ span_line ticks) span)
    (c.in_ok-write_loads.ensures ∙ ap (λ text. string_bytes c.write_span.new.text ++ text) lines)
