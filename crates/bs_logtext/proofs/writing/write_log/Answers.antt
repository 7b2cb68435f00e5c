use Rattle.std.proofs.Common.{◌∙◌, ap, ◌++◌, string_bytes, codes}
use Rattle.std.specs.List.{flat_map}
use Rattle.bs_logtext.specs.Text.{log_text, counts_line, row_text, trap_line, wait_line}
use Rattle.bs_logtext.proofs.Joined.{joined}
use Rattle.bs_logtext.proofs.writing.write_log.Goals as goal

pub returns : goal.returns
unfolding log_text
returns c =
    let log = c.args.log.now in
    ap (λ bytes. bytes.items) c.into_bytes.ensures.value
    ∙ joined _ (codes "bslog 1\n") (counts_line log) (flat_map row_text log.rows) (flat_map trap_line log.traps) (flat_map wait_line log.waits) (codes "end\n") _ _ _ _ _ _
    c.new-text.ensures.bytes
    c.in_ok-push_str.ensures.bytes
    c.in_ok-write_counts.ensures
    (c.in_ok-write_rows.ensures ∙ ap (λ items. string_bytes c.write_counts.new.text ++ flat_map row_text items) c.as_slice.ensures)
    (c.in_ok-write_traps.ensures ∙ ap (λ items. string_bytes c.write_rows.new.text ++ flat_map trap_line items) c.as_slice-2.ensures)
    (c.in_ok-write_waits.ensures ∙ ap (λ items. string_bytes c.write_traps.new.text ++ flat_map wait_line items) c.as_slice-3.ensures)
    c.in_ok-push_str-2.ensures.bytes
