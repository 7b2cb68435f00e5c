use Rattle.std.proofs.Common.{◌++◌, ◌∙◌, string_bytes, ap}
use Rattle.std.specs.List.{flat_map}
use Rattle.bs_path.specs.Text.{chain_line, chain_of, head_line, last_line}
use Rattle.bs_path.proofs.Written.{three_of_all}
use Rattle.bs_path.proofs.text.chain_text.Goals as goal

pub returns : goal.returns
unfolding chain_of
returns c =
    ap (λ bytes. bytes.items) c.into_bytes.ensures.value
    ∙ three_of_all _ (head_line c.args.chain.now) (flat_map (chain_line c.args.log.now) c.args.chain.now.rows) (last_line c.args.chain.now.rest) _ _ _ c.new-text.ensures.bytes
    c.in_ok-write_head.ensures
    (c.in_ok-write_rows.ensures ∙ ap (λ rows. string_bytes c.write_head.new.text ++ flat_map (chain_line c.args.log.now) rows) c.as_slice.ensures)
    c.in_ok-write_last.ensures
