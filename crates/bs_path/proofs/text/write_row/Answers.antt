use Rattle.bs_path.specs.Text.{link_text, row_front}
use Rattle.bs_path.proofs.Written.{three_parts}
use Rattle.bs_path.proofs.text.write_row.Goals as goal

pub returns : goal.returns
returns c = three_parts _ (row_front c.args.row c.args.of.now) (link_text c.args.row.link) _ _ _ _ c.in_ok-write_front.ensures c.in_ok-write_link.ensures c.in_ok-push_str.ensures.bytes
