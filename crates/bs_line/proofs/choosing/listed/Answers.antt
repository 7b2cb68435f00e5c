use Rattle.std.proofs.Common.{◌≡◌, ◌<◌, ◌+◌, ◌∙◌, length, get_or, ap, subst, arith}
use Rattle.std.proofs.lemmas.List.{get_or_read}
use Rattle.bs_times.specs.Net.{no_row, row_of}
use Rattle.bs_line.specs.Listing.{HasAdded}
use Rattle.bs_line.proofs.Chosen.{keys_all, keys_more, row_next}
use Rattle.bs_line.proofs.choosing.listed.Goals as goal

pub loop-row-preserved : goal.loop-row-preserved
loop-row-preserved c =
    let log = c.args.log.now in
    let lt : c.loop-row.row-index < length log.rows = omega (arith, c.loop-row-test.true, ap length c.as_slice-row-items.ensures) in
    let row : c.row-item.result ≡ row_of log (c.loop-row.row-index + 1) = get_or_read log.rows _ _ lt (c.row-item.is ∙ ap (λ rs. get_or rs c.loop-row.row-index c.row-item.result) c.as_slice-row-items.ensures) no_row ∙ row_next log c.loop-row.row-index in
    keys_more log c.loop-row.row-index c.loop-row.keys.keys c.add_keys.new.keys.keys c.loop-row.invariant (subst (λ ms. HasAdded ms c.loop-row.keys.keys c.add_keys.new.keys.keys) (c.as_slice.ensures ∙ ap (λ r. r.mail) row) c.in_ok-add_keys.ensures)

pub returns : goal.returns
returns c machine = keys_all c.args.log.now machine c.loop-row.row-index c.loop-row.keys.keys c.in_ok-mails.mails (omega (arith, c.loop-row-test.false, c.loop-row.auto.row-index-end, ap length c.as_slice-row-items.ensures)) c.loop-row.invariant c.in_ok-mails.ensures
