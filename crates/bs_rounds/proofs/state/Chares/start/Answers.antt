use Rattle.std.proofs.Common.{◌≡◌, true, replicate, refl, sym}
use Rattle.bs_rounds.proofs.Becoming.{at_start, no_size}
use Rattle.bs_rounds.proofs.state.Chares.start.Goals as goal

pub returns : goal.returns
returns c =
    let count = c.chares-count.result in
    let marks : c.in_ok-vec.field-0.items ≡ replicate count true = c.in_ok-vec.ensures.items_if_clones_equal (λ y h. h) in
    rw (c.in_ok-no_mails.ensures, marks, c.in_ok-no_histories.ensures) (refl, at_start c.args.accepted.now.program c.args.limit count c.chares-count.ensures, sym (no_size count))
