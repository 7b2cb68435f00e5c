use Rattle.std.proofs.Common.{◌≡◌, ◌++◌, ◌==◌, ◌∙◌, ◌∷◌, [], length, ap, refl, sym, append-nil, rules}
use Rattle.std.proofs.lemmas.Bool.{eq-eqb, ne_eqb}
use Rattle.std.proofs.lemmas.Option.{slice_get_read}
use Rattle.bs_line.specs.Listing.{row_if}
use Rattle.bs_settle.specs.declared.shares.Share.{Share}
use Rattle.bs_settle.proofs.Added.{added_one}
use Rattle.bs_settle.proofs.shares.push_row.Goals as goal

pub returns : goal.returns
returns c =
    let k = c.args.home in
    let xs = c.args.shares.now.items in
    let a : Share = c.index_mut.result.now in
    let here = slice_get_read xs (length xs) k a refl c.requires c.index_mut.ensures.value in
    let b : Share = record a { rows = c.push.new.self } in
    let pushed : c.push.new.self ≡ a.rows ++ c.args.row ∷ [] = search rules in
    added_one xs k a b (λ p. row_if (k == p) c.args.row) (λ p. []) (λ p. []) here
    (record { rows_are = pushed ∙ ap (λ t. a.rows ++ row_if t c.args.row) (sym (eq-eqb k k refl)); comes_are = sym (append-nil a.comes); goes_are = sym (append-nil a.goes) })
    (λ p n. (ap (λ t. row_if t c.args.row) (ne_eqb k p (λ e. n (sym e))), refl, refl))
