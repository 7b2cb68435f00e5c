use Rattle.std.proofs.Common.{◌≡◌, ◌++◌, ◌==◌, ◌∙◌, ◌∷◌, [], length, ap, refl, sym, append-nil, rules}
use Rattle.std.proofs.lemmas.Bool.{eq-eqb, ne_eqb}
use Rattle.std.proofs.lemmas.Option.{slice_get_read}
use Rattle.bs_line.specs.Making.{kept_one}
use Rattle.bs_settle.specs.declared.shares.Share.{Share}
use Rattle.bs_settle.proofs.Added.{added_one}
use Rattle.bs_settle.proofs.shares.push_coming.Goals as goal

pub returns : goal.returns
returns c =
    let k = c.args.to in
    let xs = c.args.shares.now.items in
    let a : Share = c.index_mut.result.now in
    let here = slice_get_read xs (length xs) k a refl c.requires c.index_mut.ensures.value in
    let m = c.args.estimate.mail in
    let t = c.args.estimate.tick in
    let b : Share = record a { comes = c.push.new.self } in
    let pushed : c.push.new.self ≡ a.comes ++ c.args.estimate ∷ [] = search rules in
    added_one xs k a b (λ p. []) (λ p. kept_one (k == p) m t) (λ p. []) here
    (record { rows_are = sym (append-nil a.rows); comes_are = pushed ∙ ap (λ q. a.comes ++ kept_one q m t) (sym (eq-eqb k k refl)); goes_are = sym (append-nil a.goes) })
    (λ p n. (refl, ap (λ q. kept_one q m t) (ne_eqb k p (λ e. n (sym e))), refl))
