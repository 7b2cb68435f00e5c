use Rattle.std.proofs.Common.{◌∙◌, ℕ, List, ap, get_or, length, arith}
use Rattle.bs_log.specs.declared.history.Block.{Block}
use Rattle.bs_log.specs.declared.history.History.{History}
use Rattle.bs_log.specs.Messages.{same_path}
use Rattle.bs_log.specs.Checks.{rise, has_path}
use Rattle.bs_log.specs.Collected.{place}
use Rattle.bs_log.proofs.Numbers.{at_within, length_firsts, number_is, number_fits, at_index}
use Rattle.bs_log.proofs.numbering.number.Goals as goal

pub bounds-firsts-chare : goal.bounds-firsts-chare
bounds-firsts-chare c =
    let hs = c.args.histories.now in
    let found = c.requires.found in
    omega (arith, ap length c.requires.numbering.is, length_firsts 0 hs, at_within hs c.args.chare found.history found.is_at)

pub bounds-histories-chare : goal.bounds-histories-chare
bounds-histories-chare c =
    let found = c.requires.found in
    at_within c.args.histories.now c.args.chare found.history found.is_at

pub place_in-place-requires-clause-rises : goal.place_in-place-requires-clause-rises
place_in-place-requires-clause-rises c =
    let found = c.requires.found in
    let one = at_index c.args.histories.now c.args.chare found.history c.index-histories-chare.result found.is_at in
    ap rise (c.as_slice.ensures ∙ ap (λ (h : History). h.blocks) one) ∙ found.rises

pub place_in-place-requires-clause-has : goal.place_in-place-requires-clause-has
place_in-place-requires-clause-has c =
    let found = c.requires.found in
    let one = at_index c.args.histories.now c.args.chare found.history c.index-histories-chare.result found.is_at in
    ap (λ (bs : List Block). has_path bs c.args.path.now) (c.as_slice.ensures ∙ ap (λ (h : History). h.blocks) one) ∙ found.has

pub overflow_cast-result : goal.overflow_cast-result
overflow_cast-result c =
    let found = c.requires.found in
    let one = at_index c.args.histories.now c.args.chare found.history c.index-histories-chare.result found.is_at in
    let at = c.place_in-place.ensures ∙ ap (place (λ (b : Block). same_path b.path c.args.path.now)) (c.as_slice.ensures ∙ ap (λ (h : History). h.blocks) one) in
    let fits = number_fits c.args.histories.now c.args.firsts.now c.args.chare found.history c.args.path.now found.is_at c.requires.numbering.is c.requires.numbering.few found.has in
    omega (arith, at, fits)

pub overflow_add-result : goal.overflow_add-result
overflow_add-result c =
    let found = c.requires.found in
    let one = at_index c.args.histories.now c.args.chare found.history c.index-histories-chare.result found.is_at in
    let at = c.place_in-place.ensures ∙ ap (place (λ (b : Block). same_path b.path c.args.path.now)) (c.as_slice.ensures ∙ ap (λ (h : History). h.blocks) one) in
    let fits = number_fits c.args.histories.now c.args.firsts.now c.args.chare found.history c.args.path.now found.is_at c.requires.numbering.is c.requires.numbering.few found.has in
    omega (arith, at, fits)

pub overflow_add-result-2 : goal.overflow_add-result-2
overflow_add-result-2 c =
    let found = c.requires.found in
    let one = at_index c.args.histories.now c.args.chare found.history c.index-histories-chare.result found.is_at in
    let at = c.place_in-place.ensures ∙ ap (place (λ (b : Block). same_path b.path c.args.path.now)) (c.as_slice.ensures ∙ ap (λ (h : History). h.blocks) one) in
    let fits = number_fits c.args.histories.now c.args.firsts.now c.args.chare found.history c.args.path.now found.is_at c.requires.numbering.is c.requires.numbering.few found.has in
    omega (arith, at, fits)

pub returns : goal.returns
returns c =
    let found = c.requires.found in
    let one = at_index c.args.histories.now c.args.chare found.history c.index-histories-chare.result found.is_at in
    let at = c.place_in-place.ensures ∙ ap (place (λ (b : Block). same_path b.path c.args.path.now)) (c.as_slice.ensures ∙ ap (λ (h : History). h.blocks) one) in
    let first = ap (λ (xs : List ℕ). get_or xs c.args.chare 0) c.requires.numbering.is in
    let is = number_is c.args.histories.now c.args.chare found.history c.args.path.now 0 found.is_at found.has in
    omega (arith, at, first, is)
