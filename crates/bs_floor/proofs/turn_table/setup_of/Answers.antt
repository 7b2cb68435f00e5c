use Rattle.std.proofs.Common.{◌≡◌, Some, ap, sym, ◌∙◌, arith}
use Rattle.std.specs.Prelude.{slice_get}
use Rattle.std.proofs.lemmas.Grind.{common_steps}
use Rattle.bs_floor.proofs.turn_table.setup_of.Goals as goal

pub returns-clause-job : goal.returns-clause-job
returns-clause-job g c = λ k s at.
    let first : slice_get c.args.stations.now.items 0 ≡ Some c.of.result.value = grind (arith, common_steps) in
    (c.requires.each k s at).0 ∙ sym (c.requires.each 0 c.of.result.value first).0

pub returns-clause-places : goal.returns-clause-places
returns-clause-places g c =
    let first : slice_get c.args.stations.now.items 0 ≡ Some c.of.result.value = grind (arith, common_steps) in
    ap g.S.Station.places (c.requires.each 0 c.of.result.value first).0 ∙ c.requires.whole
