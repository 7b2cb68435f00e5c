use Rattle.std.proofs.Common.{◌≡◌, ap, subst, sym, take, arith, length-take}
use Rattle.std.proofs.lemmas.List.Elements.{All-take}
use Rattle.bs_report.specs.Loads.{load_on}
use Rattle.bs_log.specs.Reportable.{IsTimed}
use Rattle.bs_report.proofs.LoadLemmas.{blocks_bound, busy_bound, loads_more, map_before}
use Rattle.bs_report.proofs.processors.loads.Goals as goal

pub overflow_add-load : goal.overflow_add-load
overflow_add-load c =
    let done = take c.loop-row.row-index c.args.rows.now in
    let before : c.load_of-before.result ≡ load_on done c.row-item.result.processor = map_before _ _ _ _ c.loop-row.invariant c.load_of-before.ensures in
    omega (arith, ap (λ load. load.blocks) before, blocks_bound c.row-item.result.processor done, length-take c.loop-row.row-index c.args.rows.now, c.requires.small)

pub overflow_add-load-in-loop-row : goal.overflow_add-load-in-loop-row
overflow_add-load-in-loop-row c =
    let done = take c.loop-row.row-index c.args.rows.now in
    let before : c.load_of-before.result ≡ load_on done c.row-item.result.processor = map_before _ _ _ _ c.loop-row.invariant c.load_of-before.ensures in
    let timed : IsTimed c.row-item.result = subst IsTimed (sym c.row-item.is) (c.requires.timed c.loop-row.row-index c.row-item.result c.loop-row-test.true) in
    omega (
      arith,
      ap (λ load. load.busy) before,
      busy_bound c.row-item.result.processor done (All-take IsTimed c.loop-row.row-index c.args.rows.now c.requires.timed),
      length-take c.loop-row.row-index c.args.rows.now,
      c.requires.small,
      timed.is_short,
    )

pub loop-row-preserved : goal.loop-row-preserved
loop-row-preserved c =
    let done = take c.loop-row.row-index c.args.rows.now in
    let before : c.load_of-before.result ≡ load_on done c.row-item.result.processor = map_before _ _ _ _ c.loop-row.invariant c.load_of-before.ensures in
    loads_more c.args.rows.now c.loop-row.row-index c.row-item.result _ _ _ c.loop-row-test.true c.row-item.is c.loop-row.invariant before c.in_ok-insert.ensures.entries
