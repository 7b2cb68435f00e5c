use Rattle.std.proofs.Common.{◌≤◌, ◌+◌, length, refl, arith}
use Rattle.bs_rows.specs.Rows.{net_on}
use Rattle.bs_settle.specs.Timed.{numbers}
use Rattle.bs_path.specs.Chain.{start_in}
use Rattle.bs_path.proofs.Ends.{ends_put}
use Rattle.bs_path.proofs.ended.ended_rows.Goals as goal

pub loop-place-preserved : goal.loop-place-preserved
loop-place-preserved c =
    let n = c.loop-place.place in
    let most : n + 1 ≤ length c.args.log.now.rows = omega (arith, c.loop-place-test.true, c.count-place-end.ensures.value) in
    record {
      ends = ends_put (net_on c.args.log.now c.args.machine.now) (start_in (numbers c.args.starts.now)) n (n + 1) c.home-processor.result c.end-tick.result c.loop-place.ended c.insert.new.self refl (omega arith, most) c.home-processor.ensures.value c.end-tick.ensures c.in_ok-insert.ensures.updates.0 c.loop-place.invariant.ends;
      within = most;
    }
