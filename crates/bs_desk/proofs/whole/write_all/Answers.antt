use Rattle.std.proofs.Common.{sym, subst, arith}
use Rattle.bs_desk.specs.Outside.{MayWrite}
use Rattle.bs_desk.proofs.WrittenLemmas.{written-none, may_still, piece}
use Rattle.bs_desk.proofs.whole.write_all.Goals as goal

pub loop-at-init : goal.loop-at-init
loop-at-init g c = record { within = omega arith; may = c.requires; so_far = sym (written-none c.args.port _) }

pub loop-at-preserved : goal.loop-at-preserved
loop-at-preserved g c =
    let world = g.D.Desk.world in
    let before = c.loop-at.invariant in
    let puts = c.in_ok-at.ensures in
    let done = piece c.args.port c.args.bytes.now c.loop-at.at c.in_ok-at.field-0 (world c.args.desk.now) (world c.loop-at.desk) (world c.write.new.self) before.within before.so_far puts in
    record {
      within = done.within;
      may = subst (MayWrite c.args.port) (sym puts.same) (may_still c.args.port _ (world c.loop-at.desk) before.may);
      so_far = done.so_far;
    }
