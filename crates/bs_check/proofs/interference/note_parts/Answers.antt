use Rattle.std.proofs.Common.{arith}
use Rattle.bs_tree.specs.Reads.{stmt_reads, stmt_writes}
use Rattle.bs_check.specs.Touches.{Noted}
use Rattle.bs_check.proofs.PartByPart.{follows_next, parts_next}
use Rattle.bs_check.proofs.interference.note_parts.Goals as goal

pub loop-part-preserved : goal.loop-part-preserved
loop-part-preserved c =
    let i = c.loop-part.invariant in
    let item = c.part-item in
    let noted : Noted c.turn_to.new.self c.note_stmt.new.touches (λ n. stmt_reads n item.result) (λ n. stmt_writes n item.result) = c.note_stmt.ensures in
    record {
      count = omega (arith, i.count);
      follows = follows_next _ _ _ _ _ _ _ i.follows c.turn_to.ensures noted;
      parts = λ name l. parts_next c.args.touches.now c.loop-part.touches c.turn_to.new.self c.note_stmt.new.touches c.loop-part.number c.as_slice-part-items.result.now c.loop-part.part-index item.result name _ c.loop-part-test.true item.is i.follows c.turn_to.ensures noted l (i.parts name l);
    }
