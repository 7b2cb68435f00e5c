use Rattle.std.proofs.Common.{ℕ, arith, length, length-take}
use Rattle.bs_desk.proofs.Parts.{part_more, count_more}
use Rattle.bs_desk.proofs.whole.read_all.Goals as goal

pub loop-room-preserved : goal.loop-room-preserved
loop-room-preserved g c =
    let world = g.D.Desk.world in
    let piece = c.in_ok-read_piece.ensures.piece in
    let n = c.in_ok-read_piece.field-0 in
    let room = length c.read_piece.new.room in
    let now = world c.loop-room.desk in
    let next = world c.read_piece.new.desk in
    let bytes = c.loop-room.all.items in
    let after = c.read_piece.new.all.items in
    record {
      short = omega (arith, piece.fits, c.read_piece.auto.room, length-take {A = ℕ}, count_more room n now next bytes after piece);
      part = part_more c.args.name.now room n (world c.args.desk.now) now next bytes after c.loop-room.invariant.part piece;
    }
