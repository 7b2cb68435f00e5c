use Rattle.bs_check.proofs.Rows.{write_noted}
use Rattle.bs_check.proofs.touches.Touches.write.Goals as goal

pub returns : goal.returns
returns c = write_noted c.args.self.now c.touch.new.self c.args.name c.touch.ensures.keeps c.touch.ensures.touched
