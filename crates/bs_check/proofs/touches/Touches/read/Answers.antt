use Rattle.bs_check.proofs.Rows.{read_noted}
use Rattle.bs_check.proofs.touches.Touches.read.Goals as goal

pub returns : goal.returns
returns c = read_noted c.args.self.now c.touch.new.self c.args.name c.touch.ensures.keeps c.touch.ensures.touched
