use Rattle.std.proofs.Common.{◌∙◌}
use Rattle.bs_model.proofs.Lines.{taken_out}
use Rattle.bs_model.proofs.line.Line.take_out.Goals as goal

pub returns-in-Some : goal.returns-in-Some
returns-in-Some c = λ f is at. taken_out f c.args.self.now (record { keys = c.remove-was_in.new.self }) c.args.number c.in-Some.tick is c.remove-was_in.ensures.updates (at ∙ c.in-Some.is)
