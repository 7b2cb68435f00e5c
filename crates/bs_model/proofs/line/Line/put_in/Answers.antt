use Rattle.std.proofs.Common.{ℕ, Option, subst, sym}
use Rattle.bs_model.specs.Line.{IsLine, put_at}
use Rattle.bs_model.proofs.Lines.{put_in}
use Rattle.bs_model.proofs.line.Line.put_in.Goals as goal

pub returns-in_ok-_is_new : goal.returns-in_ok-_is_new
returns-in_ok-_is_new c = λ f is at. subst (λ (o : Option ℕ). IsLine (put_at f c.args.number o) (record { keys = c.insert.new.self })) (sym c.in-Some.is) (put_in f c.args.self.now (record { keys = c.insert.new.self }) c.args.number c.in-Some.tick is c.in_ok-_is_new.ensures.updates at)
