use Rattle.std.proofs.Common.{◌≡◌, ℕ, Option, None, refl}
use Rattle.std.proofs.lemmas.Result.{on_ok_weaker}
use Rattle.bs_model.specs.Line.{IsChanged, IsLine, put_at}
use Rattle.bs_model.proofs.Lines.{changed, put_same}
use Rattle.bs_model.proofs.line.Line.change.Goals as goal

pub returns : goal.returns
returns c =
    let follows : ((f : ℕ → Option ℕ) → IsLine f c.take_out.new.self → f c.args.number ≡ None → IsLine (put_at f c.args.number c.args.tick) c.put_in.new.self)
    → (f g : ℕ → Option ℕ) → IsLine f c.args.self.now → f c.args.number ≡ c.args.before → IsChanged f g c.args.number c.args.tick → IsLine g c.put_in.new.self =
    λ h f g is at to. changed f g c.args.number c.args.tick c.put_in.new.self to (h (put_at f c.args.number None) (c.take_out.ensures f is at) (put_same f c.args.number None c.args.number refl)) in
    on_ok_weaker _ follows c.put_in.ensures
