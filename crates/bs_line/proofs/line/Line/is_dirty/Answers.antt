use Rattle.std.proofs.Common.{inl, inr, ◌==◌, IsTrue, not, ap, sym, ◌∙◌}
use Rattle.std.proofs.lemmas.Bool.{eqb-false, ne_eqb, not-true, true≢false}
use Rattle.bs_line.specs.Line.{IsDirtyLine}
use Rattle.bs_line.proofs.Dirty.{clean, dirty}
use Rattle.bs_line.proofs.line.Line.is_dirty.Goals as goal

pub returns-else-not-self : goal.returns-else-not-self
returns-else-not-self c = (there, back)
  where
    there : IsTrue (not (c.args.self.now.changed == 0)) → IsDirtyLine c.args.self.now
    there t = inr (dirty c.args.self.now c.requires (eqb-false c.args.self.now.changed 0 (not-true (c.args.self.now.changed == 0) t)))

    back : IsDirtyLine c.args.self.now → IsTrue (not (c.args.self.now.changed == 0))
    back (inl e) = absurd (true≢false (sym c.if-not-self.false ∙ e))
    back (inr d) = ap not (ne_eqb c.args.self.now.changed 0 (λ z. clean c.args.self.now c.requires z d.0 d.1))
