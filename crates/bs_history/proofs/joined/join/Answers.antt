use Rattle.std.proofs.Common.{ap, subst, arith, ◌∙◌}
use Rattle.bs_semantics.specs.Run.{depth_of}
use Rattle.bs_semantics.proofs.CauseDepths.{union_depth}
use Rattle.bs_history.specs.Joined.{IsJoined}
use Rattle.bs_history.proofs.joined.join.Goals as goal

pub returns-in_ok-beside-in-Some-clause-ready : goal.returns-in_ok-beside-in-Some-clause-ready
returns-in_ok-beside-in-Some-clause-ready c = λ t p j.
    let r = subst (λ j. IsJoined c.args.ground.now t j) c.in-Some.is j in
    let h = c.in_ok-beside-in-Some.ensures in
    let depth = ap (λ s. depth_of s.causes) h.state ∙ union_depth c.in-Some.joined.causes c.args.part.causes in
    let a = p.shallow in
    let b = r.shallow in
    record { made = h.made; this = h.this ∙ r.this; shallow = omega (arith, depth, a, b); within = p.within }
