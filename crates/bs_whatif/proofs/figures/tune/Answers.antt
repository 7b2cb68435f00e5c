use Rattle.std.proofs.Common.{◌++◌, ◌∷◌, [], ap, subst, sym, ◌∙◌}
use Rattle.bs_log.specs.declared.log.Log.{Log}
use Rattle.bs_rows.specs.Rows.{net_on}
use Rattle.bs_times.specs.Machine.{machine_of}
use Rattle.bs_whatif.specs.Figures.{AreFigures, at_zero, tuned}
use Rattle.bs_whatif.specs.Points.{IsPoint}
use Rattle.bs_whatif.proofs.Series.{tune_are}
use Rattle.bs_whatif.proofs.Ticks.{early_moved}
use Rattle.bs_whatif.proofs.figures.tune.Goals as goal

pub resettle-requires-clause-before : goal.resettle-requires-clause-before
resettle-requires-clause-before c = c.in_ok-zero.ensures.early c.args.machine.now

pub resettle-requires-2-clause-before : goal.resettle-requires-2-clause-before
resettle-requires-2-clause-before c = early_moved (net_on c.args.log.now c.args.machine.now) (net_on c.in_ok-rescaled.rescaled c.args.machine.now) (c.in_ok-rescaled.ensures.listed (machine_of c.args.machine.now)) c.in_ok-first.first.ticks c.in_ok-first.ensures.early

pub returns : goal.returns
returns c =
    let log = c.args.log.now in
    let m = c.args.machine.now in
    let p = c.in_ok-first in
    let q = c.in_ok-second in
    let next = subst (λ (l : Log). IsPoint l m p.first.ticks q.second) c.in_ok-rescaled.ensures.value q.ensures.point in
    let two = c.in_ok-push-2.ensures.ok ∙ ap (λ fs. fs ++ c.figures_of-2.result ∷ []) (c.in_ok-push.ensures.ok ∙ ap (λ fs. fs ++ c.figures_of.result ∷ []) c.new-figures.ensures) in
    subst (AreFigures at_zero (tuned log m c.args.stmt c.args.num c.args.den)) (sym two)
    (tune_are log m c.args.stmt c.args.num c.args.den c.in_ok-zero.zero (c.in_ok-zero.ensures.zero m) p.first q.second c.figures_of.result c.figures_of-2.result p.ensures.point next c.figures_of.ensures.waves c.figures_of.ensures.span c.figures_of-2.ensures.waves c.figures_of-2.ensures.span)
