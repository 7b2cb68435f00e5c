use Rattle.std.proofs.Common.{◌<◌, length, subst, sym}
use Rattle.bs_whatif.specs.Figures.{at_zero, swept}
use Rattle.bs_top.proofs.Pointed.{some_figures, some_nets, some_spans}
use Rattle.bs_top.proofs.commands.sweep.text_of.Goals as goal

pub spans_text-requires : goal.spans_text-requires
spans_text-requires c =
    let log = c.args.log.now in
    let machines = c.args.machines.now in
    subst (λ spans. 0 < length spans) (sym c.as_slice.ensures) (some_spans (swept log machines) c.in_ok-spans.spans c.in_ok-spans.ensures (some_nets log machines c.requires.some))

pub points_text-requires : goal.points_text-requires
points_text-requires c =
    let log = c.args.log.now in
    let machines = c.args.machines.now in
    subst (λ figures. 0 < length figures) (sym c.as_slice-else-spans.ensures) (some_figures at_zero (swept log machines) c.in_ok-figures.figures c.in_ok-figures.ensures (some_nets log machines c.requires.some))
