use Rattle.std.proofs.Common.{None, ◌+◌, ◌∙◌, refl, sym, subst, arith}
use Rattle.bs_model.specs.Agenda.{is_idle}
use Rattle.bs_model.specs.Line.{IsFirst}
use Rattle.bs_model.proofs.Pushing.{Pushed, pushed_more}
use Rattle.bs_model.proofs.agenda.empty_lines.Goals as goal

pub loop-processor-preserved : goal.loop-processor-preserved
loop-processor-preserved c =
    subst (λ xs. Pushed (λ q o. is_idle o) (c.loop-processor._processor + 1) xs) (sym c.in_ok-push.ensures.items)
    (pushed_more (λ q o. is_idle o) c.loop-processor._processor c.loop-processor.lines.items c.new.result c.loop-processor.invariant
    (record { keys = c.new.ensures.line; first = subst (IsFirst (λ _. None)) (sym c.new.ensures.none) (λ n. refl) }))

pub returns : goal.returns
returns c =
    let end = c.loop-processor-test.false in
    let most = c.loop-processor.auto._processor-end in
    (c.loop-processor.invariant.count ∙ omega (arith, end, most), λ q l. c.loop-processor.invariant.each q (omega (arith, l, end)))
