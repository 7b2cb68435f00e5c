use Rattle.std.proofs.Common.{◌≡◌, ◌++◌, ◌∷◌, [], ap, subst, sym, ◌∙◌}
use Rattle.bs_log.specs.declared.log.Log.{Log}
use Rattle.bs_rows.specs.Rows.{net_on}
use Rattle.bs_times.specs.Net.{Starts}
use Rattle.bs_times.specs.Times.{IsConsistent}
use Rattle.bs_whatif.specs.Figures.{AreSpans, span_in, tuned}
use Rattle.bs_whatif.proofs.spans.tune_spans.Goals as goal

pub returns : goal.returns
returns c =
    let log = c.args.log.now in
    let m = c.args.machine.now in
    let first = c.in_ok-span_on in
    let second = c.in_ok-span_on-2 in
    let next = subst (λ (l : Log). (table : Starts) × IsConsistent (net_on l m) table × (second.field-0.0 ≡ span_in (net_on l m) table)) c.in_ok-rescaled.ensures.value second.ensures in
    let two = c.in_ok-push-2.ensures.ok ∙ ap (λ ts. ts ++ second.field-0 ∷ []) (c.in_ok-push.ensures.ok ∙ ap (λ ts. ts ++ first.field-0 ∷ []) c.new-spans.ensures) in
    subst (AreSpans (tuned log m c.args.stmt c.args.num c.args.den)) (sym two) (first.ensures, (next, tt))
