use Rattle.std.proofs.Common.{◌≡◌, true, false, refl, sym, ap, subst, ◌∙◌, []}
use Rattle.bs_history.specs.Frames.{Ahead, Leaving, stopped_at}
use Rattle.bs_history.specs.Ground.{stopped}
use Rattle.bs_history.proofs.Aheads.{stopped_leaves}
use Rattle.bs_history.proofs.Turns.{turns_done}
use Rattle.bs_history.proofs.Branches.{if_stop}
use Rattle.bs_history.proofs.Asked.{taken}
use Rattle.bs_history.proofs.Whens.{taken_on}
use Rattle.bs_history.proofs.Overlaps.{settled}
use Rattle.bs_history.proofs.statements.end_or_stop.Goals as goal

pub returns-then-ended : goal.returns-then-ended
returns-then-ended c = λ g r old s h.
    let t = c.args.trail.now in
    subst (Leaving g r old t s) (ap stopped_at c.if-ended.true ∙ sym c.new.ensures)
    (stopped_leaves g c.args.ended r old t t s refl (λ e. let no : true ≡ false = sym c.if-ended.true ∙ e in absurd (cc)) h)

pub returns : goal.returns
returns c = λ g r old s h.
    let t = c.args.trail.now in
    let new = record t { shown = c.new-2.result } in
    subst (Leaving g r old new s) (ap stopped_at c.if-ended.false ∙ sym c.in_ok-alone.ensures)
    (stopped_leaves g c.args.ended r old t new s refl (λ e. c.new-2.ensures) h)
