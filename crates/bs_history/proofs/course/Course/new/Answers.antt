use Rattle.std.proofs.Common.{◌≡◌, ◌≤◌, ◌+◌, ℕ, List, [], ◌∷◌, true, map, refl, sym, ap, ap₂, subst, ◌∙◌, arith, zero-le}
use Rattle.bs_tree.specs.declared.tree.Program.{Program}
use Rattle.bs_tree.specs.declared.tree.Stmt.{Stmt}
use Rattle.bs_tree.specs.Count.{statements_in}
use Rattle.bs_check.specs.Fits.{are_fit}
use Rattle.bs_check.specs.Numbers.{StandsAt}
use Rattle.bs_check.proofs.Standing.{whole_stands}
use Rattle.bs_semantics.specs.Run.{Lookup, State as PlainState, in_turn, meant, start}
use Rattle.bs_history.specs.declared.frame.Frame.{Frame}
use Rattle.bs_history.specs.declared.ground.State.{State}
use Rattle.bs_history.specs.Course.{IsCourse, nothing}
use Rattle.bs_history.proofs.Courses.{first_course}
use Rattle.bs_history.proofs.course.Course.new.Goals as goal

pub returns : goal.returns
returns c = λ limit mail.
    let p = c.args.accepted.now.program in
    let s : State = record { env = c.in_ok-new.field-0; causes = c.new-2.result } in
    let body : c.as_slice.result.now ≡ p.body = c.as_slice.ensures ∙ ap (λ (q : Program). q.body) c.program.ensures.value in
    let from : record { cells = c.in_ok-new.field-0.cells; causes = c.new-2.result } ≡ start p = λ i. record { cells = (c.in_ok-new.ensures.value i).cells; causes = c.new-2.ensures i } in
    let few = c.program.ensures.whole.statements in
    subst (λ (fs : List Frame). IsCourse p limit c.args.chare mail nothing (record { state = s; frames = fs })) (sym c.in_ok-frames.ensures)
    (first_course p limit c.args.chare mail s _ from (
      record {
        fits = subst (λ xs. are_fit p xs ≡ true) (sym body) (c.accepted_programs.ensures.fits p c.program.ensures.kept);
        stands = subst (StandsAt p 1) (sym body) (whole_stands p);
        numbers = subst (λ xs. 1 + statements_in xs ≤ 10001) (sym body) (omega (arith, few));
      },
      zero-le,
    )
    c.in_ok-new.ensures.made (ap (λ e. e.this) c.in_ok-new.ensures.value)
    (λ b st. ap₂ (λ xs path. in_turn (map (meant p limit c.args.chare) xs) 0 b 1 path st) body c.new-3.ensures.items))
