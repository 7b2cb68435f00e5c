use Rattle.std.proofs.Common.{◌≡◌, ◌≤◌, ℕ, List, [], ◌++◌, map, refl, sym, subst, ap, ap₂, ◌∙◌}
use Rattle.bs_tree.specs.declared.tree.Program.{Program}
use Rattle.bs_tree.specs.declared.tree.Stmt.{Stmt}
use Rattle.bs_check.specs.Numbers.{StandsAt}
use Rattle.bs_check.proofs.Standing.{whole_stands}
use Rattle.bs_match.specs.Mail.{lookup}
use Rattle.bs_block.specs.Env.{ChareCells}
use Rattle.bs_log.specs.Size.{size}
use Rattle.bs_semantics.specs.Run.{Run, State as PlainState, in_turn, meant, history, run, start, to_history}
use Rattle.bs_history.specs.History.{IsHistory}
use Rattle.bs_history.specs.Trail.{so_far, run_size}
use Rattle.bs_history.proofs.Histories.{history_is, history_fits, written_history, nothing_before}
use Rattle.bs_history.proofs.chare.history.Goals as goal

pub run_list-requires-clause-stands : goal.run_list-requires-clause-stands
run_list-requires-clause-stands c =
    let p = c.args.accepted.now.program in
    subst (StandsAt p 1) (sym (c.as_slice-body.ensures ∙ ap (λ (q : Program). q.body) c.program.ensures.value)) (whole_stands p)

pub close-requires : goal.close-requires
close-requires c = (_, c.new-trail.result, c.run_list.new.state, c.in_ok-frames.ensures)

pub returns : goal.returns
returns c =
    let p = c.args.accepted.now.program in
    let mail = lookup c.args.mail.now in
    let ds = λ (body : List Stmt). map (meant p c.args.limit c.args.chare) body in
    let body : c.as_slice-body.result.now ≡ p.body = c.as_slice-body.ensures ∙ ap (λ (q : Program). q.body) c.program.ensures.value in
    let path : c.new-trail.result.path.items ≡ [] = c.new-trail.ensures.path ∙ c.new.ensures.items in
    let from : record { cells = c.in_ok-new.field-0.cells; causes = c.new-3.result } ≡ start p = λ i. record { cells = (c.in_ok-new.ensures.value i).cells; causes = c.new-3.ensures i } in
    let whole : in_turn (ds c.as_slice-body.result.now) 0 mail 1 c.new-trail.result.path.items (record { cells = c.in_ok-new.field-0.cells; causes = c.new-3.result }) ≡ run p c.args.limit c.args.chare mail =
    λ i. in_turn (ds (body i)) 0 mail 1 (path i) (from i) in
    let did = c.in_ok-ended.ensures _ c.new-trail.result c.run_list.new.state c.in_ok-frames.ensures in
    let is = history_is c.close.new.trail c.run_list.new.state c.in_ok-ended.ended _ (did.run ∙ (nothing_before c.new-trail.result c.new-trail.ensures.blocks c.new-trail.ensures.asked c.new-trail.ensures.traps c.new-trail.ensures.waits _ ∙ whole)) in
    (is, subst (λ h. size h ≤ c.args.limit) is (history_fits c.args.limit c.close.new.trail c.in_ok-ended.ended did.ready.within))
