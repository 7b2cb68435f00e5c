use Rattle.std.proofs.Common.{◌∙◌, ◌||◌, List, false, refl, ap, sym, map}
use Rattle.bs_tree.specs.declared.tree.Act.{Act}
use Rattle.bs_semantics.specs.Acts.{act_writes, any_writes}
use Rattle.bs_check.specs.Known.{is_known_act}
use Rattle.bs_block.proofs.Items.{each_left}
use Rattle.bs_history.proofs.Turns.{next_item}
use Rattle.bs_tree.specs.declared.tree.Act.TheVariants as a
use Rattle.bs_history.proofs.Takings.{left_next, left_done, takes_as, takes_both, takes_none, writes_if, writes_send, writes_work, writes_emit}
use Rattle.bs_history.proofs.writes.+acts.Goals as goal

pub take_acts-returns-clause-taken : goal.take_acts-returns-clause-taken
take_acts-returns-clause-taken t c =
    let p = c.args.accepted.now.program in
    left_done (act_writes p) (λ xs. any_writes (map (act_writes p) xs)) refl (λ x xs. refl) c.args.part.now c.args.env.now c.args.acts.now c.loop-act.act-index c.loop-act.env c.loop-act-test.false c.loop-act.invariant.this c.loop-act.invariant.left

pub take_acts-loop-act-preserved : goal.take_acts-loop-act-preserved
take_acts-loop-act-preserved t c =
    let p = c.args.accepted.now.program in
    let xs = c.args.acts.now in
    let i = c.loop-act.act-index in
    let x = c.act-item.result in
    let inv = c.loop-act.invariant in
    let d = next_item xs i x c.loop-act-test.true c.act-item.is in
    let done = c.take_act.ensures in
    record {
      known = (each_left (is_known_act p) xs i x d inv.known).1;
      this = done.taken.this ∙ inv.this;
      made = done.made;
      left = left_next (act_writes p) (λ xs. any_writes (map (act_writes p) xs)) refl (λ x xs. refl) c.args.part.now c.args.env.now xs i x c.loop-act.env c.take_act.new.env d done.taken inv.left;
    }

pub take_act-returns-in-Some-clause-taken : goal.take_act-returns-in-Some-clause-taken
take_act-returns-in-Some-clause-taken t c =
    let p = c.args.accepted.now.program in
    let any = λ (xs : List Act). any_writes (map (act_writes p) xs) in
    let e = c.in-If.is ∙ ap (a.If c.in-If.field-0 c.in-If.body) c.in-Some.is in
    let part = c.args.part.now in
    let mid = c.take_acts.new.env in
    let first = takes_as (any c.as_slice.result.now) (any c.in-If.body) part c.args.env.now mid (sym (ap any c.as_slice.ensures)) c.take_acts.ensures.taken in
    let second = takes_as (any c.as_slice-in-Some.result.now) (any c.in-Some.other) part mid c.take_acts-in-Some.new.env (sym (ap any c.as_slice-in-Some.ensures)) c.take_acts-in-Some.ensures.taken in
    takes_as (λ i. any c.in-If.body i || any c.in-Some.other i) (act_writes p c.args.act.now) part c.args.env.now c.take_acts-in-Some.new.env (writes_if p c.args.act.now c.in-If.field-0 c.in-If.body c.in-Some.other e)
    (takes_both (any c.in-If.body) (any c.in-Some.other) part c.args.env.now mid c.take_acts-in-Some.new.env first second)

pub take_act-returns-in-Send-clause-taken : goal.take_act-returns-in-Send-clause-taken
take_act-returns-in-Send-clause-taken t c =
    let p = c.args.accepted.now.program in
    takes_as (λ i. false) (act_writes p c.args.act.now) c.args.part.now c.args.env.now c.args.env.now (writes_send p c.args.act.now c.in-Send.field-0 c.in-Send.field-1 c.in-Send.field-2 c.in-Send.field-3 c.in-Send.field-4 c.in-Send.is) (takes_none c.args.part.now c.args.env.now)

pub take_act-returns-in-Work-clause-taken : goal.take_act-returns-in-Work-clause-taken
take_act-returns-in-Work-clause-taken t c =
    let p = c.args.accepted.now.program in
    takes_as (λ i. false) (act_writes p c.args.act.now) c.args.part.now c.args.env.now c.args.env.now (writes_work p c.args.act.now c.in-Work.field-0 c.in-Work.is) (takes_none c.args.part.now c.args.env.now)

pub take_act-returns-in-Emit-clause-taken : goal.take_act-returns-in-Emit-clause-taken
take_act-returns-in-Emit-clause-taken t c =
    let p = c.args.accepted.now.program in
    takes_as (λ i. false) (act_writes p c.args.act.now) c.args.part.now c.args.env.now c.args.env.now (writes_emit p c.args.act.now c.in-Emit.field-0 c.in-Emit.is) (takes_none c.args.part.now c.args.env.now)
