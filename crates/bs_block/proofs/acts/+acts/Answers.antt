use Rattle.std.proofs.Common.{rules, Err, ◌∙◌, subst}
use Rattle.bs_check.specs.Known.{is_known_act, is_counted_act}
use Rattle.bs_block.specs.Progress.{Leaves, tally_of}
use Rattle.bs_block.proofs.Items.{next_item, each_left}
use Rattle.bs_block.proofs.Steps.{act_on, turn_on, turn_off}
use Rattle.bs_block.proofs.Sends.{send_leaves}
use Rattle.bs_block.proofs.acts.+acts.Goals as goal

pub run_acts-loop-act-preserved : goal.run_acts-loop-act-preserved
run_acts-loop-act-preserved t c =
    let p = c.args.accepted.now.program in
    let inv = c.loop-act.invariant in
    let ran = c.in_ok-run_act.ensures in
    let d = next_item c.args.acts.now c.loop-act.act-index c.act-item.result c.loop-act-test.true c.act-item.is in
    record {
      known = (each_left (is_known_act p) c.args.acts.now c.loop-act.act-index c.act-item.result d inv.known).1;
      counted = (each_left (is_counted_act p) c.args.acts.now c.loop-act.act-index c.act-item.result d inv.counted).1;
      this = ran.this ∙ inv.this;
      before = ran.before ∙ inv.before;
      made = ran.made;
      did = act_on p c.loop-act.draft.now.this c.run_act.new.draft.now.this c.args.acts.now c.loop-act.act-index c.act-item.result d (tally_of c.loop-act.draft.now c.loop-act.progress) (tally_of c.run_act.new.draft.now c.run_act.new.progress) ran.this ran.did ∙ inv.did;
    }

pub run_act-returns-in-Send-clause-did : goal.run_act-returns-in-Send-clause-did
run_act-returns-in-Send-clause-did t c =
    let a = c.args in
    let s = c.in-Send in
    send_leaves a.accepted.now.program a.draft.now.now.this a.act.now s.entry s.reference s.args c.as_slice-in-Send.result.now s.target s.bytes s.is c.as_slice-in-Send.ensures a.draft.now.now a.progress.now c.step.new.self c.in_ok-step.ensures (tally_of a.draft.now.now c.send.new.progress) c.send.result c.send.ensures

pub repeat-loop-turn-preserved : goal.repeat-loop-turn-preserved
repeat-loop-turn-preserved t c =
    let inv = c.loop-turn.invariant in
    let ran = c.in_ok-run_acts.ensures in
    record {
      this = ran.this ∙ inv.this;
      before = ran.before ∙ inv.before;
      made = ran.made;
      did = turn_on c.args.accepted.now.program c.args.acts.now c.args.turns c.loop-turn._turn c.loop-turn-test.true c.loop-turn.draft.now.this c.run_acts.new.draft.now.this ran.this c.loop-turn.draft.now c.loop-turn.progress c.step.new.self c.in_ok-step.ensures (tally_of c.run_acts.new.draft.now c.run_acts.new.progress) ran.did ∙ inv.did;
    }

pub repeat-returns-in_err-run_acts-clause-did : goal.repeat-returns-in_err-run_acts-clause-did
repeat-returns-in_err-run_acts-clause-did t c =
    let now = tally_of c.run_acts.new.draft.now c.run_acts.new.progress in
    let h = subst (λ d. Leaves d now (Err c.in_err-run_acts.field-0.0)) c.loop-turn.invariant.did
    (turn_off c.args.accepted.now.program c.args.acts.now c.args.turns c.loop-turn._turn c.loop-turn-test.true c.loop-turn.draft.now.this c.loop-turn.draft.now c.loop-turn.progress c.step.new.self c.in_ok-step.ensures now c.in_err-run_acts.field-0.0 c.in_err-run_acts.ensures.did) in
    search rules
