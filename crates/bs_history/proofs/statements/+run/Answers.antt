use Rattle.std.proofs.Common.{◌≡◌, ◌≤◌, ℕ, List, ◌+◌, ◌-◌, suc, Bool, true, false, Some, None, Ok, Err, map, rules, arith, refl, ap, ap₂, sym, subst, ◌∙◌, zero-le, ◌++◌, ◌∷◌, [], drop, length, slice_index, take}
use Rattle.bs_tree.specs.declared.tree.Stmt.{Stmt}
use Rattle.bs_check.specs.Numbers.{StandsAt}
use Rattle.bs_check.proofs.Standing.{one_at_least, rest_stands, alone_stands, when_stands, overlap_stands, for_stands, while_stands, then_stands, else_stands, seq_stands}
use Rattle.bs_tree.specs.Count.{statements_in}
use Rattle.bs_tree.specs.declared.tree.Stmt.TheVariants as v
use Rattle.bs_semantics.specs.Acts.{block_of}
use Rattle.bs_semantics.specs.Value.{value_of}
use Rattle.bs_semantics.specs.Run.{Lookup, Run, State as PlainState, turns, assign, in_turn, with, keys_of, ask, took, overlap, serial}
use Rattle.bs_semantics.specs.Layout.{place_of}
use Rattle.bs_block.proofs.Items.{each_left}
use Rattle.bs_history.specs.Control.{step_of}
use Rattle.bs_check.specs.Fits.{are_fit, is_fit}
use Rattle.bs_log.specs.declared.history.Key.{Key}
use Rattle.bs_history.specs.declared.trail.Trail.{Trail}
use Rattle.bs_history.specs.Waiting.{TakesHeld}
use Rattle.bs_history.specs.Ground.{IsReady, Runs, Did, Goes, program_of, mail_of, means, state_of, stopped}
use Rattle.bs_history.specs.Frames.{Ahead, Leaving, Leaves, frame_does, is_done, awaited}
use Rattle.bs_history.proofs.Aheads.{ahead_itself, ahead_then, as_ahead, leaves_ahead, alone_ahead, alone_err, goes_ahead, finds_leaves, steps_leaves, then_ended, then_open, then_err, nothing_left, whole_is}
use Rattle.bs_history.proofs.Meanings.{statements_cons, from_zero, serial_does, seq_does, for_does, while_does, when_does, overlap_does}
use Rattle.bs_history.proofs.Branches.{if_long, if_stop, if_first, if_no_second, if_second}
use Rattle.bs_history.specs.Joined.{IsJoined, state_in}
use Rattle.bs_history.proofs.Joins.{begins, not_empty, part_err, part_on, parts_done, joined_later, ready_later}
use Rattle.bs_history.proofs.Turns.{next_item, list_on, list_next, list_done, list_one, list_rest, rest_is, turn_tested, turn_test_err, turn_on, turn_ended, turn_stepped, turn_next, step_err, turns_err, turns_done, later, turn_body}
use Rattle.bs_history.proofs.Whens.{asked_on, asked_err, when_run, asking, awaited_run, taken_on, missing_left}
use Rattle.bs_history.proofs.Overlaps.{overlap_ended, overlap_left, overlap_ready, overlap_err, overlap_run, runs_err}
use Rattle.bs_history.proofs.statements.+run.Goals as goal

pub run_stmt-returns-in_err-ended-in-Serial : goal.run_stmt-returns-in_err-ended-in-Serial
run_stmt-returns-in_err-ended-in-Serial t c =
    let g = c.args.ground.now in
    let n = c.args.number in
    let old = c.args.trail.now in
    let st = state_of c.args.state.now in
    let f = c.in_err-ended-in-Serial.field-0.0 in
    let h = alone_err g (serial g.this n old.path.items st (block_of (program_of g) g.this c.in-Serial.acts st.cells)) (λ b. (means g c.args.stmt.now).does b n old.path.items st) old c.run_serial.new.trail c.run_serial.new.state f (λ b. serial_does g c.args.stmt.now n old.path.items st b c.in-Serial.acts c.in-Serial.is) c.in_err-ended-in-Serial.ensures in
    search rules

pub run_stmt-returns-in_ok-ended-in-Serial : goal.run_stmt-returns-in_ok-ended-in-Serial
run_stmt-returns-in_ok-ended-in-Serial t c =
    let g = c.args.ground.now in
    let n = c.args.number in
    let old = c.args.trail.now in
    let st = state_of c.args.state.now in
    c.end_or_stop.ensures g (λ b. (means g c.args.stmt.now).does b n old.path.items st) old c.run_serial.new.state
    (alone_ahead g (serial g.this n old.path.items st (block_of (program_of g) g.this c.in-Serial.acts st.cells)) (λ b. (means g c.args.stmt.now).does b n old.path.items st) old c.run_serial.new.trail c.run_serial.new.state c.in_ok-ended-in-Serial.ended (λ b. serial_does g c.args.stmt.now n old.path.items st b c.in-Serial.acts c.in-Serial.is) c.in_ok-ended-in-Serial.ensures)

pub run_stmt-returns-in-When : goal.run_stmt-returns-in-When
run_stmt-returns-in-When t c =
    let g = c.args.ground.now in
    let n = c.args.number in
    let old = c.args.trail.now in
    let st = state_of c.args.state.now in
    whole_is g _ (λ b. (means g c.args.stmt.now).does b n old.path.items st) old c.run_when.new.trail c.run_when.new.state c.run_when.result (λ b. when_does g c.args.stmt.now n old.path.items st b c.in-When.waits c.as_slice.result.now c.in-When.body c.standing.result.now c.in-When.is c.as_slice.ensures c.standing.ensures.same) c.run_when.ensures

pub run_stmt-returns-in-Overlap : goal.run_stmt-returns-in-Overlap
run_stmt-returns-in-Overlap t c =
    let g = c.args.ground.now in
    let n = c.args.number in
    let old = c.args.trail.now in
    let st = state_of c.args.state.now in
    whole_is g _ (λ b. (means g c.args.stmt.now).does b n old.path.items st) old c.run_overlap.new.trail c.run_overlap.new.state c.run_overlap.result (λ b. overlap_does g c.args.stmt.now n old.path.items st b c.in-Overlap.body c.standing-in-Overlap.result.now c.in-Overlap.is c.standing-in-Overlap.ensures.same) c.run_overlap.ensures

pub run_stmt-returns-in-For : goal.run_stmt-returns-in-For
run_stmt-returns-in-For t c =
    let g = c.args.ground.now in
    let n = c.args.number in
    let old = c.args.trail.now in
    let st = state_of c.args.state.now in
    whole_is g _ (λ b. (means g c.args.stmt.now).does b n old.path.items st) old c.run_for.new.trail c.run_for.new.state c.run_for.result (λ b. for_does g c.args.stmt.now n old.path.items st b c.in-For.name c.in-For.first c.in-For.condition c.in-For.stepped c.in-For.next c.in-For.body c.standing-in-For.result.now c.in-For.is c.standing-in-For.ensures.same) c.run_for.ensures

pub run_stmt-returns-in-While : goal.run_stmt-returns-in-While
run_stmt-returns-in-While t c =
    let g = c.args.ground.now in
    let n = c.args.number in
    let old = c.args.trail.now in
    let st = state_of c.args.state.now in
    whole_is g _ (λ b. (means g c.args.stmt.now).does b n old.path.items st) old c.run_turns.new.trail c.run_turns.new.state c.run_turns.result (λ b. while_does g c.args.stmt.now n old.path.items st b c.in-While.condition c.in-While.body c.standing-in-While.result.now c.in-While.is c.standing-in-While.ensures.same) c.run_turns.ensures

pub run_stmt-returns-in-Seq : goal.run_stmt-returns-in-Seq
run_stmt-returns-in-Seq t c =
    let g = c.args.ground.now in
    let n = c.args.number in
    let old = c.args.trail.now in
    let st = state_of c.args.state.now in
    whole_is g _ (λ b. (means g c.args.stmt.now).does b n old.path.items st) old c.run_list.new.trail c.run_list.new.state c.run_list.result (λ b. seq_does g c.args.stmt.now n old.path.items st b c.in-Seq.body c.standing-in-Seq.result.now c.in-Seq.is c.standing-in-Seq.ensures.same) c.run_list.ensures

pub run_stmt-returns-in_err-test-in-If : goal.run_stmt-returns-in_err-test-in-If
run_stmt-returns-in_err-test-in-If t c =
    let g = c.args.ground.now in
    let n = c.args.number in
    let old = c.args.trail.now in
    let st = state_of c.args.state.now in
    let h = if_long g c.args.stmt.now c.in-If.condition c.in-If.body c.in-If.other c.in-If.is n old c.test.new.trail c.args.state.now c.in_err-test-in-If.field-0.0 c.in_err-test-in-If.ensures in
    search rules

pub run_stmt-returns-in-None : goal.run_stmt-returns-in-None
run_stmt-returns-in-None t c =
    let g = c.args.ground.now in
    let n = c.args.number in
    let old = c.args.trail.now in
    let st = state_of c.args.state.now in
    c.end_or_stop-in-None.ensures g (λ b. (means g c.args.stmt.now).does b n old.path.items st) old c.args.state.now (if_stop g c.args.stmt.now c.in-If.condition c.in-If.body c.in-If.other c.in-If.is n old c.test.new.trail c.args.state.now c.in_ok-test-in-If.field-0 c.in-None.is c.in_ok-test-in-If.ensures)

pub run_stmt-returns-in-Some-true : goal.run_stmt-returns-in-Some-true
run_stmt-returns-in-Some-true t c =
    let g = c.args.ground.now in
    let n = c.args.number in
    let old = c.args.trail.now in
    let st = state_of c.args.state.now in
    if_first g c.args.stmt.now c.in-If.condition c.in-If.body c.in-If.other c.in-If.is n old c.test.new.trail c.args.state.now c.in_ok-test-in-If.field-0 (c.in-Some-true.is ∙ ap Some c.in-Some-true.field-0-test) c.in_ok-test-in-If.ensures c.standing-in-Some-true.result.now c.standing-in-Some-true.ensures.same c.run_branch.new.trail c.run_branch.new.state c.run_branch.result c.run_branch.ensures

pub run_stmt-returns-in-None-other : goal.run_stmt-returns-in-None-other
run_stmt-returns-in-None-other t c =
    let g = c.args.ground.now in
    let n = c.args.number in
    let old = c.args.trail.now in
    let st = state_of c.args.state.now in
    c.end_or_stop-in-None-other.ensures g (λ b. (means g c.args.stmt.now).does b n old.path.items st) old c.args.state.now (if_no_second g c.args.stmt.now c.in-If.condition c.in-If.body c.in-If.other c.in-If.is n old c.test.new.trail c.args.state.now c.in_ok-test-in-If.field-0 (c.in-Some-false.is ∙ ap Some c.in-Some-false.field-0-test) c.in_ok-test-in-If.ensures c.in-None-other.is)

pub run_stmt-returns-in-Some : goal.run_stmt-returns-in-Some
run_stmt-returns-in-Some t c =
    let g = c.args.ground.now in
    let n = c.args.number in
    let old = c.args.trail.now in
    let st = state_of c.args.state.now in
    if_second g c.args.stmt.now c.in-If.condition c.in-If.body c.in-If.other c.in-If.is n old c.test.new.trail c.args.state.now c.in_ok-test-in-If.field-0 (c.in-Some-false.is ∙ ap Some c.in-Some-false.field-0-test) c.in_ok-test-in-If.ensures c.in-Some.other c.in-Some.is c.standing-in-Some.result.now c.standing-in-Some.ensures.same c.number_behind-number.result c.number_behind-number.ensures c.run_branch-in-Some.new.trail c.run_branch-in-Some.new.state c.run_branch-in-Some.result c.run_branch-in-Some.ensures

pub run_stmt-standing-requires : goal.run_stmt-standing-requires
run_stmt-standing-requires t c =
    when_stands c.in-When.waits c.in-When.body c.in-When.is c.requires.stands

pub run_stmt-standing-requires-in-Overlap : goal.run_stmt-standing-requires-in-Overlap
run_stmt-standing-requires-in-Overlap t c =
    overlap_stands c.in-Overlap.body c.in-Overlap.is c.requires.stands

pub run_stmt-standing-requires-in-For : goal.run_stmt-standing-requires-in-For
run_stmt-standing-requires-in-For t c =
    for_stands c.in-For.name c.in-For.first c.in-For.condition c.in-For.stepped c.in-For.next c.in-For.body c.in-For.is c.requires.stands

pub run_stmt-standing-requires-in-While : goal.run_stmt-standing-requires-in-While
run_stmt-standing-requires-in-While t c =
    while_stands c.in-While.condition c.in-While.body c.in-While.is c.requires.stands

pub run_stmt-standing-requires-in-Seq : goal.run_stmt-standing-requires-in-Seq
run_stmt-standing-requires-in-Seq t c =
    seq_stands c.in-Seq.body c.in-Seq.is c.requires.stands

pub run_stmt-standing-requires-in-Some-true : goal.run_stmt-standing-requires-in-Some-true
run_stmt-standing-requires-in-Some-true t c =
    then_stands c.in-If.condition c.in-If.body c.in-If.other c.in-If.is c.requires.stands

pub run_stmt-number_behind-number-requires : goal.run_stmt-number_behind-number-requires
run_stmt-number_behind-number-requires t c =
    then_stands c.in-If.condition c.in-If.body c.in-If.other c.in-If.is c.requires.stands

pub run_stmt-standing-requires-in-Some : goal.run_stmt-standing-requires-in-Some
run_stmt-standing-requires-in-Some t c =
    let p = program_of c.args.ground.now in
    let is = c.in-If.is ∙ ap (v.If c.in-If.condition c.in-If.body) c.in-Some.is in
    subst (λ n. StandsAt p n c.in-Some.other) (sym c.number_behind-number.ensures) (else_stands c.in-If.condition c.in-If.body c.in-Some.other is c.requires.stands)

pub run_for-returns-in_err-begun : goal.run_for-returns-in_err-begun
run_for-returns-in_err-begun t c =
    let g = c.args.ground.now in
    let n = c.args.number in
    let old = c.args.trail.now in
    let st = state_of c.args.state.now in
    let begin = λ (next : PlainState → Run). assign (λ (s : PlainState). value_of (program_of g) g.this c.args.first.now s.cells) (place_of (program_of g) c.args.name).from n old.path.items next st in
    let test = λ (s : PlainState). value_of (program_of g) g.this c.args.condition.now s.cells in
    let step = assign (λ (s : PlainState). value_of (program_of g) g.this c.args.next.now s.cells) (place_of (program_of g) c.args.stepped).from in
    let ds = map (means g) c.args.body.now in
    let then = λ (b : Lookup) (s : PlainState). turns (suc g.limit) test step ds 0 b n old.path.items s in
    let h = steps_leaves g begin old c.assign.new.trail c.assign.new.state c.in_err-begun.field-0.0 c.in_err-begun.ensures then c.assign.new.trail c.assign.new.state in
    search rules

pub run_for-returns-then-not-begun : goal.run_for-returns-then-not-begun
run_for-returns-then-not-begun t c =
    let g = c.args.ground.now in
    let n = c.args.number in
    let old = c.args.trail.now in
    let st = state_of c.args.state.now in
    let begin = λ (next : PlainState → Run). assign (λ (s : PlainState). value_of (program_of g) g.this c.args.first.now s.cells) (place_of (program_of g) c.args.name).from n old.path.items next st in
    let test = λ (s : PlainState). value_of (program_of g) g.this c.args.condition.now s.cells in
    let step = assign (λ (s : PlainState). value_of (program_of g) g.this c.args.next.now s.cells) (place_of (program_of g) c.args.stepped).from in
    let ds = map (means g) c.args.body.now in
    let then = λ (b : Lookup) (s : PlainState). turns (suc g.limit) test step ds 0 b n old.path.items s in
    let h = rw c.if-not-begun.true at c.in_ok-begun.ensures in
    c.end_or_stop.ensures g (λ b. begin (then b)) old c.assign.new.state (goes_ahead g PlainState begin old c.assign.new.trail c.assign.new.state None h then)

pub run_for-returns : goal.run_for-returns
run_for-returns t c =
    let g = c.args.ground.now in
    let n = c.args.number in
    let old = c.args.trail.now in
    let st = state_of c.args.state.now in
    let begin = λ (next : PlainState → Run). assign (λ (s : PlainState). value_of (program_of g) g.this c.args.first.now s.cells) (place_of (program_of g) c.args.name).from n old.path.items next st in
    let test = λ (s : PlainState). value_of (program_of g) g.this c.args.condition.now s.cells in
    let step = assign (λ (s : PlainState). value_of (program_of g) g.this c.args.next.now s.cells) (place_of (program_of g) c.args.stepped).from in
    let ds = map (means g) c.args.body.now in
    let then = λ (b : Lookup) (s : PlainState). turns (suc g.limit) test step ds 0 b n old.path.items s in
    let h = rw c.if-not-begun.false at c.in_ok-begun.ensures in
    let mid = c.assign.new.trail in
    let s = c.assign.new.state in
    leaves_ahead g (λ b. turns (suc g.limit - 0) test step ds 0 b n mid.path.items (state_of s)) (λ b. begin (then b)) old mid c.run_turns.new.trail s c.run_turns.new.state c.run_turns.result
    (as_ahead g (λ b. then b (state_of s)) _ (λ b. begin (then b)) old mid s (λ b. ap₂ (λ m path. turns m test step ds 0 b n path (state_of s)) (from_zero g.limit) h.path) (goes_ahead g PlainState begin old mid s (Some (state_of s)) h then))
    c.run_turns.ensures

pub run_when-returns-in_err-ask : goal.run_when-returns-in_err-ask
run_when-returns-in_err-ask t c =
    let g = c.args.ground.now in
    let n = c.args.number in
    let old = c.args.trail.now in
    let st = state_of c.args.state.now in
    let waits = c.args.waits.now in
    let v = keys_of (program_of g) g.this waits st.cells in
    let next = λ (b : Lookup) (ms : List _). in_turn (map (means g) c.args.body.now) 0 b (n + 1) old.path.items (took (program_of g) waits st ms) in
    let whole = when_run g n old c.ask.new.trail c.args.state.now v next in
    let h = asked_err g n old c.ask.new.trail c.args.state.now v next c.in_err-ask.field-0.0 c.in_err-ask.ensures c.ask.new.trail c.args.state.now in
    search rules

pub run_when-returns-in-None : goal.run_when-returns-in-None
run_when-returns-in-None t c =
    let g = c.args.ground.now in
    let n = c.args.number in
    let old = c.args.trail.now in
    let st = state_of c.args.state.now in
    let waits = c.args.waits.now in
    let v = keys_of (program_of g) g.this waits st.cells in
    let next = λ (b : Lookup) (ms : List _). in_turn (map (means g) c.args.body.now) 0 b (n + 1) old.path.items (took (program_of g) waits st ms) in
    let whole = when_run g n old c.ask.new.trail c.args.state.now v next in
    let h = subst (Goes g (List Key) (asking g n old c.ask.new.trail c.args.state.now v next) old c.ask.new.trail c.args.state.now) c.in-None.is c.in_ok-ask.ensures in
    c.end_or_stop.ensures g whole old c.args.state.now (asked_on g n old c.ask.new.trail c.args.state.now v next None h)

pub run_when-returns-in-Some : goal.run_when-returns-in-Some
run_when-returns-in-Some t c =
    let g = c.args.ground.now in
    let n = c.args.number in
    let old = c.args.trail.now in
    let st = state_of c.args.state.now in
    let waits = c.args.waits.now in
    let v = keys_of (program_of g) g.this waits st.cells in
    let next = λ (b : Lookup) (ms : List _). in_turn (map (means g) c.args.body.now) 0 b (n + 1) old.path.items (took (program_of g) waits st ms) in
    let whole = when_run g n old c.ask.new.trail c.args.state.now v next in
    let mid = c.ask.new.trail in
    let s = c.args.state.now in
    let ks = c.in-Some.keys in
    let h = subst (Goes g (List Key) (asking g n old mid s v next) old mid s) c.in-Some.is c.in_ok-ask.ensures in
    let at = λ (path : List ℕ) (b : Lookup). awaited b n path ks (λ ms. in_turn (map (means g) c.args.body.now) 0 b (n + 1) path (took (program_of g) waits st ms)) in
    leaves_ahead g (at mid.path.items) whole old mid c.run_asked.new.trail s c.run_asked.new.state c.run_asked.result
    (as_ahead g (at old.path.items) (at mid.path.items) whole old mid s (λ b. ap (λ path. at path b) h.path) (asked_on g n old mid s v next (Some ks) h))
    c.run_asked.ensures

pub run_asked-returns-then-taken : goal.run_asked-returns-then-taken
run_asked-returns-then-taken t c =
    let g = c.args.ground.now in
    let n = c.args.number in
    let old = c.args.trail.now in
    let s = c.args.state.now in
    let waits = c.args.waits.now in
    let ds = map (means g) c.args.body.now in
    let mid = c.take_held.new.trail in
    let s' = c.take_held.new.state in
    let next = λ (b : Lookup) (s : PlainState). in_turn ds 0 b (n + 1) old.path.items s in
    let whole = awaited_run g n old.path.items waits c.args.keys old mid s s' next in
    let h = subst (TakesHeld g waits c.args.keys n old mid s s') c.if-taken.true (subst (λ ks. TakesHeld g waits ks n old mid s s' c.in_ok-taken.taken) c.as_slice.ensures c.in_ok-taken.ensures) in
    leaves_ahead g (λ b. in_turn ds 0 b (n + 1) mid.path.items (state_of s')) whole old mid c.run_list.new.trail s' c.run_list.new.state c.run_list.result
    (as_ahead g (λ b. next b (state_of s')) _ whole old mid s' (λ b. ap (λ (t : Trail). in_turn ds 0 b (n + 1) t.path.items (state_of s')) h.same) (taken_on g n old.path.items waits c.args.keys old mid s s' next h))
    c.run_list.ensures

pub run_asked-returns : goal.run_asked-returns
run_asked-returns t c =
    let g = c.args.ground.now in
    let n = c.args.number in
    let old = c.args.trail.now in
    let s = c.args.state.now in
    let waits = c.args.waits.now in
    let ds = map (means g) c.args.body.now in
    let mid = c.take_held.new.trail in
    let s' = c.take_held.new.state in
    let next = λ (b : Lookup) (s : PlainState). in_turn ds 0 b (n + 1) old.path.items s in
    let whole = awaited_run g n old.path.items waits c.args.keys old mid s s' next in
    let h = subst (TakesHeld g waits c.args.keys n old mid s s') c.if-taken.false (subst (λ ks. TakesHeld g waits ks n old mid s s' c.in_ok-taken.taken) c.as_slice.ensures c.in_ok-taken.ensures) in
    let places = c.in_ok-path.ensures ∙ ap (λ (t : Trail). t.path.items) h.shown in
    let at = λ (path : List ℕ) (b : Lookup). awaited b n path c.args.keys (λ ms. in_turn ds 0 b (n + 1) path (took (program_of g) waits (state_of s) ms)) in
    subst (Leaving g whole old mid s') (sym c.in_ok-alone.ensures)
    (missing_left g n old.path.items waits c.args.keys old mid s s' next refl c.requires.ready h _ (record { fits = c.requires.fits; stands = c.requires.stands; numbers = c.requires.numbers }, c.requires.waits) (λ b. ap (λ path. at path b) places))

pub run_list-loop-stmt-init : goal.run_list-loop-stmt-init
run_list-loop-stmt-init t c =
    let g = c.args.ground.now in
    let old = c.args.trail.now in
    record {
      left = refl;
      fits = c.requires.fits;
      stands = c.requires.stands;
      numbers = c.requires.numbers;
      places = c.requires.places;
      ahead = ahead_itself g _ old c.args.state.now c.requires.ready;
    }

pub run_list-returns-in_err-frames : goal.run_list-returns-in_err-frames
run_list-returns-in_err-frames t c =
    let g = c.args.ground.now in
    let p = program_of g in
    let xs = c.args.list.now in
    let i = c.loop-stmt.stmt-index in
    let x = c.stmt-item.result in
    let inv = c.loop-stmt.invariant in
    let old = c.args.trail.now in
    let mid = c.loop-stmt.trail in
    let s = c.loop-stmt.state in
    let k = c.loop-stmt.place in
    let n = c.loop-stmt.next in
    let d = next_item xs i x c.loop-stmt-test.true c.stmt-item.is in
    let whole = λ (b : Lookup). in_turn (map (means g) xs) c.args.place b c.args.number old.path.items (state_of c.args.state.now) in
    let value = c.number_after-behind.ensures.value in
    let f = c.in_err-frames.field-0.0 in
    let h = then_err g (list_one g xs i x d whole old mid c.run_at.new.trail s c.run_at.new.state k n mid.path.items) (list_rest g xs i x d whole old mid c.run_at.new.trail s c.run_at.new.state k n (n + (means g x).count) mid.path.items) whole old mid c.run_at.new.trail s c.run_at.new.state (list_on g xs i x d whole old mid c.run_at.new.trail s c.run_at.new.state k n inv.ahead) f c.in_err-frames.ensures c.run_at.new.trail c.run_at.new.state in
    search rules

pub run_list-returns-then-not-ended : goal.run_list-returns-then-not-ended
run_list-returns-then-not-ended t c =
    let g = c.args.ground.now in
    let p = program_of g in
    let xs = c.args.list.now in
    let i = c.loop-stmt.stmt-index in
    let x = c.stmt-item.result in
    let inv = c.loop-stmt.invariant in
    let old = c.args.trail.now in
    let mid = c.loop-stmt.trail in
    let s = c.loop-stmt.state in
    let k = c.loop-stmt.place in
    let n = c.loop-stmt.next in
    let d = next_item xs i x c.loop-stmt-test.true c.stmt-item.is in
    let whole = λ (b : Lookup). in_turn (map (means g) xs) c.args.place b c.args.number old.path.items (state_of c.args.state.now) in
    let value = c.number_after-behind.ensures.value in
    let new = c.run_at.new.trail in
    let s' = c.run_at.new.state in
    let stands = subst (StandsAt p n) d inv.stands in
    let cons = statements_cons x (drop (i + 1) xs) in
    let one = one_at_least x in
    let count = ap statements_in d in
    let fits = inv.numbers in
    let places = inv.places in
    let rest_fits = (each_left (is_fit p) xs i x d inv.fits).1 in
    let rest_stand = subst (λ n. StandsAt p n (drop (i + 1) xs)) (sym value) (rest_stands p n x (drop (i + 1) xs) stands) in
    let bound : c.number_after-behind.result + statements_in (drop (i + 1) xs) ≤ 10001 = omega (arith, cons, count, fits, value) in
    let placed : k + 1 ≤ c.number_after-behind.result = omega (arith, places, one, value) in
    let left : c.behind_first-left.result.now ≡ drop (i + 1) xs = c.behind_first-left.ensures ∙ ap (drop 1) (inv.left ∙ d) in
    let open_still = sym c.is_done-ended.ensures ∙ c.if-not-ended.true in
    subst (Leaving g whole old new s') (sym c.in_ok-put_behind.ensures)
    (then_open g (list_one g xs i x d whole old mid new s s' k n mid.path.items) (list_rest g xs i x d whole old mid new s s' k n (n + (means g x).count) mid.path.items) whole old mid new s s'
    (list_on g xs i x d whole old mid new s s' k n inv.ahead) c.in_ok-frames.frames open_still c.in_ok-frames.ensures _ (
      record {
        fits = subst (λ xs. are_fit p xs ≡ true) (sym left) rest_fits;
        stands = subst (StandsAt p c.number_after-behind.result) (sym left) rest_stand;
        numbers = subst (λ xs. c.number_after-behind.result + statements_in xs ≤ 10001) (sym left) bound;
      },
      placed,
    )
    (λ b. rest_is g xs i x d whole old mid new s s' k n c.number_after-behind.result value c.in_ok-frames.ensures.ahead.path b ∙ ap₂ (λ xs path. in_turn (map (means g) xs) (k + 1) b c.number_after-behind.result path) (sym left) (sym c.in_ok-path.ensures)))

pub run_list-loop-stmt-preserved : goal.run_list-loop-stmt-preserved
run_list-loop-stmt-preserved t c =
    let g = c.args.ground.now in
    let p = program_of g in
    let xs = c.args.list.now in
    let i = c.loop-stmt.stmt-index in
    let x = c.stmt-item.result in
    let inv = c.loop-stmt.invariant in
    let old = c.args.trail.now in
    let mid = c.loop-stmt.trail in
    let s = c.loop-stmt.state in
    let k = c.loop-stmt.place in
    let n = c.loop-stmt.next in
    let d = next_item xs i x c.loop-stmt-test.true c.stmt-item.is in
    let whole = λ (b : Lookup). in_turn (map (means g) xs) c.args.place b c.args.number old.path.items (state_of c.args.state.now) in
    let value = c.number_after-behind.ensures.value in
    let new = c.run_at.new.trail in
    let s' = c.run_at.new.state in
    let stands = subst (StandsAt p n) d inv.stands in
    let cons = statements_cons x (drop (i + 1) xs) in
    let one = one_at_least x in
    let count = ap statements_in d in
    let fits = inv.numbers in
    let places = inv.places in
    let rest_fits = (each_left (is_fit p) xs i x d inv.fits).1 in
    let rest_stand = subst (λ n. StandsAt p n (drop (i + 1) xs)) (sym value) (rest_stands p n x (drop (i + 1) xs) stands) in
    let bound : c.number_after-behind.result + statements_in (drop (i + 1) xs) ≤ 10001 = omega (arith, cons, count, fits, value) in
    let placed : k + 1 ≤ c.number_after-behind.result = omega (arith, places, one, value) in
    let left : c.behind_first-left.result.now ≡ drop (i + 1) xs = c.behind_first-left.ensures ∙ ap (drop 1) (inv.left ∙ d) in
    let done = sym c.is_done-ended.ensures ∙ c.if-not-ended.false in
    let ran = subst (Leaving g (list_one g xs i x d whole old mid new s s' k n mid.path.items) mid new s') (nothing_left c.in_ok-frames.frames done) c.in_ok-frames.ensures in
    record {
      left = left;
      fits = rest_fits;
      stands = rest_stand;
      numbers = bound;
      places = placed;
      ahead = list_next g xs i x d whole old mid new s s' k n inv.ahead ran c.number_after-behind.result value;
    }

pub run_list-returns : goal.run_list-returns
run_list-returns t c =
    let g = c.args.ground.now in
    let xs = c.args.list.now in
    let old = c.args.trail.now in
    let whole = λ (b : Lookup). in_turn (map (means g) xs) c.args.place b c.args.number old.path.items (state_of c.args.state.now) in
    subst (Leaving g whole old c.loop-stmt.trail c.loop-stmt.state) (sym c.new.ensures)
    (list_done g xs c.loop-stmt.stmt-index c.loop-stmt-test.false whole old c.loop-stmt.trail c.loop-stmt.state c.loop-stmt.place c.loop-stmt.next c.loop-stmt.invariant.ahead)

pub run_list-number_after-behind-requires : goal.run_list-number_after-behind-requires
run_list-number_after-behind-requires t c =
    let p = program_of c.args.ground.now in
    let xs = c.args.list.now in
    let i = c.loop-stmt.stmt-index in
    let x = c.stmt-item.result in
    let d = next_item xs i x c.loop-stmt-test.true c.stmt-item.is in
    alone_stands p c.loop-stmt.next x (drop (i + 1) xs) (subst (StandsAt p c.loop-stmt.next) d c.loop-stmt.invariant.stands)

pub run_turns-loop-turn-init : goal.run_turns-loop-turn-init
run_turns-loop-turn-init t c =
    let g = c.args.ground.now in
    let test = λ (s : PlainState). value_of (program_of g) g.this c.args.condition.now s.cells in
    let old = c.args.trail.now in
    record {
      end = c.turns-turn-end.ensures;
      ahead = as_ahead g _ _ _ old old c.args.state.now (λ b. ap (λ e. turns (e - c.args.first) test (step_of g c.args.step) (map (means g) c.args.body.now) c.args.first b c.args.number old.path.items (state_of c.args.state.now)) c.turns-turn-end.ensures) (ahead_itself g (λ b. turns (suc g.limit - c.args.first) test (step_of g c.args.step) (map (means g) c.args.body.now) c.args.first b c.args.number old.path.items (state_of c.args.state.now)) old c.args.state.now c.requires.ready);
    }

pub run_turns-returns-in_err-test : goal.run_turns-returns-in_err-test
run_turns-returns-in_err-test t c =
    let g = c.args.ground.now in
    let test = λ (s : PlainState). value_of (program_of g) g.this c.args.condition.now s.cells in
    let step = step_of g c.args.step in
    let ds = map (means g) c.args.body.now in
    let n = c.args.number in
    let k = c.loop-turn.turn in
    let end = c.turns-turn-end.result in
    let inv = c.loop-turn.invariant in
    let old = c.args.trail.now in
    let mid = c.loop-turn.trail in
    let s = c.loop-turn.state in
    let whole = λ (b : Lookup). turns (suc g.limit - c.args.first) test step ds c.args.first b n old.path.items (state_of c.args.state.now) in
    let h = turn_test_err g end test step ds n k c.loop-turn-test.true whole old mid c.test.new.trail s inv.ahead c.in_err-test.field-0.0 c.in_err-test.ensures in
    search rules

pub run_turns-returns-in-None : goal.run_turns-returns-in-None
run_turns-returns-in-None t c =
    let g = c.args.ground.now in
    let test = λ (s : PlainState). value_of (program_of g) g.this c.args.condition.now s.cells in
    let step = step_of g c.args.step in
    let ds = map (means g) c.args.body.now in
    let n = c.args.number in
    let k = c.loop-turn.turn in
    let end = c.turns-turn-end.result in
    let inv = c.loop-turn.invariant in
    let old = c.args.trail.now in
    let mid = c.loop-turn.trail in
    let s = c.loop-turn.state in
    let whole = λ (b : Lookup). turns (suc g.limit - c.args.first) test step ds c.args.first b n old.path.items (state_of c.args.state.now) in
    c.end_or_stop.ensures g whole old s (turn_tested g end test step ds n k c.loop-turn-test.true whole old mid c.test.new.trail s inv.ahead c.in_ok-test.field-0 None c.in-None.is c.in_ok-test.ensures)

pub run_turns-returns-in-Some-false : goal.run_turns-returns-in-Some-false
run_turns-returns-in-Some-false t c =
    let g = c.args.ground.now in
    let test = λ (s : PlainState). value_of (program_of g) g.this c.args.condition.now s.cells in
    let step = step_of g c.args.step in
    let ds = map (means g) c.args.body.now in
    let n = c.args.number in
    let k = c.loop-turn.turn in
    let end = c.turns-turn-end.result in
    let inv = c.loop-turn.invariant in
    let old = c.args.trail.now in
    let mid = c.loop-turn.trail in
    let s = c.loop-turn.state in
    let whole = λ (b : Lookup). turns (suc g.limit - c.args.first) test step ds c.args.first b n old.path.items (state_of c.args.state.now) in
    c.end_or_stop-in-Some-false.ensures g whole old s (turn_tested g end test step ds n k c.loop-turn-test.true whole old mid c.test.new.trail s inv.ahead c.in_ok-test.field-0 (Some false) (c.in-Some-false.is ∙ ap Some c.in-Some-false.field-0-test) c.in_ok-test.ensures)

pub run_turns-returns-in_err-frames : goal.run_turns-returns-in_err-frames
run_turns-returns-in_err-frames t c =
    let g = c.args.ground.now in
    let test = λ (s : PlainState). value_of (program_of g) g.this c.args.condition.now s.cells in
    let step = step_of g c.args.step in
    let ds = map (means g) c.args.body.now in
    let n = c.args.number in
    let k = c.loop-turn.turn in
    let end = c.turns-turn-end.result in
    let inv = c.loop-turn.invariant in
    let old = c.args.trail.now in
    let mid = c.loop-turn.trail in
    let s = c.loop-turn.state in
    let whole = λ (b : Lookup). turns (suc g.limit - c.args.first) test step ds c.args.first b n old.path.items (state_of c.args.state.now) in
    let tested = c.test.new.trail in
    let new = c.run_branch.new.trail in
    let s' = c.run_branch.new.state in
    let body = turn_body g end test step ds n k c.loop-turn-test.true tested.path.items (state_of s) in
    let next = λ (b : Lookup). step n mid.path.items (later g end test step ds n k c.loop-turn-test.true mid.path.items b) in
    let on = turn_on g end test step ds n k c.loop-turn-test.true whole old mid c.test.new.trail s inv.ahead c.in_ok-test.field-0 (c.in-Some-true.is ∙ ap Some c.in-Some-true.field-0-test) c.in_ok-test.ensures in
    let h = then_err g body next whole old tested new s s' on c.in_err-frames.field-0.0 c.in_err-frames.ensures new s' in
    search rules

pub run_turns-returns-then-not-ended : goal.run_turns-returns-then-not-ended
run_turns-returns-then-not-ended t c =
    let g = c.args.ground.now in
    let test = λ (s : PlainState). value_of (program_of g) g.this c.args.condition.now s.cells in
    let step = step_of g c.args.step in
    let ds = map (means g) c.args.body.now in
    let n = c.args.number in
    let k = c.loop-turn.turn in
    let end = c.turns-turn-end.result in
    let inv = c.loop-turn.invariant in
    let old = c.args.trail.now in
    let mid = c.loop-turn.trail in
    let s = c.loop-turn.state in
    let whole = λ (b : Lookup). turns (suc g.limit - c.args.first) test step ds c.args.first b n old.path.items (state_of c.args.state.now) in
    let tested = c.test.new.trail in
    let new = c.run_branch.new.trail in
    let s' = c.run_branch.new.state in
    let body = turn_body g end test step ds n k c.loop-turn-test.true tested.path.items (state_of s) in
    let next = λ (b : Lookup). step n mid.path.items (later g end test step ds n k c.loop-turn-test.true mid.path.items b) in
    let on = turn_on g end test step ds n k c.loop-turn-test.true whole old mid c.test.new.trail s inv.ahead c.in_ok-test.field-0 (c.in-Some-true.is ∙ ap Some c.in-Some-true.field-0-test) c.in_ok-test.ensures in
    let open_still = sym c.is_done-ended.ensures ∙ c.if-not-ended.true in
    let same = c.in_ok-path.ensures ∙ (c.in_ok-frames.ensures.ahead.path ∙ c.in_ok-test.ensures.path) in
    subst (Leaving g whole old new s') (sym c.in_ok-put_behind.ensures)
    (then_open g body next whole old tested new s s' on c.in_ok-frames.frames open_still c.in_ok-frames.ensures _
    (record { fits = c.requires.fits; stands = c.requires.stands; numbers = c.requires.numbers }, c.requires.known, c.requires.step)
    (λ b. ap₂ (λ e path. step n path (turns (e - (k + 1)) test step ds (k + 1) b n path)) inv.end (sym same)))

pub run_turns-returns-in_err-stepped : goal.run_turns-returns-in_err-stepped
run_turns-returns-in_err-stepped t c =
    let g = c.args.ground.now in
    let test = λ (s : PlainState). value_of (program_of g) g.this c.args.condition.now s.cells in
    let step = step_of g c.args.step in
    let ds = map (means g) c.args.body.now in
    let n = c.args.number in
    let k = c.loop-turn.turn in
    let end = c.turns-turn-end.result in
    let inv = c.loop-turn.invariant in
    let old = c.args.trail.now in
    let mid = c.loop-turn.trail in
    let s = c.loop-turn.state in
    let whole = λ (b : Lookup). turns (suc g.limit - c.args.first) test step ds c.args.first b n old.path.items (state_of c.args.state.now) in
    let tested = c.test.new.trail in
    let new = c.run_branch.new.trail in
    let s' = c.run_branch.new.state in
    let body = turn_body g end test step ds n k c.loop-turn-test.true tested.path.items (state_of s) in
    let next = λ (b : Lookup). step n mid.path.items (later g end test step ds n k c.loop-turn-test.true mid.path.items b) in
    let on = turn_on g end test step ds n k c.loop-turn-test.true whole old mid c.test.new.trail s inv.ahead c.in_ok-test.field-0 (c.in-Some-true.is ∙ ap Some c.in-Some-true.field-0-test) c.in_ok-test.ensures in
    let done = sym c.is_done-ended.ensures ∙ c.if-not-ended.false in
    let ran = subst (Leaving g body tested new s') (nothing_left c.in_ok-frames.frames done) c.in_ok-frames.ensures in
    let h = step_err g end test step ds n k c.loop-turn-test.true whole old mid c.test.new.trail s inv.ahead c.in_ok-test.field-0 (c.in-Some-true.is ∙ ap Some c.in-Some-true.field-0-test) c.in_ok-test.ensures new s' ran c.take_step.new.trail c.take_step.new.state c.in_err-stepped.field-0.0 c.in_err-stepped.ensures in
    search rules

pub run_turns-returns-then-not-stepped : goal.run_turns-returns-then-not-stepped
run_turns-returns-then-not-stepped t c =
    let g = c.args.ground.now in
    let test = λ (s : PlainState). value_of (program_of g) g.this c.args.condition.now s.cells in
    let step = step_of g c.args.step in
    let ds = map (means g) c.args.body.now in
    let n = c.args.number in
    let k = c.loop-turn.turn in
    let end = c.turns-turn-end.result in
    let inv = c.loop-turn.invariant in
    let old = c.args.trail.now in
    let mid = c.loop-turn.trail in
    let s = c.loop-turn.state in
    let whole = λ (b : Lookup). turns (suc g.limit - c.args.first) test step ds c.args.first b n old.path.items (state_of c.args.state.now) in
    let tested = c.test.new.trail in
    let new = c.run_branch.new.trail in
    let s' = c.run_branch.new.state in
    let body = turn_body g end test step ds n k c.loop-turn-test.true tested.path.items (state_of s) in
    let next = λ (b : Lookup). step n mid.path.items (later g end test step ds n k c.loop-turn-test.true mid.path.items b) in
    let on = turn_on g end test step ds n k c.loop-turn-test.true whole old mid c.test.new.trail s inv.ahead c.in_ok-test.field-0 (c.in-Some-true.is ∙ ap Some c.in-Some-true.field-0-test) c.in_ok-test.ensures in
    let done = sym c.is_done-ended.ensures ∙ c.if-not-ended.false in
    let ran = subst (Leaving g body tested new s') (nothing_left c.in_ok-frames.frames done) c.in_ok-frames.ensures in
    let did = rw c.if-not-stepped.true at c.in_ok-stepped.ensures in
    c.end_or_stop-then-not-stepped.ensures g whole old c.take_step.new.state (turn_stepped g end test step ds n k c.loop-turn-test.true whole old mid c.test.new.trail s inv.ahead c.in_ok-test.field-0 (c.in-Some-true.is ∙ ap Some c.in-Some-true.field-0-test) c.in_ok-test.ensures new s' ran c.take_step.new.trail c.take_step.new.state None did)

pub run_turns-loop-turn-preserved : goal.run_turns-loop-turn-preserved
run_turns-loop-turn-preserved t c =
    let g = c.args.ground.now in
    let test = λ (s : PlainState). value_of (program_of g) g.this c.args.condition.now s.cells in
    let step = step_of g c.args.step in
    let ds = map (means g) c.args.body.now in
    let n = c.args.number in
    let k = c.loop-turn.turn in
    let end = c.turns-turn-end.result in
    let inv = c.loop-turn.invariant in
    let old = c.args.trail.now in
    let mid = c.loop-turn.trail in
    let s = c.loop-turn.state in
    let whole = λ (b : Lookup). turns (suc g.limit - c.args.first) test step ds c.args.first b n old.path.items (state_of c.args.state.now) in
    let tested = c.test.new.trail in
    let new = c.run_branch.new.trail in
    let s' = c.run_branch.new.state in
    let body = turn_body g end test step ds n k c.loop-turn-test.true tested.path.items (state_of s) in
    let next = λ (b : Lookup). step n mid.path.items (later g end test step ds n k c.loop-turn-test.true mid.path.items b) in
    let on = turn_on g end test step ds n k c.loop-turn-test.true whole old mid c.test.new.trail s inv.ahead c.in_ok-test.field-0 (c.in-Some-true.is ∙ ap Some c.in-Some-true.field-0-test) c.in_ok-test.ensures in
    let done = sym c.is_done-ended.ensures ∙ c.if-not-ended.false in
    let ran = subst (Leaving g body tested new s') (nothing_left c.in_ok-frames.frames done) c.in_ok-frames.ensures in
    let did = rw c.if-not-stepped.false at c.in_ok-stepped.ensures in
    record {
      end = inv.end;
      ahead = turn_next g end test step ds n k c.loop-turn-test.true whole old mid c.test.new.trail s inv.ahead c.in_ok-test.field-0 (c.in-Some-true.is ∙ ap Some c.in-Some-true.field-0-test) c.in_ok-test.ensures new s' ran c.take_step.new.trail c.take_step.new.state did;
    }

pub run_turns-returns-in_err-ended : goal.run_turns-returns-in_err-ended
run_turns-returns-in_err-ended t c =
    let g = c.args.ground.now in
    let test = λ (s : PlainState). value_of (program_of g) g.this c.args.condition.now s.cells in
    let step = step_of g c.args.step in
    let ds = map (means g) c.args.body.now in
    let n = c.args.number in
    let k = c.loop-turn.turn in
    let end = c.turns-turn-end.result in
    let inv = c.loop-turn.invariant in
    let old = c.args.trail.now in
    let mid = c.loop-turn.trail in
    let s = c.loop-turn.state in
    let whole = λ (b : Lookup). turns (suc g.limit - c.args.first) test step ds c.args.first b n old.path.items (state_of c.args.state.now) in
    let h = turns_err g end test step ds n k c.loop-turn-test.false whole old mid c.last_test.new.trail s inv.ahead c.in_err-ended.field-0.0 c.in_err-ended.ensures in
    search rules

pub run_turns-returns : goal.run_turns-returns
run_turns-returns t c =
    let g = c.args.ground.now in
    let test = λ (s : PlainState). value_of (program_of g) g.this c.args.condition.now s.cells in
    let step = step_of g c.args.step in
    let ds = map (means g) c.args.body.now in
    let n = c.args.number in
    let k = c.loop-turn.turn in
    let end = c.turns-turn-end.result in
    let inv = c.loop-turn.invariant in
    let old = c.args.trail.now in
    let mid = c.loop-turn.trail in
    let s = c.loop-turn.state in
    let whole = λ (b : Lookup). turns (suc g.limit - c.args.first) test step ds c.args.first b n old.path.items (state_of c.args.state.now) in
    c.end_or_stop-2.ensures g whole old s (turns_done g end test step ds n k c.loop-turn-test.false whole old mid c.last_test.new.trail s inv.ahead c.in_ok-ended.ended c.in_ok-ended.ensures)

pub run_part-returns-in_err-frames : goal.run_part-returns-in_err-frames
run_part-returns-in_err-frames t c =
    let g = c.args.ground.now in
    let old = c.args.trail.now in
    let whole = λ (b : Lookup). (means g c.args.stmt.now).does b c.args.number (old.path.items ++ c.args.place ∷ []) (state_of c.args.state.now) in
    let h = runs_err g whole old c.run_at.new.trail c.run_at.new.trail c.run_at.new.state c.in_err-frames.field-0.0 c.in_err-frames.ensures c.run_at.new.trail c.run_at.new.state in
    search rules

pub run_part-returns : goal.run_part-returns
run_part-returns t c =
    let g = c.args.ground.now in
    let old = c.args.trail.now in
    let whole = λ (b : Lookup). (means g c.args.stmt.now).does b c.args.number (old.path.items ++ c.args.place ∷ []) (state_of c.args.state.now) in
    c.in_ok-close.ensures whole old c.run_at.new.state c.in_ok-frames.ensures

pub run_part-close-requires : goal.run_part-close-requires
run_part-close-requires t c =
    let g = c.args.ground.now in
    let old = c.args.trail.now in
    let whole = λ (b : Lookup). (means g c.args.stmt.now).does b c.args.number (old.path.items ++ c.args.place ∷ []) (state_of c.args.state.now) in
    (whole, old, c.run_at.new.state, c.in_ok-frames.ensures)

pub run_overlap-returns-then-ended : goal.run_overlap-returns-then-ended
run_overlap-returns-then-ended t c =
    let g = c.args.ground.now in
    let n = c.args.number in
    let old = c.args.trail.now in
    let s = c.args.state.now in
    let u = c.run_parts.new.trail in
    let start = c.new-parts.result in
    let s' = c.run_parts.new.state in
    let within = c.requires.ready.within in
    let room = within.most in
    let path = c.new-parts.ensures.path ∙ c.in_ok-places.ensures in
    let ran = rw c.if-ended.true at c.in_ok-ended.ensures.runs in
    let l = c.into_lists-lists.result in
    let q = c.into_lists-lists.ensures in
    let a = c.in_ok-add.ensures in
    let size = ran.ready.within.size in
    subst (Leaving g (overlap_run g c.args.body.now n old start u s s' room path c.new-parts.ensures.blocks c.new-parts.ensures.asked c.new-parts.ensures.traps c.new-parts.ensures.waits) old c.add.new.self s') (sym c.new.ensures)
    (overlap_ended g c.args.body.now n old start u s s' room path c.new-parts.ensures.blocks c.new-parts.ensures.asked c.new-parts.ensures.traps c.new-parts.ensures.waits l q size ran.run c.add.new.self a (overlap_ready g c.args.body.now n old start u s s' room path c.new-parts.ensures.blocks c.new-parts.ensures.asked c.new-parts.ensures.traps c.new-parts.ensures.waits l q size c.add.new.self a ran.ready.made ran.ready.this ran.ready.shallow ran.ready.within within))

pub run_overlap-returns : goal.run_overlap-returns
run_overlap-returns t c =
    let g = c.args.ground.now in
    let n = c.args.number in
    let old = c.args.trail.now in
    let s = c.args.state.now in
    let u = c.run_parts.new.trail in
    let start = c.new-parts.result in
    let s' = c.run_parts.new.state in
    let within = c.requires.ready.within in
    let room = within.most in
    let path = c.new-parts.ensures.path ∙ c.in_ok-places.ensures in
    let ran = rw c.if-ended.false at c.in_ok-ended.ensures.runs in
    let l = c.into_lists-lists.result in
    let q = c.into_lists-lists.ensures in
    let size = ran.ready.within.size in
    let most = ran.ready.within.most in
    subst (Leaving g (overlap_run g c.args.body.now n old start u s s' room path c.new-parts.ensures.blocks c.new-parts.ensures.asked c.new-parts.ensures.traps c.new-parts.ensures.waits) old (record old { shown = l }) s') (sym c.in_ok-alone.ensures)
    (overlap_left g c.args.body.now n old start u s s' room path c.new-parts.ensures.blocks c.new-parts.ensures.asked c.new-parts.ensures.traps c.new-parts.ensures.waits l q size ran.run (c.in_ok-ended.ensures.unchanged c.if-ended.false) c.requires.ready (omega (arith, most, room)) (record old { shown = l }) refl _
    (record { fits = c.requires.fits; stands = c.requires.stands; numbers = c.requires.numbers })
    (λ b. ap (λ path. overlap (map (means g) c.args.body.now) b (n + 1) path (state_of s)) c.in_ok-path.ensures))

pub run_parts-loop-stmt-init : goal.run_parts-loop-stmt-init
run_parts-loop-stmt-init t c =
    let g = c.args.ground.now in
    let xs = c.args.body.now in
    let s = c.args.state.now in
    let old = c.args.trail.now in
    let whole = overlap (map (means g) xs) (mail_of g) c.args.number old.path.items (state_of s) in
    let h = c.requires.ready in
    record {
      fits = c.requires.fits;
      stands = c.requires.stands;
      numbers = c.requires.numbers;
      places = zero-le;
      state = refl;
      joined = subst (λ j. IsReady g old j) (sym c.in_ok-bare.ensures) (record { made = h.made; this = h.this; shallow = zero-le; within = h.within });
      left = begins g xs (not_empty (length xs) c.if-is_empty.ensures) c.args.number old s c.in_ok-bare.field-0 c.in_ok-bare.ensures h;
    }

pub run_parts-join-requires-clause-fits : goal.run_parts-join-requires-clause-fits
run_parts-join-requires-clause-fits t c =
    let g = c.args.ground.now in
    let xs = c.args.body.now in
    let s = c.args.state.now in
    let old = c.args.trail.now in
    let whole = overlap (map (means g) xs) (mail_of g) c.args.number old.path.items (state_of s) in
    let i = c.loop-stmt.stmt-index in
    let x = c.stmt-item.result in
    let inv = c.loop-stmt.invariant in
    let mid = c.loop-stmt.trail in
    let k = c.loop-stmt.place in
    let n = c.loop-stmt.next in
    let d = next_item xs i x c.loop-stmt-test.true c.stmt-item.is in
    (each_left (is_fit (program_of g)) xs i x d inv.fits).0

pub run_parts-returns-in_err-ended-clause-runs : goal.run_parts-returns-in_err-ended-clause-runs
run_parts-returns-in_err-ended-clause-runs t c =
    let g = c.args.ground.now in
    let xs = c.args.body.now in
    let s = c.args.state.now in
    let old = c.args.trail.now in
    let whole = overlap (map (means g) xs) (mail_of g) c.args.number old.path.items (state_of s) in
    let i = c.loop-stmt.stmt-index in
    let x = c.stmt-item.result in
    let inv = c.loop-stmt.invariant in
    let mid = c.loop-stmt.trail in
    let k = c.loop-stmt.place in
    let n = c.loop-stmt.next in
    let d = next_item xs i x c.loop-stmt-test.true c.stmt-item.is in
    let f = c.in_err-ended.field-0.0 in
    let ran = subst (λ st. Runs g ((means g x).does (mail_of g) n (mid.path.items ++ k ∷ []) (state_of st)) mid c.run_part.new.trail c.run_part.new.state (Err f)) c.in_ok-part.ensures c.in_err-ended.ensures in
    let h = part_err g xs i x d whole old mid c.run_part.new.trail c.run_part.new.trail s c.run_part.new.state s k n (state_in c.loop-stmt.joined) inv.left f ran in
    search rules

pub run_parts-loop-stmt-preserved : goal.run_parts-loop-stmt-preserved
run_parts-loop-stmt-preserved t c =
    let g = c.args.ground.now in
    let xs = c.args.body.now in
    let s = c.args.state.now in
    let old = c.args.trail.now in
    let whole = overlap (map (means g) xs) (mail_of g) c.args.number old.path.items (state_of s) in
    let i = c.loop-stmt.stmt-index in
    let x = c.stmt-item.result in
    let inv = c.loop-stmt.invariant in
    let mid = c.loop-stmt.trail in
    let k = c.loop-stmt.place in
    let n = c.loop-stmt.next in
    let d = next_item xs i x c.loop-stmt-test.true c.stmt-item.is in
    let new = c.run_part.new.trail in
    let part = c.run_part.new.state in
    let ended = c.in_ok-ended.ended in
    let ran = subst (λ st. Did g ((means g x).does (mail_of g) n (mid.path.items ++ k ∷ []) (state_of st)) mid new part ended) c.in_ok-part.ensures c.in_ok-ended.ensures in
    let p = program_of g in
    let stands = subst (StandsAt p c.loop-stmt.next) d inv.stands in
    let cons = statements_cons x (drop (i + 1) xs) in
    let one = one_at_least x in
    let left = ap statements_in d in
    let fits = inv.numbers in
    let places = inv.places in
    let value = c.number_after-behind.ensures.value in
    record {
      fits = (each_left (is_fit (program_of g)) xs i x d inv.fits).1;
      stands = subst (λ n. StandsAt p n (drop (i + 1) xs)) (sym value) (rest_stands p c.loop-stmt.next x (drop (i + 1) xs) stands);
      numbers = omega (arith, cons, left, fits, value);
      places = omega (arith, places, one, value);
      state = refl;
      joined = c.in_ok-joined.ensures.ready new ran.ready (joined_later g mid new c.loop-stmt.joined part inv.joined ran.ready ran.more);
      left = part_on g xs i x d whole old mid new s part k n (state_in c.loop-stmt.joined) (state_in c.in_ok-joined.joined) ended inv.left ran c.in_ok-joined.ensures.both c.number_after-behind.result value (ready_later g mid new s part inv.left.ready ran.ready ran.more);
    }

pub run_parts-returns-in-Some-clause-runs : goal.run_parts-returns-in-Some-clause-runs
run_parts-returns-in-Some-clause-runs t c =
    let g = c.args.ground.now in
    let xs = c.args.body.now in
    let s = c.args.state.now in
    let old = c.args.trail.now in
    let whole = overlap (map (means g) xs) (mail_of g) c.args.number old.path.items (state_of s) in
    let inv = c.loop-stmt.invariant in
    parts_done g xs c.loop-stmt.stmt-index c.loop-stmt-test.false whole old c.loop-stmt.trail s c.in-Some.joined c.loop-stmt.joined true c.loop-stmt.place c.loop-stmt.next (ap state_in c.in-Some.is) (subst (λ j. IsJoined g c.loop-stmt.trail j) c.in-Some.is inv.joined) inv.left

pub run_parts-returns-in-None-clause-runs : goal.run_parts-returns-in-None-clause-runs
run_parts-returns-in-None-clause-runs t c =
    let g = c.args.ground.now in
    let xs = c.args.body.now in
    let s = c.args.state.now in
    let old = c.args.trail.now in
    let whole = overlap (map (means g) xs) (mail_of g) c.args.number old.path.items (state_of s) in
    let inv = c.loop-stmt.invariant in
    parts_done g xs c.loop-stmt.stmt-index c.loop-stmt-test.false whole old c.loop-stmt.trail s s c.loop-stmt.joined false c.loop-stmt.place c.loop-stmt.next (ap state_in c.in-None.is) inv.left.ready inv.left

pub run_parts-number_after-behind-requires : goal.run_parts-number_after-behind-requires
run_parts-number_after-behind-requires t c =
    let p = program_of c.args.ground.now in
    let xs = c.args.body.now in
    let i = c.loop-stmt.stmt-index in
    let x = c.stmt-item.result in
    let d = next_item xs i x c.loop-stmt-test.true c.stmt-item.is in
    alone_stands p c.loop-stmt.next x (drop (i + 1) xs) (subst (StandsAt p c.loop-stmt.next) d c.loop-stmt.invariant.stands)

pub run_list-behind_first-left-requires : goal.run_list-behind_first-left-requires
run_list-behind_first-left-requires t c =
    let xs = c.args.list.now in
    let i = c.loop-stmt.stmt-index in
    let x = c.stmt-item.result in
    let d = next_item xs i x c.loop-stmt-test.true c.stmt-item.is in
    subst (λ ys. 1 ≤ length ys) (sym (c.loop-stmt.invariant.left ∙ d)) (at_least (length (drop (i + 1) xs)))
  where
    at_least : (n : ℕ) → 1 ≤ suc n
    at_least n = omega arith

pub run_overlap-returns-in_err-ended : goal.run_overlap-returns-in_err-ended
run_overlap-returns-in_err-ended t c =
    let g = c.args.ground.now in
    let n = c.args.number in
    let old = c.args.trail.now in
    let s = c.args.state.now in
    let u = c.run_parts.new.trail in
    let start = c.new-parts.result in
    let s' = c.run_parts.new.state in
    let within = c.requires.ready.within in
    let room = within.most in
    let path = c.new-parts.ensures.path ∙ c.in_ok-places.ensures in
    let before = g.sizes in
    let sizes : (g.done + old.size) + (g.room - old.size) ≡ g.limit = omega (arith, before, room) in
    let h = overlap_err g c.args.body.now n old start u s s' room path c.new-parts.ensures.blocks c.new-parts.ensures.asked c.new-parts.ensures.traps c.new-parts.ensures.waits within.size (record g { done = g.done + old.size; room = g.room - old.size; sizes = sizes }) refl c.in_err-ended.field-0.0 c.in_err-ended.ensures.runs old s in
    search rules
