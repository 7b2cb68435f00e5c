use Rattle.std.proofs.Common.{rules, Some, None, true, false, ap, ◌∙◌, []}
use Rattle.bs_semantics.specs.Run.{State as PlainState, halts, ends}
use Rattle.bs_semantics.specs.Value.{value_of}
use Rattle.bs_history.specs.Ground.{program_of, state_of}
use Rattle.bs_history.proofs.Lefts.{tested, test_err}
use Rattle.bs_history.proofs.statements.last_test.Goals as goal

pub returns-in_err-test : goal.returns-in_err-test
returns-in_err-test c =
    let g = c.args.ground.now in
    let s = c.args.state.now in
    let h = test_err g c.args.number (value_of (program_of g) g.this c.args.condition.now s.env.cells) c.args.trail.now c.test.new.trail s (λ (s : PlainState). halts []) ends (state_of s) c.in_err-test.field-0.0 c.in_err-test.ensures c.test.new.trail s in
    search rules

pub returns-in-None : goal.returns-in-None
returns-in-None c =
    let g = c.args.ground.now in
    let s = c.args.state.now in
    tested g c.args.number (value_of (program_of g) g.this c.args.condition.now s.env.cells) c.args.trail.now c.test.new.trail s (λ (s : PlainState). halts []) ends (state_of s) c.in_ok-test.field-0 None c.in-None.is c.in_ok-test.ensures

pub returns-in-Some-true : goal.returns-in-Some-true
returns-in-Some-true c =
    let g = c.args.ground.now in
    let s = c.args.state.now in
    tested g c.args.number (value_of (program_of g) g.this c.args.condition.now s.env.cells) c.args.trail.now c.test.new.trail s (λ (s : PlainState). halts []) ends (state_of s) c.in_ok-test.field-0 (Some true) (c.in-Some-true.is ∙ ap Some c.in-Some-true.field-0-test) c.in_ok-test.ensures

pub returns-in-Some-false : goal.returns-in-Some-false
returns-in-Some-false c =
    let g = c.args.ground.now in
    let s = c.args.state.now in
    tested g c.args.number (value_of (program_of g) g.this c.args.condition.now s.env.cells) c.args.trail.now c.test.new.trail s (λ (s : PlainState). halts []) ends (state_of s) c.in_ok-test.field-0 (Some false) (c.in-Some-false.is ∙ ap Some c.in-Some-false.field-0-test) c.in_ok-test.ensures
