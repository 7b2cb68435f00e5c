use Rattle.std.proofs.Common.{◌-◌, ℕ, List, suc, map, ap, sym, None, Some}
use Rattle.bs_semantics.specs.Run.{Lookup, Run, State as PlainState, turns}
use Rattle.bs_semantics.specs.Value.{value_of}
use Rattle.bs_history.specs.Control.{step_of}
use Rattle.bs_history.specs.Ground.{state_of, program_of, means}
use Rattle.bs_history.proofs.Aheads.{goes_ahead, as_ahead, leaves_ahead}
use Rattle.bs_history.proofs.Resumes.{from_path}
use Rattle.bs_history.proofs.resume.run_loop.Goals as goal

pub returns-then-not-stepped : goal.returns-then-not-stepped
returns-then-not-stepped c =
    let g = c.args.ground.now in
    let l = c.args.turns in
    let old = record c.args.trail.now { path = l.path } in
    let mid = c.take_step.new.trail in
    let s = c.args.state.now in
    let s' = c.take_step.new.state in
    let runs = λ (next : PlainState → Run). step_of g l.step l.number l.path.items next (state_of s) in
    let then = λ (b : Lookup) (s : PlainState). turns (suc g.limit - l.turn) (λ (s : PlainState). value_of (program_of g) g.this l.condition.now s.cells) (step_of g l.step) (map (means g) l.body.now) l.turn b l.number l.path.items s in
    let whole = λ (b : Lookup). runs (then b) in
    let h = rw c.if-not-stepped.true at c.in_ok-stepped.ensures in
    from_path g whole c.args.trail.now c.end_or_stop.new.trail l.path s' c.end_or_stop.result (c.end_or_stop.ensures g whole old s' (goes_ahead g PlainState runs old mid s' None h then))

pub returns : goal.returns
returns c =
    let g = c.args.ground.now in
    let l = c.args.turns in
    let old = record c.args.trail.now { path = l.path } in
    let mid = c.take_step.new.trail in
    let s = c.args.state.now in
    let s' = c.take_step.new.state in
    let runs = λ (next : PlainState → Run). step_of g l.step l.number l.path.items next (state_of s) in
    let at = λ (path : List ℕ) (b : Lookup) (s : PlainState). turns (suc g.limit - l.turn) (λ (s : PlainState). value_of (program_of g) g.this l.condition.now s.cells) (step_of g l.step) (map (means g) l.body.now) l.turn b l.number path s in
    let whole = λ (b : Lookup). runs (at l.path.items b) in
    let h = rw c.if-not-stepped.false at c.in_ok-stepped.ensures in
    from_path g whole c.args.trail.now c.run_turns.new.trail l.path c.run_turns.new.state c.run_turns.result
    (leaves_ahead g (λ b. at mid.path.items b (state_of s')) whole old mid c.run_turns.new.trail s' c.run_turns.new.state c.run_turns.result
    (as_ahead g (λ b. at l.path.items b (state_of s')) (λ b. at mid.path.items b (state_of s')) whole old mid s' (λ b. ap (λ path. at path b (state_of s')) h.path) (goes_ahead g PlainState runs old mid s' (Some (state_of s')) h (at l.path.items)))
    c.run_turns.ensures)
