use Rattle.std.proofs.Common.{◌≡◌, ◌≤◌, ◌-◌, ◌+◌, suc, true, drop, map}
use Rattle.bs_tree.specs.Count.{statements_in}
use Rattle.bs_check.specs.Numbers.{StandsAt}
use Rattle.bs_semantics.specs.Value.{value_of}
use Rattle.bs_semantics.specs.Run.{State as PlainState, in_turn, turns, parts, overlap}
use Rattle.bs_history.specs.Control.{step_of}
use Rattle.bs_check.specs.Fits.{are_fit}
use Rattle.bs_history.specs.Ground.{Left, program_of, mail_of, means, state_of}
use Rattle.bs_history.specs.Frames.{Ahead}
use Rattle.bs_history.specs.Joined.{IsJoined, bare, state_in}
use Rattle.bs_history.proofs.statements.+run.Given as goal

abbrev pub invariant-run_list-loop-stmt : goal.invariant-run_list-loop-stmt
invariant-run_list-loop-stmt l = record {
  left : l.left ≡ drop l.stmt-index l.list;
  fits : are_fit (program_of l.ground) (drop l.stmt-index l.list) ≡ true;
  stands : StandsAt (program_of l.ground) l.next (drop l.stmt-index l.list);
  numbers : l.next + statements_in (drop l.stmt-index l.list) ≤ 10001;
  places : l.place ≤ l.next;
  ahead : Ahead l.ground
      (λ b. in_turn (map (means l.ground) (drop l.stmt-index l.list)) l.place b l.next l.trail.path.items (state_of l.state))
      (λ b. in_turn (map (means l.ground) l.fn.list) l.fn.place b l.fn.number l.fn.trail.path.items (state_of l.fn.state))
      l.fn.trail l.trail l.state;
}

abbrev pub invariant-run_turns-loop-turn : goal.invariant-run_turns-loop-turn
invariant-run_turns-loop-turn l =
    let test = λ (s : PlainState). value_of (program_of l.ground) l.ground.this l.condition s.cells in
    record {
      end : l.turn-end ≡ suc l.ground.limit;
      ahead : Ahead l.ground
          (λ b. turns (l.turn-end - l.turn) test (step_of l.ground l.step) (map (means l.ground) l.body) l.turn b l.number l.trail.path.items (state_of l.state))
          (λ b. turns (suc l.ground.limit - l.fn.first) test (step_of l.ground l.step) (map (means l.ground) l.body) l.fn.first b l.number l.fn.trail.path.items (state_of l.fn.state))
          l.fn.trail l.trail l.state;
    }

abbrev pub invariant-run_parts-loop-stmt : goal.invariant-run_parts-loop-stmt
invariant-run_parts-loop-stmt l = record {
  fits : are_fit (program_of l.ground) (drop l.stmt-index l.body) ≡ true;
  stands : StandsAt (program_of l.ground) l.next (drop l.stmt-index l.body);
  numbers : l.next + statements_in (drop l.stmt-index l.body) ≤ 10001;
  places : l.place ≤ l.next;
  state : l.state ≡ l.fn.state;
  joined : IsJoined l.ground l.trail l.joined;
  left : Left l.ground
      (parts (bare (state_in l.joined)) (map (means l.ground) (drop l.stmt-index l.body)) l.place (mail_of l.ground) l.next l.trail.path.items (state_of l.fn.state))
      (overlap (map (means l.ground) l.fn.body) (mail_of l.ground) l.fn.number l.fn.trail.path.items (state_of l.fn.state))
      l.fn.trail l.trail l.fn.state;
}
