use Rattle.std.proofs.Common.{◌≡◌, ◌+◌, None, drop}
use Rattle.bs_logcheck.specs.Places.{goal_of, has, with_places}
use Rattle.bs_logcheck.specs.Searched.{first_send}
use Rattle.bs_logcheck.proofs.rows.first_send.Given as goal

abbrev pub invariant-loop-sent : goal.invariant-loop-sent
invariant-loop-sent l = record {
  at : l.line ≡ l.initial.line + l.sent-index;
  rest : first_send l.log l.row (has l.seen) l.before l.line (drop l.sent-index l.row.sends) ≡ first_send l.log l.row (has l.initial.seen) None l.initial.line l.row.sends;
  seen : with_places goal_of (has l.seen) (drop l.sent-index l.row.sends) ≡ with_places goal_of (has l.initial.seen) l.row.sends;
}
