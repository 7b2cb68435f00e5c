use Rattle.std.proofs.Common.{◌≡◌, ◌+◌, None, drop}
use Rattle.bs_logcheck.specs.Lines.{AfterLine, each_line}
use Rattle.bs_logcheck.specs.Searched.{first_from}
use Rattle.bs_logcheck.proofs.rows.first_after.Given as goal

abbrev pub invariant-loop-cause : goal.invariant-loop-cause
invariant-loop-cause l = record {
  at : l.line ≡ l.initial.line + l.cause-index;
  rest : first_from l.log l.line (each_line (AfterLine l.number l.row) l.before (drop l.cause-index l.row.after)) ≡ first_from l.log l.initial.line (each_line (AfterLine l.number l.row) None l.row.after);
}
