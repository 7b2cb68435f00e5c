use Rattle.std.proofs.Common.{◌≡◌, ◌+◌, None, drop}
use Rattle.bs_logcheck.specs.Lines.{MailLine, each_line}
use Rattle.bs_logcheck.specs.Searched.{first_from}
use Rattle.bs_logcheck.proofs.rows.first_mail.Given as goal

abbrev pub invariant-loop-cause : goal.invariant-loop-cause
invariant-loop-cause l = record {
  at : l.line ≡ l.initial.line + l.cause-index;
  rest : first_from l.log l.line (each_line (MailLine l.row) l.before (drop l.cause-index l.row.mail)) ≡ first_from l.log l.initial.line (each_line (MailLine l.row) None l.row.mail);
}
