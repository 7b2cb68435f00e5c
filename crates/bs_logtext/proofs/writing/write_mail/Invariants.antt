use Rattle.std.proofs.Common.{◌≡◌, ◌++◌, drop, string_bytes}
use Rattle.std.specs.List.{flat_map}
use Rattle.bs_logtext.specs.Text.{mail_line}
use Rattle.bs_logtext.proofs.writing.write_mail.Given as goal

abbrev pub invariant-loop-cause : goal.invariant-loop-cause
invariant-loop-cause l = string_bytes l.text ++ flat_map mail_line (drop l.cause-index l.mail) ≡ string_bytes l.initial.text ++ flat_map mail_line l.mail
