use Rattle.std.proofs.Common.{◌≡◌, ◌++◌, drop, string_bytes}
use Rattle.std.specs.List.{flat_map}
use Rattle.bs_logtext.specs.Text.{send_line}
use Rattle.bs_logtext.proofs.writing.write_sends.Given as goal

abbrev pub invariant-loop-sent : goal.invariant-loop-sent
invariant-loop-sent l = string_bytes l.text ++ flat_map send_line (drop l.sent-index l.sends) ≡ string_bytes l.initial.text ++ flat_map send_line l.sends
