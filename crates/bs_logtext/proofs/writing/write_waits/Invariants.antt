use Rattle.std.proofs.Common.{◌≡◌, ◌++◌, drop, string_bytes}
use Rattle.std.specs.List.{flat_map}
use Rattle.bs_logtext.specs.Text.{wait_line}
use Rattle.bs_logtext.proofs.writing.write_waits.Given as goal

abbrev pub invariant-loop-wait : goal.invariant-loop-wait
invariant-loop-wait l = string_bytes l.text ++ flat_map wait_line (drop l.wait-index l.waits) ≡ string_bytes l.initial.text ++ flat_map wait_line l.waits
