use Rattle.std.proofs.Common.{◌≡◌, ◌++◌, drop, string_bytes}
use Rattle.std.specs.List.{flat_map}
use Rattle.bs_logtext.specs.Text.{trap_line}
use Rattle.bs_logtext.proofs.writing.write_traps.Given as goal

abbrev pub invariant-loop-trap : goal.invariant-loop-trap
invariant-loop-trap l = string_bytes l.text ++ flat_map trap_line (drop l.trap-index l.traps) ≡ string_bytes l.initial.text ++ flat_map trap_line l.traps
