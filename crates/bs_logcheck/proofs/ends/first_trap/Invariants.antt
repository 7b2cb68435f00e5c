use Rattle.std.proofs.Common.{◌≡◌, ◌+◌, None, drop}
use Rattle.bs_logcheck.specs.Lines.{TrapLine, each_line}
use Rattle.bs_logcheck.specs.Searched.{first_from}
use Rattle.bs_logcheck.proofs.ends.first_trap.Given as goal

abbrev pub invariant-loop-trap : goal.invariant-loop-trap
invariant-loop-trap l = record {
  at : l.line ≡ l.initial.line + l.trap-index;
  rest : first_from l.log l.line (each_line TrapLine l.before (drop l.trap-index l.log.traps)) ≡ first_from l.log l.initial.line (each_line TrapLine None l.log.traps);
}
