use Rattle.std.proofs.Common.{◌≡◌, List, length}
use Rattle.bs_log.specs.declared.history.Message.{Message}
use Rattle.bs_emul.specs.World.{IsWorld}
use Rattle.bs_emul.proofs.emulation.serve_all.Given as goal

abbrev pub invariant-loop : goal.invariant-loop
invariant-loop l = (ms : List Message) × IsWorld l.accepted.program l.limit ms l.world × (length ms ≡ l.counter)
