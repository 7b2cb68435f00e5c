use Rattle.std.proofs.Common.{refl}
use Rattle.bs_machine.proofs.Roots.{root_of-refused, root_of-taken}
use Rattle.bs_machine.proofs.reading.read_root.Goals as goal

pub returns-in-Ok-clause-ok : goal.returns-in-Ok-clause-ok
returns-in-Ok-clause-ok c = root_of-taken _ _ c.in-Ok.ensures.ok.0 c.in-Ok.ensures.ok.1

pub returns-else-is_memory-clause-err : goal.returns-else-is_memory-clause-err
returns-else-is_memory-clause-err c _ = (refl, root_of-refused _ (c.in-Err.ensures.refused (λ memory. let told = c.is_memory.ensures.1 memory in cc)))
