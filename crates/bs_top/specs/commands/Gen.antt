-- `gen`: the text of a program that is made from a kind, a number of chares and a seed (docs/workloads.md).
use Rattle.std.specs.Prelude.{None}
use Rattle.bs_gen.specs.Programs.{workload_text}
use Rattle.bs_log.specs.declared.outcome.End.TheVariants as end
use Rattle.bs_words.specs.declared.generated.Generated.{Generated}
use Rattle.bs_top.specs.Step.{Said}
use Rattle.bs_top.specs.Targets.{output}
use Rattle.bs_top.specs.declared.reply.Ending.TheVariants.{Run}

-- the text of a generated program
abbrev pub generated : Generated → Said
generated g = record { ending = Run end.Settled; note = None; target = output; text = workload_text g.kind g.chares g.seed }
