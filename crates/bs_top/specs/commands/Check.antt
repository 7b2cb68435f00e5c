-- `check`: the canonical text of a program.
use Rattle.std.specs.Prelude.{None}
use Rattle.bs_log.specs.declared.outcome.End.TheVariants as end
use Rattle.bs_print.specs.Canonical.{text_of}
use Rattle.bs_tree.specs.declared.tree.Program.{Program}
use Rattle.bs_top.specs.Step.{Said}
use Rattle.bs_top.specs.Targets.{output}
use Rattle.bs_top.specs.declared.reply.Ending.TheVariants.{Run}

-- the canonical text of a program
abbrev pub printed : Program → Said
printed p = record { ending = Run end.Settled; note = None; target = output; text = text_of p }
