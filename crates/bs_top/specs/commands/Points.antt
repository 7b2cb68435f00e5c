-- Several points of a log, as `sweep` and `tune` tell them (docs/output.md).
use Rattle.std.specs.Prelude.{ℕ, Bool, true, false, List, None}
use Rattle.bs_log.specs.End as log
use Rattle.bs_log.specs.declared.log.Log.{Log}
use Rattle.bs_times.specs.Net.{Net}
use Rattle.bs_whatif.specs.Texts.{IsPointsText, IsSpansText}
use Rattle.bs_top.specs.Step.{Said}
use Rattle.bs_top.specs.Targets.{output}
use Rattle.bs_top.specs.declared.reply.Ending.TheVariants.{Run}

-- the text of points: of their spans alone where that is wanted, and otherwise with their waves
abbrev pub IsTextOf : Bool → List Net → List ℕ → Type 0
IsTextOf true nets text = IsSpansText nets text
IsTextOf false nets text = IsPointsText nets text

-- a text of points, and how the run of their log ends
abbrev pub points_said : Log → List ℕ → Said
points_said kept text = record { ending = Run (log.end_of kept); note = None; target = output; text = text }
