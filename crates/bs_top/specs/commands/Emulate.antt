-- `emulate`: the log of a program.
use Rattle.std.specs.Prelude.{ℕ, List, None}
use Rattle.bs_log.specs.End as log
use Rattle.bs_log.specs.declared.log.Log.{Log}
use Rattle.bs_logtext.specs.Text.{log_text}
use Rattle.bs_report.specs.End.{end_of}
use Rattle.bs_top.specs.Step.{Said}
use Rattle.bs_top.specs.Targets.{in_file}
use Rattle.bs_top.specs.declared.reply.Ending.TheVariants.{Run}

-- the text of a log for the file of that name, and how the run of the log ends
abbrev pub kept_in : List ℕ → Log → Said
kept_in name kept = record { ending = Run (log.end_of kept); note = None; target = in_file name; text = log_text kept }
