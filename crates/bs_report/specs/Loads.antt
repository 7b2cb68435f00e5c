-- What each processor did, as the report's last lines count it.
use Rattle.std.specs.Prelude.{ℕ, ◌*◌, ◌/◌, ◌^◌, ◌<◌, ◌≤◌, List, ◌++◌, length, map, codes}
use Rattle.std.specs.Fmt.{decimal}
use Rattle.bs_log.specs.declared.outcome.OutRow.{OutRow}
use Rattle.bs_report.specs.declared.processors.Load.{Load}
use Rattle.bs_report.specs.Report.{rows_on, busy_of, processors_of}

-- the blocks and ticks of one processor
abbrev pub load_on : List OutRow → ℕ → Load
load_on rows processor = record { blocks = length (rows_on processor rows); busy = busy_of processor rows }

-- each processor that has a block, with its load, in rising order
abbrev pub loads_of : List OutRow → List (ℕ × Load)
loads_of rows = map (λ processor. (processor, load_on rows processor)) (processors_of rows)

abbrev pub no_load : Load
no_load = record { blocks = 0; busy = 0 }

-- the ticks of a processor can be taken as a share of the span
pub record IsShare (span : ℕ) (entry : ℕ × Load) : Type 0 where
  pub has_span : 0 < span
  pub is_small : entry.1.busy ≤ 2 ^ 66

-- the line of one processor
abbrev pub load_line : ℕ → ℕ × Load → List ℕ
load_line span entry =
    codes "proc " ++ decimal entry.0 ++ codes " blocks " ++ decimal entry.1.blocks
    ++ codes " busy " ++ decimal entry.1.busy ++ codes " use " ++ decimal (10000 * entry.1.busy / span) ++ codes "\n"
