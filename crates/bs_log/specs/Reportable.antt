-- Which outcomes can be reported.
use Rattle.std.specs.Prelude.{◌+◌, ◌^◌, ◌<◌, ◌≤◌, length}
use Rattle.std.specs.List.{All}
use Rattle.bs_log.specs.declared.outcome.OutRow.{OutRow}
use Rattle.bs_log.specs.declared.outcome.Outcome.{Outcome}

-- a block takes at least one tick and at most 2^48, and ends before tick 2^110
pub record IsTimed (row : OutRow) : Type 0 where
  pub takes_time : row.start < row.end
  pub is_short : row.end ≤ row.start + 2 ^ 48
  pub is_early : row.end < 2 ^ 110

-- an outcome that can be reported: at most 262,144 blocks, each of them timed
pub record IsReportable (outcome : Outcome) : Type 0 where
  pub is_small : length outcome.rows ≤ 262144
  pub is_timed : All IsTimed outcome.rows
