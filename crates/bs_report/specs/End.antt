-- How a run ends, by the traps and waits of its outcome. docs/output.md says what each end means.
use Rattle.bs_log.specs.declared.outcome.End.{End}
use Rattle.bs_log.specs.declared.outcome.Outcome.{Outcome}
use Rattle.bs_log.specs.End.{end_by}

abbrev pub end_of : Outcome → End
end_of outcome = end_by outcome.traps outcome.waits
