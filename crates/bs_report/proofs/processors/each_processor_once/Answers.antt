use Rattle.bs_report.specs.Report.{processors_of}
use Rattle.bs_report.proofs.Rising.{increases}
use Rattle.bs_report.proofs.LoadLemmas.{processors_rise, processors_any}
use Rattle.bs_report.proofs.processors.each_processor_once.Goals as goal

pub returns : goal.returns
returns c = record {
  rises = λ rows. increases (processors_of rows) (processors_rise rows);
  exact = λ rows p. processors_any p rows;
}
