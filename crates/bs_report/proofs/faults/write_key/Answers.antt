use Rattle.std.proofs.Common.{◌∙◌, append_assoc}
use Rattle.std.proofs.lemmas.Result.{on_ok_weaker}
use Rattle.bs_report.proofs.faults.write_key.Goals as goal

pub returns : goal.returns
returns c = on_ok_weaker c.write.result (λ wrote. wrote ∙ simp append_assoc) c.write.ensures.bytes
