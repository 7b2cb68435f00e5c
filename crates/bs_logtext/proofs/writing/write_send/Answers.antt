use Rattle.std.proofs.Common.{◌∙◌, append_assoc}
use Rattle.std.proofs.lemmas.Result.{on_ok_weaker}
use Rattle.bs_logtext.proofs.writing.write_send.Goals as goal

pub returns : goal.returns
returns c = on_ok_weaker c.writeln.result (λ wrote. wrote ∙ simp append_assoc) c.writeln.ensures.bytes
