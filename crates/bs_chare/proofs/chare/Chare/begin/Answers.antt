use Rattle.std.proofs.Common.{ap, ◌∙◌}
use Rattle.bs_log.specs.Messages.{sends_of}
use Rattle.bs_chare.proofs.NewSends.{none_before}
use Rattle.bs_chare.proofs.chare.Chare.begin.Goals as goal

pub returns-clause-sent : goal.returns-clause-sent
returns-clause-sent c = c.in_ok-sent.ensures ∙ (none_before c.as_slice.result.now ∙ ap sends_of c.as_slice.ensures)
