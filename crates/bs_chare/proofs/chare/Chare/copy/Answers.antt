use Rattle.bs_chare.proofs.Equal.{copied}
use Rattle.bs_chare.proofs.chare.Chare.copy.Goals as goal

pub returns : goal.returns
returns c = copied c.args.self.now c.in_ok-mail.mail c.in_ok-history.history c.in_ok-mail.ensures _ _ _ _ _ _
