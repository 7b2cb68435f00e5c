use Rattle.bs_chare.proofs.Mails.{all_shallow}
use Rattle.bs_chare.proofs.chare.Chare.run.Goals as goal

pub history-requires-clause-shallow : goal.history-requires-clause-shallow
history-requires-clause-shallow c = all_shallow c.args.self.now.number c.args.mail.now c.len.ensures.rising c.requires
