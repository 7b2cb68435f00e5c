use Rattle.bs_model.proofs.Delivery.{all_shallow}
use Rattle.bs_model.proofs.mails.take.Goals as goal

pub history-requires-clause-shallow : goal.history-requires-clause-shallow
history-requires-clause-shallow c = all_shallow c.args.mail.now c.len-messages.ensures.rising c.requires.shallow
