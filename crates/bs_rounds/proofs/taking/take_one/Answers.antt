use Rattle.bs_rounds.proofs.Shallow.{all_shallow}
use Rattle.bs_rounds.proofs.taking.take_one.Goals as goal

pub history-requires-clause-shallow : goal.history-requires-clause-shallow
history-requires-clause-shallow c = all_shallow c.args.mail.now c.len.ensures.rising c.requires.shallow
