use Rattle.std.proofs.Common.{subst}
use Rattle.bs_chare.specs.Asked.{IsLeastTwice, times}
use Rattle.bs_chare.proofs.Askers.{all_apart}
use Rattle.bs_chare.proofs.asked.ask_once.Goals as goal

pub returns-in-None : goal.returns-in-None
returns-in-None c = all_apart c.args.asked.now (subst (IsLeastTwice (times c.args.asked.now)) c.in-None.is c.in_ok-least_twice.ensures)
