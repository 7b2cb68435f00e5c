use Rattle.std.proofs.Common.{length}
use Rattle.bs_words.proofs.roles.+are_machines.Given as goal

abbrev pub decreases-are_machines : goal.decreases-are_machines
decreases-are_machines l = length l.names.now
