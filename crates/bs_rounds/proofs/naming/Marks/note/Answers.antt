use Rattle.std.proofs.Common.{sym}
use Rattle.bs_rounds.proofs.NamingMarks.{put_first}
use Rattle.bs_rounds.proofs.naming.Marks.note.Goals as goal

pub returns-in_ok-insert-in-None : goal.returns-in_ok-insert-in-None
returns-in_ok-insert-in-None c = put_first c.args.self.now.firsts c.insert.new.self c.args.mark c.args.self.now.least (sym c.in-None.ensures) c.in_ok-insert-in-None.ensures.updates
