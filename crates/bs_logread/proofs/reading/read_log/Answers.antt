use Rattle.bs_logread.proofs.Unique.{exact, refused}
use Rattle.bs_logread.proofs.reading.read_log.Goals as goal

pub returns-clause-exact : goal.returns-clause-exact
returns-clause-exact c = exact c.args.bytes.now c.read.result c.read.ensures.ok c.read.ensures.err

pub returns-clause-refused : goal.returns-clause-refused
returns-clause-refused c = refused c.args.bytes.now c.read.result c.read.ensures.ok c.read.ensures.err
