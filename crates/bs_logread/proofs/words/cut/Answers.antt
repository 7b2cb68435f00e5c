use Rattle.bs_logread.proofs.Cuts.{no_mark, at_mark}
use Rattle.bs_logread.proofs.words.cut.Goals as goal

pub returns-then-length-text : goal.returns-then-length-text
returns-then-length-text c = no_mark c.args.mark c.args.text.now c.front_length-length.result c.front_length-length.ensures c.if-length-text.true

pub returns : goal.returns
returns c = at_mark c.args.mark c.args.text.now c.front_length-length.result c.front_length-length.ensures c.if-length-text.false
