use Rattle.std.proofs.Common.{sym, ◌∙◌}
use Rattle.bs_logread.proofs.Cuts.{behind_there, behind_not}
use Rattle.bs_logread.proofs.words.behind.Goals as goal

pub returns-then-starts_with : goal.returns-then-starts_with
returns-then-starts_with c = behind_there c.args.word.now c.args.text.now (sym c.starts_with.ensures.value ∙ c.if-starts_with.true)

pub returns-else-starts_with : goal.returns-else-starts_with
returns-else-starts_with c = behind_not c.args.word.now c.args.text.now (sym c.starts_with.ensures.value ∙ c.if-starts_with.false)
