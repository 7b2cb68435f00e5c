use Rattle.std.proofs.Common.{refl}
use Rattle.bs_tree.specs.Rule.{outside, loop_head}
use Rattle.bs_tree.specs.Grammar.{head}
use Rattle.bs_tree.specs.declared.symbols.Mark.TheVariants as m
use Rattle.bs_parse.proofs.Enter.{brackets}
use Rattle.bs_parse.proofs.statements.head.Goals as goal

pub returns : goal.returns
unfolding head
returns c = brackets outside m.ParenLeft m.ParenRight loop_head c.args.tokens.now c.mark.new.self c.loop_head-inner.new.tokens c.close.new.self refl refl refl c.in_ok-mark.ensures c.loop_head-inner.result c.close.result c.loop_head-inner.ensures c.close.ensures
