use Rattle.std.proofs.Common.{refl}
use Rattle.bs_tree.specs.Rule.{outside, expressions}
use Rattle.bs_tree.specs.Grammar.{arguments}
use Rattle.bs_tree.specs.declared.symbols.Mark.TheVariants as m
use Rattle.bs_parse.proofs.Enter.{brackets}
use Rattle.bs_parse.proofs.acts.arguments.Goals as goal

pub returns : goal.returns
unfolding arguments
returns c = brackets outside m.ParenLeft m.ParenRight expressions c.args.tokens.now c.mark.new.self c.expressions-inner.new.tokens c.close.new.self refl refl refl c.in_ok-mark.ensures c.expressions-inner.result c.close.result c.expressions-inner.ensures c.close.ensures
