use Rattle.std.proofs.Common.{refl}
use Rattle.bs_tree.specs.Rule.{outside, names}
use Rattle.bs_tree.specs.Grammar.{parameters}
use Rattle.bs_tree.specs.declared.symbols.Mark.TheVariants as m
use Rattle.bs_parse.proofs.Enter.{brackets}
use Rattle.bs_parse.proofs.statements.parameters.Goals as goal

pub returns : goal.returns
unfolding parameters
returns c = brackets outside m.ParenLeft m.ParenRight names c.args.tokens.now c.mark.new.self c.names-inner.new.tokens c.close.new.self refl refl refl c.in_ok-mark.ensures c.names-inner.result c.close.result c.names-inner.ensures c.close.ensures
