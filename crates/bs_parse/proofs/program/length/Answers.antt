use Rattle.std.proofs.Common.{refl}
use Rattle.bs_tree.specs.Rule.{a_number, outside, whole_number}
use Rattle.bs_tree.specs.Grammar as rule
use Rattle.bs_tree.specs.Grammar.{length_in_brackets}
use Rattle.bs_tree.specs.declared.symbols.Mark.TheVariants as m
use Rattle.bs_parse.proofs.Enter.{brackets, token_follows}
use Rattle.bs_parse.proofs.program.length.Goals as goal

pub returns : goal.returns
unfolding length_in_brackets
returns c = brackets outside m.BracketLeft m.BracketRight whole_number c.args.tokens.now c.mark.new.self c.natural-inner.new.self c.close.new.self refl refl refl c.in_ok-mark.ensures c.natural-inner.result c.close.result (token_follows outside (a_number rule.natural) c.mark.new.self c.natural-inner.new.self refl c.natural-inner.result c.natural-inner.ensures) c.close.ensures
