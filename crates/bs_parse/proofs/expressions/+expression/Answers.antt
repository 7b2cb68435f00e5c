use Rattle.std.proofs.Common.{◌+◌, ◌-◌, arith, refl, sym, ap, ◌∙◌}
use Rattle.bs_tree.specs.Rule.{expression}
use Rattle.bs_tree.specs.Grammar as rule
use Rattle.bs_tree.specs.Grammar.{group, index}
use Rattle.bs_tree.specs.declared.symbols.Mark.TheVariants as m
use Rattle.bs_parse.specs.Seen.{role_of, operators_of, operand_of}
use Rattle.bs_parse.proofs.Enter.{brackets, operator_flat, few_levels}
use Rattle.bs_parse.proofs.Onward.{turned}
use Rattle.bs_parse.proofs.expressions.+expression.Goals as goal

pub chain-loop-turn-preserved : goal.chain-loop-turn-preserved
chain-loop-turn-preserved t c = record {
  onward = turned (rule.tail (operators_of c.args.level) (operand_of c.args.level)) c.args.tokens.now c.loop-turn.tokens c.tail.new.tokens (c.left-turn-end.result - c.loop-turn._turn) (c.left-turn-end.result - (c.loop-turn._turn + 1))
      (rule.grouped c.loop-turn.left) (rule.grouped c.in_ok-left-2.left) (c.in_ok-op.op, c.in_ok-op.right) (omega arith) (sym c.if-not-is_operator.ensures) c.loop-turn.invariant.level c.in_ok-op.ensures.0
      (λ bs. ap (λ x. rule.grouped x bs) (sym c.in_ok-left-2.ensures)) ∙ c.loop-turn.invariant.onward;
  level = c.in_ok-op.ensures.1 ∙ c.loop-turn.invariant.level;
}

pub group-returns : goal.group-returns
unfolding group
group-returns t c = brackets (role_of c.args.role) m.ParenLeft m.ParenRight expression c.args.tokens.now c.mark.new.self c.expression-inner.new.tokens c.close.new.self refl refl c.requires c.in_ok-mark.ensures c.expression-inner.result c.close.result c.expression-inner.ensures c.close.ensures

pub index-returns : goal.index-returns
unfolding index
index-returns t c = brackets (role_of c.args.role) m.BracketLeft m.BracketRight expression c.args.tokens.now c.mark.new.self c.expression-inner.new.tokens c.close.new.self refl refl c.requires c.in_ok-mark.ensures c.expression-inner.result c.close.result c.expression-inner.ensures c.close.ensures

pub tail-operand-requires : goal.tail-operand-requires
tail-operand-requires t c = (let flat = operator_flat c.args.level c.args.tokens.now c.operator.new.self c.in_ok-op.op c.in_ok-op.ensures in let few = few_levels c.args.level in omega (arith, flat, few), tt)
