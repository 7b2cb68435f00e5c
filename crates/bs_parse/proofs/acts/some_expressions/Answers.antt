use Rattle.std.proofs.Common.{◌+◌, ◌-◌, arith, sym, ◌∙◌, ◌++◌}
use Rattle.bs_tree.specs.Grammar as rule
use Rattle.bs_tree.specs.Grammar.{disjunction}
use Rattle.bs_parse.proofs.Onward.{turned, pushed}
use Rattle.bs_parse.proofs.acts.some_expressions.Goals as goal

pub loop-turn-preserved : goal.loop-turn-preserved
loop-turn-preserved c = record {
  onward = turned (rule.after_comma rule.disjunction) c.args.tokens.now c.loop-turn.tokens c.next_expression.new.tokens (c.left-turn-end.result - c.loop-turn._turn) (c.left-turn-end.result - (c.loop-turn._turn + 1))
      (λ bs. c.loop-turn.list ++ bs) (λ bs. c.push.new.self ++ bs) c.in_ok-next.next (omega arith) (sym c.if-not-is_mark.ensures) c.loop-turn.invariant.level c.in_ok-next.ensures.0
      (λ bs. pushed c.loop-turn.list c.push.new.self c.in_ok-next.next bs c.in_ok-push.ensures.ok) ∙ c.loop-turn.invariant.onward;
  level = c.in_ok-next.ensures.1 ∙ c.loop-turn.invariant.level;
}
