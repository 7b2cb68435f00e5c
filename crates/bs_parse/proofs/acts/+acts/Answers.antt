use Rattle.std.proofs.Common.{◌+◌, ◌-◌, arith, refl, sym, ◌∙◌, ◌++◌}
use Rattle.bs_tree.specs.Rule.{outside, acts}
use Rattle.bs_tree.specs.Grammar as rule
use Rattle.bs_tree.specs.Grammar.{act, act_list}
use Rattle.bs_tree.specs.declared.symbols.Mark.TheVariants as m
use Rattle.bs_parse.proofs.Enter.{brackets}
use Rattle.bs_parse.proofs.Onward.{further_turned, further_stops, pushed}
use Rattle.bs_parse.proofs.acts.+acts.Goals as goal

pub act_list-returns : goal.act_list-returns
unfolding act_list
act_list-returns t c = brackets outside m.BraceLeft m.BraceRight acts c.args.tokens.now c.mark.new.self c.acts-inner.new.tokens c.close.new.self refl refl refl c.in_ok-mark.ensures c.acts-inner.result c.close.result c.acts-inner.ensures c.close.ensures

pub acts-loop-turn-preserved : goal.acts-loop-turn-preserved
acts-loop-turn-preserved t c = record {
  onward = further_turned (rule.act) c.args.tokens.now c.loop-turn.tokens c.act.new.tokens (c.left-turn-end.result - c.loop-turn._turn) (c.left-turn-end.result - (c.loop-turn._turn + 1))
      (λ bs. c.loop-turn.list ++ bs) (λ bs. c.push.new.self ++ bs) c.in-Ok.next (omega arith) (sym c.if-not-begins_act.ensures) c.loop-turn.invariant.level c.in-Ok.ensures.0
      (λ bs. pushed c.loop-turn.list c.push.new.self c.in-Ok.next bs c.in_ok-push-in-Ok.ensures.ok) ∙ c.loop-turn.invariant.onward;
  level = c.in-Ok.ensures.1 ∙ c.loop-turn.invariant.level;
}

pub acts-returns-in-Err : goal.acts-returns-in-Err
acts-returns-in-Err t c = further_stops rule.act c.args.tokens.now c.loop-turn.tokens c.act.new.tokens (c.left-turn-end.result - c.loop-turn._turn) (c.left-turn-end.result - (c.loop-turn._turn + 1)) (λ bs. c.loop-turn.list ++ bs) c.in-Err.stop (omega arith)
    (sym c.if-not-begins_act.ensures) c.loop-turn.invariant.level c.in-Err.ensures c.loop-turn.invariant.onward
