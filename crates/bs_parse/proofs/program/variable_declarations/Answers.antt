use Rattle.std.proofs.Common.{◌+◌, ◌-◌, arith, sym, ◌∙◌, ◌++◌}
use Rattle.bs_tree.specs.Grammar as rule
use Rattle.bs_tree.specs.Grammar.{variable_declarations, variable_declaration}
use Rattle.bs_parse.proofs.Onward.{further_turned, further_stops, pushed}
use Rattle.bs_parse.proofs.program.variable_declarations.Goals as goal

pub loop-turn-preserved : goal.loop-turn-preserved
unfolding variable_declarations variable_declaration
loop-turn-preserved c = record {
  onward = further_turned (rule.variable_declaration) c.args.tokens.now c.loop-turn.tokens c.variable_declaration.new.tokens (c.left-turn-end.result - c.loop-turn._turn) (c.left-turn-end.result - (c.loop-turn._turn + 1))
      (λ bs. c.loop-turn.list ++ bs) (λ bs. c.push.new.self ++ bs) c.in-Ok.next (omega arith) (sym c.if-not-is_word.ensures) c.loop-turn.invariant.level c.in-Ok.ensures.0
      (λ bs. pushed c.loop-turn.list c.push.new.self c.in-Ok.next bs c.in_ok-push-in-Ok.ensures.ok) ∙ c.loop-turn.invariant.onward;
  level = c.in-Ok.ensures.1 ∙ c.loop-turn.invariant.level;
}

pub returns-in-Err : goal.returns-in-Err
unfolding variable_declarations variable_declaration
returns-in-Err c = further_stops variable_declaration c.args.tokens.now c.loop-turn.tokens c.variable_declaration.new.tokens (c.left-turn-end.result - c.loop-turn._turn) (c.left-turn-end.result - (c.loop-turn._turn + 1)) (λ bs. c.loop-turn.list ++ bs) c.in-Err.stop (omega arith)
    (sym c.if-not-is_word.ensures) c.loop-turn.invariant.level c.in-Err.ensures c.loop-turn.invariant.onward
