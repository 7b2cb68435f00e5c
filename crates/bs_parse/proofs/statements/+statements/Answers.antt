use Rattle.std.proofs.Common.{◌+◌, ◌-◌, arith, refl, sym, ◌∙◌, ◌++◌}
use Rattle.bs_tree.specs.Rule.{outside, opening, statements}
use Rattle.bs_tree.specs.Grammar as rule
use Rattle.bs_tree.specs.Grammar.{statement, block, sequence}
use Rattle.bs_tree.specs.declared.symbols.Mark.TheVariants as m
use Rattle.bs_tree.specs.declared.tree.Stmt.TheVariants as s
use Rattle.bs_parse.proofs.Enter.{brackets, made_read, made_stop}
use Rattle.bs_parse.proofs.Onward.{further_turned, further_stops, pushed}
use Rattle.bs_parse.proofs.statements.+statements.Goals as goal

pub block-returns : goal.block-returns
unfolding block
block-returns t c = brackets outside m.BraceLeft m.BraceRight statements c.args.tokens.now c.mark.new.self c.statements-inner.new.tokens c.close.new.self refl refl refl c.in_ok-mark.ensures c.statements-inner.result c.close.result c.statements-inner.ensures c.close.ensures

pub statements-loop-turn-preserved : goal.statements-loop-turn-preserved
statements-loop-turn-preserved t c = record {
  onward = further_turned (rule.statement) c.args.tokens.now c.loop-turn.tokens c.statement.new.tokens (c.left-turn-end.result - c.loop-turn._turn) (c.left-turn-end.result - (c.loop-turn._turn + 1))
      (λ bs. c.loop-turn.list ++ bs) (λ bs. c.push.new.self ++ bs) c.in-Ok.next (omega arith) (sym c.if-not-begins_statement.ensures) c.loop-turn.invariant.level c.in-Ok.ensures.0
      (λ bs. pushed c.loop-turn.list c.push.new.self c.in-Ok.next bs c.in_ok-push-in-Ok.ensures.ok) ∙ c.loop-turn.invariant.onward;
  level = c.in-Ok.ensures.1 ∙ c.loop-turn.invariant.level;
}

pub statements-returns-in-Err : goal.statements-returns-in-Err
statements-returns-in-Err t c = further_stops rule.statement c.args.tokens.now c.loop-turn.tokens c.statement.new.tokens (c.left-turn-end.result - c.loop-turn._turn) (c.left-turn-end.result - (c.loop-turn._turn + 1)) (λ bs. c.loop-turn.list ++ bs) c.in-Err.stop (omega arith)
    (sym c.if-not-begins_statement.ensures) c.loop-turn.invariant.level c.in-Err.ensures c.loop-turn.invariant.onward

pub sequence-returns-in-Ok : goal.sequence-returns-in-Ok
unfolding sequence
sequence-returns-in-Ok t c = made_read opening m.BraceLeft m.BraceRight s.Seq statements c.args.tokens.now c.mark.new.self c.statements-inner.new.tokens c.close.new.self refl refl c.in_ok-mark.ensures c.statements-inner.result c.in-Ok.body c.statements-inner.ensures c.in-Ok.ensures

pub sequence-returns-in-Err : goal.sequence-returns-in-Err
unfolding sequence
sequence-returns-in-Err t c = made_stop opening m.BraceLeft m.BraceRight s.Seq statements c.args.tokens.now c.mark.new.self c.statements-inner.new.tokens c.close.new.self refl refl c.in_ok-mark.ensures c.statements-inner.result c.in-Err.stop c.statements-inner.ensures c.in-Err.ensures
