use Rattle.std.proofs.Common.{◌+◌, ◌-◌, arith, sym, ap, ◌∙◌, ◌++◌}
use Rattle.bs_tree.specs.Grammar as rule
use Rattle.bs_tree.specs.Grammar.{name}
use Rattle.bs_parse.specs.Reading.{got}
use Rattle.bs_parse.proofs.Basics.{append_none}
use Rattle.bs_parse.proofs.Onward.{onward_ends, turned, pushed}
use Rattle.bs_parse.proofs.statements.some_names.Goals as goal

pub loop-turn-preserved : goal.loop-turn-preserved
loop-turn-preserved c = record {
  onward = turned (rule.after_comma rule.name) c.args.tokens.now c.loop-turn.tokens c.next_name.new.tokens (c.left-turn-end.result - c.loop-turn._turn) (c.left-turn-end.result - (c.loop-turn._turn + 1))
      (λ bs. c.loop-turn.list ++ bs) (λ bs. c.push.new.self ++ bs) c.in_ok-next.next (omega arith) (sym c.if-not-is_mark.ensures) c.loop-turn.invariant.level c.in_ok-next.ensures.0
      (λ bs. pushed c.loop-turn.list c.push.new.self c.in_ok-next.next bs c.in_ok-push.ensures.ok) ∙ c.loop-turn.invariant.onward;
  level = c.in_ok-next.ensures.1 ∙ c.loop-turn.invariant.level;
}

pub returns-then-not-is_mark : goal.returns-then-not-is_mark
returns-then-not-is_mark c = (
  sym c.loop-turn.invariant.onward ∙ onward_ends (rule.after_comma rule.name) (64 - c.args.tokens.now.counts.brackets) c.loop-turn.tokens (c.left-turn-end.result - c.loop-turn._turn) (λ bs. c.loop-turn.list ++ bs) (sym c.if-not-is_mark.ensures)
      ∙ ap (λ xs. got xs c.loop-turn.tokens.counts c.loop-turn.tokens.rest) (append_none c.loop-turn.list),
  c.loop-turn.invariant.level,
)
