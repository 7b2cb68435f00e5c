use Rattle.std.proofs.Common.{◌≡◌, ℕ, ◌+◌, ◌-◌, ◌*◌, ◌++◌}
use Rattle.bs_tree.specs.Rule.{statements}
use Rattle.bs_tree.specs.Grammar as rule
use Rattle.bs_parse.specs.Seen.{Input, by_rule, further}
use Rattle.bs_parse.proofs.statements.+statements.Given as goal

abbrev left : Input → ℕ → ℕ
left tokens rank = 8 * (64 - tokens.counts.brackets) + rank

abbrev pub decreases-block : goal.decreases-block
decreases-block l = left l.tokens.now 1

abbrev pub decreases-sequence : goal.decreases-sequence
decreases-sequence l = left l.tokens.now 1

abbrev pub decreases-block_else : goal.decreases-block_else
decreases-block_else l = left l.tokens.now 2

abbrev pub decreases-after_when : goal.decreases-after_when
decreases-after_when l = left l.tokens.now 3

abbrev pub decreases-after_for : goal.decreases-after_for
decreases-after_for l = left l.tokens.now 3

abbrev pub decreases-after_while : goal.decreases-after_while
decreases-after_while l = left l.tokens.now 3

abbrev pub decreases-after_if : goal.decreases-after_if
decreases-after_if l = left l.tokens.now 3

abbrev pub decreases-statement : goal.decreases-statement
decreases-statement l = left l.tokens.now 4

abbrev pub decreases-statements : goal.decreases-statements
decreases-statements l = left l.tokens.now 5

abbrev pub invariant-statements-loop-turn : goal.invariant-statements-loop-turn
invariant-statements-loop-turn l = record {
  onward : further (rule.statement) (64 - l.fn.tokens.counts.brackets) (l._turn-end - l._turn) (λ bs. l.list ++ bs) l.tokens ≡ by_rule (rule.content statements) l.fn.tokens;
  level : l.tokens.counts.brackets ≡ l.fn.tokens.counts.brackets;
}
