use Rattle.std.proofs.Common.{◌≡◌, ℕ, ◌+◌, ◌-◌, ◌*◌}
use Rattle.bs_tree.specs.Grammar as rule
use Rattle.bs_parse.specs.Seen.{Input, operators_of, operand_of, by_rule, onward, level_number}
use Rattle.bs_parse.proofs.expressions.+expression.Given as goal

-- the brackets that may still be opened come first
abbrev left : Input → ℕ → ℕ
left tokens rank = 32 * (64 - tokens.counts.brackets) + rank

abbrev pub decreases-expression : goal.decreases-expression
decreases-expression l = left l.tokens.now 23

abbrev pub decreases-chain : goal.decreases-chain
decreases-chain l = left l.tokens.now (22 - 4 * level_number l.level)

abbrev pub decreases-tail : goal.decreases-tail
decreases-tail l = left l.tokens.now (21 - 4 * level_number l.level)

abbrev pub decreases-operand : goal.decreases-operand
decreases-operand l = left l.tokens.now (20 - 4 * level_number l.level)

abbrev pub decreases-comparison : goal.decreases-comparison
decreases-comparison l = left l.tokens.now 14

abbrev pub decreases-unary : goal.decreases-unary
decreases-unary l = left l.tokens.now 3

abbrev pub decreases-primary : goal.decreases-primary
decreases-primary l = left l.tokens.now 2

abbrev pub decreases-cell : goal.decreases-cell
decreases-cell l = left l.tokens.now 1

abbrev pub decreases-index : goal.decreases-index
decreases-index l = left l.tokens.now 0

abbrev pub decreases-group : goal.decreases-group
decreases-group l = left l.tokens.now 0

abbrev pub invariant-chain-loop-turn : goal.invariant-chain-loop-turn
invariant-chain-loop-turn l = record {
  onward : onward (rule.tail (operators_of l.level) (operand_of l.level)) (64 - l.fn.tokens.counts.brackets) (l._turn-end - l._turn) (rule.grouped l.left) l.tokens ≡ by_rule (rule.chain (operators_of l.level) (operand_of l.level)) l.fn.tokens;
  level : l.tokens.counts.brackets ≡ l.fn.tokens.counts.brackets;
}
