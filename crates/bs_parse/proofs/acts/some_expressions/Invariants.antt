use Rattle.std.proofs.Common.{◌≡◌, ◌-◌, ◌++◌}
use Rattle.bs_tree.specs.Grammar as rule
use Rattle.bs_parse.specs.Seen.{by_rule, onward}
use Rattle.bs_parse.proofs.acts.some_expressions.Given as goal

abbrev pub invariant-loop-turn : goal.invariant-loop-turn
invariant-loop-turn l = record {
  onward : onward (rule.after_comma rule.disjunction) (64 - l.fn.tokens.counts.brackets) (l._turn-end - l._turn) (λ bs. l.list ++ bs) l.tokens ≡ by_rule (rule.with_commas rule.disjunction) l.fn.tokens;
  level : l.tokens.counts.brackets ≡ l.fn.tokens.counts.brackets;
}
