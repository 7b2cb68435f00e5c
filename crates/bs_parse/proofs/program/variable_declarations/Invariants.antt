use Rattle.std.proofs.Common.{◌≡◌, ◌-◌, ◌++◌}
use Rattle.bs_tree.specs.Grammar as rule
use Rattle.bs_parse.specs.Seen.{by_rule, further}
use Rattle.bs_parse.proofs.program.variable_declarations.Given as goal

abbrev pub invariant-loop-turn : goal.invariant-loop-turn
invariant-loop-turn l = record {
  onward : further (rule.variable_declaration) (64 - l.fn.tokens.counts.brackets) (l._turn-end - l._turn) (λ bs. l.list ++ bs) l.tokens ≡ by_rule (rule.variable_declarations) l.fn.tokens;
  level : l.tokens.counts.brackets ≡ l.fn.tokens.counts.brackets;
}
