use Rattle.std.proofs.Common.{◌≡◌, ℕ, ◌+◌, ◌-◌, ◌*◌, ◌++◌}
use Rattle.bs_tree.specs.Rule.{acts}
use Rattle.bs_tree.specs.Grammar as rule
use Rattle.bs_parse.specs.Seen.{Input, by_rule, further}
use Rattle.bs_parse.proofs.acts.+acts.Given as goal

abbrev left : Input → ℕ → ℕ
left tokens rank = 8 * (64 - tokens.counts.brackets) + rank

abbrev pub decreases-act_list : goal.decreases-act_list
decreases-act_list l = left l.tokens.now 1

abbrev pub decreases-act_else : goal.decreases-act_else
decreases-act_else l = left l.tokens.now 2

abbrev pub decreases-after_if : goal.decreases-after_if
decreases-after_if l = left l.tokens.now 3

abbrev pub decreases-after_repeat : goal.decreases-after_repeat
decreases-after_repeat l = left l.tokens.now 3

abbrev pub decreases-act : goal.decreases-act
decreases-act l = left l.tokens.now 4

abbrev pub decreases-acts : goal.decreases-acts
decreases-acts l = left l.tokens.now 5

abbrev pub invariant-acts-loop-turn : goal.invariant-acts-loop-turn
invariant-acts-loop-turn l = record {
  onward : further (rule.act) (64 - l.fn.tokens.counts.brackets) (l._turn-end - l._turn) (λ bs. l.list ++ bs) l.tokens ≡ by_rule (rule.content acts) l.fn.tokens;
  level : l.tokens.counts.brackets ≡ l.fn.tokens.counts.brackets;
}
