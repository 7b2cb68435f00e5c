use Rattle.std.proofs.Common.{◌≡◌, ◌≤◌, ◌-◌, length, drop}
use Rattle.bs_lex.specs.Lexed.{tokens_from}
use Rattle.bs_lex.proofs.Steps.{after}
use Rattle.bs_lex.proofs.lexer.tokens_of_utf8.Given as goal

abbrev pub invariant-loop-at : goal.invariant-loop-at
invariant-loop-at l = record {
  within : l.at ≤ length l.text;
  so_far : after l.tokens (tokens_from l.at 0 (drop l.at l.text)) ≡ tokens_from 0 0 l.text;
}

abbrev pub decreases-loop-at : goal.decreases-loop-at
decreases-loop-at l = length l.text - l.at
