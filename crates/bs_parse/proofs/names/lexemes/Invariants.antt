use Rattle.std.proofs.Common.{◌≡◌, ◌++◌, [], map, drop}
use Rattle.bs_lex.specs.Symbols.{symbols}
use Rattle.bs_parse.specs.Seen.{terminal}
use Rattle.bs_parse.specs.Text.{known_after, names_of}
use Rattle.bs_parse.specs.Naming.{IsTied, texts}
use Rattle.bs_parse.proofs.Numbering.{numbering}
use Rattle.bs_parse.proofs.names.lexemes.Given as goal

abbrev pub invariant-loop-token : goal.invariant-loop-token
invariant-loop-token l = record {
  lexemes : map terminal l.lexemes ++ numbering (texts l.names.known) (symbols l.text (drop l.token-index l.tokens)) ≡ numbering [] (symbols l.text l.tokens);
  known : known_after (texts l.names.known) (symbols l.text (drop l.token-index l.tokens)) ≡ names_of (symbols l.text l.tokens);
  tied : IsTied l.names;
}
