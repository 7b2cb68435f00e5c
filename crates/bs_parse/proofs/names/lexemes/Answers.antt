use Rattle.std.proofs.Common.{◌∙◌, ◌++◌, map, sym}
use Rattle.std.proofs.lemmas.List.{at_drop_all}
use Rattle.bs_lex.specs.Symbols.{symbols}
use Rattle.bs_parse.specs.Seen.{terminal}
use Rattle.bs_parse.specs.Text.{known_after}
use Rattle.bs_parse.specs.Naming.{texts}
use Rattle.bs_parse.proofs.Numbering.{numbering}
use Rattle.bs_parse.proofs.Taking.{all_numbered, all_known}
use Rattle.bs_parse.proofs.names.lexemes.Goals as goal

pub returns : goal.returns
returns c =
    let text = c.args.text.now in
    let tokens = c.args.tokens.now in
    let names = texts c.loop-token.names.known in
    let at_end = at_drop_all (λ ts. map terminal c.loop-token.lexemes ++ numbering names (symbols text ts)) tokens c.loop-token.token-index c.loop-token-test.false in
    let known = at_drop_all (λ ts. known_after names (symbols text ts)) tokens c.loop-token.token-index c.loop-token-test.false in (
      all_numbered (symbols text tokens) (map terminal c.loop-token.lexemes) names (sym at_end ∙ c.loop-token.invariant.lexemes),
      all_known (symbols text tokens) c.loop-token.names.known (sym known ∙ c.loop-token.invariant.known),
    )
